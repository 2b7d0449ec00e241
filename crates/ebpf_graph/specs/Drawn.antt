-- What is known of a program before any of its blocks is written.
use Rattle.std.specs.Prelude.{◌≡◌, ◌<◌, ℕ, List, length, slice_index_or, Bool, false, Option}
use Rattle.ebpf_insn.specs.declared.insn.Insn.{Insn}
use Rattle.ebpf_verify.specs.declared.entry.EntryState.{EntryState}
use Rattle.ebpf_graph.specs.declared.graph.Drawn.{Drawn}
use Rattle.ebpf_graph.specs.Blocks.{begins_block}
use Rattle.ebpf_graph.specs.Graph.{losses_of}

-- a flag for each slot: whether a block begins there
pub record AreBegins (p : List (Option Insn)) (begins : List Bool) : Type 0 where
  pub len : length begins ≡ length p
  pub each : (k : ℕ) → k < length p → slice_index_or begins k false ≡ begins_block p k

-- and what is lost there, where the states are asked for
pub record AreDrawn (p : List (Option Insn)) (entries : List EntryState) (d : Drawn) : Type 0 where
  pub begins : AreBegins p d.begins.items
  pub losses : d.losses.items ≡ losses_of d.states p entries
