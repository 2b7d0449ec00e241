-- The branches of a program.
use Rattle.std.specs.Prelude.{◌≡◌, ℕ, List, Option, Some}
use Rattle.ebpf_insn.specs.declared.insn.Insn.{Insn}
use Rattle.ebpf_flow.specs.Edges.{edges_at}

-- at a slot is what has two edges
pub record IsBranch (p : List (Option Insn)) (slot : ℕ) : Type 0 where
  pub fall : ℕ
  pub jump : ℕ
  pub falls : (edges_at p slot).fall ≡ Some fall
  pub jumps : (edges_at p slot).jump ≡ Some jump
