use Rattle.std.proofs.Common.{◌≡◌, ◌<◌, ℕ, length, slice_index_or, false}
use Rattle.ebpf_graph.specs.Blocks.{begun_by}
use Rattle.ebpf_graph.proofs.blocks.block_starts.Given as goal

abbrev pub invariant-loop-slot : goal.invariant-loop-slot
invariant-loop-slot l = record {
  all : l.slots ≡ length l.flowed;
  len : length l.begins.items ≡ l.slots;
  each : (k : ℕ) → k < l.slots → slice_index_or l.begins.items k false ≡ begun_by l.flowed l.slot k;
}
