use Rattle.std.specs.Prelude.{◌≡◌, ◌<◌, ℕ, None, slice_index_or}
use Rattle.ebpf_object_file.proofs.slot_lines.clear.Given as goal

abbrev pub invariant-loop-slot : goal.invariant-loop-slot
invariant-loop-slot l = (k : ℕ) → k < l.slot → slice_index_or l.lines k None ≡ None
