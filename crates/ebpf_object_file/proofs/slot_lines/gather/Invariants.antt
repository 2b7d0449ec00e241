use Rattle.std.specs.Prelude.{◌<◌, ℕ, None, length, slice_index_or}
use Rattle.ebpf_object_file.specs.Lines.{is_at, Latest}
use Rattle.ebpf_object_file.proofs.slot_lines.gather.Given as goal

abbrev pub invariant-loop-number : goal.invariant-loop-number
invariant-loop-number l = (k : ℕ) → k < length l.lines → Latest (is_at l.from k) l.size l.records l.number (slice_index_or l.lines k None)
