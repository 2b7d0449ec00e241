use Rattle.std.specs.Prelude.{◌≡◌, ◌<◌, ℕ, true, not, ◌==◌, slice_index}
use Rattle.ebpf_object_file.proofs.text.whole_text.Given as goal

abbrev pub invariant-loop-end : goal.invariant-loop-end
invariant-loop-end l = (k : ℕ) → k < l.end → not (slice_index l.bytes k == 0) ≡ true
