use Rattle.std.specs.Prelude.{◌≡◌, ◌<◌, ℕ, true, slice_index}
use Rattle.ebpf_object_file.specs.Lines.{is_blank}
use Rattle.ebpf_object_file.proofs.lines.trimmed.Given as goal

abbrev pub invariant-loop-start : goal.invariant-loop-start
invariant-loop-start l = (k : ℕ) → k < l.start → is_blank (slice_index l.text k) ≡ true
