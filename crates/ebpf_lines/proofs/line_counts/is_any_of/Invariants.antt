use Rattle.std.proofs.Common.{◌≡◌, false}
use Rattle.ebpf_object_file.specs.Data.{any_below}
use Rattle.ebpf_lines.specs.LineCounts.{held, is_of}
use Rattle.ebpf_lines.proofs.line_counts.is_any_of.Given as goal

abbrev pub invariant-loop-slot : goal.invariant-loop-slot
invariant-loop-slot l = any_below (λ k. is_of l.file (held l.holding k)) l.slot ≡ false
