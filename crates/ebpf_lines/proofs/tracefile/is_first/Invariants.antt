use Rattle.std.proofs.Common.{◌≡◌, false}
use Rattle.ebpf_object_file.specs.Data.{any_below}
use Rattle.ebpf_lines.specs.LineCounts.{held}
use Rattle.ebpf_lines.specs.Tracefile.{has_number}
use Rattle.ebpf_lines.proofs.tracefile.is_first.Given as goal

abbrev pub invariant-loop-slot : goal.invariant-loop-slot
invariant-loop-slot l = any_below (λ k. has_number (held l.holding k)) l.slot ≡ false
