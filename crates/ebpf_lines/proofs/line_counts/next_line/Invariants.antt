use Rattle.std.proofs.Common.{◌≡◌}
use Rattle.ebpf_lines.specs.Nearest.{nearest_below}
use Rattle.ebpf_lines.proofs.line_counts.next_line.Given as goal

abbrev pub invariant-loop-slot : goal.invariant-loop-slot
invariant-loop-slot l = l.nearest ≡ nearest_below l.holding l.file l.above l.slot
