use Rattle.std.proofs.Common.{◌≡◌, get_or}
use Rattle.ebpf_lines.specs.LineCounts.{most_below}
use Rattle.ebpf_lines.proofs.line_counts.most_executed.Given as goal

abbrev pub invariant-loop-slot : goal.invariant-loop-slot
invariant-loop-slot l = l.most ≡ most_below (λ k. get_or l.executed k 0) l.holding l.file l.number l.slot
