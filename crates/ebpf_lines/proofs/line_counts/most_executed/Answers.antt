use Rattle.std.proofs.Common.{get_or}
use Rattle.ebpf_lines.proofs.Counting.{no_most, most_more}
use Rattle.ebpf_lines.proofs.line_counts.most_executed.Goals as goal

pub loop-slot-init : goal.loop-slot-init
loop-slot-init c = no_most (λ k. get_or c.args.executed.now k 0) c.args.holding.now c.args.file c.args.number

pub loop-slot-preserved : goal.loop-slot-preserved
loop-slot-preserved c =
    most_more (λ k. get_or c.args.executed.now k 0) c.args.holding.now c.args.file c.args.number c.loop-slot.slot c.loop-slot.most c.count_at.result
    c.greater-most.result c.loop-slot.invariant c.count_at.ensures c.greater-most.ensures
