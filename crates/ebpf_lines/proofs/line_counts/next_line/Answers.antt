use Rattle.ebpf_lines.proofs.Counting.{no_nearest, nearest_more}
use Rattle.ebpf_lines.proofs.line_counts.next_line.Goals as goal

pub loop-slot-init : goal.loop-slot-init
loop-slot-init c = no_nearest c.args.holding.now c.args.file c.args.above

pub loop-slot-preserved : goal.loop-slot-preserved
loop-slot-preserved c =
    nearest_more c.args.holding.now c.args.file c.args.above c.loop-slot.slot c.loop-slot.nearest c.held_at.result c.nearer-nearest.result
    c.loop-slot.invariant c.held_at.ensures c.nearer-nearest.ensures
