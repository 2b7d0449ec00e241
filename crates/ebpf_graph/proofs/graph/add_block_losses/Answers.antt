use Rattle.std.proofs.Common.{arith}
use Rattle.ebpf_graph.proofs.LossLemmas.{no_losses, more_losses}
use Rattle.ebpf_graph.proofs.graph.add_block_losses.Goals as goal

pub loop-slot-init : goal.loop-slot-init
loop-slot-init c = no_losses _ _ _

pub loop-slot-preserved : goal.loop-slot-preserved
loop-slot-preserved c =
    more_losses c.args.trace.now.flowed.now c.args.trace.now.entries.items _ _ _ c.loop-slot.slot _
    (c.requires.each c.loop-slot.slot (omega (arith, c.args.trace.now.looked.inside, c.loop-slot-test.true)))
    c.loop-slot.invariant c.in_ok-add_if_begins.ensures
