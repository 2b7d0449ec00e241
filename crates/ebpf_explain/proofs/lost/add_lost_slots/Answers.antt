use Rattle.ebpf_explain.proofs.LostLemmas.{none_lost, one_lost}
use Rattle.ebpf_explain.proofs.lost.add_lost_slots.Goals as goal

pub loop-number-init : goal.loop-number-init
loop-number-init c = none_lost _ _ _

pub loop-number-preserved : goal.loop-number-preserved
loop-number-preserved c = one_lost _ _ _ _ _ _ c.loop-number.invariant c.in_ok-add_if_lost.ensures
