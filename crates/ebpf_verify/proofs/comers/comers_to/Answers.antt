use Rattle.std.proofs.Common.{refl, rules}
use Rattle.ebpf_verify.proofs.Coming.{comers_below-zero, comers_below-more}
use Rattle.ebpf_verify.proofs.comers.comers_to.Goals as goal

pub loop-from-init : goal.loop-from-init
loop-from-init c = let h = comers_below-zero c.args.trace.now.flowed.now c.args.to in search rules

pub loop-from-preserved : goal.loop-from-preserved
loop-from-preserved c = comers_below-more c.args.trace.now.flowed.now c.loop-from.from c.args.to _ _ _ refl c.loop-from.invariant c.in_ok-add_from.ensures
