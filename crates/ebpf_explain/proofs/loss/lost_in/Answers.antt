use Rattle.std.proofs.Common.{length, arith}
use Rattle.ebpf_explain.proofs.LossLemmas.{is_here, is_from, is_nowhere, none_left}
use Rattle.ebpf_explain.proofs.loss.lost_in.Goals as goal

pub returns-in-Here-clause-lost : goal.returns-in-Here-clause-lost
returns-in-Here-clause-lost c = is_here _ _ _ (length c.args.trace.now.entries.items) c.loop-step._step _ _ _ (omega arith) c.in_ok-trail_at.ensures.trail c.in-Here.is
    c.loop-step.invariant

pub returns-in-Nowhere-clause-lost : goal.returns-in-Nowhere-clause-lost
returns-in-Nowhere-clause-lost c = is_nowhere _ _ _ (length c.args.trace.now.entries.items) c.loop-step._step c.loop-step.at _ _ (omega arith)
    c.in_ok-trail_at.ensures.trail c.in-Nowhere.is c.loop-step.invariant

pub loop-step-preserved : goal.loop-step-preserved
loop-step-preserved c = is_from _ _ _ (length c.args.trace.now.entries.items) c.loop-step._step c.loop-step.at _ _ _ (omega arith)
    c.in_ok-trail_at.ensures.trail c.in-From.is c.loop-step.invariant

pub returns-clause-lost : goal.returns-clause-lost
returns-clause-lost c = none_left _ _ _ (length c.args.trace.now.entries.items) c.loop-step._step c.loop-step.at _ (let past = c.loop-step-test.false in omega (arith, past))
    c.loop-step.invariant
