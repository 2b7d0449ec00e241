use Rattle.std.proofs.Common.{eqb-true, arith}
use Rattle.ebpf_cover.specs.Answering.{answering}
use Rattle.ebpf_cover.proofs.Counting.{turn_of_step, one_turn, all_turns}
use Rattle.ebpf_cover.proofs.cover.run_stretch.Goals as goal

pub returns-clause-turns : goal.returns-clause-turns
returns-clause-turns c = λ yes.
    let did = eqb-true _ _ yes in
    all_turns answering c.args.more _ _ c.args.run.now c.run.new.self c.run.ensures.turns (omega (arith, did, c.executed.ensures.value, c.executed-before.ensures.value, c.run.ensures.turns.counted))

pub returns-then-more-eq0-clause-turns : goal.returns-then-more-eq0-clause-turns
returns-then-more-eq0-clause-turns c = λ yes.
    let step = c.step.ensures in
    one_turn answering c.args.more _ _ _ _ c.if-more-eq0.true (turn_of_step answering _ _ _ c.args.run.now c.step.new.self c.requires.going step.after step.step step.gone step.others step.counted)
