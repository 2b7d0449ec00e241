use Rattle.ebpf_assembly.proofs.Labelling.{name_found, name_passed, no_name_left}
use Rattle.ebpf_assembly.proofs.label.slot_of.Goals as goal

pub returns-then-eq : goal.returns-then-eq
returns-then-eq c = name_found c.args.name.now c.args.labels.now c.loop-label.label-index _ c.eq.result _ c.loop-label-test.true c.if-eq.true c.eq.ensures
    c.loop-label.invariant

pub loop-label-preserved : goal.loop-label-preserved
loop-label-preserved c = name_passed c.args.name.now c.args.labels.now c.loop-label.label-index _ c.eq.result _ c.loop-label-test.true c.if-eq.false
    c.eq.ensures c.loop-label.invariant

pub returns : goal.returns
returns c = no_name_left c.args.name.now c.args.labels.now c.loop-label.label-index _ c.loop-label-test.false c.loop-label.invariant
