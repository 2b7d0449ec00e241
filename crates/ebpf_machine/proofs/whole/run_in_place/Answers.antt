use Rattle.std.proofs.Common.{arith}
use Rattle.ebpf_machine.proofs.WholeRuns.Starts.{starts}
use Rattle.ebpf_machine.proofs.WholeRuns.Told.{IsUnderWay, under_way}
use Rattle.ebpf_machine.proofs.WholeRuns.Turning.{exits, few_instructions}
use Rattle.ebpf_machine.proofs.WholeRuns.Ends.{report_of, report_with, goes_last, outs_last}
use Rattle.ebpf_machine.proofs.whole.run_in_place.Given.{Over}
use Rattle.ebpf_machine.proofs.whole.run_in_place.Goals.{After-end_in_place}
use Rattle.ebpf_machine.proofs.whole.run_in_place.Goals as goal

pub run-requires-clause-out : goal.run-requires-clause-out
run-requires-clause-out g c = (starts g.O.Objects.store c.args.objects.now _ _ c.in_ok-run.run' c.in_ok-run.ensures.started (c.in_ok-run.ensures.sound _)).out

pub run-requires-clause-alone : goal.run-requires-clause-alone
run-requires-clause-alone g c =
    (starts g.O.Objects.store c.args.objects.now _ _ c.in_ok-run.run' c.in_ok-run.ensures.started (c.in_ok-run.ensures.sound _)).alone

-- what holds of the run where it has exited
ran : (g : Over) (c : After-end_in_place g)
    → IsUnderWay g.O.Objects.store c.args.objects.now c.run.new.objects c.args.verified.now c.args.context.now c.run.new.self
ran g c =
    under_way g.O.Objects.store _ _ _ _ _ _ c.in_ok-run.run' c.run.new.self g.met.O.Objects.has_size c.requires.kinds
    (starts g.O.Objects.store c.args.objects.now _ _ c.in_ok-run.run' c.in_ok-run.ensures.started (c.in_ok-run.ensures.sound _)) c.run.ensures.turns.turns

pub returns-clause-report : goal.returns-clause-report
returns-clause-report g c =
    let was = ran g c in
    let few = few_instructions (g.O.Objects.store.bytes_of c.run.new.objects) c.run.new.self was.sound in
    let exited = exits g.O.Objects.store 18446744073709551615 _ c.run.new.self _ _ (omega (arith, few)) c.run.ensures.after.bounded c.run.ensures.turns in
    report_with _ _ _ _ c.end_in_place.result was.subject_is was.context_is
    (report_of g.O.Objects.store c.run.new.objects _ c.run.new.self exited.0 c.end_in_place.result exited.1 was.sound was.alone was.few
    c.end_in_place.ensures)

pub returns-clause-goes : goal.returns-clause-goes
returns-clause-goes g c = goes_last g.O.Objects.store _ _ _ c.run.new.self _ (ran g c).told c.end_in_place.ensures.goes c.end_in_place.ensures.answers

pub returns-clause-outs : goal.returns-clause-outs
returns-clause-outs g c = λ k. outs_last g.O.Objects.store _ _ _ c.run.new.self k ((ran g c).outs k) (c.end_in_place.ensures.outs k)
