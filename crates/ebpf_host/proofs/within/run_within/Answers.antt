use Rattle.std.proofs.Common.{ap, sym, ◌∙◌}
use Rattle.ebpf_machine.specs.RunState.{RunState}
use Rattle.ebpf_machine.specs.World.{kinds_of}
use Rattle.ebpf_host.specs.Four.{IsEndedWithin}
use Rattle.ebpf_host.specs.Whole.{whole}
use Rattle.ebpf_fours.proofs.Beginning.{begun_at}
use Rattle.ebpf_host.proofs.Beginning.{ended_as}
use Rattle.ebpf_host.proofs.within.run_within.Given.{Over}
use Rattle.ebpf_host.proofs.within.run_within.Goals.{After-end_within}
use Rattle.ebpf_host.proofs.within.run_within.Goals as goal

pub end_within-requires-clause-kinds : goal.end_within-requires-clause-kinds
end_within-requires-clause-kinds g c =
    c.requires.kinds ∙ sym c.args.program.now.kinds ∙ ap (λ (x : RunState _). kinds_of x.subject.rows) (sym c.in_ok-run.ensures.started)

pub end_within-requires-clause-begun : goal.end_within-requires-clause-begun
end_within-requires-clause-begun g c =
    begun_at c.args.limit c.args.objects.now (record { first = c.in_ok-run.ensures.started; sound = c.in_ok-run.ensures.sound })

ended : (g : Over) (c : After-end_within g)
    → IsEndedWithin g.O.Objects.store c.args.limit c.args.program.now.verified (whole c.args.program.now c.args.context.now) c.end_within.result
    c.args.objects.now c.end_within.new.objects
ended g c =
    ended_as c.in_ok-run.run' (ap (λ (x : RunState _). x.subject) c.in_ok-run.ensures.started) (ap (λ (x : RunState _). x.context) c.in_ok-run.ensures.started)
    c.end_within.ensures

pub returns-clause-goes : goal.returns-clause-goes
returns-clause-goes g c = (ended g (goal.at.returns-clause-goes g c).After-end_within).goes

pub returns-clause-outs : goal.returns-clause-outs
returns-clause-outs g c = (ended g (goal.at.returns-clause-outs g c).After-end_within).outs

pub returns-clause-report : goal.returns-clause-report
returns-clause-report g c = (ended g (goal.at.returns-clause-report g c).After-end_within).report

pub returns-clause-shelves : goal.returns-clause-shelves
returns-clause-shelves g c = (ended g (goal.at.returns-clause-shelves g c).After-end_within).shelves

pub returns-clause-found : goal.returns-clause-found
returns-clause-found g c = (ended g (goal.at.returns-clause-found g c).After-end_within).found
