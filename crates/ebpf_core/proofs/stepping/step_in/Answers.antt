use Rattle.std.proofs.Common.{refl, ap, ◌∙◌}
use Rattle.ebpf_core.specs.Shown.{run_seen}
use Rattle.ebpf_core.proofs.StepsIn.{stepped_in, new_object, gives_unasked}
use Rattle.ebpf_core.proofs.stepping.step_in.Goals as goal

pub returns-clause-stepped : goal.returns-clause-stepped
returns-clause-stepped c =
    let parts = c.into_parts.ensures in
    let image = new_object c.into_parts.result.0 parts.image parts.known in
    stepped_in _ c.args.run.now.exit c.args.lent c.into_parts.result.0 c.new-passing.result.object c.step.new.objects.object c.args.shelves
    c.into_parts.result.1 c.new-passing.result.shelves c.step.new.objects.shelves c.args.run.now c.step.new.self _ _
    c.new-passing.ensures.object (ap (λ p. p.0) parts.same) c.new-passing.ensures.shelves (ap (λ p. p.1) parts.same) refl refl refl c.step.ensures.step
    c.step.ensures.gone image

pub step-requires-clause-room : goal.step-requires-clause-room
step-requires-clause-room c = λ gives. c.new-passing.ensures.object ∙ c.requires.lends.asked (gives_unasked (run_seen c.args.run.now) gives)
