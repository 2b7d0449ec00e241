use Rattle.std.proofs.Common.{ℕ, Some, sym, ap, ◌∙◌}
use Rattle.ebpf_core.specs.declared.world.Status.TheVariants as status
use Rattle.ebpf_core.proofs.Reading.{status_none, status_exited, status_going}
use Rattle.ebpf_core.proofs.world.World.status.Goals as goal

pub returns-in_err-run : goal.returns-in_err-run
returns-in_err-run c = λ w h. c.from_residual.ensures ∙ status_none w _ c.args.run h (sym c.in_err-run.ensures)

pub returns-in-Some : goal.returns-in-Some
returns-in-Some c = λ w h. status_exited w _ c.args.run c.in-Some.number c.in_ok-run.run'.now h (sym c.in_ok-run.ensures) (sym c.in-Some.ensures)

pub returns-in-None : goal.returns-in-None
returns-in-None c = λ w h. ap (λ (n : ℕ). Some (status.Going n)) c.pc.ensures.value
    ∙ status_going w _ c.args.run c.in_ok-run.run'.now h (sym c.in_ok-run.ensures) (sym c.in-None.ensures)
