use Rattle.std.proofs.Common.{Some, sym, ap, ◌∙◌}
use Rattle.ebpf_core.proofs.Reading.{output_none, output_some}
use Rattle.ebpf_core.proofs.world.World.output.Goals as goal

pub returns : goal.returns
returns c = λ w h. ap Some c.output.ensures ∙ output_some w _ c.args.run c.in_ok-run_at.field-0.now h (sym c.in_ok-run_at.ensures)

pub returns-in_err-run_at : goal.returns-in_err-run_at
returns-in_err-run_at c = λ w h. rw c.from_residual.ensures (output_none w _ c.args.run h (sym c.in_err-run_at.ensures))
