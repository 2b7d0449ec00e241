use Rattle.ebpf_report.proofs.BelowLemmas.{below_none, below_more}
use Rattle.ebpf_report.proofs.world_text.write_runs.Goals as goal

pub loop-run-init : goal.loop-run-init
loop-run-init c = λ w h. below_none _ _

pub loop-run-preserved : goal.loop-run-preserved
loop-run-preserved c = λ w h. below_more _ _ _ _ c.loop-run.run (c.loop-run.invariant w h) (c.in_ok-write_run.ensures w h)
