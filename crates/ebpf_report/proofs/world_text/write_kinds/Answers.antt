use Rattle.ebpf_report.proofs.BelowLemmas.{below_none, below_more}
use Rattle.ebpf_report.proofs.world_text.write_kinds.Goals as goal

pub loop-kind-init : goal.loop-kind-init
loop-kind-init c = λ w h. below_none _ _

pub loop-kind-preserved : goal.loop-kind-preserved
loop-kind-preserved c = λ w h. below_more _ _ _ _ c.loop-kind.kind (c.loop-kind.invariant w h) (c.in_ok-write_kind.ensures w h)
