use Rattle.ebpf_report.proofs.BelowLemmas.{below_none, below_more}
use Rattle.ebpf_report.proofs.world_text.write_shelves.Goals as goal

pub loop-shelf-init : goal.loop-shelf-init
loop-shelf-init c = λ w h. below_none _ _

pub loop-shelf-preserved : goal.loop-shelf-preserved
loop-shelf-preserved c = λ w h. below_more _ _ _ _ c.loop-shelf.shelf (c.loop-shelf.invariant w h) (c.in_ok-write_shelf.ensures w h)
