use Rattle.ebpf_layout.specs.Search.{IsSearch, left}
use Rattle.ebpf_layout.proofs.search.order_of.Given as goal

abbrev pub invariant-loop-slot : goal.invariant-loop-slot
invariant-loop-slot l = IsSearch l.fn.program l.search.marks.items l.search.path.items l.search.order.items

abbrev pub decreases-loop-slot : goal.decreases-loop-slot
decreases-loop-slot l = left l.search.marks.items
