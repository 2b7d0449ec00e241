use Rattle.ebpf_cover.proofs.Numbering.{AreNumbered}
use Rattle.ebpf_cover.proofs.straight.straight_in.Given as goal

abbrev pub invariant-slots : goal.invariant-slots
invariant-slots l = AreNumbered l.verified.program l.slots l.past l.straight.items
