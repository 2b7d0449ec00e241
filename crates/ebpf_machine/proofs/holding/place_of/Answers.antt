use Rattle.ebpf_machine.proofs.Instructions.Places.{none_before_all, one_more_before}
use Rattle.ebpf_machine.proofs.holding.place_of.Goals as goal

pub places-preserved : goal.places-preserved
places-preserved g c = one_more_before _ c.places.place _ c.index-held-place.result c.places.invariant c.if-held-place.false

pub unreachable-requires : goal.unreachable-requires
unreachable-requires g c = none_before_all _ c.places.place _ c.requires c.places-test.false c.places.invariant
