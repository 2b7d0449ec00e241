use Rattle.std.proofs.Common.{refl, arith}
use Rattle.exchange_shelf.proofs.Steps.{begins}
use Rattle.exchange_shelf.proofs.shelf.Shelf.new.Goals as goal

pub vacant-requires : goal.vacant-requires
vacant-requires g c =
    let slots = c.slot_of-slots.ensures in
    let hands = c.from.ensures in
    begins _ _ _ refl (omega arith)
