use Rattle.std.proofs.Common.{arith}
use Rattle.owners_table.specs.Owning.{blank}
use Rattle.owners_table.proofs.Dealing.{still-single}
use Rattle.owners_table.proofs.OwningSteps.{shelves}
use Rattle.owners_table.proofs.SeatLemmas.{of-table, in-reach, holds-still}
use Rattle.owners_table.proofs.owners.Owners.shelve.Goals as goal

pub swap-requires : goal.swap-requires
swap-requires c =
    let back = c.place.ensures.back in
    let reach = in-reach _ _ _ _ c.place.result _ _ c.self.view_is c.self.invariant.0 c.self.invariant.2 back c.requires.slot in
    let shelf = c.requires.shelf in
    let same = c.from.ensures in (
      of-table c.seat.inside.seat _ _ _ _ _ c.seat.view_is c.self.view_is c.requires.table,
      reach.0,
      shelves _ _ _ _ _ _ _ _ c.seat.invariant.0 reach.1 (omega arith) (omega arith)
          (holds-still c.place.result _ c.seat.inside.seat _ back c.seat.view_is c.requires.holds),
    )

pub invariant_of-seat : goal.invariant_of-seat
invariant_of-seat c = let told = c.swap.ensures.2 in still-single blank _ _ _ _ (told.1 _ c.seat.invariant.0) told.0 c.seat.invariant.1
