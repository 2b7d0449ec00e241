use Rattle.std.proofs.Common.{◌≡◌}
use Rattle.std.specs.Slots.{slots_items, slots_len, slots_filled}
use Rattle.exchange_shelf.proofs.Emptying.{AreEmptied}
use Rattle.exchange_shelf.proofs.shelf.emptied.Given as goal

abbrev pub invariant-loop-slot : goal.invariant-loop-slot
invariant-loop-slot g l = record {
  items : slots_items l.closed.slots ≡ slots_items l.fn.closed.slots;
  len : slots_len l.closed.slots ≡ slots_len l.fn.closed.slots;
  emptied : AreEmptied (slots_len l.fn.closed.slots) l.shelf (slots_filled l.closed.slots) l.slot;
}
