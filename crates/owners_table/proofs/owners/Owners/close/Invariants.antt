use Rattle.std.proofs.Common.{◌≡◌, ◌≤◌, length, vec_len}
use Rattle.std.specs.Vec.{vec_capacity}
use Rattle.std.specs.Slots.{slots_items}
use Rattle.owners_table.proofs.OwningEnd.{AreRead}
use Rattle.owners_table.proofs.owners.Owners.close.Given as goal

abbrev pub invariant-loop-slot : goal.invariant-loop-slot
invariant-loop-slot l = record {
  words : AreRead (slots_items l.closed.words) l.slot l.words.items;
  count : length l.words.items ≡ l.slot;
  len : vec_len l.words ≡ l.slot;
  room : l.slots ≤ vec_capacity l.words;
}
