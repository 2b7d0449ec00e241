use Rattle.std.proofs.Common.{◌≡◌, ℕ, ◌<◌, ◌≤◌, true, false, get_or, take, length}
use Rattle.std.specs.Vec.{vec_capacity}
use Rattle.std.specs.Slots.{slots_items, slots_len, slots_filled}
use Rattle.shared_row.specs.Spread.{values_in}
use Rattle.shared_row.proofs.spread.gathered_from.Given as goal

abbrev pub invariant-loop-spot : goal.invariant-loop-spot
invariant-loop-spot g l = record {
  items : slots_items l.closed.slots ≡ slots_items l.fn.closed.slots;
  len : slots_len l.closed.slots ≡ slots_len l.fn.closed.slots;
  full : (k : ℕ) → l.spot ≤ k → k < slots_len l.fn.closed.slots → get_or (slots_filled l.closed.slots) k false ≡ true;
  taken : (k : ℕ) → k < l.spot → get_or (slots_filled l.closed.slots) k false ≡ false;
  moved : l.into.items ≡ values_in (take l.spot (slots_items l.fn.closed.slots));
  room : length (values_in (slots_items l.fn.closed.slots)) ≤ vec_capacity l.into;
}
