use Rattle.std.proofs.Common.{◌≡◌, ◌+◌, ◌≤◌, vec_len, All}
use Rattle.std.specs.Vec.{vec_capacity}
use Rattle.exchange_shelf.specs.Views.{fresh_hand as fresh_shelf_hand}
use Rattle.owners_table.specs.Owning.{fresh as fresh_seat}
use Rattle.shared_cache.specs.HandView.{fresh_hand}
use Rattle.shared_store.specs.Making.{IsUnused}
use Rattle.shared_store.proofs.opening.stocked.Given as goal

abbrev pub invariant-loop-hand : goal.invariant-loop-hand
invariant-loop-hand g l = record {
  hands : All (λ h. h ≡ fresh_hand l.supply.cache.table) l.hands.items;
  shelf_hands : All (λ h. h ≡ fresh_shelf_hand l.supply.shelf.table) l.shelf_hands.items;
  seats : All (λ s. s ≡ fresh_seat l.owners.table) l.seats.items;
  all : All (IsUnused l.supply l.owners) l.all.items;
  pairs : vec_len l.shelf_hands ≡ vec_len l.hands;
  enough : vec_len l.hands ≤ vec_len l.seats;
  len : vec_len l.all + vec_len l.hands ≡ vec_len l.fn.hands.0;
  room : vec_len l.fn.hands.0 ≤ vec_capacity l.all;
  rest : vec_len l.seats + vec_len l.all ≡ vec_len l.initial.seats;
}

abbrev pub decreases-loop-hand : goal.decreases-loop-hand
decreases-loop-hand g l = vec_len l.hands
