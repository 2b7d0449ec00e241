use Rattle.std.proofs.Common.{◌≡◌, ◌+◌, ◌*◌, ◌^◌, ◌≤◌, ℕ, vec_len, All}
use Rattle.std.specs.List.{sum_by}
use Rattle.std.specs.Vec.{vec_capacity}
use Rattle.exchange_shelf.specs.Views as shelf
use Rattle.shared_cache.specs.HandView.{HandView}
use Rattle.shared_store.specs.Closing.{clashes_of, strays_of}
use Rattle.shared_store.specs.Making.{IsUnused}
use Rattle.shared_store.specs.Parting.{IsFree}
use Rattle.shared_store.proofs.ending.parted.Given as goal

abbrev pub invariant-loop-stock : goal.invariant-loop-stock
invariant-loop-stock g l = record {
  most : vec_len l.stocks ≤ 65;
  unused : All (IsUnused l.supply l.owners) l.stocks.items;
  hands : All (λ h. h.table ≡ l.supply.cache.table) l.hands.items × (vec_len l.hands + vec_len l.stocks ≡ vec_len l.fn.stocks);
  shelf_hands : All (λ h. h.table ≡ l.supply.shelf.table) l.shelf_hands.items × (vec_len l.shelf_hands + vec_len l.stocks ≡ vec_len l.fn.stocks);
  seats : All (IsFree l.owners) l.seats.items × (vec_len l.seats + vec_len l.stocks ≡ vec_len l.fn.seats + vec_len l.fn.stocks);
  room : (vec_len l.fn.stocks ≤ vec_capacity l.hands) × (vec_len l.fn.stocks ≤ vec_capacity l.shelf_hands) × (vec_capacity l.seats ≡ vec_capacity l.fn.seats);
  whole : sum_by (λ h. h.parts) l.shelf_hands.items ≡ vec_len l.shelf_hands;
  same : (f : HandView → ℕ) → sum_by f l.hands.items + sum_by (λ s. f s.hand) l.stocks.items ≡ sum_by (λ s. f s.hand) l.fn.stocks.items;
  same_on_shelf : (f : shelf.HandView → ℕ) → sum_by f l.shelf_hands.items + sum_by (λ s. f s.shelf_hand) l.stocks.items ≡ sum_by (λ s. f s.shelf_hand) l.fn.stocks.items;
  even : sum_by (λ h. h.counts.frees) l.hands.items + sum_by (λ h. h.puts) l.shelf_hands.items ≡
      sum_by (λ h. h.counts.allocs) l.hands.items + sum_by (λ h. h.gets) l.shelf_hands.items;
  few_puts : sum_by (λ h. h.puts) l.shelf_hands.items + vec_len l.stocks * 2 ^ 57 ≤ 65 * 2 ^ 57;
  few_gets : sum_by (λ h. h.gets) l.shelf_hands.items + vec_len l.stocks * 2 ^ 56 ≤ 65 * 2 ^ 56;
  clashes : l.clashes + clashes_of l.stocks.items ≡ clashes_of l.fn.stocks.items;
  strays : l.strays + strays_of l.stocks.items ≡ strays_of l.fn.stocks.items;
  few_clashes : l.clashes + vec_len l.stocks * 2 ^ 56 ≤ 65 * 2 ^ 56;
  few_strays : l.strays + vec_len l.stocks * 2 ^ 56 ≤ 65 * 2 ^ 56;
}

abbrev pub decreases-loop-stock : goal.decreases-loop-stock
decreases-loop-stock g l = vec_len l.stocks
