-- Tools and stocks that are taken apart.
use Rattle.std.specs.Prelude.{◌≡◌, ◌+◌, ◌*◌, ◌^◌, ◌≤◌, ℕ, List, [], All, length, sum_by}
use Rattle.exchange_shelf.specs.Views as shelf
use Rattle.owners_table.specs.Owning.{OwnersView, SeatView}
use Rattle.shared_cache.specs.HandView.{HandView}
use Rattle.shared_cache.specs.declared.count.TheConstants.{MAX_HANDS}
use Rattle.shared_row.specs.Views.{IsIdleAt, PassView, RowView}
use Rattle.shared_store.specs.Making.{IsUnused}
use Rattle.shared_store.specs.Stock.{StockView, SupplyView}

-- a seat at this table that holds nothing
abbrev pub IsFree : OwnersView → SeatView → Type 0
IsFree owners s = (s.table ≡ owners.table) × (s.held ≡ [])

-- one of the passes to this arena, which doesn't have it
abbrev pub IsOnePass : RowView → PassView → Type 0
IsOnePass arena p = IsIdleAt arena.table p × (p.parts ≡ 1)

-- what hands were given back and put on the shelf is what they took and got from there, and few enough for a word
pub record AreEven (hands : List HandView) (shelf_hands : List shelf.HandView) : Type 0 where
  pub even : sum_by (λ h. h.counts.frees) hands + sum_by (λ h. h.puts) shelf_hands ≡ sum_by (λ h. h.counts.allocs) hands + sum_by (λ h. h.gets) shelf_hands
  pub few : (sum_by (λ h. h.puts) shelf_hands ≤ MAX_HANDS * 2 ^ 57) × (sum_by (λ h. h.gets) shelf_hands ≤ MAX_HANDS * 2 ^ 56)

-- the second list is the first one in some order: whatever is added up over both, the sums are equal
abbrev pub AreAlike : List StockView → List StockView → Type 0
AreAlike xs ys = (f : StockView → ℕ) → sum_by f ys ≡ sum_by f xs

-- all these stocks, in some order, which hold nothing
pub record AreAll (supply : SupplyView) (owners : OwnersView) (stocks all : List StockView) : Type 0 where
  pub unused : All (IsUnused supply owners) all
  pub count : length all ≡ length stocks
  pub alike : AreAlike stocks all
