-- What is made for a number of hands.
use Rattle.std.specs.Prelude.{◌≡◌, ◌*◌, ℕ, []}
use Rattle.owners_table.specs.Owning.{OwnersView}
use Rattle.shared_store.specs.Stock.{IsOf, StockView, SupplyView}
use Rattle.shared_store.specs.declared.commons.Commons.{Commons}

-- a cache and a shelf with that many hands each
pub record HasHands (n : ℕ) (s : SupplyView) : Type 0 where
  pub cache : s.cache.hands ≡ n
  pub shelf : s.shelf.hands ≡ n

-- that many hands at each cache and at each shelf, as many passes to the arena, and a seat for each kind with each
pub record IsMade (n : ℕ) (c : Commons) : Type 0 where
  pub passes : c.base.arena.passes ≡ n
  pub seats : c.base.owners.seats ≡ 3 * n
  pub cells : HasHands n c.cells
  pub records : HasHands n c.records
  pub blocks : HasHands n c.blocks

-- a stock of this supply, and at this table, that holds nothing
pub record IsUnused (supply : SupplyView) (owners : OwnersView) (s : StockView) : Type 0 where
  pub of : IsOf supply owners s
  pub none : s.seat.held ≡ []
