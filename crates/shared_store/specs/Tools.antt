-- What a worker works with, and what it was answered.
use Rattle.std.specs.Prelude.{◌≡◌, ◌≢◌, ◌+◌, ℕ, List, [], ◌==◌, if◌then◌else◌}
use Rattle.shared_row.specs.Views.{PassView}
use Rattle.shared_store.specs.declared.commons.Commons.{Commons}
use Rattle.shared_store.specs.Stock.{CountsOn, IsOf, IsStock, StockView, fetched_by, granted_by, refused_by}

-- a pass to the arena, and a stock of each kind
pub record ToolsView : Type 0 where
  pub pages : PassView
  pub cells : StockView
  pub records : StockView
  pub blocks : StockView

-- each is at the cache, the shelf and the table of owners of what is shared
pub record AreOf (c : Commons) (t : ToolsView) : Type 0 where
  pub pages : t.pages.table ≡ c.base.arena.table
  pub cells : IsOf c.cells c.base.owners t.cells
  pub records : IsOf c.records c.base.owners t.records
  pub blocks : IsOf c.blocks c.base.owners t.blocks

-- each keeps what a stock keeps
pub record AreStocks (t : ToolsView) : Type 0 where
  pub cells : IsStock t.cells
  pub records : IsStock t.records
  pub blocks : IsStock t.blocks

-- the slots of a kind that are held; of a kind that there isn't, none
abbrev pub held_at : ToolsView → ℕ → List (ℕ × ℕ)
held_at t kind = if kind == 0 then t.cells.seat.held else if kind == 1 then t.records.seat.held else if kind == 2 then t.blocks.seat.held else []

-- the stock of a kind, and how often an object was put on its shelf
abbrev pub stock_at : ToolsView → ℕ → StockView
stock_at t kind = if kind == 0 then t.cells else if kind == 1 then t.records else t.blocks

abbrev pub puts_at : ToolsView → ℕ → ℕ
puts_at t kind = (stock_at t kind).shelf_hand.puts

-- how many calls of new were granted an object and refused one, and how many of swap were given one, of all kinds
abbrev pub all_granted : ToolsView → ℕ
all_granted t = granted_by t.cells + granted_by t.records + granted_by t.blocks

abbrev pub all_refused : ToolsView → ℕ
all_refused t = refused_by t.cells + refused_by t.records + refused_by t.blocks

abbrev pub all_fetched : ToolsView → ℕ
all_fetched t = fetched_by t.cells + fetched_by t.records + fetched_by t.blocks

-- they belong to what they belonged to, and that many calls more were answered so
pub record HaveAnswered (old new : ToolsView) (granted refused fetched : ℕ) : Type 0 where
  pub of : (c : Commons) → AreOf c old → AreOf c new
  pub granted_are : all_granted new ≡ all_granted old + granted
  pub refused_are : CountsOn (all_refused old) (all_refused new) refused
  pub fetched_are : all_fetched new ≡ all_fetched old + fetched

-- so by calls for this kind, and what is held of others stays
pub record Replies (kind granted refused fetched : ℕ) (old new : ToolsView) : Type 0 where
  pub answered : HaveAnswered old new granted refused fetched
  pub others : (other : ℕ) → other ≢ kind → held_at new other ≡ held_at old other

-- a seat holds no slot of any kind
pub record HoldNothing (t : ToolsView) : Type 0 where
  pub cells : t.cells.seat.held ≡ []
  pub records : t.records.seat.held ≡ []
  pub blocks : t.blocks.seat.held ≡ []

-- they belong to what is shared, and hold nothing
pub record AreAtHome (c : Commons) (t : ToolsView) : Type 0 where
  pub of : AreOf c t
  pub none : HoldNothing t
