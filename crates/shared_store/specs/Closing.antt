-- What became of what workers shared.
use Rattle.std.specs.Prelude.{◌≡◌, ◌+◌, ◌*◌, ◌^◌, ◌≤◌, ℕ, List, [], ◌∷◌, map, sum_by}
use Rattle.shared_cache.specs.declared.count.TheConstants.{MAX_HANDS}
use Rattle.shared_store.specs.Stock.{StockView}
use Rattle.shared_store.specs.Tools.{ToolsView}
use Rattle.shared_store.specs.declared.ending.KindEnd.{KindEnd}
use Rattle.shared_store.specs.declared.totals.KindTotals.{KindTotals}
use Rattle.shared_store.specs.declared.totals.SharedTotals.{SharedTotals}

-- The totals of a kind are the sums over its stocks, and the object that was on the shelf at the end came back too. So each object that was given
-- out came back, and as many are missing as strangers came home. What was put on the shelf was got from it, but for what was left
pub record IsClosed (stocks : List StockView) (t : KindTotals) : Type 0 where
  pub allocs : t.allocs ≡ sum_by (λ s. s.hand.counts.allocs) stocks
  pub frees : t.frees ≡ sum_by (λ s. s.hand.counts.frees) stocks + t.left
  pub nulls : t.nulls ≡ sum_by (λ s. s.hand.counts.nulls) stocks
  pub busy : t.busy ≡ sum_by (λ s. s.hand.counts.busy) stocks
  pub puts : t.puts ≡ sum_by (λ s. s.shelf_hand.puts) stocks
  pub gets : t.gets ≡ sum_by (λ s. s.shelf_hand.gets) stocks
  pub all_back : t.frees ≡ t.allocs
  pub balance : t.missing + t.frees ≡ t.allocs + t.foreign
  pub exchanged : t.puts ≡ t.gets + t.left
  pub one : t.left ≤ 1

-- how many objects went back to their cache since their slots had an owner, or since they were strays
abbrev pub clashes_of : List StockView → ℕ
clashes_of stocks = sum_by (λ s. s.clashes) stocks

abbrev pub strays_of : List StockView → ℕ
strays_of stocks = sum_by (λ s. s.strays) stocks

-- what became of one kind, in numbers of which three fit a word
pub record IsEnded (stocks : List StockView) (e : KindEnd) : Type 0 where
  pub closed : IsClosed stocks e.totals
  pub clashes : e.clashes ≡ clashes_of stocks
  pub strays : e.strays ≡ strays_of stocks
  pub few : (e.clashes ≤ MAX_HANDS * 2 ^ 56) × (e.strays ≤ MAX_HANDS * 2 ^ 56)

-- the stocks of each kind
abbrev pub cells_of : List ToolsView → List StockView
cells_of all = map (λ t. t.cells) all

abbrev pub records_of : List ToolsView → List StockView
records_of all = map (λ t. t.records) all

abbrev pub blocks_of : List ToolsView → List StockView
blocks_of all = map (λ t. t.blocks) all

-- the totals of each kind are those of its stocks, and no run owns a slot
pub record AreTotals (all : List ToolsView) (t : SharedTotals) : Type 0 where
  pub cells : KindTotals
  pub records : KindTotals
  pub blocks : KindTotals
  pub kinds : t.kinds ≡ cells ∷ records ∷ blocks ∷ []
  pub cells_are : IsClosed (cells_of all) cells
  pub records_are : IsClosed (records_of all) records
  pub blocks_are : IsClosed (blocks_of all) blocks
  pub clashes : t.clashes ≡ clashes_of (cells_of all) + clashes_of (records_of all) + clashes_of (blocks_of all)
  pub strays : t.strays ≡ strays_of (cells_of all) + strays_of (records_of all) + strays_of (blocks_of all)
  pub owned : t.owned ≡ 0
