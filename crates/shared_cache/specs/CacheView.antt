-- A cache as its callers see it.
use Rattle.std.specs.Prelude.{ℕ}
use Rattle.atomic_table.specs.Seated.{TableId}

-- which one it is, and how many hands it has
pub record CacheView : Type 0 where
  pub table : TableId
  pub hands : ℕ
