-- A cache as its callers see it.
use Rattle.std.specs.Prelude.{◌≡◌, ◌⊎◌, ℕ, ◌+◌, ◌≤◌}
use Rattle.object_cache.specs.declared.count.TheConstants.{PARTS}

-- how many hands were made
pub record CacheView : Type 0 where
  pub hands : ℕ

-- this many parts of the depot are homes of hands, where that many hands were made: one for each hand, or all that are left
pub record AreHomes (hands homes : ℕ) : Type 0 where
  pub most : homes ≤ hands
  pub left : homes + hands ≤ PARTS
  pub all : (homes ≡ hands) ⊎ (homes + hands ≡ PARTS)
