-- A supply as it is opened and as it is closed.
use Rattle.std.specs.Prelude.{◌≡◌, ◌+◌, ◌≤◌, ℕ, sum_by, vec_len}
use Rattle.object_cache.specs.HandView.{HandView}
use Rattle.object_cache.specs.declared.totals.Totals.{Totals}
use Rattle.worker_pool.specs.declared.hands.FreePairs.{FreePairs}
use Rattle.worker_pool.specs.declared.outcome.ShelfTotals.{ShelfTotals}
use Rattle.worker_pool.specs.declared.supply.Supply.{Supply}
use Rattle.worker_pool.specs.Hands.{AreUnused}

-- ---- of one kind

module _ {K L : Type 0} where
  -- the cache and the shelf made these hands and no others
  pub record HasMade (s : Supply K L) (f : FreePairs K L) : Type 0 where
    pub hands : vec_len f.hands ≡ s.cache.hands
    pub shelf_hands : vec_len f.shelf_hands ≡ s.shelf.hands

  -- they made that many, with which nothing was done
  pub record IsOpened (count : ℕ) (s : Supply K L) (f : FreePairs K L) : Type 0 where
    pub made : s.cache.hands ≡ count
    pub shelf_made : s.shelf.hands ≡ count
    pub unused : AreUnused count f

  -- What a shelf and a cache tell of these hands when they are closed. What the shelf held, one object at most, went back to the cache.
  pub record IsClosed (f : FreePairs K L) (s : ShelfTotals) (t : Totals) : Type 0 where
    pub puts : s.puts ≡ sum_by (λ h. h.puts) f.shelf_hands.items
    pub gets : s.gets ≡ sum_by (λ h. h.gets) f.shelf_hands.items
    pub shelf_balance : s.puts ≡ s.gets + s.left
    pub one : s.left ≤ 1
    pub allocs : t.allocs ≡ sum_by (λ h. h.allocs) f.hands.items
    pub frees : t.frees ≡ sum_by (λ h. h.frees) f.hands.items + s.left
    pub nulls : t.nulls ≡ sum_by (λ h. h.nulls) f.hands.items
    pub balance : t.missing + t.frees ≡ t.allocs + t.foreign

-- the hand gave that many objects back
pub record HasReturned (left : ℕ) (h h' : HandView) : Type 0 where
  pub allocs : h'.allocs ≡ h.allocs
  pub frees : h'.frees ≡ h.frees + left
  pub nulls : h'.nulls ≡ h.nulls
