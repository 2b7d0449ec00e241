-- What the hands of one kind did, at its cache and at its shelf.
use Rattle.std.specs.Prelude.{◌≡◌, ℕ, ◌+◌}
use Rattle.worker_pool.specs.declared.hands.HandPair.{HandPair}

-- how many objects were taken from the cache, given back to it, and refused there, and how many put on the shelf and got from there
pub record Moved {K L : Type 0} (taken given refused put got : ℕ) (p p' : HandPair K L) : Type 0 where
  pub allocs : p'.hand.allocs ≡ p.hand.allocs + taken
  pub frees : p'.hand.frees ≡ p.hand.frees + given
  pub nulls : p'.hand.nulls ≡ p.hand.nulls + refused
  pub puts : p'.shelf_hand.puts ≡ p.shelf_hand.puts + put
  pub gets : p'.shelf_hand.gets ≡ p.shelf_hand.gets + got
