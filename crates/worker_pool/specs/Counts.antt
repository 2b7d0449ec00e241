-- What a worker's store granted and refused, and what it gave off its shelves, by the counts of its hands.
use Rattle.std.specs.Prelude.{ℕ, ◌+◌, ◌-◌}
use Rattle.worker_pool.specs.declared.each_kind.Hands.{Hands}
use Rattle.worker_pool.specs.EachKind.{all_allocs, all_nulls, all_gets, all_frees, all_puts}

module _ {L : Type 0} where
  -- how often something was taken from a cache or got off a shelf, and how often something was given back or put there
  abbrev pub all_come : Hands L → ℕ
  all_come h = all_allocs h + all_gets h

  abbrev pub all_gone : Hands L → ℕ
  all_gone h = all_frees h + all_puts h

  -- how many calls of new were granted an object: all that came out of the caches, but for those that went back since their slots
  -- had an owner
  abbrev pub grants_of : Hands L → ℕ → ℕ
  grants_of h clashes = all_allocs h - clashes

  -- how many calls of new were answered null
  abbrev pub nulls_of : Hands L → ℕ → ℕ
  nulls_of h clashes = all_nulls h + clashes

  -- how many calls of swap were answered with an object: all that came off the shelves, but for strays
  abbrev pub gets_of : Hands L → ℕ → ℕ
  gets_of h strays = all_gets h - strays
