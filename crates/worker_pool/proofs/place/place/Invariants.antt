use Rattle.std.proofs.Common.{◌≡◌, ◌<◌, ◌++◌, All, List, length}
use Rattle.std.specs.Prelude.{vec_len}
use Rattle.worker_pool.specs.declared.answered.Bundle.{Bundle}
use Rattle.worker_pool.specs.Places.{ArePlaced}
use Rattle.worker_pool.proofs.place.place.Given as goal

abbrev pub invariant-loop-number : goal.invariant-loop-number
invariant-loop-number l = record {
  len : vec_len l.places ≡ vec_len l.fn.places;
  inside : All (λ b. b.number < vec_len l.fn.places) l.bundles.items;
  placed : (all others : List Bundle) → ArePlaced (vec_len l.fn.places) all l.fn.places.items (others ++ l.fn.bundles.items)
      → ArePlaced (vec_len l.fn.places) all l.places.items (others ++ l.bundles.items);
}

abbrev pub decreases-loop-number : goal.decreases-loop-number
decreases-loop-number l = length l.bundles.items
