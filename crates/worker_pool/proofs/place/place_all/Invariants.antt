use Rattle.std.proofs.Common.{◌≡◌, length}
use Rattle.std.specs.Prelude.{vec_len}
use Rattle.worker_pool.specs.Places.{ArePlaced, bundles_of}
use Rattle.worker_pool.proofs.place.place_all.Given as goal

abbrev pub invariant-loop-one : goal.invariant-loop-one
invariant-loop-one l = record {
  len : vec_len l.places ≡ vec_len l.fn.places;
  placed : ArePlaced (vec_len l.fn.places) (bundles_of l.fn.answered.items) l.places.items (bundles_of l.answered.items);
}

abbrev pub decreases-loop-one : goal.decreases-loop-one
decreases-loop-one l = length l.answered.items
