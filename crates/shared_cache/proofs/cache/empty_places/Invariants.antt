use Rattle.std.proofs.Common.{◌≡◌, vec_len, All}
use Rattle.std.specs.Vec.{vec_capacity}
use Rattle.shared_cache.specs.PlaceView.{empty_place}
use Rattle.shared_cache.proofs.cache.empty_places.Given as goal

abbrev pub invariant-loop-place : goal.invariant-loop-place
invariant-loop-place g l = record {
  len : vec_len l.all ≡ l._place;
  room : vec_capacity l.all ≡ l.fn.places;
  all : All (λ b. b.value ≡ empty_place) l.all.items;
}
