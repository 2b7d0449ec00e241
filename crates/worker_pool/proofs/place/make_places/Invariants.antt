use Rattle.std.proofs.Common.{◌≡◌, ◌≤◌, [], All, length}
use Rattle.std.specs.Vec.{vec_capacity}
use Rattle.worker_pool.proofs.place.make_places.Given as goal

abbrev pub invariant-loop-place : goal.invariant-loop-place
invariant-loop-place l = record {
  len : length l.places.items ≡ l._place;
  room : l.count ≤ vec_capacity l.places;
  blank : All (λ kept. kept.items ≡ []) l.places.items;
}
