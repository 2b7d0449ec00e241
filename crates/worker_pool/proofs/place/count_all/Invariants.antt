use Rattle.std.proofs.Common.{◌≡◌, ◌≤◌, length, map, take}
use Rattle.std.specs.Vec.{vec_capacity}
use Rattle.worker_pool.specs.Places.{counted}
use Rattle.worker_pool.proofs.place.count_all.Given as goal

abbrev pub invariant-loop-one : goal.invariant-loop-one
invariant-loop-one l = record {
  counted : l.counts.items ≡ map (λ m. counted m.bundles.items) (take l.one-index l.answered);
  room : length l.answered ≤ vec_capacity l.counts;
}
