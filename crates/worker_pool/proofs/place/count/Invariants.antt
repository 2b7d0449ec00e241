use Rattle.std.proofs.Common.{◌≡◌, take}
use Rattle.worker_pool.specs.Places.{counted}
use Rattle.worker_pool.proofs.place.count.Given as goal

abbrev pub invariant-loop-bundle : goal.invariant-loop-bundle
invariant-loop-bundle l = l.count ≡ counted (take l.bundle-index l.bundles)
