use Rattle.shared_cache.specs.Asking.{Misses}
use Rattle.shared_cache.proofs.soon.take_soon.Given as goal

abbrev pub invariant-loop-number : goal.invariant-loop-number
invariant-loop-number g l = Misses l.fn.pass l.pass l.fn.place
