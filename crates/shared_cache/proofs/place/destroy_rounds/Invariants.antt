use Rattle.std.proofs.Common.{length}
use Rattle.shared_cache.proofs.place.destroy_rounds.Given as goal

abbrev pub decreases-loop-object : goal.decreases-loop-object
decreases-loop-object g l = length l.magazine
