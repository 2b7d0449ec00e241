use Rattle.std.proofs.Common.{length}
use Rattle.shared_cache.proofs.place.Place.drop.Given as goal

abbrev pub decreases-loop-magazine : goal.decreases-loop-magazine
decreases-loop-magazine g l = length l.depot.rounds
