use Rattle.std.proofs.Common.{length}
use Rattle.object_cache.proofs.part.Part.move_to.Given as goal

abbrev pub decreases-loop-self : goal.decreases-loop-self
decreases-loop-self g l = length l.self.depot.rounds
