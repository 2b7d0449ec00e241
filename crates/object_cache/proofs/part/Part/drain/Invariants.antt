use Rattle.std.proofs.Common.{length}
use Rattle.slab_layer.specs.Slots.{Pages}
use Rattle.homing.specs.Homing.{SendsHome}
use Rattle.object_cache.proofs.part.Part.drain.Given as goal

abbrev pub invariant-loop-magazine : goal.invariant-loop-magazine
invariant-loop-magazine g l =
    (final : Pages) → SendsHome l.inner.slabs final l.self.depot.rounds → SendsHome l.initial.inner.slabs final l.initial.self.depot.rounds

abbrev pub decreases-loop-magazine : goal.decreases-loop-magazine
decreases-loop-magazine g l = length l.self.depot.rounds
