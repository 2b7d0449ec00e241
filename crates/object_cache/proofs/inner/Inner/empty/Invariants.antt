use Rattle.std.proofs.Common.{◌≡◌, ◌+◌, length}
use Rattle.magazine.specs.LayerView.{rounds_of}
use Rattle.slab_layer.specs.Slots.{Pages}
use Rattle.homing.specs.Homing.{SendsHome}
use Rattle.object_cache.proofs.inner.Inner.empty.Given as goal

abbrev pub invariant-loop-object : goal.invariant-loop-object
invariant-loop-object g l = record {
  parts : l.share.parts ≡ l.initial.share.parts;
  amount : l.share.amount + length (rounds_of l.layer) ≡ l.initial.share.amount + length (rounds_of l.initial.layer);
  sent : (final : Pages) → SendsHome l.self.slabs final (rounds_of l.layer) → SendsHome l.initial.self.slabs final (rounds_of l.initial.layer);
}

abbrev pub decreases-loop-object : goal.decreases-loop-object
decreases-loop-object g l = length (rounds_of l.layer)
