use Rattle.std.proofs.Common.{◌≡◌, ◌+◌, ◌^◌, ◌≤◌, length}
use Rattle.magazine.specs.LayerView.{rounds_of}
use Rattle.slab_layer.specs.Slots.{Pages, out_count}
use Rattle.homing.specs.Homing.{SendsHome}
use Rattle.shared_cache.proofs.place.Place.empty_layer.Given as goal

abbrev pub invariant-loop-foreign : goal.invariant-loop-foreign
invariant-loop-foreign g l = record {
  few : l.foreign ≤ 2 ^ 57;
  counted : out_count l.slabs + l.initial.foreign + length (rounds_of l.initial.layer) ≡ out_count l.initial.slabs + l.foreign + length (rounds_of l.layer);
  sent : (final : Pages) → SendsHome l.slabs final (rounds_of l.layer) → SendsHome l.initial.slabs final (rounds_of l.initial.layer);
}

abbrev pub decreases-loop-foreign : goal.decreases-loop-foreign
decreases-loop-foreign g l = length (rounds_of l.layer)
