use Rattle.std.proofs.Common.{◌≡◌, ◌+◌, ◌^◌, ◌≤◌, length}
use Rattle.slab_layer.specs.Slots.{Pages, out_count}
use Rattle.homing.specs.Homing.{SendsHome}
use Rattle.shared_cache.proofs.place.Place.drain.Given as goal

abbrev pub invariant-loop-foreign : goal.invariant-loop-foreign
invariant-loop-foreign g l = record {
  few : l.foreign ≤ 2 ^ 57;
  counted : out_count l.slabs + l.initial.foreign + length l.initial.from-inside.depot.rounds ≡ out_count l.initial.slabs + l.foreign + length l.from-inside.depot.rounds;
  sent : (final : Pages) → SendsHome l.slabs final l.from-inside.depot.rounds → SendsHome l.initial.slabs final l.initial.from-inside.depot.rounds;
  rest : (l.from-inside.slabs ≡ l.initial.from-inside.slabs) × (l.from-inside.foreign ≡ l.initial.from-inside.foreign);
}

abbrev pub decreases-loop-foreign : goal.decreases-loop-foreign
decreases-loop-foreign g l = length l.from-inside.depot.rounds
