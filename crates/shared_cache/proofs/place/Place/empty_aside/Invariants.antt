use Rattle.std.proofs.Common.{◌≡◌, ◌+◌, ◌^◌, ◌≤◌, map, vec_len}
use Rattle.std.specs.Vec.{vec_capacity}
use Rattle.slab_layer.specs.Slots.{Pages, out_count}
use Rattle.homing.specs.Homing.{SendsHome}
use Rattle.shared_cache.proofs.place.Place.empty_aside.Given as goal

abbrev pub invariant-loop-foreign : goal.invariant-loop-foreign
invariant-loop-foreign g l = record {
  few : l.foreign ≤ 2 ^ 57;
  room : (vec_capacity l.aside ≡ vec_capacity l.initial.aside) × (vec_len l.aside ≤ vec_len l.initial.aside);
  counted : out_count l.slabs + l.initial.foreign + vec_len l.initial.aside ≡ out_count l.initial.slabs + l.foreign + vec_len l.aside;
  sent : (final : Pages) → SendsHome l.slabs final (map (λ o. o.slot) l.aside.items) → SendsHome l.initial.slabs final (map (λ o. o.slot) l.initial.aside.items);
}

abbrev pub decreases-loop-foreign : goal.decreases-loop-foreign
decreases-loop-foreign g l = vec_len l.aside
