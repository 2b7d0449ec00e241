use Rattle.std.proofs.Common.{◌≡◌, ◌+◌, ◌≤◌, length, vec_len}
use Rattle.magazine.specs.LayerView.{rounds_of}
use Rattle.slab_layer.specs.Slots.{out_count}
use Rattle.shared_cache.proofs.rack.Rack.end.Given as goal

abbrev pub invariant-loop-object : goal.invariant-loop-object
invariant-loop-object g l = record {
  aside : l.aside ≡ l.initial.aside;
  few : l.foreign + length (rounds_of l.layer) ≤ l.initial.foreign + length (rounds_of l.initial.layer);
  counted : out_count l.slabs + l.initial.foreign + length (rounds_of l.initial.layer) ≡ out_count l.initial.slabs + l.foreign + length (rounds_of l.layer);
}

abbrev pub decreases-loop-object : goal.decreases-loop-object
decreases-loop-object g l = length (rounds_of l.layer)

abbrev pub invariant-loop-object-2 : goal.invariant-loop-object-2
invariant-loop-object-2 g l = record {
  few : l.foreign + vec_len l.aside ≤ l.initial.foreign + vec_len l.initial.aside;
  counted : out_count l.slabs + l.initial.foreign + vec_len l.initial.aside ≡ out_count l.initial.slabs + l.foreign + vec_len l.aside;
}

abbrev pub decreases-loop-object-2 : goal.decreases-loop-object-2
decreases-loop-object-2 g l = vec_len l.aside
