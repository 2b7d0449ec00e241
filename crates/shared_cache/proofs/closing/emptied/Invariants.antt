use Rattle.std.proofs.Common.{◌≡◌, ◌+◌, ◌≤◌, vec_len}
use Rattle.std.specs.List.{sum_by}
use Rattle.slab_layer.specs.Slots.{out_count}
use Rattle.shared_cache.specs.HandView.{objects}
use Rattle.shared_cache.proofs.closing.emptied.Given as goal

abbrev pub invariant-loop-rack : goal.invariant-loop-rack
invariant-loop-rack g l = record {
  few : l.foreign + sum_by (λ r. objects r.layer r.aside.items) l.racks.items ≤ l.initial.foreign + sum_by (λ r. objects r.layer r.aside.items) l.initial.racks.items;
  counted : out_count l.slabs + l.initial.foreign + sum_by (λ r. objects r.layer r.aside.items) l.initial.racks.items ≡
      out_count l.initial.slabs + l.foreign + sum_by (λ r. objects r.layer r.aside.items) l.racks.items;
}

abbrev pub decreases-loop-rack : goal.decreases-loop-rack
decreases-loop-rack g l = vec_len l.racks
