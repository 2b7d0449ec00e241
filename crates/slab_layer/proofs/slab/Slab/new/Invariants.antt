use Rattle.std.proofs.Common.{◌≡◌, ◌≤◌, ◌+◌, ◌*◌, ◌/◌, map, replicate, length, vec_len, vec_capacity}
use Rattle.std.specs.List.{All}
use Rattle.slab_layer.specs.declared.place.Place.TheVariants.{Home}
use Rattle.slab_layer.specs.Stacks.{HasSame, selected}
use Rattle.slab_layer.specs.Slots.{is_home}
use Rattle.slab_layer.proofs.slab.Slab.new.Given as goal

abbrev pub invariant-loop-index : goal.invariant-loop-index
invariant-loop-index g l = record {
  each : All (λ b. length b.value.items ≡ g.K.Kind.SIZE) l.bytes.items;
  left : vec_len l.bytes + l.index ≡ 4096 / g.K.Kind.SIZE;
  places : l.places.items ≡ replicate l.index Home;
  few_places : 4096 / g.K.Kind.SIZE ≤ vec_capacity l.places;
  few_home : 4096 / g.K.Kind.SIZE ≤ vec_capacity l.home;
  stacked : HasSame (map (λ o. o.slot) l.home.items) (selected is_home (l.page * 256) l.places.items);
}
