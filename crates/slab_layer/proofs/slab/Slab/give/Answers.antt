use Rattle.std.proofs.Common.{◌≡◌, ◌%◌, ◌∙◌, map, length, vec_len, arith}
use Rattle.std.proofs.lemmas.List.{length-map, map_push, length-set}
use Rattle.std.proofs.lemmas.Option.{slice_get_within}
use Rattle.slab_layer.specs.declared.place.Place.TheVariants.{Home, Out}
use Rattle.slab_layer.proofs.Homes.{given}
use Rattle.slab_layer.proofs.slab.Slab.give.Goals as goal

pub push_reserved-requires : goal.push_reserved-requires
push_reserved-requires g c =
    let s = c.args.self.now in
    let out = given (map (λ o. o.slot) s.home.items) c.args.object.slot s.page s.places.items s.stacked c.requires.slot c.requires.was_out in
    let len : vec_len s.home ≡ length s.home.items = s.home.ok.0 in
    let e = length-map s.home.items (λ o. o.slot) in
    omega (arith, out.1, s.room)

pub index_mut-requires : goal.index_mut-requires
index_mut-requires g c =
    let s = c.args.self.now in
    let wide : vec_len s.places ≡ length s.places.items = s.places.ok.0 in
    rw (c.slot.ensures, wide) (slice_get_within s.places.items (c.args.object.slot % 256) Out c.requires.was_out)

pub invariant_of-self-clause-stacked : goal.invariant_of-self-clause-stacked
invariant_of-self-clause-stacked g c =
    let s = c.args.self.now in
    let out = given (map (λ o. o.slot) s.home.items) c.args.object.slot s.page s.places.items s.stacked c.requires.slot c.requires.was_out in
    rw (c.slot.ensures, c.push_reserved.ensures.items, map_push (λ o. o.slot) s.home.items c.args.object) out.0

pub invariant_of-self-clause-whole : goal.invariant_of-self-clause-whole
invariant_of-self-clause-whole g c = length-set c.args.self.now.places.items _ _ ∙ c.args.self.now.whole

pub invariant_of-self-clause-room : goal.invariant_of-self-clause-room
invariant_of-self-clause-room g c =
    let e = length-set c.args.self.now.places.items (c.slot.result % 256) Home in omega (arith, e, c.args.self.now.room, c.push_reserved.ensures.capacity)
