use Rattle.std.proofs.Common.{◌≡◌, ◌≤◌, ◌*◌, ◌%◌, ◌∷◌, [], ◌++◌, ◌∙◌, is_some, sym, ap, map, length, vec_len, rules, arith}
use Rattle.std.proofs.lemmas.List.{length-map, map_push, length-set}
use Rattle.slab_layer.specs.declared.place.Place.TheVariants.{Out}
use Rattle.slab_layer.proofs.Homes.{IsTaken, taken, few_places, none_home}
use Rattle.slab_layer.proofs.slab.Slab.take.Given.{Over}
use Rattle.slab_layer.proofs.slab.Slab.take.Goals.{In-Some}
use Rattle.slab_layer.proofs.slab.Slab.take.Goals as goal

-- what the pop leaves
left : (g : Over) (c : In-Some g) → IsTaken (map (λ o. o.slot) c.pop.new.self.items) c.in-Some.object.slot c.args.self.now.page c.args.self.now.places.items
left g c =
    let s = c.args.self.now in
    let object = c.in-Some.object in
    let popped : map (λ o. o.slot) s.home.items ≡ map (λ o. o.slot) c.pop.new.self.items ++ object.slot ∷ [] =
    ap (map (λ o. o.slot)) c.in-Some.ensures.items ∙ map_push (λ o. o.slot) c.pop.new.self.items object in
    let few : length s.places.items ≤ 256 = few_places _ (is_some s.span) (length s.places.items) g.K.Kind.is_row s.whole in
    taken (map (λ o. o.slot) s.home.items) (map (λ o. o.slot) c.pop.new.self.items) object.slot s.page s.places.items popped s.stacked few

pub unreachable-requires : goal.unreachable-requires
unreachable-requires g c =
    let s = c.args.self.now in
    let len : vec_len s.home ≡ length s.home.items = s.home.ok.0 in
    let none : vec_len s.home ≡ 0 = search rules in
    none_home (vec_len s.home) (map (λ o. o.slot) s.home.items) (s.page * 256) s.places.items none (len ∙ sym (length-map s.home.items (λ o. o.slot))) s.stacked c.requires

pub index_mut-requires : goal.index_mut-requires
index_mut-requires g c = rw (c.slot.ensures, c.args.self.now.places.ok.0) (left g (goal.at.index_mut-requires g c).In-Some).within

pub invariant_of-self-clause-stacked : goal.invariant_of-self-clause-stacked
invariant_of-self-clause-stacked g c = rw c.slot.ensures (left g (goal.at.invariant_of-self-clause-stacked g c).In-Some).stacked

pub invariant_of-self-clause-whole : goal.invariant_of-self-clause-whole
invariant_of-self-clause-whole g c = length-set c.args.self.now.places.items _ _ ∙ c.args.self.now.whole

pub invariant_of-self-clause-room : goal.invariant_of-self-clause-room
invariant_of-self-clause-room g c =
    let e = length-set c.args.self.now.places.items (c.slot.result % 256) Out in omega (arith, e, c.args.self.now.room, c.pop.ensures.capacity)

pub returns-clause-slot : goal.returns-clause-slot
returns-clause-slot g c = (left g (goal.at.returns-clause-slot g c).In-Some).here

pub returns-clause-was_home : goal.returns-clause-was_home
returns-clause-was_home g c = (left g (goal.at.returns-clause-was_home g c).In-Some).was_home
