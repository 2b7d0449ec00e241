use Rattle.std.proofs.Common.{Fits, w32, w64, Bool, ◌≡◌, ◌<◌, ◌-◌, ◌%◌, ◌/◌, ◌++◌, ◌∷◌, [], not, if◌then◌else◌, ◌∙◌, Some, ap, sym, subst, set}
use Rattle.std.proofs.Common.{get_or, length, refl, ℕ, arith, rules}
use Rattle.std.specs.Prelude.{slice_get}
use Rattle.std.proofs.lemmas.Option.{slice_get_within}
use Rattle.slab_layer.specs.declared.slab.Slab.{Slab}
use Rattle.slab_layer.specs.declared.place.Place.TheVariants.{Home, Out}
use Rattle.slab_layer.specs.Slots.{has_home}
use Rattle.slab_layer.proofs.Changes.{same_read, out_read, partial_given, count_given, room_given, out_some, moves, number_is}
use Rattle.slab_layer.proofs.slabs.Slabs.give.Given.{Over}
use Rattle.slab_layer.proofs.slabs.Slabs.give.Goals.{After-index-2, After-give, then-is_first, else-is_first}
use Rattle.slab_layer.proofs.slabs.Slabs.give.Goals as goal

-- the slot's page is in the table
inside : (g : Over) (c : After-index-2 g) → c.slot-slot.result / 256 < length c.self.inside.slabs.items
inside g c = subst (λ n. c.slot-slot.result / 256 < n) (c.len.ensures ∙ c.self.inside.slabs.ok.0) c.if-at-len.false

-- and the slot is out of its slab
out : (g : Over) (c : After-index-2 g) (old : Slab g.row.K.Denot g.K.Kind)
    → old ≡ get_or c.self.inside.slabs.items (c.slot-slot.result / 256) old
    → slice_get old.places.items (c.slot-slot.result % 256) ≡ Some Out
out g c old read = out_read c.self.inside.slabs.items (c.slot-slot.result / 256) (c.slot-slot.result % 256) c.index.result.now (inside g c) c.index.ensures (c.is_out.ensures.0 c.if-not-is_out.false) old read

pub push_reserved-requires : goal.push_reserved-requires
push_reserved-requires g c =
    let h = (goal.at.push_reserved-requires g c).After-index-2 in
    let old = c.index_mut.result.now in
    let short = room_given c.self.inside.slabs.items (c.slot-slot.result / 256) (c.slot-slot.result % 256) c.index-2.result.now c.self.inside.partial.items c.self.inside.out c.self.invariant.0
    (inside g h) c.index-2.ensures (out g h c.index-2.result.now c.index-2.ensures) (sym c.has_home-is_first.ensures ∙ c.if-is_first.true) in
    omega (arith, short, c.self.invariant.1, c.self.inside.slabs.ok.0, c.self.inside.partial.ok.0)

pub give-requires-clause-slot : goal.give-requires-clause-slot
give-requires-clause-slot g c =
    let h = (goal.at.give-requires-clause-slot g c).After-index-2 in
    ap (λ n. n / 256) (sym c.slot-slot.ensures) ∙ sym (number_is c.self.inside.slabs.items (c.slot-slot.result / 256) c.self.inside.out c.self.inside.partial.items c.index_mut.result.now c.self.invariant.0 (inside g h) c.index_mut.ensures.value)

pub overflow_sub-self : goal.overflow_sub-self
overflow_sub-self g c =
    let h = (goal.at.overflow_sub-self g c).After-index-2 in
    let some = out_some c.self.inside.slabs.items (c.slot-slot.result / 256) (c.slot-slot.result % 256) c.index_mut.result.now c.self.inside.partial.items c.self.inside.out c.self.invariant.0 (inside g h) c.index_mut.ensures.value (out g h c.index_mut.result.now c.index_mut.ensures.value) in
    elim c.if-is_first.branch [ then-is_first w ↦ rw w.self-inside-is some | else-is_first w ↦ rw w.self-inside-is some ]

-- what the slab has once the object is home
homed : (g : Over) (c : After-give g) → c.give.new.self.places.items ≡ set c.index_mut.result.now.places.items (c.slot-slot.result % 256) Home
homed g c = c.give.ensures.home ∙ ap (λ n. set c.index_mut.result.now.places.items (n % 256) Home) (sym c.slot-slot.ensures)

pub invariant_of-self : goal.invariant_of-self
invariant_of-self g c =
    let h = (goal.at.invariant_of-self g c).After-index-2 in
    let xs = c.self.inside.slabs.items in
    let at = c.slot-slot.result / 256 in
    let index = c.slot-slot.result % 256 in
    let partial = c.self.inside.partial.items in
    let old = c.index_mut.result.now in
    let was = out g h old c.index_mut.ensures.value in
    let is = homed g (goal.at.invariant_of-self g c).After-give in
    let before : c.has_home-is_first.result ≡ has_home old.places.items = c.has_home-is_first.ensures ∙ ap (λ s. has_home s.places.items) (same_read xs at c.index-2.result.now old (inside g h) c.index-2.ensures c.index_mut.ensures.value) in
    let some = out_some xs at index old partial c.self.inside.out c.self.invariant.0 (inside g h) c.index_mut.ensures.value was in
    let given = partial_given xs at index old c.give.new.self partial c.self.inside.out (c.self.inside.out - 1) c.has_home-is_first.result c.self.invariant.0 (inside g h) c.index_mut.ensures.value c.give.ensures.page was is before (omega (arith, some)) in
    let pushed = λ (b : Bool). if not b then partial ++ at ∷ [] else partial in
    elim c.if-is_first.branch [
      | then-is_first w ↦ rw w.self-inside-is (given w.push_reserved.new.self.items (w.push_reserved.ensures.items ∙ sym (ap pushed w.if-is_first.true)), omega (arith, c.self.invariant.1, w.push_reserved.ensures.capacity))
      | else-is_first w ↦ rw w.self-inside-is (given partial (sym (ap pushed w.if-is_first.false)), c.self.invariant.1)
    ]

pub returns-clause-moved : goal.returns-clause-moved
returns-clause-moved g c = λ _.
    let p = goal.at.returns-clause-moved g c in
    let xs = c.self.inside.slabs.items in
    let at = c.slot-slot.result / 256 in
    let old = c.index_mut.result.now in
    let kept : c.if-is_first.self-inside.slabs.items ≡ set xs at c.give.new.self =
    elim c.if-is_first.branch [ then-is_first w ↦ ap (λ s. s.slabs.items) w.self-inside-is | else-is_first w ↦ ap (λ s. s.slabs.items) w.self-inside-is ] in
    let there = slice_get_within _ _ Out (out g p.After-index-2 old c.index_mut.ensures.value) in
    rw (← c.self.view_is, kept, ← c.slot-slot.ensures)
    (moves xs c.slot-slot.result at Home old c.give.new.self (inside g p.After-index-2) c.index_mut.ensures.value refl there (homed g p.After-give))

pub returns-clause-counted : goal.returns-clause-counted
returns-clause-counted g c = λ _.
    let p = goal.at.returns-clause-counted g c in
    let xs = c.self.inside.slabs.items in
    let at = c.slot-slot.result / 256 in
    let old = c.index_mut.result.now in
    let kept : c.if-is_first.self-inside.slabs.items ≡ set xs at c.give.new.self =
    elim c.if-is_first.branch [ then-is_first w ↦ ap (λ s. s.slabs.items) w.self-inside-is | else-is_first w ↦ ap (λ s. s.slabs.items) w.self-inside-is ] in
    let was = out g p.After-index-2 old c.index_mut.ensures.value in
    rw (← c.self.view_is, kept)
    (count_given xs at (c.slot-slot.result % 256) old c.give.new.self (inside g p.After-index-2) c.index_mut.ensures.value was (homed g p.After-give))

-- the parts of a slot's number
page_fits : (n slot : ℕ) → n ≡ slot → slot < 65536 → Fits w64 (n / 256)
page_fits n slot same low = search rules

page_fits_32 : (n slot : ℕ) → n ≡ slot → slot < 65536 → Fits w32 (n / 256)
page_fits_32 n slot same low = search rules

index_fits : (n : ℕ) → Fits w64 (n % 256)
index_fits n = search rules

pub overflow_cast-at : goal.overflow_cast-at
overflow_cast-at g c = page_fits c.slot-slot.result c.args.object.slot c.slot-slot.ensures c.args.object.placed

pub overflow_cast-at-then-is_first : goal.overflow_cast-at-then-is_first
overflow_cast-at-then-is_first g c = page_fits_32 c.slot-slot.result c.args.object.slot c.slot-slot.ensures c.args.object.placed

pub overflow_cast-index : goal.overflow_cast-index
overflow_cast-index g c = index_fits c.slot-slot.result
