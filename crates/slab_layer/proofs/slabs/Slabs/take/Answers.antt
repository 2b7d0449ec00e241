use Rattle.std.proofs.Common.{◌≡◌, ◌-◌, ◌%◌, ◌/◌, not, set, if◌then◌else◌, ◌∙◌, ap, sym, subst, length, take, map, arith}
use Rattle.std.proofs.lemmas.Option.{slice_get_within}
use Rattle.slab_layer.specs.declared.place.Place.TheVariants.{Home, Out}
use Rattle.slab_layer.specs.Slots.{IsHome, has_home}
use Rattle.slab_layer.specs.SlabTable.{page_of, pages_in}
use Rattle.slab_layer.proofs.Changes.{IsTop, is_top, read_set, partial_taken, count_taken, partial_none, partial_few, moves, place_at, number_is}
use Rattle.slab_layer.proofs.slabs.Slabs.take.Given.{Over}
use Rattle.slab_layer.proofs.slabs.Slabs.take.Goals.{In-Some, then-not-has_home, else-not-has_home}
use Rattle.slab_layer.proofs.slabs.Slabs.take.Goals as goal

pub returns-in_default-clause-none : goal.returns-in_default-clause-none
returns-in_default-clause-none g c = λ slot home.
    let inner = c.self.inside in
    partial_none c.deref.result.now (pages_in inner.slabs.items) (map page_of inner.slabs.items) inner.partial.items inner.out slot c.deref.ensures.value c.in_default.ensures.value c.self.invariant.0 (subst (λ v. IsHome v slot) (sym c.self.view_is) home)

top : (g : Over) (c : In-Some g) → IsTop c.self.inside.slabs.items c.self.inside.partial.items c.in-Some.field-0.now
top g c = is_top c.self.inside.slabs.items c.deref.result.now c.self.inside.partial.items c.in-Some.field-0.now c.self.inside.out c.self.invariant.0 c.deref.ensures.value c.in-Some.ensures.value

pub index_mut-requires : goal.index_mut-requires
index_mut-requires g c = omega (arith, (top g (goal.at.index_mut-requires g c).In-Some).within, c.self.inside.slabs.ok.0)

pub take-object-requires : goal.take-object-requires
take-object-requires g c = (top g (goal.at.take-object-requires g c).In-Some).home c.index_mut.result.now c.index_mut.ensures.value

pub index-requires : goal.index-requires
index-requires g c = omega (arith, (top g (goal.at.index-requires g c).In-Some).within, c.self.inside.slabs.ok.0)

pub overflow_add-self : goal.overflow_add-self
overflow_add-self g c =
    let few = partial_few _ _ _ _ c.self.invariant.0 in
    let same : c.if-not-has_home.self-inside.out ≡ c.self.inside.out =
    elim c.if-not-has_home.branch [ then-not-has_home w ↦ ap (λ s. s.out) w.self-inside-is | else-not-has_home w ↦ ap (λ s. s.out) w.self-inside-is ] in
    omega (arith, few)

pub invariant_of-self : goal.invariant_of-self
invariant_of-self g c =
    let xs = c.self.inside.slabs.items in
    let at = c.in-Some.field-0.now in
    let partial = c.self.inside.partial.items in
    let rest = take (length partial - 1) partial in
    let t = top g (goal.at.invariant_of-self g c).In-Some in
    let new = c.take-object.new.self in
    let now : c.has_home.result ≡ has_home new.places.items =
    c.has_home.ensures ∙ ap (λ s. has_home s.places.items) (read_set xs at new c.index.result.now t.within c.index.ensures) in
    let taken = partial_taken xs at (c.take-object.result.slot % 256) c.index_mut.result.now new partial rest c.self.inside.out c.has_home.result c.self.invariant.0 t.last t.within c.index_mut.ensures.value c.take-object.ensures.page c.take-object.ensures.was_home c.take-object.ensures.out now in
    elim c.if-not-has_home.branch [
      | then-not-has_home w ↦ rw w.self-inside-is (taken w.pop.new.self.items (w.pop.ensures.rest ∙ (ap (λ n. take (n - 1) partial) c.self.inside.partial.ok.0 ∙ sym (ap (λ b. if not b then rest else partial) w.if-not-has_home.true))), omega (arith, c.self.invariant.1, w.pop.ensures.capacity))
      | else-not-has_home w ↦ rw w.self-inside-is (taken partial (sym (ap (λ b. if not b then rest else partial) w.if-not-has_home.false)), c.self.invariant.1)
    ]

pub returns-clause-was_home : goal.returns-clause-was_home
returns-clause-was_home g c =
    let xs = c.self.inside.slabs.items in
    let within = (top g (goal.at.returns-clause-was_home g c).In-Some).within in
    let is : c.take-object.result.slot / 256 ≡ c.in-Some.field-0.now = c.take-object.ensures.slot ∙ number_is xs c.in-Some.field-0.now c.self.inside.out c.self.inside.partial.items c.index_mut.result.now c.self.invariant.0 within c.index_mut.ensures.value in
    subst (λ v. IsHome v c.take-object.result.slot) c.self.view_is (place_at xs c.in-Some.field-0.now c.take-object.result.slot c.index_mut.result.now within c.index_mut.ensures.value is ∙ c.take-object.ensures.was_home)

pub returns-clause-moved : goal.returns-clause-moved
returns-clause-moved g c =
    let xs = c.self.inside.slabs.items in
    let at = c.in-Some.field-0.now in
    let within = (top g (goal.at.returns-clause-moved g c).In-Some).within in
    let is : c.take-object.result.slot / 256 ≡ at = c.take-object.ensures.slot ∙ number_is xs at c.self.inside.out c.self.inside.partial.items c.index_mut.result.now c.self.invariant.0 within c.index_mut.ensures.value in
    let kept : c.if-not-has_home.self-inside.slabs.items ≡ set xs at c.take-object.new.self = elim c.if-not-has_home.branch [ then-not-has_home w ↦ ap (λ s. s.slabs.items) w.self-inside-is | else-not-has_home w ↦ ap (λ s. s.slabs.items) w.self-inside-is ] in
    rw (← c.self.view_is, kept) (moves xs c.take-object.result.slot at Out c.index_mut.result.now c.take-object.new.self within c.index_mut.ensures.value is (slice_get_within _ _ Home c.take-object.ensures.was_home) c.take-object.ensures.out)

pub returns-clause-counted : goal.returns-clause-counted
returns-clause-counted g c =
    let xs = c.self.inside.slabs.items in
    let at = c.in-Some.field-0.now in
    let within = (top g (goal.at.returns-clause-counted g c).In-Some).within in
    let kept : c.if-not-has_home.self-inside.slabs.items ≡ set xs at c.take-object.new.self = elim c.if-not-has_home.branch [ then-not-has_home w ↦ ap (λ s. s.slabs.items) w.self-inside-is | else-not-has_home w ↦ ap (λ s. s.slabs.items) w.self-inside-is ] in
    rw (← c.self.view_is, kept) (count_taken xs at (c.take-object.result.slot % 256) c.index_mut.result.now c.take-object.new.self within c.index_mut.ensures.value c.take-object.ensures.was_home c.take-object.ensures.out)
