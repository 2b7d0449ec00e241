use Rattle.std.proofs.Common.{refl, rules, Fits, w32, ◌≡◌, ◌<◌, ◌/◌, ◌∙◌, ℕ, ap, sym, subst, set, length, map, arith}
use Rattle.std.specs.List.{All, AllWithin}
use Rattle.std.proofs.lemmas.Option.{IfSome_then}
use Rattle.slab_layer.specs.Slots.{Has, IsOut, RemovesPage}
use Rattle.slab_layer.specs.SlabTable.{places_of, page_of, pages_in, IsSlabTable, IsBusy}
use Rattle.slab_layer.proofs.Changes.{number_is, places_read}
use Rattle.slab_layer.proofs.Pages.{IsIdleAt, never_none, low_place, on_stack, partial_reaped, reaped, idle_page, busy_page, busy_below, has_from}
use Rattle.slab_layer.proofs.slabs.Slabs.reap.Given.{Over}
use Rattle.slab_layer.proofs.slabs.Slabs.reap.Goals.{In-Some, After-replace-slab, After-take_number}
use Rattle.slab_layer.proofs.slabs.Slabs.reap.Goals as goal

pub returns-in_default-clause-none : goal.returns-in_default-clause-none
returns-in_default-clause-none g c = λ page has.
    let xs = c.self.inside.slabs.items in
    let busy : All IsBusy xs = subst (λ ys. All IsBusy ys) c.deref.ensures.value c.in_default.ensures.none in
    subst (λ v. (slot : ℕ) × (slot / 256 ≡ page) × IsOut v slot) c.self.view_is (busy_page xs (map page_of xs) c.self.inside.partial.items c.self.inside.out page c.self.invariant.0 busy (subst (λ v. Has v page) (sym c.self.view_is) has))

-- the slab that was found
idle : (g : Over) (c : In-Some g) → IsIdleAt c.self.inside.slabs.items c.in-Some.at
idle g c = subst (λ xs. IsIdleAt xs c.in-Some.at) c.deref.ensures.value (record { within = c.in-Some.ensures.within; had = c.in-Some.ensures.had; idle = c.in-Some.ensures.idle })

low : (g : Over) (c : In-Some g) → c.in-Some.at < 256
low g c = low_place c.self.inside.slabs.items c.in-Some.at (length c.self.inside.slabs.items) c.self.inside.out c.self.inside.partial.items c.self.invariant.0 refl (idle g c).within

-- has noted its page
noted : (g : Over) (c : After-replace-slab g) → IsIdleAt c.self.inside.slabs.items c.in-Some.at → c.replace-slab.result.page ≡ c.in-Some.at
noted g c i = ap page_of c.replace-slab.ensures.value ∙ number_is c.self.inside.slabs.items c.in-Some.at c.self.inside.out c.self.inside.partial.items c.index_mut.result.now c.self.invariant.0 i.within c.index_mut.ensures.value

-- and gives its place to a vacant one
after : (g : Over) (c : After-take_number g) → IsIdleAt c.self.inside.slabs.items c.in-Some.at
    → IsSlabTable (set c.self.inside.slabs.items c.in-Some.at c.replace-slab.new.dest) c.take_number.new.numbers.items c.self.inside.out
after g c i =
    partial_reaped c.self.inside.slabs.items c.in-Some.at c.self.inside.out c.index_mut.result.now c.replace-slab.new.dest c.self.inside.partial.items c.take_number.new.numbers.items
    c.self.invariant.0 i c.index_mut.ensures.value (ap page_of c.replace-slab.ensures.after ∙ c.vacant.ensures.page) (ap places_of c.replace-slab.ensures.after ∙ c.vacant.ensures.places) c.take_number.ensures.count c.take_number.ensures.each

-- a page's number is a small one
small : (n : ℕ) → n < 256 → Fits w32 n
small n low = search rules

pub overflow_cast-page : goal.overflow_cast-page
overflow_cast-page g c = small c.in-Some.at (low g (goal.at.overflow_cast-page g c).In-Some)

pub index_mut-requires : goal.index_mut-requires
index_mut-requires g c = subst (λ n. c.in-Some.at < n) c.deref.ensures.len c.in-Some.ensures.within

pub vacant-requires : goal.vacant-requires
vacant-requires g c = low g (goal.at.vacant-requires g c).In-Some

pub take_number-requires : goal.take_number-requires
take_number-requires g c = on_stack c.self.inside.slabs.items c.in-Some.at c.self.inside.out c.self.inside.partial.items c.self.invariant.0 (idle g (goal.at.take_number-requires g c).In-Some)

pub invariant_of-self : goal.invariant_of-self
invariant_of-self g c =
    let h = goal.at.invariant_of-self g c in (after g h.After-take_number (idle g h.In-Some), omega (arith, c.self.invariant.1, c.take_number.ensures.capacity))

pub returns-clause-one_page : goal.returns-clause-one_page
returns-clause-one_page g c = IfSome_then c.end.result c.end.ensures.page (λ s p. p.1)

pub returns-clause-had : goal.returns-clause-had
returns-clause-had g c =
    let h = goal.at.returns-clause-had g c in
    let has = subst (λ v. Has v c.in-Some.at) c.self.view_is (has_from (pages_in c.self.inside.slabs.items) c.in-Some.at (idle g h.In-Some).had) in
    IfSome_then c.end.result c.end.ensures.page (λ s p. subst (λ n. Has c.args.self.now n) (sym (p.0 ∙ noted g h.After-replace-slab (idle g h.In-Some))) has)

pub returns-clause-idle : goal.returns-clause-idle
returns-clause-idle g c =
    let h = goal.at.returns-clause-idle g c in
    IfSome_then c.end.result c.end.ensures.page (λ s p. λ slot here out. idle_page c.self.inside.slabs.items c.in-Some.at slot (idle g h.In-Some) (here ∙ (p.0 ∙ noted g h.After-replace-slab (idle g h.In-Some))) (subst (λ v. IsOut v slot) (sym c.self.view_is) out))

pub returns-clause-lowest : goal.returns-clause-lowest
returns-clause-lowest g c =
    let h = goal.at.returns-clause-lowest g c in
    let xs = c.self.inside.slabs.items in
    let busy : AllWithin IsBusy xs 0 c.in-Some.at = subst (λ ys. AllWithin IsBusy ys 0 c.in-Some.at) c.deref.ensures.value c.in-Some.ensures.lowest in
    IfSome_then c.end.result c.end.ensures.page (λ s p. λ lower before has.
    subst (λ v. (slot : ℕ) × (slot / 256 ≡ lower) × IsOut v slot) c.self.view_is
    (busy_below xs (map page_of xs) c.self.inside.partial.items c.self.inside.out c.in-Some.at lower c.self.invariant.0 busy
    (subst (λ n. lower < n) (p.0 ∙ noted g h.After-replace-slab (idle g h.In-Some)) before) (subst (λ v. Has v lower) (sym c.self.view_is) has)))

pub returns-clause-removed : goal.returns-clause-removed
returns-clause-removed g c =
    let h = goal.at.returns-clause-removed g c in
    let xs = c.self.inside.slabs.items in
    let new = c.replace-slab.new.dest in
    let gone = subst (λ v. RemovesPage v (pages_in (set xs c.in-Some.at new)) c.in-Some.at) c.self.view_is (reaped xs c.in-Some.at new (idle g h.In-Some).within (ap places_of c.replace-slab.ensures.after ∙ c.vacant.ensures.places)) in
    IfSome_then c.end.result c.end.ensures.page (λ s p. subst (λ n. RemovesPage c.args.self.now (pages_in (set xs c.in-Some.at new)) n) (sym (p.0 ∙ noted g h.After-replace-slab (idle g h.In-Some))) gone)

pub returns-clause-counted : goal.returns-clause-counted
returns-clause-counted g c = let h = goal.at.returns-clause-counted g c in rw (← c.self.view_is) (sym (after g h.After-take_number (idle g h.In-Some)).counted ∙ c.self.invariant.0.counted)

pub returns-in_default-clause-counted : goal.returns-in_default-clause-counted
returns-in_default-clause-counted g c = refl

pub returns-in_default-clause-unchanged : goal.returns-in_default-clause-unchanged
returns-in_default-clause-unchanged g c = refl

-- the slab has a span
had : (g : Over) (c : After-replace-slab g) → IsIdleAt c.self.inside.slabs.items c.in-Some.at → 0 < length c.replace-slab.result.places.items
had g c i =
    let read = places_read c.self.inside.slabs.items c.in-Some.at c.index_mut.result.now i.within c.index_mut.ensures.value in
    subst (λ ps. 0 < length ps) (read ∙ sym (ap places_of c.replace-slab.ensures.value)) i.had

pub returns-clause-none : goal.returns-clause-none
returns-clause-none g c =
    let h = goal.at.returns-clause-none g c in never_none _ c.end.result (c.end.ensures.had (had g h.After-replace-slab (idle g h.In-Some)))

pub returns-clause-unchanged : goal.returns-clause-unchanged
returns-clause-unchanged g c =
    let h = goal.at.returns-clause-unchanged g c in never_none _ c.end.result (c.end.ensures.had (had g h.After-replace-slab (idle g h.In-Some)))
