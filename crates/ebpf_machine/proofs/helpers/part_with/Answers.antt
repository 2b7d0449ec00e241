use Rattle.std.proofs.Common.{◌≡◌, ◌<◌, List, length, get_or, Some, sym, ap, ◌∙◌, subst, refl, ℕ}
use Rattle.ebpf_machine.specs.declared.holding.Holding.{Holding}
use Rattle.ebpf_machine.specs.Flows.{object_in}
use Rattle.ebpf_machine.specs.Parts.{state_with}
use Rattle.ebpf_machine.proofs.helpers.part_with.Goals as goal

pub returns-clause-parted : goal.returns-clause-parted
returns-clause-parted g c =
    let items = c.deref.ensures.value in
    let h = c.take_at-object.result in
    let place = c.place_of-place.result in
    let inside : place < length c.args.parts.now.held.items = subst (λ (hs : List (Holding _)). place < length hs) items c.place_of-place.ensures.inside in
    let named : (get_or c.args.parts.now.held.items place h).call ≡ c.in-Some.call =
    subst (λ (hs : List (Holding _)). (get_or hs place h).call ≡ c.in-Some.call) items (c.place_of-place.ensures.value h) in
    let same : c.in-Some.call ≡ h.call = sym named ∙ ap (λ (x : Holding _). x.call) (sym c.take_at-object.ensures.value) in (
      h,
      refl,
      ap object_in (sym c.get.ensures.value) ∙ (sym c.object_at.ensures ∙ (c.in-Some.is ∙ ap (λ (n : ℕ). Some n) same)),
      record {
        place = place;
        inside = inside;
        is = sym c.take_at-object.ensures.value;
        left = ap (λ (hs : List (Holding _)). record (state_with c.args.fixed.now c.args.parts.now) { held = hs }) c.take_at-object.ensures.items;
      },
    )
