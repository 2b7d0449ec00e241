-- Slots that leave slabs.
use Rattle.std.proofs.Common.{◌≡◌, ℕ, ◌+◌, ◌*◌, ◌/◌, ◌%◌, ◌<◌, ◌≤◌, ◌↔◌, ◌⊎◌, inl, inr, List, sym, ap, subst, ◌∙◌, arith}
use Rattle.std.specs.Prelude.{slice_get}
use Rattle.std.proofs.lemmas.Bool.{cases_lt, cases_eq}
use Rattle.slab_layer.specs.declared.place.Place.{Place}
use Rattle.slab_layer.specs.declared.place.Place.TheVariants.{Out}
use Rattle.slab_layer.specs.Slots.{Pages, place_of, IsHome, IsOut, Has, Moves, AddsPage, TakesOut}
use Rattle.slab_layer.proofs.Pages.{not_had}

-- a slot that was home is taken out
pub takes_out : (old new : Pages) (slot : ℕ) → IsHome old slot → Moves old new slot Out → TakesOut old new slot
takes_out old new slot was moves = record {
  was_in = λ out. cc (was, out);
  out = moves.moved;
  others = λ x other. let same = moves.others x other in (λ is. sym same ∙ is, λ is. same ∙ is);
}

-- no slot of a page that isn't had is out
not_out : (pages : Pages) (slot : ℕ) → (Has pages (slot / 256) → ⊥) → IsOut pages slot → ⊥
not_out pages slot none out =
    let empty = ap (λ (ps : List Place). slice_get ps (slot % 256)) (not_had pages (slot / 256) none) in
    cc (empty, out)

-- with a page more the same slots are out
pub same_out : (old new : Pages) (page objects : ℕ) → (Has old page → ⊥) → AddsPage old new page objects → (x : ℕ) → IsOut new x ↔ IsOut old x
same_out old new page objects none adds x = elim (cases_eq (x / 256) page) [
  | inl here ↦
      let at : x ≡ page * 256 + x % 256 = omega arith in
      let never : IsOut old x → ⊥ = not_out old x (λ has. none (rw here at has)) in
      (λ out. absurd (fresh at out (cases_lt (x % 256) objects)), λ out. absurd (never out))
  | inr other ↦ let same = adds.others x other in (λ is. sym same ∙ is, λ is. same ∙ is)
] where
  fresh : x ≡ page * 256 + x % 256 → IsOut new x → (x % 256 < objects) ⊎ (objects ≤ x % 256) → ⊥
  fresh at out (inl within) = let is = ap (place_of new) at ∙ adds.added (x % 256) within in cc (is, out)
  fresh at out (inr past) = let is = ap (place_of new) at ∙ adds.only (x % 256) past (omega arith) in cc (is, out)

-- a slot that is taken out of slabs which grew by a page
pub takes_grown : (old before between new : Pages) (page objects slot : ℕ) → before ≡ old → (Has before page → ⊥)
    → AddsPage before between page objects → IsHome between slot → Moves between new slot Out → TakesOut old new slot
takes_grown old before between new page objects slot is none adds was moves =
    let takes = takes_out between new slot was moves in
    let same = same_out before between page objects none adds in
    let whole : TakesOut before new slot = record {
      was_in = λ out. takes.was_in ((same slot).1 out);
      out = takes.out;
      others = λ x other. (λ out. (same x).0 ((takes.others x other).0 out), λ out. (takes.others x other).1 ((same x).1 out));
    } in
    subst (λ (v : Pages). TakesOut v new slot) is whole
