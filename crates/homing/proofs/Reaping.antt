-- How many pages slabs have, as they are given up one by one.
use Rattle.std.proofs.Common.{◌≡◌, ℕ, zero, suc, ◌+◌, ◌*◌, ◌/◌, ◌<◌, ◌≤◌, ◌↔◌, inl, inr, true, Option, None, Some, is_some, refl, sym, ap, ◌∙◌, arith}
use Rattle.std.proofs.lemmas.Bool.{cases_lt, cases_eq, false≢true}
use Rattle.slab_layer.specs.declared.place.Place.{Place}
use Rattle.slab_layer.specs.Slots.{Pages, place_of, IsOut, Has, RemovesPage}

unfoldable pub one_if : Option Place → ℕ
one_if None = 0
one_if (Some place) = 1

-- how many of the pages below a number are had
unfoldable pub had_below : ℕ → Pages → ℕ
had_below zero pages = 0
had_below (suc n) pages = one_if (place_of pages (n * 256)) + had_below n pages

one_most : (o : Option Place) → one_if o ≤ 1
unfolding one_if
one_most None = omega arith
one_most (Some place) = omega arith

one_from : (o : Option Place) → is_some o ≡ true → one_if o ≡ 1
unfolding one_if
one_from None e = absurd (false≢true e)
one_from (Some place) e = refl

pub had_most : (n : ℕ) (pages : Pages) → had_below n pages ≤ n
unfolding had_below one_if
had_most zero pages = omega arith
had_most (suc n) pages = omega (arith, one_most (place_of pages (n * 256)), had_most n pages)

had_same : (n : ℕ) (old new : Pages) (page : ℕ) → RemovesPage old new page → n ≤ page → had_below n new ≡ had_below n old
unfolding had_below one_if
had_same zero old new page removes low = refl
had_same (suc n) old new page removes low =
    let same = removes.others (n * 256) (λ e. omega arith) in
    omega (arith, ap one_if same, had_same n old new page removes (omega arith))

-- a page that is given up was one of them
pub had_less : (n : ℕ) (old new : Pages) (page : ℕ) → RemovesPage old new page → Has old page → page < n → had_below n new + 1 ≡ had_below n old
unfolding had_below one_if
had_less zero old new page removes has below = absurd (omega arith)
had_less (suc n) old new page removes has below = elim (cases_lt page n) [
  | inl lower ↦
      let same = removes.others (n * 256) (λ e. omega arith) in
      omega (arith, ap one_if same, had_less n old new page removes has lower)
  | inr last ↦
      let is : n ≡ page = omega arith in
      let gone = removes.removed (n * 256) (omega arith) in
      let had = one_from (place_of old (n * 256)) (ap (λ k. is_some (place_of old (k * 256))) is ∙ has) in
      omega (arith, ap one_if gone, had, had_same n old new page removes (omega arith))
]

-- and no slot that is out goes with it
out_stays : (old new : Pages) (page : ℕ) → RemovesPage old new page → ((slot : ℕ) → slot / 256 ≡ page → IsOut old slot → ⊥)
    → (slot : ℕ) → IsOut new slot ↔ IsOut old slot
out_stays old new page removes idle slot = elim (cases_eq (slot / 256) page) [
  | inl here ↦
      let gone = removes.removed slot here in
      (λ is. absurd (cc (gone, is)), λ is. absurd (idle slot here is))
  | inr other ↦
      let same = removes.others slot other in
      (λ is. sym same ∙ is, λ is. same ∙ is)
]

-- and of a page that stays no slot changes
place_stays : (old new : Pages) (page : ℕ) → RemovesPage old new page → (slot : ℕ) → Has new (slot / 256)
    → Has old (slot / 256) × (place_of new slot ≡ place_of old slot)
place_stays old new page removes slot has = elim (cases_eq (slot / 256) page) [
  | inl here ↦
      let gone = removes.removed (slot / 256 * 256) (omega arith) in
      absurd (false≢true (sym (ap is_some gone) ∙ has))
  | inr other ↦
      let first = removes.others (slot / 256 * 256) (λ e. other (omega arith)) in
      (sym (ap is_some first) ∙ has, removes.others slot other)
]

-- so what is said of slots since some first pages stays so
pub out_since : (first old new : Pages) (page : ℕ) → RemovesPage old new page → ((slot : ℕ) → slot / 256 ≡ page → IsOut old slot → ⊥)
    → ((slot : ℕ) → IsOut old slot ↔ IsOut first slot) → (slot : ℕ) → IsOut new slot ↔ IsOut first slot
out_since first old new page removes idle since slot =
    let stays = out_stays old new page removes idle slot in
    (λ is. (since slot).0 (stays.0 is), λ is. stays.1 ((since slot).1 is))

pub place_since : (first old new : Pages) (page : ℕ) → RemovesPage old new page
    → ((slot : ℕ) → Has old (slot / 256) → place_of old slot ≡ place_of first slot)
    → (slot : ℕ) → Has new (slot / 256) → place_of new slot ≡ place_of first slot
place_since first old new page removes since slot has =
    let stays = place_stays old new page removes slot has in
    stays.1 ∙ since slot stays.0
