-- Which slots are copied, one slot more at a time, and read from the other end.
use Rattle.std.proofs.Common.{◌≡◌, ℕ, zero, suc, ◌+◌, ◌-◌, ◌<◌, List, [], ◌∷◌, ◌++◌, length, replicate, Option, Some, None, refl, sym, ap, ◌∙◌, subst, arith, inl, inr}
use Rattle.std.specs.Prelude.{slice_get, slice_set, reverse}
use Rattle.std.proofs.lemmas.Bool.{cases_lt}
use Rattle.std.proofs.lemmas.Option.{none-some, same_Some}
use Rattle.std.proofs.lemmas.List.{get_or-set_same, get_or-set_other, get_or_append_left, get_or_push, get_or_past, get_or-reverse, length-reverse, length_push}
use Rattle.ebpf_insn.specs.declared.insn.Insn.{Insn}
use Rattle.ebpf_insn.specs.Program.{insn_at}
use Rattle.ebpf_layout.specs.Layout.{copied_in}
use Rattle.ebpf_layout.specs.Search.{if_there}
use Rattle.ebpf_layout.specs.Writing.{HavePlaces, AreCopied, AreOwn}
use Rattle.ebpf_layout.proofs.Lists.{set_cases}

-- ---- the slots of an order

copied_none : (n k : ℕ) → copied_in (replicate n None) k ≡ None
copied_none zero k = refl
copied_none (suc n) zero = refl
copied_none (suc n) (suc k) = copied_none n k

pub none_copied : (order places : List ℕ) (n : ℕ) (of : List (Option ℕ)) → of ≡ replicate n None → AreCopied order places 0 of
none_copied order places n of fresh = record {
  only = λ slot place e. absurd (none-some slot (sym (ap (λ (xs : List (Option ℕ)). copied_in xs place) fresh ∙ copied_none n place) ∙ e));
  each = λ slot place s lt. absurd (omega arith);
}

pub copied_more : (order places : List ℕ) (of : List (Option ℕ)) (n slot place : ℕ) → HavePlaces order places (length of)
    → slice_get order n ≡ Some slot → slice_get places n ≡ Some place → AreCopied order places n of
    → AreCopied order places (n + 1) (slice_set of place (Some slot))
copied_more order places of n slot place h ordered placed old = record {
  only = λ s at e. elim (set_cases of place (Some slot) None at (Some s) (h.inside n place placed) e) [
    | inl here ↦ record { number = n; ordered = ordered ∙ here.1; placed = placed ∙ ap Some (sym here.0) }
    | inr other ↦ old.only s at other.1
  ];
  each = λ s at stands lt. elim (cases_lt stands.number n) [
    | inl before ↦
        let lower : at < place = h.rising stands.number n at place before stands.placed placed in
        get_or-set_other of place at (Some slot) None (λ same. absurd (omega arith)) ∙ old.each s at stands before
    | inr here ↦
        let number : n ≡ stands.number = omega arith in
        let at_is : place ≡ at = same_Some place at (sym placed ∙ ap (slice_get places) number ∙ stands.placed) in
        let slot_is : Some slot ≡ Some s = sym ordered ∙ ap (slice_get order) number ∙ stands.ordered in
        subst (λ (k : ℕ). copied_in (slice_set of place (Some slot)) k ≡ Some s) at_is
        (get_or-set_same of place (Some slot) None (h.inside n place placed) ∙ slot_is)
  ];
}

-- ---- each slot itself

pub own_more : (p : List (Option Insn)) (of : List (Option ℕ)) (x : Option ℕ) → x ≡ if_there (insn_at p (length of)) (length of) → AreOwn p of
    → AreOwn p (of ++ x ∷ [])
own_more p of x here own k lt = elim (cases_lt k (length of)) [
  | inl before ↦ get_or_append_left of (x ∷ []) None k before ∙ own k before
  | inr end ↦
      let last : length of ≡ k = omega (arith, length_push of x) in
      get_or_push of x None k last ∙ here ∙ ap (λ (n : ℕ). if_there (insn_at p n) n) last
]

-- ---- read from the other end

pub copied_inside : (of : List (Option ℕ)) (at slot : ℕ) → copied_in of at ≡ Some slot → at < length of
copied_inside of at slot e = elim (cases_lt at (length of)) [
  | inl within ↦ within
  | inr past ↦ absurd (none-some slot (sym (get_or_past of at None past) ∙ e))
]

pub copied_back : (of : List (Option ℕ)) (at slot : ℕ) → copied_in (reverse of) at ≡ Some slot
    → (j : ℕ) × (at + j + 1 ≡ length of) × (copied_in of j ≡ Some slot)
copied_back of at slot e =
    let within = copied_inside (reverse of) at slot e in
    let inside : at < length of = omega (arith, length-reverse of) in
    (length of - 1 - at, omega arith, sym (get_or-reverse of at None inside) ∙ e)

pub copied_there : (of : List (Option ℕ)) (at j slot : ℕ) → at + j + 1 ≡ length of → copied_in of j ≡ Some slot → copied_in (reverse of) at ≡ Some slot
copied_there of at j slot sum e =
    let back : length of - 1 - at ≡ j = omega arith in
    get_or-reverse of at None (omega arith) ∙ ap (copied_in of) back ∙ e
