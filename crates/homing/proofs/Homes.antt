-- Slots that go home, one list after another, and slots that leave.
use Rattle.std.proofs.Common.{◌≡◌, ℕ, ◌⊎◌, inl, inr, List, [], ◌∷◌, ◌++◌, length, Option, None, Some, refl, sym, ap, ◌∙◌, arith}
use Rattle.std.specs.List.{Contains}
use Rattle.std.specs.List.Sorted.{IsPermutation}
use Rattle.std.proofs.lemmas.List.Elements.{Contains-append_left, Contains-append_right, Contains-append_cases}
use Rattle.std.proofs.lemmas.List.Sorted.{IsPermutation-sym, IsPermutation-to_front, Contains-permutation}
use Rattle.slab_layer.specs.declared.place.Place.{Place}
use Rattle.slab_layer.specs.declared.place.Place.TheVariants.{Home, Out}
use Rattle.slab_layer.specs.Slots.{Pages, place_of, IsHome, IsOut}
use Rattle.homing.specs.Homing.{SendsHome}

-- what a place is
abbrev IsPlace : Option Place → Type 0
IsPlace o = (o ≡ None) ⊎ ((o ≡ Some Home) ⊎ (o ≡ Some Out))

which : (o : Option Place) → IsPlace o
which None = inl refl
which (Some Home) = inr (inl refl)
which (Some Out) = inr (inr refl)

-- no slot goes home
pub sends_none : (pages : Pages) (slots : List ℕ) → slots ≡ [] → SendsHome pages pages slots
sends_none pages slots none = record {
  home = λ x (k, within, is) out. absurd (let e = ap length none in omega arith);
  others = λ x stays. refl;
}

-- one list after another
pub sends_both : (first between last : Pages) (xs ys all : List ℕ) → SendsHome first between xs → SendsHome between last ys
    → IsPermutation all (xs ++ ys) → SendsHome first last all
sends_both first between last xs ys all one two moved = record { home = home; others = others } where
  from_xs : (x : ℕ) → Contains xs x → Contains all x
  from_xs x has = Contains-permutation (xs ++ ys) all x (IsPermutation-sym all (xs ++ ys) moved) (Contains-append_left xs ys x has)

  from_ys : (x : ℕ) → Contains ys x → Contains all x
  from_ys x has = Contains-permutation (xs ++ ys) all x (IsPermutation-sym all (xs ++ ys) moved) (Contains-append_right xs ys x has)

  still_home : (x : ℕ) → IsHome between x → IsHome last x
  still_home x is = two.others x (λ has out. cc (is, out)) ∙ is

  home_by_ys : (x : ℕ) → Contains ys x → IsOut first x → IsPlace (place_of between x) → IsHome last x
  home_by_ys x has out (inl none) =
      let same = one.others x (λ in_xs here. cc (one.home x in_xs here, none)) in
      absurd (cc (same, none, out))
  home_by_ys x has out (inr (inl is)) = still_home x is
  home_by_ys x has out (inr (inr is)) = two.home x has is

  home : (x : ℕ) → Contains all x → IsOut first x → IsHome last x
  home x has out = elim (Contains-append_cases xs ys x (Contains-permutation all (xs ++ ys) x moved has)) [
    | inl in_xs ↦ still_home x (one.home x in_xs out)
    | inr in_ys ↦ home_by_ys x in_ys out (which (place_of between x))
  ]

  others : (x : ℕ) → (Contains all x → IsOut first x → ⊥) → place_of last x ≡ place_of first x
  others x never =
      let early = one.others x (λ has out. never (from_xs x has) out) in
      two.others x (λ has out. never (from_ys x has) (sym early ∙ out)) ∙ early

-- the last of a list, and then the others
pub sends_last : (first between last : Pages) (slot : ℕ) (rest all : List ℕ) → SendsHome first between (slot ∷ [])
    → SendsHome between last rest → all ≡ rest ++ slot ∷ [] → SendsHome first last all
sends_last first between last slot rest all one two is = sends_both first between last (slot ∷ []) rest all one two (rw is (IsPermutation-to_front rest slot))
