-- Values that are moved into slots, and out of them.
use Rattle.std.proofs.Common.{◌≡◌, ℕ, zero, suc, ◌<◌, List, [], ◌∷◌, ◌++◌, All, map, length, sym, refl, ap, ◌∙◌, subst, arith}
use Rattle.std.specs.Prelude.{Option, Some, None}
use Rattle.std.proofs.lemmas.List.{append_assoc}
use mathlib.Core.Option.{some}
use lib.ListN.{get_elem?}
use Rattle.shared_row.specs.Spread.{values_in}
use Rattle.shared_row.proofs.Lists.{tail-same}

module _ {T : Type 0} where
  none-among : (xs ys : List (Option T)) (vs : List T) → xs ++ None ∷ ys ≡ map Some vs → ⊥
  none-among [] ys [] e = let n = ap (λ l. length l) e in omega arith
  none-among [] ys (v ∷ vs) e = subst IsNone e tt
    where
      IsNone : List (Option T) → Type 0
      IsNone (None ∷ os) = Unit {0}
      IsNone (Some x ∷ os) = ⊥
      IsNone [] = ⊥
  none-among (x ∷ xs) ys [] e = let n = ap (λ l. length l) e in omega arith
  none-among (x ∷ xs) ys (v ∷ vs) e = none-among xs ys vs (tail-same x (Some v) (xs ++ None ∷ ys) (map Some vs) e)

  -- the last slot is not empty, if all that are left and those that were moved are full
  pub last-is-full : (before rest : List (Option T)) (moved all : List (Option T)) (values : List T) → before ++ moved ≡ all → all ≡ map Some values
      → before ≡ rest ++ None ∷ [] → ⊥
  last-is-full before rest moved all values e full last =
      none-among rest moved values (sym (append_assoc rest (None ∷ []) moved) ∙ (ap (λ l. l ++ moved) (sym last) ∙ (e ∙ full)))

  values-mapped : (xs : List T) → values_in (map Some xs) ≡ xs
  values-mapped [] = refl
  values-mapped (x ∷ xs) = ap (λ l. x ∷ l) (values-mapped xs)

  -- slots with the same values
  pub same-values : (xs ys : List T) → map Some xs ≡ map Some ys → xs ≡ ys
  same-values xs ys e = sym (values-mapped xs) ∙ (ap values_in e ∙ values-mapped ys)

  -- what lies in a slot at the start is as each value is
  pub each-there : (P : T → Type 0) (values : List T) (j : ℕ) → j < length values → All P values
      → (x : T) × (get_elem? (map some (map Some values)) j ≡ some (some (Some x))) × P x
  each-there P [] j below all = absurd (omega arith)
  each-there P (v ∷ vs) zero below all = (v, refl, all zero v (omega arith))
  each-there P (v ∷ vs) (suc j) below all = each-there P vs j (omega arith) (λ k d l. all (suc k) d (omega arith))
