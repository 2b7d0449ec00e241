-- Lists with one element changed, and what is first and last in them.
use Rattle.std.proofs.Common.{◌≡◌, ℕ, zero, suc, ◌+◌, ◌≤◌, List, [], ◌∷◌, ◌++◌, All, length, set, take, sym, refl, ap, ◌∙◌, subst, arith}
use Rattle.std.specs.Prelude.{sum_by}
use Rattle.std.proofs.lemmas.List.Sums.{sum_by-cons, sum_by_push}
use mathlib.Core.Option.{some, some-injective, some-ne-none}
use lib.ListN.{get_elem?}
use Rattle.atomic_table.specs.Table.{rest}

module _ {A : Type 0} (f : A → ℕ) where
  pub sum_by-change : (l : List A) (j : ℕ) (v w : A) → get_elem? l j ≡ some v → sum_by f (set l j w) + f v ≡ sum_by f l + f w
  sum_by-change [] j v w e = absurd (some-ne-none v (sym e))
  sum_by-change (x ∷ xs) zero v w e = omega (arith, ap f (some-injective x v e), sum_by-cons f w xs, sum_by-cons f x xs)
  sum_by-change (x ∷ xs) (suc j) v w e = omega (arith, sum_by-change xs j v w e, sum_by-cons f x (set xs j w), sum_by-cons f x xs)

  pub sum_by-member : (l : List A) (j : ℕ) (v : A) → get_elem? l j ≡ some v → f v ≤ sum_by f l
  sum_by-member [] j v e = absurd (some-ne-none v (sym e))
  sum_by-member (x ∷ xs) zero v e = omega (arith, ap f (some-injective x v e), sum_by-cons f x xs)
  sum_by-member (x ∷ xs) (suc j) v e = omega (arith, sum_by-member xs j v e, sum_by-cons f x xs)

  -- what the last one adds
  pub sum-last : (xs ys : List A) (y : A) → xs ≡ ys ++ y ∷ [] → sum_by f xs ≡ sum_by f ys + f y
  sum-last xs ys y e = ap (sum_by f) e ∙ sum_by_push f ys y

  pub last-first : (xs ys : List A) (y : A) → xs ≡ ys ++ y ∷ [] → f y + sum_by f ys ≡ sum_by f xs
  last-first xs ys y e = let s = sum-last xs ys y e in omega arith

-- one more element is read
pub take-next : {A : Type 0} (xs : List A) (k : ℕ) (x : A) → get_elem? xs k ≡ some x → take (k + 1) xs ≡ take k xs ++ x ∷ []
take-next [] k x e = absurd (some-ne-none x (sym e))
take-next (y ∷ ys) zero x e = λ i. some-injective y x e i ∷ []
take-next (y ∷ ys) (suc k) x e = let n : suc k + 1 ≡ suc (k + 1) = omega arith in ap (λ m. take m (y ∷ ys)) n ∙ ap (λ l. y ∷ l) (take-next ys k x e)

-- each element counts one
pub counts-length : {A : Type 0} (xs : List A) → sum_by (λ (x : A). 1) xs ≡ length xs
counts-length [] = refl
counts-length {A} (x ∷ xs) = omega (arith, counts-length xs, sum_by-cons (λ (y : A). 1) x xs)

module _ {A : Type 0} where
  pub tail-same : (x y : A) (r s : List A) → x ∷ r ≡ y ∷ s → r ≡ s
  tail-same x y r s e = ap behind e
    where
      behind : List A → List A
      behind [] = []
      behind (z ∷ zs) = zs

  -- nothing was dealt yet
  pub none-yet : (P : A → Type 0) (xs : List A) → xs ≡ [] → All P xs
  none-yet P xs e = subst (All P) (sym e) (λ k d l. absurd (omega arith))

  pub all_front : (P : A → Type 0) (xs : List A) (x : A) → All P (xs ++ x ∷ []) → All P xs
  all_front P [] x h k d l = absurd (omega arith)
  all_front P (y ∷ ys) x h zero d l = h zero d (omega arith)
  all_front P (y ∷ ys) x h (suc k) d l = all_front P ys x (λ j e m. h (suc j) e (omega arith)) k d (omega arith)

  pub all_last : (P : A → Type 0) (xs : List A) (x : A) → All P (xs ++ x ∷ []) → P x
  all_last P [] x h = h zero x (omega arith)
  all_last P (y ∷ ys) x h = all_last P ys x (λ j e m. h (suc j) e (omega arith))

-- a list with this first element
module _ {S : Type 0} where
  pub head-first : (l r : List (ℕ × S)) (x : ℕ × S) → l ≡ x ∷ r → l ≡ x ∷ rest l
  head-first l r x e = e ∙ ap (λ m. x ∷ rest m) (sym e)

  pub rest-of : (l r : List (ℕ × S)) (x : ℕ × S) → l ≡ x ∷ r → rest l ≡ r
  rest-of l r x e = ap rest e

-- what the first entry of a list has
pub first-value : {S : Type 0} {k : ℕ} {x y : S} {r s : List (ℕ × S)} → (k, x) ∷ r ≡ (k, y) ∷ s → x ≡ y
first-value {S} {k} {x} e = ap value e
  where
    value : List (ℕ × S) → S
    value [] = x
    value (p ∷ ps) = p.1
