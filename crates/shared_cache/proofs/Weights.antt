-- Sums over lists.
use Rattle.std.proofs.Common.{◌≡◌, ℕ, ◌+◌, List, [], ◌∷◌, ◌++◌, All, refl, ap, ◌∙◌, arith}
use Rattle.std.specs.List.{sum_by}
use Rattle.std.proofs.lemmas.List.Elements.{All-head, All-tail}
use Rattle.std.proofs.lemmas.List.Sums.{sum_by-cons, sum_by_push}

module _ {X : Type 0} (f : X → ℕ) where
  -- nothing weighs anything
  pub sum_none : (xs : List X) → All (λ x. f x ≡ 0) xs → sum_by f xs ≡ 0
  sum_none [] all = refl
  sum_none (x ∷ xs) all = omega (arith, sum_by-cons f x xs, All-head (λ (y : X). f y ≡ 0) x xs all, sum_none xs (All-tail (λ (y : X). f y ≡ 0) x xs all))

  -- the last of a list
  pub sum_last : (xs ys : List X) (y : X) → xs ≡ ys ++ y ∷ [] → sum_by f xs ≡ sum_by f ys + f y
  sum_last xs ys y e = ap (sum_by f) e ∙ sum_by_push f ys y
