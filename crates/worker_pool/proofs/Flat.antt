-- Lists of lists, put together: their sums, and what holds of each element.
use Rattle.std.proofs.Common.{◌≡◌, ℕ, All, List, [], ◌∷◌, ◌++◌, refl, ap, ◌∙◌, arith, append-nil}
use Rattle.std.specs.Prelude.{sum_by}
use Rattle.std.specs.List.{flat_map}
use Rattle.std.proofs.lemmas.Grind.{flat_map-append}
use Rattle.std.proofs.lemmas.List.Elements.{All-append, All-cons, All-contains, All-nil, Contains-append_left, Contains-append_right}
use Rattle.std.proofs.lemmas.List.Sums.{sum_by-append, sum_by-cons}
use Rattle.ebpf_machine.proofs.Lists.ListLemmas.{All-by_contains, Contains-head, Contains-tail}

module _ {X Y : Type 0} (f : X → List Y) where
  pub flat_last : (xs : List X) (x : X) → flat_map f (xs ++ x ∷ []) ≡ flat_map f xs ++ f x
  flat_last xs x = flat_map-append f xs (x ∷ []) ∙ ap (λ (l : List Y). flat_map f xs ++ l) (append-nil (f x))

  pub sum_flat : (h : Y → ℕ) (xs : List X) → sum_by h (flat_map f xs) ≡ sum_by (λ x. sum_by h (f x)) xs
  sum_flat h [] = refl
  sum_flat h (x ∷ xs) = omega (arith, sum_by-append h (f x) (flat_map f xs), sum_by-cons (λ y. sum_by h (f y)) x xs, sum_flat h xs)

  module _ (P : Y → Type 0) where
    pub all_flat : (xs : List X) → All (λ x. All P (f x)) xs → All P (flat_map f xs)
    all_flat [] h = All-nil P
    all_flat (x ∷ xs) h = All-append P (f x) (flat_map f xs) (All-contains (λ y. All P (f y)) (x ∷ xs) x h (Contains-head x xs))
        (all_flat xs (All-by_contains (λ y. All P (f y)) xs (λ y there. All-contains (λ z. All P (f z)) (x ∷ xs) y h (Contains-tail x y xs there))))

    pub all_lists : (xs : List X) → All P (flat_map f xs) → All (λ x. All P (f x)) xs
    all_lists [] h = All-nil (λ x. All P (f x))
    all_lists (x ∷ xs) h = All-cons (λ y. All P (f y)) x xs
        (All-by_contains P (f x) (λ y there. All-contains P (f x ++ flat_map f xs) y h (Contains-append_left (f x) (flat_map f xs) y there)))
        (all_lists xs (All-by_contains P (flat_map f xs) (λ y there. All-contains P (f x ++ flat_map f xs) y h (Contains-append_right (f x) (flat_map f xs) y there))))
