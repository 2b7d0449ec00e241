-- Lists that were turned round: sums go by no order, and what holds of each element still does.
use Rattle.std.proofs.Common.{◌≡◌, ℕ, zero, suc, All, Any, List, [], ◌∷◌, ◌++◌, length, map, reverse, take, refl, sym, ap, subst, ◌∙◌, arith, length-append}
use Rattle.std.specs.Prelude.{sum_by}
use Rattle.std.proofs.lemmas.List.{reverse-append, length-map}
use Rattle.std.proofs.Math.Seq.{take-append_seam}
use Rattle.std.proofs.lemmas.Grind.{common_steps}
use Rattle.std.proofs.lemmas.List.Elements.{All-push, All-nil}
use Rattle.std.proofs.lemmas.List.Quantifiers.{Any-push}
use Rattle.std.proofs.lemmas.List.Sums.{sum_by-cons, sum_by_push}

module _ {X : Type 0} where
  turned_cons : (x : X) (xs : List X) → reverse (x ∷ xs) ≡ reverse xs ++ x ∷ []
  turned_cons x xs = reverse-append (x ∷ []) xs

  pub sum_turned : (f : X → ℕ) (xs : List X) → sum_by f (reverse xs) ≡ sum_by f xs
  sum_turned f [] = refl
  sum_turned f (x ∷ xs) =
      let turned = ap (sum_by f) (turned_cons x xs) ∙ sum_by_push f (reverse xs) x in
      omega (arith, turned, sum_turned f xs, sum_by-cons f x xs)

  pub length_turned : (xs : List X) → length (reverse xs) ≡ length xs
  length_turned [] = refl
  length_turned (x ∷ xs) =
      let turned = ap length (turned_cons x xs) ∙ length-append (reverse xs) (x ∷ []) in
      omega (arith, turned, length_turned xs)

  pub all_turned : (P : X → Type 0) (xs : List X) → All P xs → All P (reverse xs)
  all_turned P [] h = All-nil P
  all_turned P (x ∷ xs) h =
      subst (All P) (sym (turned_cons x xs)) (All-push P (reverse xs) x (all_turned P xs (λ j d l. h (suc j) d (omega (arith, l)))) (h 0 x (omega arith)))

module _ {X : Type 0} (P : X → Type 0) where
  pub any_before : (xs : List X) (y : X) → Any P xs → Any P (xs ++ y ∷ [])
  any_before xs y (k, x, below, at, p) = (k, x, grind (arith, common_steps), grind (arith, common_steps), p)

  pub any_turned : (xs : List X) → Any P xs → Any P (reverse xs)
  any_turned [] (k, x, below, at, p) = absurd (omega (arith, below))
  any_turned (y ∷ xs) (zero, x, below, at, p) = subst (Any P) (sym (turned_cons y xs)) (Any-push P (reverse xs) y (subst P (sym at) p))
  any_turned (y ∷ xs) (suc k, x, below, at, p) =
      subst (Any P) (sym (turned_cons y xs)) (any_before (reverse xs) y (any_turned xs (k, x, omega (arith, below), at, p)))

-- what holds of one, where of each another thing comes of it
pub any_also : {X : Type 0} (P Q : X → Type 0) (xs : List X) → All (λ x. P x → Q x) xs → Any P xs → Any Q xs
any_also P Q xs also (k, x, below, at, p) = (k, x, below, at, subst (λ y. P y → Q y) at (also k x below) p)

pub any_mapped : {X Y : Type 0} (P : Y → Type 0) (g : X → Y) (xs : List X) → Any (λ x. P (g x)) xs → Any P (map g xs)
any_mapped P g [] (k, x, below, at, p) = absurd (omega (arith, below))
any_mapped P g (y ∷ xs) (zero, x, below, at, p) = (0, g x, omega arith, ap g at, p)
any_mapped P g (y ∷ xs) (suc k, x, below, at, p) =
    let rest = any_mapped P g xs (k, x, omega (arith, below), at, p) in
    (suc rest.0, rest.1, omega (arith, rest.2), rest.3, rest.4)

-- a sum over what is made of each element
pub sum_mapped : {X Y : Type 0} (f : Y → ℕ) (g : X → Y) (xs : List X) → sum_by f (map g xs) ≡ sum_by (λ x. f (g x)) xs
sum_mapped f g [] = refl
sum_mapped f g (x ∷ xs) = omega (arith, sum_by-cons f (g x) (map g xs), sum_by-cons (λ y. f (g y)) x xs, sum_mapped f g xs)

pub all_mapped : {X Y : Type 0} (P : Y → Type 0) (g : X → Y) (xs : List X) → All (λ x. P (g x)) xs → All P (map g xs)
all_mapped P g [] h k d l = absurd (omega (arith, l))
all_mapped P g (x ∷ xs) h zero d l = h 0 x (omega arith)
all_mapped P g (x ∷ xs) h (suc k) d l = all_mapped P g xs (λ j e m. h (suc j) e (omega (arith, m))) k d (omega (arith, l))

-- as many are made as there are, in any order
pub as_many : {X Y : Type 0} (f : X → Y) (xs : List X) (ys : List Y) → map f xs ≡ reverse ys → length xs ≡ length ys
as_many f xs ys are = sym (length-map xs f) ∙ ap length are ∙ length_turned ys

-- a list that was written back whole
pub written_back : {X : Type 0} (k : ℕ) (new rest : List X) → k ≡ length new → take k (new ++ rest) ≡ new
written_back k new rest all = ap (λ n. take n (new ++ rest)) all ∙ take-append_seam new rest
