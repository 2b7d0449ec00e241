-- Elements of a list that was pushed to, taken from or written to.
use Rattle.std.proofs.Common.{◌≡◌, ◌≢◌, ℕ, zero, suc, ◌<◌, List, [], ◌∷◌, ◌++◌, length, take, Some, refl, sym, ◌∙◌, arith, inl, inr, ◌⊎◌}
use Rattle.std.specs.Prelude.{slice_get, slice_index_or, slice_set}
use Rattle.std.proofs.lemmas.Option.{none-some, same_Some}
use Rattle.std.proofs.lemmas.Bool.{cases_eq}
use Rattle.std.proofs.lemmas.List.{get_or-set_same, get_or-set_other}

-- what is in a list stays there when more is pushed
pub get_kept : {X : Type 0} (xs ys : List X) (k : ℕ) (x : X) → slice_get xs k ≡ Some x → slice_get (xs ++ ys) k ≡ Some x
get_kept [] ys k x e = absurd (none-some x e)
get_kept (z ∷ xs) ys zero x e = e
get_kept (z ∷ xs) ys (suc k) x e = get_kept xs ys k x e

pub get_last : {X : Type 0} (xs : List X) (y : X) → slice_get (xs ++ y ∷ []) (length xs) ≡ Some y
get_last [] y = refl
get_last (z ∷ xs) y = get_last xs y

-- an element is an old one or the one that was pushed
pub get_pushed : {X : Type 0} (xs : List X) (y : X) (k : ℕ) (x : X) → slice_get (xs ++ y ∷ []) k ≡ Some x
    → (slice_get xs k ≡ Some x) ⊎ ((k ≡ length xs) × (x ≡ y))
get_pushed [] y zero x e = inr (refl, sym (same_Some y x e))
get_pushed [] y (suc k) x e = absurd (none-some x e)
get_pushed (z ∷ xs) y zero x e = inl e
get_pushed (z ∷ xs) y (suc k) x e = elim (get_pushed xs y k x e) [
  | inl old ↦ inl old
  | inr new ↦ inr (omega (arith, new.0), new.1)
]

pub get_from_take : {X : Type 0} (n : ℕ) (xs : List X) (k : ℕ) (x : X) → slice_get (take n xs) k ≡ Some x → (k < n) × (slice_get xs k ≡ Some x)
get_from_take zero xs k x e = absurd (none-some x e)
get_from_take (suc n) [] k x e = absurd (none-some x e)
get_from_take (suc n) (y ∷ xs) zero x e = (omega arith, e)
get_from_take (suc n) (y ∷ xs) (suc k) x e = let h = get_from_take n xs k x e in (omega (arith, h.0), h.1)

pub get_taken : {X : Type 0} (n : ℕ) (xs : List X) (k : ℕ) (x : X) → k < n → slice_get xs k ≡ Some x → slice_get (take n xs) k ≡ Some x
get_taken zero xs k x lt e = absurd (omega arith)
get_taken (suc n) [] k x lt e = absurd (none-some x e)
get_taken (suc n) (y ∷ xs) zero x lt e = e
get_taken (suc n) (y ∷ xs) (suc k) x lt e = get_taken n xs k x (omega arith) e

-- an element of a list that was written to is the one written or an old one
pub set_cases : {X : Type 0} (xs : List X) (i : ℕ) (y d : X) (k : ℕ) (x : X) → i < length xs → slice_index_or (slice_set xs i y) k d ≡ x
    → ((k ≡ i) × (y ≡ x)) ⊎ ((k ≢ i) × (slice_index_or xs k d ≡ x))
set_cases xs i y d k x lt e = elim (cases_eq k i) [
  | inl same ↦ inl (same, sym (get_or-set_same xs i y d lt) ∙ (rw same at e))
  | inr other ↦ inr (other, sym (get_or-set_other xs i k y d other) ∙ e)
]
