-- A search from the front of a list for the first element that passes.
use Rattle.std.proofs.Common.{◌≡◌, ◌≤◌, ◌<◌, ◌+◌, ℕ, Bool, true, false, cond, nat_lt, List, length, position, slice_get, Some, None, refl, sym, ap, ◌∙◌, arith}
use Rattle.std.specs.List.{position_or_len}
use Rattle.std.proofs.Math.ListN.{get_or}
use Rattle.std.proofs.lemmas.Bool.Decides.{nat_tests}
use Rattle.std.proofs.lemmas.List.Sums.{fails_before_first, passes_at_first}
use Rattle.std.proofs.lemmas.Option.{get_or_from_slice_get, slice_get_within}

module _ {X : Type 0} (p : X → Bool) (xs : List X) (k : ℕ) (before : k ≤ position_or_len p xs) where
  -- where no element is left, none passes
  pub none_left : length xs ≤ k → position p xs ≡ None
  none_left past = by (nat_lt (position_or_len p xs) (length xs)) refl where
    by : (t : Bool) → nat_lt (position_or_len p xs) (length xs) ≡ t → position p xs ≡ None
    by true is = absurd (grind (arith, nat_tests))
    by false is = ap (λ (t : Bool). cond t (Some (position_or_len p xs)) None) is

  module _ (x : X) (there : slice_get xs k ≡ Some x) where
    -- the next one fails
    pub passed_over : p x ≡ false → k + 1 ≤ position_or_len p xs
    passed_over fails = by (nat_lt k (position_or_len p xs)) refl where
      by : (t : Bool) → nat_lt k (position_or_len p xs) ≡ t → k + 1 ≤ position_or_len p xs
      by true is = grind (arith, nat_tests)
      by false is =
          let inside = slice_get_within xs k x there in
          let here : position_or_len p xs ≡ k = grind (arith, nat_tests) in
          let passes = passes_at_first p xs x (omega (arith, inside, here)) in
          let same = get_or_from_slice_get xs k x x there in
          absurd (let no : false ≡ true = sym fails ∙ sym (ap p same) ∙ ap (λ n. p (get_or xs n x)) (sym here) ∙ passes in cc)

    -- the next one passes
    pub first_passes : p x ≡ true → position p xs ≡ Some k
    first_passes passes = by (nat_lt k (position_or_len p xs)) refl where
      by : (t : Bool) → nat_lt k (position_or_len p xs) ≡ t → position p xs ≡ Some k
      by true is =
          let fails = fails_before_first p xs k x (grind (arith, nat_tests)) in
          let same = get_or_from_slice_get xs k x x there in
          absurd (let no : false ≡ true = sym fails ∙ ap p same ∙ passes in cc)
      by false is =
          let inside = slice_get_within xs k x there in
          let here : position_or_len p xs ≡ k = grind (arith, nat_tests) in
          let test : nat_lt (position_or_len p xs) (length xs) ≡ true = grind (arith, nat_tests) in
          ap (λ (t : Bool). cond t (Some (position_or_len p xs)) None) test ∙ ap Some here

module _ {X : Type 0} (p : X → Bool) (xs : List X) where
  -- where none was found, the search went to the end
  pub to_the_end : position p xs ≡ None → length xs ≤ position_or_len p xs
  to_the_end none = by (nat_lt (position_or_len p xs) (length xs)) refl where
    by : (t : Bool) → nat_lt (position_or_len p xs) (length xs) ≡ t → length xs ≤ position_or_len p xs
    by true is = absurd (let some : Some (position_or_len p xs) ≡ None = sym (ap (λ (t : Bool). cond t (Some (position_or_len p xs)) None) is) ∙ none in cc)
    by false is = grind (arith, nat_tests)

  -- where each fails, none is found
  pub none_passes : (d : X) → ((k : ℕ) → k < length xs → p (get_or xs k d) ≡ false) → position p xs ≡ None
  none_passes d fails = by (nat_lt (position_or_len p xs) (length xs)) refl where
    by : (t : Bool) → nat_lt (position_or_len p xs) (length xs) ≡ t → position p xs ≡ None
    by true is =
        let inside : position_or_len p xs < length xs = grind (arith, nat_tests) in
        absurd (let no : false ≡ true = sym (fails (position_or_len p xs) inside) ∙ passes_at_first p xs d inside in cc)
    by false is = ap (λ (t : Bool). cond t (Some (position_or_len p xs)) None) is
