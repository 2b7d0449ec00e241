-- Places: the bits of 36 words, and the word that says which of them are not 0.
use Rattle.std.proofs.Common.{◌≡◌, ◌≢◌, ℕ, zero, suc, ◌+◌, ◌*◌, ◌/◌, ◌%◌, ◌^◌, ◌<◌, ◌≤◌, ◌⊎◌, inl, inr, List, length, w64, set, replicate, refl}
use Rattle.std.proofs.Common.{sym, ap, subst, ◌∙◌, arith}
use Rattle.std.specs.List.{slice_index}
use Rattle.std.specs.Int.{bit_at, trailing_zeros}
use Rattle.std.proofs.Math.Nat.{div-eq_of_lt-le}
use Rattle.std.proofs.lemmas.Bool.{cases_lt, cases_eq}
use Rattle.std.proofs.lemmas.List.{get_or_past, get_or-set_same, get_or-set_other}
use Rattle.std.proofs.lemmas.Nat.Bits.{bit_at-zero, bit_at-trailing_zeros, same_from_bits}
use Rattle.vmem_arena.specs.Classes.{bit_of, IsFilled}
use Rattle.vmem_arena.proofs.Bits.{none_above}

pub zeros : (n w : ℕ) → slice_index (replicate n 0) w ≡ 0
zeros zero w = refl
zeros (suc n) zero = refl
zeros (suc n) (suc w) = zeros n w

-- a word that is not 0 is one of the words
pub in_words : (words : List ℕ) (at : ℕ) → 0 < slice_index words at → at < length words
in_words words at some = elim (cases_lt at (length words)) [
  | inl within ↦ within
  | inr past ↦ let none = get_or_past words at 0 past in absurd (omega arith)
]

pub one_at : (n bit : ℕ) → 2 ^ bit ≤ n → n < 2 * 2 ^ bit → bit_at n bit ≡ 1
one_at n bit least most = ap (λ m. m % 2) (div-eq_of_lt-le {k = 1} (2 ^ bit) (omega arith) (omega arith))

pub bit_of-at : (words : List ℕ) (at bit : ℕ) → bit < 64 → bit_of words (64 * at + bit) ≡ bit_at (slice_index words at) bit
bit_of-at words at bit within =
    let a : (64 * at + bit) / 64 ≡ at = omega arith in
    let b : (64 * at + bit) % 64 ≡ bit = omega arith in
    ap (λ k. bit_at (slice_index words k) ((64 * at + bit) % 64)) a ∙ ap (bit_at (slice_index words at)) b

pub none_in_zero : (words : List ℕ) (i : ℕ) → slice_index words (i / 64) ≡ 0 → bit_of words i ≡ 0
none_in_zero words i none = ap (λ n. bit_at n (i % 64)) none ∙ bit_at-zero (i % 64)

-- a word is as its bit says
pub filled_some : (words : List ℕ) (filled at : ℕ) → IsFilled words filled → bit_at filled at ≡ 1 → 0 < slice_index words at
filled_some words filled at ok one = elim (ok at) [ inl some ↦ some.1 | inr none ↦ absurd (omega (arith, none.0)) ]

pub filled_none : (words : List ℕ) (filled i : ℕ) → IsFilled words filled → bit_at filled (i / 64) ≡ 0 → bit_of words i ≡ 0
filled_none words filled i ok zero_here = elim (ok (i / 64)) [ inl some ↦ absurd (omega (arith, some.0)) | inr none ↦ none_in_zero words i none.1 ]

-- the lowest bit of a word that its bit says is not 0 is a place that is taken
pub record HasLowest (words : List ℕ) (at : ℕ) : Type 0 where
  pub within : at < length words
  pub bit : trailing_zeros w64 (slice_index words at) < 64
  pub taken : bit_of words (64 * at + trailing_zeros w64 (slice_index words at)) ≡ 1

pub has_lowest : (words : List ℕ) (filled at : ℕ) → IsFilled words filled → bit_at filled at ≡ 1 → slice_index words at < 2 ^ 64 → HasLowest words at
has_lowest words filled at ok one fits =
    let some = filled_some words filled at ok one in
    let bit = bit_at-trailing_zeros w64 (slice_index words at) some fits in
    record { within = in_words words at some; bit = bit.0; taken = bit_of-at words at _ bit.0 ∙ bit.1 }

-- no place is taken between the one that is asked from and the one that is found
pub none_before : (words : List ℕ) (filled from at bit i : ℕ) → IsFilled words filled
    → ((k : ℕ) → from % 64 ≤ k → bit_at (slice_index words (from / 64)) k ≡ 0)
    → ((k : ℕ) → from / 64 + 1 ≤ k → k < at → bit_at filled k ≡ 0) → ((k : ℕ) → k < bit → bit_at (slice_index words at) k ≡ 0)
    → bit < 64 → from ≤ i → i < 64 * at + bit → bit_of words i ≡ 0
none_before words filled from at bit i ok here between there within low high = elim (cases_eq (i / 64) (from / 64)) [
  | inl same ↦ ap (λ k. bit_at (slice_index words k) (i % 64)) same ∙ here (i % 64) (omega arith)
  | inr later ↦ elim (cases_eq (i / 64) at) [
    | inl same ↦ ap (λ k. bit_at (slice_index words k) (i % 64)) same ∙ there (i % 64) (omega arith)
    | inr other ↦ filled_none words filled i ok (between (i / 64) (omega arith) (omega arith))
  ]
]

-- no place is taken above the highest bit of the last word that is not 0
pub none_after : (words : List ℕ) (filled at bit i : ℕ) → IsFilled words filled → ((k : ℕ) → at < k → bit_at filled k ≡ 0)
    → slice_index words at < 2 * 2 ^ bit → bit < 64 → 64 * at + bit < i → bit_of words i ≡ 0
none_after words filled at bit i ok above most within high = elim (cases_eq (i / 64) at) [
  | inl same ↦ ap (λ k. bit_at (slice_index words k) (i % 64)) same ∙ none_above (slice_index words at) bit (i % 64) most (omega arith)
  | inr other ↦ filled_none words filled i ok (above (i / 64) (omega arith))
]

-- a word that has a bit cleared and is not 0 was not 0
pub filled_still : (words : List ℕ) (filled at bit word : ℕ) → at < length words → IsFilled words filled → bit_at word bit ≡ 0
    → ((k : ℕ) → k ≢ bit → bit_at word k ≡ bit_at (slice_index words at) k) → 0 < word → IsFilled (set words at word) filled
filled_still words filled at bit word within ok clear others some w = elim (cases_eq w at) [
  | inl here ↦ subst (λ k. ((bit_at filled k ≡ 1) × (0 < slice_index (set words at word) k)) ⊎ ((bit_at filled k ≡ 0) × (slice_index (set words at word) k ≡ 0))) (sym here) (elim (ok at) [
    | inl old ↦ inl (old.0, rw (get_or-set_same words at word 0 within) some)
    | inr old ↦ absurd (was_some old.1)
  ])
  | inr other ↦ rw (get_or-set_other words at w word 0 other) (ok w)
]
  where
    was_some : slice_index words at ≡ 0 → ⊥
    was_some none =
        let nothing : word ≡ 0 = same_from_bits word 0 (λ k. elim (cases_eq k bit) [
          | inl same ↦ ap (bit_at word) same ∙ clear ∙ sym (bit_at-zero k)
          | inr other ↦ others k other ∙ ap (λ n. bit_at n k) none
        ]) in
        omega arith
