-- Bits of words: those from one on, the lowest and the highest that are set.
use Rattle.std.proofs.Common.{◌≡◌, ◌≢◌, ℕ, suc, ◌-◌, ◌*◌, ◌%◌, ◌^◌, ◌<◌, ◌≤◌, inl, inr, bit_and, w64, sym, ap, ◌∙◌, arith}
use Rattle.std.specs.Int.{bit_at, trailing_zeros}
use Rattle.std.proofs.Math.Nat.{pow-succ'}
use Rattle.std.proofs.lemmas.Bool.{cases_lt}
use Rattle.std.proofs.lemmas.Nat.{and_le_l}
use Rattle.std.proofs.lemmas.Nat.Bits.{bit_at_and, bit_at_clear_other, bit_at_above, bit_at-lt, bit_at-zero, bit_at-trailing_zeros}
use Rattle.std.proofs.lemmas.Nat.Bits.{bit_at_mask_inside, bit_at_mask_below, ones_shl}

-- the bits of a word from k on, as the code masks them
abbrev pub masked : ℕ → ℕ → ℕ
masked n k = bit_and n (18446744073709551615 * 2 ^ k % 18446744073709551616)

bit_at-masked : (n k i : ℕ) → k < 64 → bit_at (masked n k) i ≡ bit_at (bit_and n (2 ^ 64 - 2 ^ k)) i
bit_at-masked n k i within = ap (λ m. bit_at (bit_and n m) i) (ones_shl 64 k (omega arith))

pub masked_below : (n k i : ℕ) → k < 64 → i < k → bit_at (masked n k) i ≡ 0
masked_below n k i within low =
    let e = bit_at-masked n k i within in
    let both = bit_at_and n (2 ^ 64 - 2 ^ k) i in
    let none = bit_at_mask_below k 64 i low in
    omega arith

pub masked_from : (n k i : ℕ) → k < 64 → n < 2 ^ 64 → k ≤ i → bit_at (masked n k) i ≡ bit_at n i
masked_from n k i within fits from = elim (cases_lt i 64) [
  | inl low ↦
      let e = bit_at-masked n k i within in
      let both = bit_at_and n (2 ^ 64 - 2 ^ k) i in
      let one = bit_at_mask_inside k 64 i from low in
      let bit = bit_at-lt n i in
      omega arith
  | inr high ↦
      let m = masked n k in
      let small : m < 2 ^ 64 = omega (arith, and_le_l n (18446744073709551615 * 2 ^ k % 18446744073709551616)) in
      bit_at_above m 64 i small high ∙ sym (bit_at_above n 64 i fits high)
]

pub none_from : (n k : ℕ) → k < 64 → n < 2 ^ 64 → masked n k ≡ 0 → (i : ℕ) → k ≤ i → bit_at n i ≡ 0
none_from n k within fits none i from = sym (masked_from n k i within fits from) ∙ ap (λ m. bit_at m i) none ∙ bit_at-zero i

pub record IsLowestFrom (n k bit : ℕ) : Type 0 where
  pub from : k ≤ bit
  pub within : bit < 64
  pub one : bit_at n bit ≡ 1
  pub lowest : (i : ℕ) → k ≤ i → i < bit → bit_at n i ≡ 0

pub lowest_masked : (n k : ℕ) → k < 64 → n < 2 ^ 64 → 0 < masked n k → IsLowestFrom n k (trailing_zeros w64 (masked n k))
lowest_masked n k within fits some =
    let m = masked n k in
    let small : m < 2 ^ 64 = omega (arith, and_le_l n (18446744073709551615 * 2 ^ k % 18446744073709551616)) in
    let is = bit_at-trailing_zeros w64 m some small in
    let from : k ≤ trailing_zeros w64 m = elim (cases_lt (trailing_zeros w64 m) k) [
      | inl low ↦ let zero_here = masked_below n k (trailing_zeros w64 m) within low in absurd (omega (arith, is.1))
      | inr high ↦ high
    ] in
    record {
      from = from;
      within = is.0;
      one = sym (masked_from n k (trailing_zeros w64 m) within fits from) ∙ is.1;
      lowest = λ i low high. sym (masked_from n k i within fits low) ∙ is.2 i high;
    }

pub cleared_other : (n k i : ℕ) → k < 64 → n < 2 ^ 64 → i ≢ k → bit_at (bit_and n (18446744073709551615 - 1 * 2 ^ k % 18446744073709551616)) i ≡ bit_at n i
cleared_other n k i within fits other = elim (cases_lt i 64) [
  | inl low ↦ bit_at_clear_other w64 n k within i low other
  | inr high ↦
      let m = bit_and n (18446744073709551615 - 1 * 2 ^ k % 18446744073709551616) in
      let small : m < 2 ^ 64 = omega (arith, and_le_l n (18446744073709551615 - 1 * 2 ^ k % 18446744073709551616)) in
      bit_at_above m 64 i small high ∙ sym (bit_at_above n 64 i fits high)
]

pub none_above : (n k i : ℕ) → n < 2 * 2 ^ k → k < i → bit_at n i ≡ 0
none_above n k i fits above = bit_at_above n (suc k) i (omega (arith, pow-succ' 2 k)) (omega arith)
