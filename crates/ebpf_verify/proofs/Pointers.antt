-- Pointers moved by numbers: signed readings keep their order within one sign, and offsets near the base fit 64 bits.
use Rattle.std.proofs.Common.{◌≡◌, ℕ, ◌≤◌, ◌^◌, ℤ, pos, negsuc, ◌+ℤ◌, ◌≤ℤ◌, Bool, true, false, cond, Some, None, refl, sym, subst, arith, rules, inl, inr, ◌⊎◌}
use Rattle.std.specs.Prelude.{FitsSigned, nat_abs, nat_lt, nat_le, ◌||◌}
use Rattle.std.specs.Int.{w64}
use Rattle.std.proofs.lemmas.Bool.Decides.{nat_tests}
use Rattle.std.proofs.lemmas.Int.{ints}
use Rattle.ebpf_insn.specs.Arithmetic.{signed_of}
use Rattle.ebpf_range.specs.declared.range.Range.{Range}
use Rattle.ebpf_range.specs.Interval.{IsWithin}
use Rattle.ebpf_verify.specs.Pointers.{signed_ends, moved_end}

one_true : (a b : Bool) → (a || b) ≡ true → (a ≡ true) ⊎ (b ≡ true)
one_true true b e = inl refl
one_true false b e = inr e

low_half : (lo n hi : ℕ) → nat_lt hi (2 ^ 63) ≡ true → lo ≤ n → n ≤ hi → (signed_of lo ≤ℤ signed_of n) × (signed_of n ≤ℤ signed_of hi)
low_half lo n hi t l h = (grind (arith, ints, nat_tests), grind (arith, ints, nat_tests))

high_half : (lo n hi : ℕ) → nat_le (2 ^ 63) lo ≡ true → lo ≤ n → n ≤ hi → (signed_of lo ≤ℤ signed_of n) × (signed_of n ≤ℤ signed_of hi)
high_half lo n hi t l h = (grind (arith, ints, nat_tests), grind (arith, ints, nat_tests))

in_one_half : (lo n hi : ℕ) → (nat_lt hi (2 ^ 63) ≡ true) ⊎ (nat_le (2 ^ 63) lo ≡ true) → lo ≤ n → n ≤ hi
    → (signed_of lo ≤ℤ signed_of n) × (signed_of n ≤ℤ signed_of hi)
in_one_half lo n hi (inl t) l h = low_half lo n hi t l h
in_one_half lo n hi (inr t) l h = high_half lo n hi t l h

-- a test that gives a value held
given : {A : Type 0} (t : Bool) (x y : A) → cond t (Some x) None ≡ Some y → (t ≡ true) × (x ≡ y)
given true x y e = (refl, cc)
given false x y e = absurd (cc)

-- a test that withholds a value failed
not_withheld : {A : Type 0} (t : Bool) (x y : A) → cond t None (Some x) ≡ Some y → (t ≡ false) × (x ≡ y)
not_withheld true x y e = absurd (cc)
not_withheld false x y e = (refl, cc)

-- a number of a range of one sign, read as a signed one, lies between the ends
pub signed_between : (a : Range) (n : ℕ) (ends : ℤ × ℤ) → IsWithin n a → signed_ends a ≡ Some ends → (ends.0 ≤ℤ signed_of n) × (signed_of n ≤ℤ ends.1)
signed_between a n ends h e =
    let g = given (nat_lt a.hi (2 ^ 63) || nat_le (2 ^ 63) a.lo) (signed_of a.lo, signed_of a.hi) ends e in
    let P : (ℤ × ℤ) → Type 0 = λ s. (s.0 ≤ℤ signed_of n) × (signed_of n ≤ℤ s.1) in
    subst P g.1 (in_one_half a.lo n a.hi (one_true (nat_lt a.hi (2 ^ 63)) (nat_le (2 ^ 63) a.lo) g.0) h.0 h.1)

-- an end that was moved is near the base
pub near_end : (k by e : ℤ) → moved_end k by ≡ Some e → (e ≡ k +ℤ by) × (nat_abs e ≤ 2 ^ 29)
near_end k by e h =
    let g = not_withheld (nat_lt (2 ^ 29) (nat_abs (k +ℤ by))) (k +ℤ by) e h in
    let near : nat_abs (k +ℤ by) ≤ 2 ^ 29 = not_above (nat_abs (k +ℤ by)) g.0 in
    (sym g.1, subst (λ (z : ℤ). nat_abs z ≤ 2 ^ 29) g.1 near)
  where
    not_above : (n : ℕ) → nat_lt (2 ^ 29) n ≡ false → n ≤ 2 ^ 29
    not_above n t = grind (arith, nat_tests)

pub near_fits : (k : ℤ) → nat_abs k ≤ 2 ^ 29 → FitsSigned w64 k
near_fits (pos n) h = search (rules, ints)
near_fits (negsuc n) h = search (rules, ints)

below_pos : (n : ℕ) (b : ℤ) → nat_abs b ≤ 2 ^ 29 → pos n ≤ℤ b → n ≤ 2 ^ 29
below_pos n (pos m) h le = omega (arith, ints)
below_pos n (negsuc m) h le = absurd (omega (arith, ints))

above_neg : (n : ℕ) (a : ℤ) → nat_abs a ≤ 2 ^ 29 → a ≤ℤ negsuc n → nat_abs (negsuc n) ≤ 2 ^ 29
above_neg n (pos m) h le = absurd (omega (arith, ints))
above_neg n (negsuc m) h le = omega (arith, ints)

-- between two ends that are near the base
pub between_near : (a b k : ℤ) → nat_abs a ≤ 2 ^ 29 → nat_abs b ≤ 2 ^ 29 → a ≤ℤ k → k ≤ℤ b → nat_abs k ≤ 2 ^ 29
between_near a b (pos n) near_a near_b low high = below_pos n b near_b high
between_near a b (negsuc n) near_a near_b low high = above_neg n a near_a low
