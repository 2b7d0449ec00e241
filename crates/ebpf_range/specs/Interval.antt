-- Ranges: which numbers they hold, the hull of two, and the low half.
use Rattle.std.specs.Prelude.{◌≤◌, ◌<◌, ◌-◌, ◌/◌, ◌%◌, ◌^◌, ℕ, if◌then◌else◌, ◌==◌, nat_lt, min, max}
use Rattle.std.proofs.Common.{le_refl, le_trans, arith}
use Rattle.std.proofs.Math.Nat.{min-le_left, min-le_right, le-max_left}
use Rattle.ebpf_range.specs.declared.range.Range.{Range}

-- the range holds the number
abbrev pub IsWithin : ℕ → Range → Type 0
IsWithin n a = (a.lo ≤ n) × (n ≤ a.hi)

abbrev pub constant : ℕ → Range
constant n = record { lo = n; hi = n; ordered = le_refl n }

-- the numbers from lo to hi. In no row of the tables is lo above hi; where it were, the range would begin at hi
abbrev pub span : ℕ → ℕ → Range
span lo hi = record { lo = min lo hi; hi = hi; ordered = min-le_right lo hi }

-- no number is below zero
pub zero-le : (n : ℕ) → 0 ≤ n
zero-le n = omega arith

-- the numbers up to hi
abbrev pub up_to : ℕ → Range
up_to hi = record { lo = 0; hi = hi; ordered = zero-le hi }

-- all numbers below a modulus
abbrev pub all_below : ℕ → Range
all_below m = up_to (m - 1)

-- both are ranges of numbers below a modulus
pub record AreBelow (m : ℕ) (a b : Range) : Type 0 where
  pub left : a.hi < m
  pub right : b.hi < m

abbrev pub hull : Range → Range → Range
hull a b = record {
  lo = min a.lo b.lo;
  hi = max a.hi b.hi;
  ordered = le_trans (min-le_left a.lo b.lo) (le_trans a.ordered (le-max_left a.hi b.hi));
}

-- the low half: as it is where it fits, the same stretch where the upper halves agree, else all of it
abbrev pub low : Range → Range
low a =
    if nat_lt a.hi (2 ^ 32) then a else (
    if (a.lo / 2 ^ 32) == (a.hi / 2 ^ 32) then span (a.lo % 2 ^ 32) (a.hi % 2 ^ 32) else
    all_below (2 ^ 32))
