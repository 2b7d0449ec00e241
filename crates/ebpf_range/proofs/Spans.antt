-- Ranges with the same ends are equal.
use Rattle.std.proofs.Common.{◌≡◌, ◌≤◌, ℕ, Bool, false, cond, Option, Some, None, ap, ap₂, subst, arith}
use Rattle.std.specs.Coded.{le_prop}
use Rattle.ebpf_range.specs.declared.range.Range.{Range}
use Rattle.ebpf_range.specs.Interval.{span}

pub same_ends : (a b : Range) → a.lo ≡ b.lo → a.hi ≡ b.hi → a ≡ b
same_ends a b low high = subst (λ (l : ℕ). (k : l ≤ b.hi) → a ≡ record { lo = l; hi = b.hi; ordered = k }) low at_low b.ordered
  where
    at_both : (k : a.lo ≤ a.hi) → a ≡ record { lo = a.lo; hi = a.hi; ordered = k }
    at_both k = ap (λ (o : a.lo ≤ a.hi). record { lo = a.lo; hi = a.hi; ordered = o }) (le_prop a.ordered k)

    at_low : (k : a.lo ≤ b.hi) → a ≡ record { lo = a.lo; hi = b.hi; ordered = k }
    at_low k = subst (λ (h : ℕ). (o : a.lo ≤ h) → a ≡ record { lo = a.lo; hi = h; ordered = o }) high at_both k

pub is_span : (a : Range) (lo hi : ℕ) → a.lo ≡ lo → a.hi ≡ hi → a ≡ span lo hi
is_span a lo hi low high = same_ends a (span lo hi) (omega (arith, low, high, a.ordered)) high

abbrev pub both : Range → Range → Option (Range × Range)
both a b = Some (a, b)

-- two ranges with these ends, where a test fails
pub two_spans : (test : Bool) (a b : Range) (al ah bl bh : ℕ) → test ≡ false → a.lo ≡ al → a.hi ≡ ah → b.lo ≡ bl → b.hi ≡ bh
    → both a b ≡ cond test None (both (span al ah) (span bl bh))
two_spans test a b al ah bl bh t p q r s = rw t (ap₂ both (is_span a al ah p q) (is_span b bl bh r s))
