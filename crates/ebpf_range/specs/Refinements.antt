-- The table of the ranges after a branch: what is known of both operands where a condition holds, in the order of `Cond`.
-- `None` says that it never does.
use Rattle.std.specs.Prelude.{ℕ, ◌+◌, ◌-◌, ◌/◌, ◌^◌, Bool, true, not, ◌&&◌, ◌||◌, ◌==◌, nat_lt, nat_le, min, max, if◌then◌else◌, Option, Some, None}
use Rattle.ebpf_insn.specs.declared.insn.Width.{Width}
use Rattle.ebpf_insn.specs.declared.insn.Width.TheVariants.{W32, W64}
use Rattle.ebpf_insn.specs.declared.insn.Cond.{Cond}
use Rattle.ebpf_insn.specs.declared.insn.Cond.TheVariants as on
use Rattle.ebpf_insn.specs.Arithmetic.{modulus, is_met}
use Rattle.ebpf_range.specs.declared.range.Range.{Range}
use Rattle.ebpf_range.specs.Interval.{span}
use Rattle.ebpf_range.specs.Results.{is_constant}

-- what both ranges hold
abbrev pub after_eq : Range → Range → Option (Range × Range)
after_eq a b =
    if nat_lt a.hi b.lo || nat_lt b.hi a.lo then None else
    Some (span (max a.lo b.lo) (min a.hi b.hi), span (max a.lo b.lo) (min a.hi b.hi))

-- a range without one number, where that is an end of it
abbrev pub without : ℕ → Range → Range
without n a = if a.lo == n then span (a.lo + 1) a.hi else (if a.hi == n then span a.lo (a.hi - 1) else a)

abbrev pub after_ne : Range → Range → Option (Range × Range)
after_ne a b =
    if is_constant a && is_constant b && (a.lo == b.lo) then None else (
    if is_constant b then Some (without b.lo a, b) else (
    if is_constant a then Some (a, without a.lo b) else
    Some (a, b)))

abbrev pub after_gt : Range → Range → Option (Range × Range)
after_gt a b = if nat_le a.hi b.lo then None else Some (span (max a.lo (b.lo + 1)) a.hi, span b.lo (min b.hi (a.hi - 1)))

abbrev pub after_ge : Range → Range → Option (Range × Range)
after_ge a b = if nat_lt a.hi b.lo then None else Some (span (max a.lo b.lo) a.hi, span b.lo (min b.hi a.hi))

abbrev pub exchange : Option (Range × Range) → Option (Range × Range)
exchange None = None
exchange (Some p) = Some (p.1, p.0)

-- nothing is learnt but where both are constant
abbrev pub unless_false : Bool → Range → Range → Option (Range × Range)
unless_false holds a b = if is_constant a && is_constant b && not holds then None else Some (a, b)

-- no number of either range has the sign, so that signed conditions are as the unsigned ones
abbrev pub have_no_sign : Width → Range → Range → Bool
have_no_sign width a b = nat_lt a.hi (modulus width / 2) && nat_lt b.hi (modulus width / 2)

-- ---- the table

abbrev pub after : Cond → Width → Range → Range → Option (Range × Range)
after on.Eq width a b = after_eq a b
after on.Ne width a b = after_ne a b
after on.Gt width a b = after_gt a b
after on.Ge width a b = after_ge a b
after on.Lt width a b = exchange (after_gt b a)
after on.Le width a b = exchange (after_ge b a)
after on.Set width a b = unless_false (is_met on.Set width a.lo b.lo) a b
after on.SGt width a b = if have_no_sign width a b then after_gt a b else unless_false (is_met on.SGt width a.lo b.lo) a b
after on.SGe width a b = if have_no_sign width a b then after_ge a b else unless_false (is_met on.SGe width a.lo b.lo) a b
after on.SLt width a b = if have_no_sign width a b then exchange (after_gt b a) else unless_false (is_met on.SLt width a.lo b.lo) a b
after on.SLe width a b = if have_no_sign width a b then exchange (after_ge b a) else unless_false (is_met on.SLe width a.lo b.lo) a b

-- where a condition doesn't hold its opposite does
abbrev pub after_not : Cond → Width → Range → Range → Option (Range × Range)
after_not on.Eq width a b = after on.Ne width a b
after_not on.Ne width a b = after on.Eq width a b
after_not on.Gt width a b = after on.Le width a b
after_not on.Ge width a b = after on.Lt width a b
after_not on.Lt width a b = after on.Ge width a b
after_not on.Le width a b = after on.Gt width a b
after_not on.Set width a b = unless_false (not (is_met on.Set width a.lo b.lo)) a b
after_not on.SGt width a b = after on.SLe width a b
after_not on.SGe width a b = after on.SLt width a b
after_not on.SLt width a b = after on.SGe width a b
after_not on.SLe width a b = after on.SGt width a b

-- at 32 bits nothing is learnt unless both ranges lie below 2^32
abbrev pub fits : Width → Range → Range → Bool
fits W32 a b = nat_lt a.hi (2 ^ 32) && nat_lt b.hi (2 ^ 32)
fits W64 a b = true

abbrev pub refinement : Cond → Width → Range → Range → Bool → Option (Range × Range)
refinement condition width a b taken =
    if not (fits width a b) then Some (a, b) else (
    if taken then after condition width a b else
    after_not condition width a b)
