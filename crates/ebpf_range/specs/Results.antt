-- The table of the ranges of results: a row an operation, in the order of the RFC's codes.
use Rattle.std.specs.Prelude.{ℕ, ◌+◌, ◌-◌, ◌*◌, ◌/◌, ◌^◌, ◌&&◌, ◌==◌, nat_lt, nat_le, min, max, Bool, if◌then◌else◌}
use Rattle.std.specs.Int.{w64, leading_zeros}
use Rattle.ebpf_insn.specs.declared.insn.Width.{Width}
use Rattle.ebpf_insn.specs.declared.insn.Width.TheVariants.{W32, W64}
use Rattle.ebpf_insn.specs.declared.insn.AluOp.{AluOp}
use Rattle.ebpf_insn.specs.declared.insn.AluOp.TheVariants as op
use Rattle.ebpf_insn.specs.declared.insn.Order.{Order}
use Rattle.ebpf_insn.specs.Arithmetic.{modulus, factor_at, result_at, extension_at, negation_at, swapped_bits, swap_of}
use Rattle.ebpf_range.specs.declared.range.Range.{Range}
use Rattle.ebpf_range.specs.Interval.{constant, span, up_to, all_below, low}

abbrev pub is_constant : Range → Bool
is_constant a = a.lo == a.hi

-- 2^n - 1 for the least n such that both ranges lie below 2^n: 64 less the zeros above the highest bit
abbrev pub up : Range → Range → ℕ
up a b = 2 ^ (64 - leading_zeros w64 (max a.hi b.hi)) - 1

-- ---- rows with more than one case, on ranges of numbers below m

-- no sum wraps, each one wraps, or else all numbers below m
abbrev pub sum_of : ℕ → Range → Range → Range
sum_of m a b =
    if nat_lt (a.hi + b.hi) m then span (a.lo + b.lo) (a.hi + b.hi) else (
    if nat_le m (a.lo + b.lo) then span (a.lo + b.lo - m) (a.hi + b.hi - m) else
    all_below m)

-- no difference wraps, each one wraps, or else all numbers below m
abbrev pub difference_of : ℕ → Range → Range → Range
difference_of m a b =
    if nat_le b.hi a.lo then span (a.lo - b.hi) (a.hi - b.lo) else (
    if nat_lt a.hi b.lo then span (a.lo + m - b.hi) (a.hi + m - b.lo) else
    all_below m)

abbrev pub product_of : ℕ → Range → Range → Range
product_of m a b = if nat_lt (a.hi * b.hi) m then span (a.lo * b.lo) (a.hi * b.hi) else all_below m

-- a divisor may be zero where the range begins there
abbrev pub quotient_of : Range → Range → Range
quotient_of a b = if nat_lt 0 b.lo then span (a.lo / b.hi) (a.hi / b.lo) else up_to a.hi

abbrev pub remainder_of : Range → Range → Range
remainder_of a b = if nat_lt 0 b.lo then up_to (min a.hi (b.hi - 1)) else up_to a.hi

-- a shift by a known count is a product, or a quotient
abbrev pub left_shift_of : Width → Range → Range → Range
left_shift_of width a b = if is_constant b then product_of (modulus width) a (constant (factor_at width b.lo)) else all_below (modulus width)

abbrev pub right_shift_of : Width → Range → Range → Range
right_shift_of width a b = if is_constant b then quotient_of a (constant (factor_at width b.lo)) else up_to a.hi

-- and so it is with copies of the sign where there is none
abbrev pub signed_shift_of : Width → Range → Range → Range
signed_shift_of width a b = if is_constant b && nat_lt a.hi (modulus width / 2) then right_shift_of width a b else all_below (modulus width)

-- ---- the table

abbrev pub row : AluOp → Width → Range → Range → Range
row op.Add width a b = sum_of (modulus width) a b
row op.Sub width a b = difference_of (modulus width) a b
row op.Mul width a b = product_of (modulus width) a b
row op.Div width a b = quotient_of a b
row op.SDiv width a b = all_below (modulus width)
row op.Or width a b = span (max a.lo b.lo) (up a b)
row op.And width a b = up_to (min a.hi b.hi)
row op.Lsh width a b = left_shift_of width a b
row op.Rsh width a b = right_shift_of width a b
row op.Rem width a b = remainder_of a b
row op.SRem width a b = all_below (modulus width)
row op.Xor width a b = up_to (up a b)
row op.Mov width a b = b
row op.Arsh width a b = signed_shift_of width a b

-- at 32 bits the operands are replaced by their low halves first
abbrev pub low_at : Width → Range → Range
low_at W32 a = low a
low_at W64 a = a

-- where both operands are constant so is the result
abbrev pub row_or_constant : AluOp → Width → Range → Range → Range
row_or_constant o width a b = if is_constant a && is_constant b then constant (result_at o width a.lo b.lo) else row o width a b

abbrev pub result_range : AluOp → Width → Range → Range → Range
result_range o width a b = row_or_constant o width (low_at width a) (low_at width b)

-- ---- operations on one number

abbrev pub extension_or_any : Width → ℕ → Range → Range
extension_or_any width bits a = if is_constant a then constant (extension_at width bits a.lo) else all_below (modulus width)

abbrev pub extension_range : Width → ℕ → Range → Range
extension_range width bits a = extension_or_any width bits (low_at width a)

abbrev pub negation_or_any : Width → Range → Range
negation_or_any width a = if is_constant a then constant (negation_at width a.lo) else all_below (modulus width)

abbrev pub negation_range : Width → Range → Range
negation_range width a = negation_or_any width (low_at width a)

abbrev pub swap_range : Order → ℕ → Range → Range
swap_range order bits a = if is_constant a then constant (swap_of order bits a.lo) else all_below (2 ^ swapped_bits bits)
