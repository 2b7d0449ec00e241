-- Pointers that are moved by numbers, and the sums and differences of values.
use Rattle.std.specs.Prelude.{◌^◌, ℤ, pos, ◌+ℤ◌, ◌-ℤ◌, nat_lt, nat_le, nat_abs, ◌||◌, if◌then◌else◌, Option, Some, None}
use Rattle.ebpf_insn.specs.declared.insn.AluOp.TheVariants as op
use Rattle.ebpf_insn.specs.declared.insn.Width.TheVariants.{W64}
use Rattle.ebpf_insn.specs.Arithmetic.{signed_of}
use Rattle.ebpf_range.specs.declared.range.Range.{Range}
use Rattle.ebpf_range.specs.Results.{result_range}
use Rattle.ebpf_state.specs.declared.value.Abs.{Abs}
use Rattle.ebpf_state.specs.declared.value.Abs.TheVariants.{Num, Stk, Ctx, Ob}

-- the ends of a range read as signed numbers, where all of it has one sign
abbrev pub signed_ends : Range → Option (ℤ × ℤ)
signed_ends a = if nat_lt a.hi (2 ^ 63) || nat_le (2 ^ 63) a.lo then Some (signed_of a.lo, signed_of a.hi) else None

-- an end of a pointer's offset, moved; at most 2^29 bytes from the base
abbrev pub moved_end : ℤ → ℤ → Option ℤ
moved_end end by = if nat_lt (2 ^ 29) (nat_abs (end +ℤ by)) then None else Some (end +ℤ by)

abbrev pub with_end : Option ℤ → (ℤ → Abs) → Option Abs
with_end (Some a) pointer = Some (pointer a)
with_end None pointer = None

abbrev pub with_ends : Option ℤ → Option ℤ → (ℤ → ℤ → Abs) → Option Abs
with_ends (Some a) (Some b) pointer = Some (pointer a b)
with_ends _ _ pointer = None

abbrev pub moved_by : Abs → Option (ℤ × ℤ) → Option Abs
moved_by (Stk k) (Some by) = with_end (moved_end k by.0) Stk
moved_by (Ctx a b) (Some by) = with_ends (moved_end a by.0) (moved_end b by.1) Ctx
moved_by (Ob call a b) (Some by) = with_ends (moved_end a by.0) (moved_end b by.1) (Ob call)
moved_by _ _ = None

-- a pointer moved by a number of a range
abbrev pub moved : Abs → Range → Option Abs
moved pointer by = moved_by pointer (signed_ends by)

-- a range's ends, of the numbers' negations
abbrev pub opposite_ends : Option (ℤ × ℤ) → Option (ℤ × ℤ)
opposite_ends None = None
opposite_ends (Some by) = Some (pos 0 -ℤ by.1, pos 0 -ℤ by.0)

-- a pointer moved back by a number of a range
abbrev pub moved_back : Abs → Range → Option Abs
moved_back pointer by = moved_by pointer (opposite_ends (signed_ends by))

-- the sum of two values at 64 bits
abbrev pub sum_value : Abs → Abs → Option Abs
sum_value (Num a) (Num b) = Some (Num (result_range op.Add W64 a b))
sum_value pointer (Num by) = moved pointer by
sum_value (Num by) pointer = moved pointer by
sum_value _ _ = None

-- the difference of two values at 64 bits
abbrev pub difference_value : Abs → Abs → Option Abs
difference_value (Num a) (Num b) = Some (Num (result_range op.Sub W64 a b))
difference_value pointer (Num by) = moved_back pointer by
difference_value _ _ = None
