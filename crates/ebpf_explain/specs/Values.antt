-- What is known of a value, as text.
use Rattle.std.specs.Prelude.{ℕ, ℤ, ◌-◌, ◌^◌, ◌==◌, Bool, ◌&&◌, if◌then◌else◌, List, [], ◌++◌, codes, decimal}
use Rattle.std.specs.Ordering.{int_eq}
use Rattle.ebpf_text.specs.Operands.{offset_text}
use Rattle.ebpf_range.specs.declared.range.Range.{Range}
use Rattle.ebpf_state.specs.declared.value.Abs.{Abs}
use Rattle.ebpf_state.specs.declared.value.Abs.TheVariants.{Unset, Num, Stk, Ctx, Ob, May}

-- nothing is known of a number that may be any of 64 bits
abbrev pub is_any : Range → Bool
is_any r = (r.lo == 0) && (r.hi == 2 ^ 64 - 1)

-- the number, or the ends of the range that it is of
abbrev pub known_range : Range → List ℕ
known_range r = if r.lo == r.hi then decimal r.lo else decimal r.lo ++ (codes ".." ++ decimal r.hi)

abbrev pub range_text : Range → List ℕ
range_text r = if is_any r then codes "any number" else known_range r

-- an offset, or the ends that it is between
abbrev pub offsets_text : ℤ → ℤ → List ℕ
offsets_text low high = offset_text low ++ (if int_eq low high then [] else codes ".." ++ offset_text high)

-- a number; a pointer to the stack, to the context, or to the object that a call was granted; or an answer not compared with null yet
abbrev pub value_text : Abs → List ℕ
value_text Unset = []
value_text (Num r) = range_text r
value_text (Stk offset) = codes "stack" ++ offset_text offset
value_text (Ctx low high) = codes "context" ++ offsets_text low high
value_text (Ob call low high) = codes "object of " ++ (decimal call ++ offsets_text low high)
value_text (May call) = codes "answer of " ++ decimal call
