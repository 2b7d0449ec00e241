-- What is known of one value.
use Rattle.std.specs.Prelude.{Bool, true, false, if◌then◌else◌, ◌==◌}
use Rattle.std.specs.Int.{int_min, int_max}
use Rattle.std.specs.Ordering.{int_eq}
use Rattle.ebpf_range.specs.Interval.{hull}
use Rattle.ebpf_state.specs.declared.value.Abs.{Abs}
use Rattle.ebpf_state.specs.declared.value.Abs.TheVariants.{Unset, Num, Stk, Ctx, Ob, May}

abbrev pub is_unset : Abs → Bool
is_unset Unset = true
is_unset _ = false

abbrev pub is_pointer : Abs → Bool
is_pointer (Stk k) = true
is_pointer (Ctx a b) = true
is_pointer (Ob r a b) = true
is_pointer _ = false

abbrev pub is_may : Abs → Bool
is_may (May r) = true
is_may _ = false

-- what is known where two paths meet, one of which knows each
abbrev pub joined_value : Abs → Abs → Abs
joined_value (Num a) (Num b) = Num (hull a b)
joined_value (Stk a) (Stk b) = if int_eq a b then Stk a else Unset
joined_value (Ctx a b) (Ctx c d) = Ctx (int_min a c) (int_max b d)
joined_value (Ob r a b) (Ob q c d) = if r == q then Ob r (int_min a c) (int_max b d) else Unset
joined_value (May r) (May q) = if r == q then May r else Unset
joined_value _ _ = Unset
