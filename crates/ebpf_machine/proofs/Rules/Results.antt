-- What an accepted operation computes is what its rule says.
use Rattle.std.proofs.Common.{◌≡◌, ℕ, ◌<◌, ◌^◌, false, List, Option, Some, None, refl, subst, arith}
use Rattle.std.specs.Prelude.{◌||◌}
use Rattle.ebpf_insn.specs.declared.register.Reg.{Reg}
use Rattle.ebpf_insn.specs.declared.insn.AluOp.{AluOp}
use Rattle.ebpf_insn.specs.declared.insn.AluOp.TheVariants as op
use Rattle.ebpf_insn.specs.declared.insn.Width.{Width}
use Rattle.ebpf_insn.specs.declared.insn.Width.TheVariants.{W32, W64}
use Rattle.ebpf_insn.specs.Arithmetic.{kept_at, extension_at, negation_at, swap_of}
use Rattle.ebpf_insn.specs.declared.insn.Order.{Order}
use Rattle.std.proofs.Math.Nat.{lt_of_lt_of_le}
use Rattle.ebpf_range.specs.declared.range.Range.{Range}
use Rattle.ebpf_range.specs.Interval.{IsWithin, low}
use Rattle.ebpf_range.proofs.ResultLemmas.{IsBounded, low_at-sound, modulus-at_most, extension-below, extension-sound, negation-sound, swap-sound}
use Rattle.ebpf_range.proofs.ResultLemmas.{swap-below, swapped_bits-few}
use Rattle.ebpf_range.proofs.OperationLemmas.{result-below}
use Rattle.ebpf_range.specs.Results.{extension_range, negation_range, swap_range}
use Rattle.ebpf_state.specs.declared.value.Abs.{Abs}
use Rattle.ebpf_state.specs.Abstract.{is_unset, is_pointer, is_may}
use Rattle.ebpf_verify.specs.Operations.{is_frame_pointer, mov64_refusal, unary_refusal, binary_refusal, alu_refusal, unary_value, binary_value, result_of}
use Rattle.ebpf_machine.specs.declared.value.Value.{Value}
use Rattle.ebpf_machine.specs.declared.value.Value.TheVariants.{Number}
use Rattle.ebpf_machine.specs.Effect.{unary, copied, binary, alu_value}
use Rattle.ebpf_machine.specs.Concretization.{IsOf}
use Rattle.ebpf_machine.specs.Sound.{FitsValue, FitsRegister}
use Rattle.ebpf_verify.proofs.Bounded.{IsBoundedValue}
use Rattle.ebpf_machine.proofs.Rules.Operations.{AreOperands, IsNumberOf, none_first, neither, set_value, number_value, IsFitting}
use Rattle.ebpf_machine.proofs.Rules.Additions.{numbers_fit, sum_sound, difference_sound}

-- a function on numbers, and the row that says what is known of its results
pub record IsRow (row : Range → Range) (f : ℕ → ℕ) : Type 0 where
  pub holds : (a : Range) (n : ℕ) → IsBounded a → IsWithin n a → IsWithin (f n) (row a)
  pub below : (n : ℕ) → f n < 2 ^ 64

unary_of_number : (calls : List ℕ) {row : Range → Range} {f : ℕ → ℕ} {a : Abs} {x : Option (Value ℕ)} → IsRow row f
    → (m : IsNumberOf a x) → IsBounded m.range → IsFitting calls (unary_value row a) (unary f x)
unary_of_number calls {f = f} is m bound =
    rw (m.holds, m.is) (record { v = Number (f m.n); is = refl; fits = tt; of = (is.holds m.range m.n bound m.within, is.below m.n) })

-- an operation on one number that is not refused
pub unary_sound : (calls : List ℕ) (slot : ℕ) {row : Range → Range} {f : ℕ → ℕ} (a : Abs) (x : Option (Value ℕ)) (dst : Reg)
    → IsRow row f → unary_refusal a dst ≡ None → IsBoundedValue slot a → IsOf calls a x
    → (is_frame_pointer dst ≡ false) × IsFitting calls (unary_value row a) (unary f x)
unary_sound calls slot a x dst is fine bound h =
    let u = none_first (is_unset a) _ _ fine in
    let b = none_first (is_frame_pointer dst) _ _ u.1 in
    let m = none_first (is_may a) _ _ b.1 in
    let p = none_first (is_pointer a) _ _ m.1 in
    let n = number_value calls a x u.0 m.0 p.0 h in
    (b.0, unary_of_number calls is n (subst (IsBoundedValue slot) n.is bound))

binary_of_numbers : (calls : List ℕ) (o : AluOp) (width : Width) {left right : Abs} {x y : Option (Value ℕ)}
    → (v : IsNumberOf left x) → (w : IsNumberOf right y) → IsBounded v.range → IsBounded w.range
    → IsFitting calls (binary_value o width left right) (binary width o x y)
binary_of_numbers calls o width v w bound_a bound_b =
    rw (v.holds, v.is, w.holds, w.is) (numbers_fit calls o width v.range w.range v.n w.n bound_a bound_b v.within w.within)

-- an operation on two numbers that is not refused
binary_sound : {calls : List ℕ} {slot : ℕ} (o : AluOp) (width : Width) {left right : Abs} {x y : Option (Value ℕ)} (dst : Reg)
    → binary_refusal left right dst ≡ None → AreOperands calls slot left right x y
    → (is_frame_pointer dst ≡ false) × IsFitting calls (binary_value o width left right) (binary width o x y)
binary_sound {calls} {slot} o width {left} {right} {x} {y} dst fine are =
    let a = none_first (is_unset left || is_unset right) _ _ fine in
    let b = none_first (is_frame_pointer dst) _ _ a.1 in
    let m = none_first (is_may left || is_may right) _ _ b.1 in
    let p = none_first (is_pointer left || is_pointer right) _ _ m.1 in
    let set = neither (is_unset left) (is_unset right) a.0 in
    let may = neither (is_may left) (is_may right) m.0 in
    let pointers = neither (is_pointer left) (is_pointer right) p.0 in
    let v = number_value calls left x set.0 may.0 pointers.0 are.left_of in
    let w = number_value calls right y set.1 may.1 pointers.1 are.right_of in
    let bound_v = subst (IsBoundedValue slot) v.is are.left_bound in
    let bound_w = subst (IsBoundedValue slot) w.is are.right_bound in
    (b.0, binary_of_numbers calls o width v w bound_v bound_w)

copied_value : (calls : List ℕ) (right : Abs) (y : Option (Value ℕ)) (v : Value ℕ) → y ≡ Some v → FitsValue v
    → IsOf calls right (Some v) → IsFitting calls right (copied y)
copied_value calls right y v e fits h = rw e (record { v = v; is = refl; fits = fits; of = h })

-- a move at 64 bits
copy_sound : (calls : List ℕ) (right : Abs) (y : Option (Value ℕ)) (dst : Reg) → mov64_refusal right dst ≡ None → IsOf calls right y
    → FitsRegister y → (is_frame_pointer dst ≡ false) × IsFitting calls right (copied y)
copy_sound calls right y dst fine k fits =
    let a = none_first (is_unset right) _ _ fine in
    let b = none_first (is_frame_pointer dst) _ _ a.1 in
    let w = set_value calls right y a.0 k in
    (b.0, copied_value calls right y w.0 w.1 (subst FitsRegister w.1 fits) w.2)

-- mov at 32 bits keeps the low half
low_row : IsRow low (kept_at W32)
low_row = record { holds = λ a n bound h. low_at-sound W32 a n bound h; below = λ n. low_fits n } where
  low_fits : (n : ℕ) → kept_at W32 n < 2 ^ 64
  low_fits n = omega arith

-- the operations on one number, and their rows
pub extension_row : (width : Width) (bits : ℕ) → IsRow (extension_range width bits) (extension_at width bits)
extension_row width bits =
    record {
      holds = λ a n bound h. extension-sound width bits a n bound h;
      below = λ n. lt_of_lt_of_le (extension-below width bits n) (modulus-at_most width);
    }

pub negation_row : (width : Width) → IsRow (negation_range width) (negation_at width)
negation_row width =
    record { holds = λ a n bound h. negation-sound width a n bound h; below = λ n. lt_of_lt_of_le (result-below op.Sub width 0 n) (modulus-at_most width) }

pub swap_row : (order : Order) (bits : ℕ) → IsRow (swap_range order bits) (swap_of order bits)
swap_row order bits =
    record { holds = λ a n bound h. swap-sound order bits a n h; below = λ n. lt_of_lt_of_le (swap-below order bits n) (swapped_bits-few bits) }

-- an operation that is not refused: it has a result that fits, and what is known of it speaks of it
pub record IsComputed (calls : List ℕ) (width : Width) (o : AluOp) (left right : Abs) (x y : Option (Value ℕ)) (dst : Reg) : Type 0 where
  pub low : is_frame_pointer dst ≡ false
  pub result : IsFitting calls (result_of width o left right) (alu_value width o x y)

pub alu_sound : {calls : List ℕ} {slot : ℕ} (width : Width) (o : AluOp) {left right : Abs} {x y : Option (Value ℕ)} (dst : Reg)
    → alu_refusal width o left right dst ≡ None → AreOperands calls slot left right x y → FitsRegister y
    → IsComputed calls width o left right x y dst
alu_sound {calls} W64 op.Mov {right} {y} dst fine are fits =
    let it = copy_sound calls right y dst fine are.right_of fits in record { low = it.0; result = it.1 }
alu_sound {calls} {slot} W32 op.Mov {right} {y} dst fine are fits =
    let it = unary_sound calls slot right y dst low_row fine are.right_bound are.right_of in record { low = it.0; result = it.1 }
alu_sound W64 op.Add dst fine are fits = let it = sum_sound dst fine are in record { low = it.0; result = it.1 }
alu_sound W64 op.Sub dst fine are fits = let it = difference_sound dst fine are in record { low = it.0; result = it.1 }
alu_sound width o dst fine are fits = let it = binary_sound o width dst fine are in record { low = it.0; result = it.1 }
