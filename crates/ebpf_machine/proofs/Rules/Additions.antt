-- Sums and differences at 64 bits that are accepted compute what their rules say: numbers, and pointers that are moved.
use Rattle.std.proofs.Common.{◌≡◌, ℕ, ℤ, pos, ◌+ℤ◌, ◌≤ℤ◌, true, false, List, Option, Some, None, Ok, refl, sym, ap, ◌∙◌, subst, arith}
use Rattle.std.specs.Prelude.{◌-ℤ◌, ◌||◌, ◌&&◌, is_none, unwrap_or}
use Rattle.std.proofs.Math.Nat.{lt_of_lt_of_le}
use Rattle.std.proofs.lemmas.Int.{ints}
use Rattle.ebpf_insn.specs.declared.register.Reg.{Reg}
use Rattle.ebpf_insn.specs.declared.insn.AluOp.{AluOp}
use Rattle.ebpf_insn.specs.declared.insn.AluOp.TheVariants as op
use Rattle.ebpf_insn.specs.declared.insn.Width.{Width}
use Rattle.ebpf_insn.specs.declared.insn.Width.TheVariants.{W64}
use Rattle.ebpf_insn.specs.Arithmetic.{signed_of, result_at}
use Rattle.ebpf_range.specs.declared.range.Range.{Range}
use Rattle.ebpf_range.specs.Interval.{IsWithin}
use Rattle.ebpf_range.specs.Results.{result_range}
use Rattle.ebpf_range.proofs.OperationLemmas.{result-below}
use Rattle.ebpf_range.proofs.ResultLemmas.{IsBounded, result-sound, modulus-at_most}
use Rattle.ebpf_state.specs.declared.value.Abs.{Abs}
use Rattle.ebpf_state.specs.declared.value.Abs.TheVariants.{Unset, Num, Stk, Ctx, Ob, May}
use Rattle.ebpf_state.specs.Abstract.{is_unset, is_pointer, is_may}
use Rattle.ebpf_verify.specs.Pointers.{signed_ends, opposite_ends, moved_by, sum_value, difference_value}
use Rattle.ebpf_verify.specs.Operations.{makes_stack_offset_vary, is_frame_pointer, add64_refusal, sub64_refusal}
use Rattle.ebpf_machine.specs.declared.value.Value.{Value}
use Rattle.ebpf_machine.specs.declared.value.Value.TheVariants.{Number, Pointer}
use Rattle.ebpf_machine.specs.declared.value.Base.{Base}
use Rattle.ebpf_machine.specs.Effect.{binary, computed}
use Rattle.ebpf_machine.specs.Concretization.{IsOf}
use Rattle.ebpf_verify.proofs.Pointers.{signed_between}
use Rattle.ebpf_verify.proofs.Bounded.{IsBoundedValue}
use Rattle.ebpf_machine.proofs.Rules.Operations.{AreOperands, none_first, neither, set_value, IsFitting, shifted, moved_fits, constant_reading}

-- an operation on two numbers
pub numbers_fit : (calls : List ℕ) (o : AluOp) (width : Width) (a b : Range) (m n : ℕ) → IsBounded a → IsBounded b → IsWithin m a
    → IsWithin n b → IsFitting calls (Num (result_range o width a b)) (computed width o (Number m) (Number n))
numbers_fit calls o width a b m n bound_a bound_b h k = record {
  v = Number (result_at o width m n);
  is = refl;
  fits = tt;
  of = (result-sound o width a b m n bound_a bound_b h k, lt_of_lt_of_le (result-below o width m n) (modulus-at_most width));
}

some_of : (o : Option Abs) → is_none o ≡ false → (q : Abs) × (o ≡ Some q)
some_of None e = absurd (cc)
some_of (Some q) e = (q, refl)

-- a value that is known to be a number, or a pointer
a_number : (calls : List ℕ) (r : Range) (v : Value ℕ) → IsOf calls (Num r) (Some v) → (n : ℕ) × (v ≡ Number n) × IsWithin n r
a_number calls r (Number n) h = (n, refl, h.0)
a_number calls r (Pointer base k) h = absurd h

a_pointer : (calls : List ℕ) (p : Abs) (v : Value ℕ) → is_pointer p ≡ true → IsOf calls p (Some v) → (base : Base ℕ) × (k : ℤ) × (v ≡ Pointer base k)
a_pointer calls p (Pointer base k) e h = (base, k, refl)
a_pointer calls (Num a) (Number m) e h = absurd (cc)
a_pointer calls (May c) (Number m) e h = absurd (cc)
a_pointer calls Unset (Number m) e h = absurd (cc)
a_pointer calls (Stk k) (Number m) e h = absurd h
a_pointer calls (Ctx a b) (Number m) e h = absurd h
a_pointer calls (Ob c a b) (Number m) e h = absurd h

-- ---- a pointer that is moved by a number

no_ends : (p q : Abs) → moved_by p None ≡ Some q → ⊥
no_ends Unset q e = cc
no_ends (Num a) q e = cc
no_ends (Stk k) q e = cc
no_ends (Ctx a b) q e = cc
no_ends (Ob c a b) q e = cc
no_ends (May c) q e = cc

-- where the signed number lies between the ends, and for the stack is the lower one
pub record IsBetween (p : Abs) (z : ℤ) (ends : ℤ × ℤ) : Type 0 where
  pub low : ends.0 ≤ℤ z
  pub high : z ≤ℤ ends.1
  pub exact : (k : ℤ) → p ≡ Stk k → z ≡ ends.0

moved_by_number : (calls : List ℕ) (p : Abs) (v : Value ℕ) (z : ℤ) (ends : Option (ℤ × ℤ)) → is_pointer p ≡ true
    → IsOf calls p (Some v) → is_none (moved_by p ends) ≡ false → ((e : ℤ × ℤ) → ends ≡ Some e → IsBetween p z e)
    → IsFitting calls (unwrap_or (moved_by p ends) Unset) (shifted v z)
moved_by_number calls p v z None is_p h there between = let some = some_of (moved_by p None) there in absurd (no_ends p some.0 some.1)
moved_by_number calls p v z (Some e) is_p h there between =
    let some = some_of (moved_by p (Some e)) there in
    let at = between e refl in
    rw some.1 (moved_fits calls p some.0 v z e is_p h at.low at.high at.exact some.1)

by_sum : (p : Abs) (b : Range) (n : ℕ) → makes_stack_offset_vary p (Num b) ≡ false → IsWithin n b → (e : ℤ × ℤ)
    → signed_ends b ≡ Some e → IsBetween p (signed_of n) e
by_sum p b n clear w e is =
    let reading = signed_between b n e w is in
    record {
      low = reading.0;
      high = reading.1;
      exact = λ k same. (constant_reading b n e (subst (λ (q : Abs). makes_stack_offset_vary q (Num b) ≡ false) same clear) w is).0;
    }

-- the ends of a range of negations
opposite_of : (o : Option (ℤ × ℤ)) (e : ℤ × ℤ) → opposite_ends o ≡ Some e → (f : ℤ × ℤ) × (o ≡ Some f) × (e.0 ≡ pos 0 -ℤ f.1) × (e.1 ≡ pos 0 -ℤ f.0)
opposite_of None e h = absurd (cc)
opposite_of (Some f) e h = (f, refl, sym (ap (λ (o : Option (ℤ × ℤ)). (unwrap_or o e).0) h), sym (ap (λ (o : Option (ℤ × ℤ)). (unwrap_or o e).1) h))

negated_between : (low z high : ℤ) → low ≤ℤ z → z ≤ℤ high → ((pos 0 -ℤ high) ≤ℤ (pos 0 -ℤ z)) × ((pos 0 -ℤ z) ≤ℤ (pos 0 -ℤ low))
negated_between low z high l h = (omega (arith, ints, l, h), omega (arith, ints, l, h))

by_difference : (p : Abs) (b : Range) (n : ℕ) → makes_stack_offset_vary p (Num b) ≡ false → IsWithin n b → (e : ℤ × ℤ)
    → opposite_ends (signed_ends b) ≡ Some e → IsBetween p (pos 0 -ℤ signed_of n) e
by_difference p b n clear w e is =
    let from = opposite_of (signed_ends b) e is in
    let reading = signed_between b n from.0 w from.1 in
    let between = negated_between from.0.0 (signed_of n) from.0.1 reading.0 reading.1 in
    record {
      low = subst (λ (z : ℤ). z ≤ℤ (pos 0 -ℤ signed_of n)) (sym from.2) between.0;
      high = subst (λ (z : ℤ). (pos 0 -ℤ signed_of n) ≤ℤ z) (sym from.3) between.1;
      exact = λ k same. ap (λ (z : ℤ). pos 0 -ℤ z)
          (constant_reading b n from.0 (subst (λ (q : Abs). makes_stack_offset_vary q (Num b) ≡ false) same clear) w from.1).1 ∙ sym from.2;
    }

-- the difference is a sum with the negation
minus : (k s : ℤ) → k -ℤ s ≡ k +ℤ (pos 0 -ℤ s)
minus k s = omega (arith, ints)

-- what moves a pointer is its signed reading, added or taken
shifts : (base : Base ℕ) (k : ℤ) (n : ℕ)
    → (computed W64 op.Add (Pointer base k) (Number n) ≡ shifted (Pointer base k) (signed_of n))
    × (computed W64 op.Add (Number n) (Pointer base k) ≡ shifted (Pointer base k) (signed_of n)) × (computed W64 op.Sub (Pointer base k) (Number n)
    ≡ shifted (Pointer base k) (pos 0 -ℤ signed_of n))
shifts base k n = (refl, refl, ap (λ (z : ℤ). Ok (Pointer base z)) (minus k (signed_of n)))

-- ---- sums

-- what is known of a sum that is accepted, and the sum
abbrev IsSummed : List ℕ → Abs → Abs → Option (Value ℕ) → Option (Value ℕ) → Type 0
IsSummed calls left right x y = IsFitting calls (unwrap_or (sum_value left right) Unset) (binary W64 op.Add x y)

known_with_number : (p : Abs) (b : Range) → is_pointer p ≡ true
    → (sum_value p (Num b) ≡ moved_by p (signed_ends b)) × (sum_value (Num b) p ≡ moved_by p (signed_ends b))
    × (difference_value p (Num b) ≡ moved_by p (opposite_ends (signed_ends b)))
known_with_number Unset b e = absurd (cc)
known_with_number (Num a) b e = absurd (cc)
known_with_number (May c) b e = absurd (cc)
known_with_number (Stk k) b e = (refl, refl, refl)
known_with_number (Ctx a c) b e = (refl, refl, refl)
known_with_number (Ob c a d) b e = (refl, refl, refl)

on_left : (calls : List ℕ) (p : Abs) (b : Range) (v w : Value ℕ) → is_pointer p ≡ true → makes_stack_offset_vary p (Num b) ≡ false
    → is_none (sum_value p (Num b)) ≡ false → IsOf calls p (Some v) → IsOf calls (Num b) (Some w)
    → IsSummed calls p (Num b) (Some v) (Some w)
on_left calls p b v w is_p clear there h k =
    let n = a_number calls b w k in
    let at = a_pointer calls p v is_p h in
    let known = (known_with_number p b is_p).0 in
    let sum = ap (λ (u : Value ℕ). computed W64 op.Add u (Number n.0)) at.2
    ∙ ((shifts at.0 at.1 n.0).0 ∙ ap (λ (u : Value ℕ). shifted u (signed_of n.0)) (sym at.2)) in
    rw (n.1, known, sum) (moved_by_number calls p v (signed_of n.0) (signed_ends b) is_p h (subst (λ (o : Option Abs). is_none o ≡ false) known there)
    (by_sum p b n.0 clear n.2))

on_right : (calls : List ℕ) (p : Abs) (b : Range) (v w : Value ℕ) → is_pointer p ≡ true → makes_stack_offset_vary p (Num b) ≡ false
    → is_none (sum_value (Num b) p) ≡ false → IsOf calls p (Some v) → IsOf calls (Num b) (Some w)
    → IsSummed calls (Num b) p (Some w) (Some v)
on_right calls p b v w is_p clear there h k =
    let n = a_number calls b w k in
    let at = a_pointer calls p v is_p h in
    let known = (known_with_number p b is_p).1 in
    let sum = ap (λ (u : Value ℕ). computed W64 op.Add (Number n.0) u) at.2
    ∙ ((shifts at.0 at.1 n.0).1 ∙ ap (λ (u : Value ℕ). shifted u (signed_of n.0)) (sym at.2)) in
    rw (n.1, known, sum) (moved_by_number calls p v (signed_of n.0) (signed_ends b) is_p h (subst (λ (o : Option Abs). is_none o ≡ false) known there)
    (by_sum p b n.0 clear n.2))

both_numbers : (calls : List ℕ) (o : AluOp) (a b : Range) (v w : Value ℕ) → IsBounded a → IsBounded b → IsOf calls (Num a) (Some v)
    → IsOf calls (Num b) (Some w) → IsFitting calls (Num (result_range o W64 a b)) (computed W64 o v w)
both_numbers calls o a b v w bound_a bound_b h k =
    let m = a_number calls a v h in
    let n = a_number calls b w k in
    rw (m.1, n.1) (numbers_fit calls o W64 a b m.0 n.0 bound_a bound_b m.2 n.2)

-- what is known of two values has a sum
record HaveSum (slot : ℕ) (left right : Abs) : Type 0 where
  left_bound : IsBoundedValue slot left
  right_bound : IsBoundedValue slot right
  are_set : (is_unset left || is_unset right) ≡ false
  are_tested : (is_may left || is_may right) ≡ false
  one_pointer : (is_pointer left && is_pointer right) ≡ false
  steady : (makes_stack_offset_vary left right || makes_stack_offset_vary right left) ≡ false
  there : is_none (sum_value left right) ≡ false

-- the cases of what is known of them
summed : (calls : List ℕ) {slot : ℕ} (left right : Abs) (v w : Value ℕ) → HaveSum slot left right
    → IsOf calls left (Some v) → IsOf calls right (Some w) → IsSummed calls left right (Some v) (Some w)
summed calls (Num a) (Num b) v w s h k = both_numbers calls op.Add a b v w s.left_bound s.right_bound h k
summed calls (Num a) (Stk j) v w s h k =
    on_right calls (Stk j) a w v refl (neither false (makes_stack_offset_vary (Stk j) (Num a)) s.steady).1 s.there k h
summed calls (Num a) (Ctx j l) v w s h k = on_right calls (Ctx j l) a w v refl refl s.there k h
summed calls (Num a) (Ob r j l) v w s h k = on_right calls (Ob r j l) a w v refl refl s.there k h
summed calls (Stk j) (Num b) v w s h k = on_left calls (Stk j) b v w refl (neither (makes_stack_offset_vary (Stk j) (Num b)) false s.steady).0 s.there h k
summed calls (Ctx j l) (Num b) v w s h k = on_left calls (Ctx j l) b v w refl refl s.there h k
summed calls (Ob r j l) (Num b) v w s h k = on_left calls (Ob r j l) b v w refl refl s.there h k
summed calls _ _ v w s h k = absurd (cc)

-- a sum at 64 bits that is not refused
pub sum_sound : {calls : List ℕ} {slot : ℕ} {left right : Abs} {x y : Option (Value ℕ)} (dst : Reg)
    → add64_refusal left right dst ≡ None → AreOperands calls slot left right x y
    → (is_frame_pointer dst ≡ false) × IsSummed calls left right x y
sum_sound {calls} {slot} {left} {right} {x} {y} dst fine are =
    let a = none_first (is_unset left || is_unset right) _ _ fine in
    let b = none_first (is_frame_pointer dst) _ _ a.1 in
    let m = none_first (is_may left || is_may right) _ _ b.1 in
    let p = none_first (is_pointer left && is_pointer right) _ _ m.1 in
    let c = none_first (makes_stack_offset_vary left right || makes_stack_offset_vary right left) _ _ p.1 in
    let t = none_first (is_none (sum_value left right)) _ _ c.1 in
    let set = neither (is_unset left) (is_unset right) a.0 in
    let v = set_value calls left x set.0 are.left_of in
    let w = set_value calls right y set.1 are.right_of in
    let both : HaveSum slot left right = record {
      left_bound = are.left_bound;
      right_bound = are.right_bound;
      are_set = a.0;
      are_tested = m.0;
      one_pointer = p.0;
      steady = c.0;
      there = t.0;
    } in
    (b.0, rw (v.1, w.1) (summed calls left right v.0 w.0 both v.2 w.2))

-- ---- differences

abbrev IsDifference : List ℕ → Abs → Abs → Option (Value ℕ) → Option (Value ℕ) → Type 0
IsDifference calls left right x y = IsFitting calls (unwrap_or (difference_value left right) Unset) (binary W64 op.Sub x y)

moved_back : (calls : List ℕ) (p : Abs) (b : Range) (v w : Value ℕ) → is_pointer p ≡ true
    → makes_stack_offset_vary p (Num b) ≡ false → is_none (difference_value p (Num b)) ≡ false → IsOf calls p (Some v)
    → IsOf calls (Num b) (Some w) → IsDifference calls p (Num b) (Some v) (Some w)
moved_back calls p b v w is_p clear there h k =
    let n = a_number calls b w k in
    let at = a_pointer calls p v is_p h in
    let known = (known_with_number p b is_p).2 in
    let difference = ap (λ (u : Value ℕ). computed W64 op.Sub u (Number n.0)) at.2
    ∙ ((shifts at.0 at.1 n.0).2 ∙ ap (λ (u : Value ℕ). shifted u (pos 0 -ℤ signed_of n.0)) (sym at.2)) in
    rw (n.1, known, difference) (moved_by_number calls p v (pos 0 -ℤ signed_of n.0) (opposite_ends (signed_ends b)) is_p h
    (subst (λ (o : Option Abs). is_none o ≡ false) known there) (by_difference p b n.0 clear n.2))

-- what is known of two values has a difference
record HaveDifference (slot : ℕ) (left right : Abs) : Type 0 where
  left_bound : IsBoundedValue slot left
  right_bound : IsBoundedValue slot right
  are_set : (is_unset left || is_unset right) ≡ false
  are_tested : (is_may left || is_may right) ≡ false
  no_pointer : is_pointer right ≡ false
  steady : makes_stack_offset_vary left right ≡ false
  there : is_none (difference_value left right) ≡ false

taken_from : (calls : List ℕ) {slot : ℕ} (left right : Abs) (v w : Value ℕ) → HaveDifference slot left right
    → IsOf calls left (Some v) → IsOf calls right (Some w) → IsDifference calls left right (Some v) (Some w)
taken_from calls (Num a) (Num b) v w s h k = both_numbers calls op.Sub a b v w s.left_bound s.right_bound h k
taken_from calls (Stk j) (Num b) v w s h k = moved_back calls (Stk j) b v w refl s.steady s.there h k
taken_from calls (Ctx j l) (Num b) v w s h k = moved_back calls (Ctx j l) b v w refl refl s.there h k
taken_from calls (Ob r j l) (Num b) v w s h k = moved_back calls (Ob r j l) b v w refl refl s.there h k
taken_from calls _ _ v w s h k = absurd (cc)

-- a difference at 64 bits that is not refused
pub difference_sound : {calls : List ℕ} {slot : ℕ} {left right : Abs} {x y : Option (Value ℕ)} (dst : Reg)
    → sub64_refusal left right dst ≡ None → AreOperands calls slot left right x y
    → (is_frame_pointer dst ≡ false) × IsDifference calls left right x y
difference_sound {calls} {slot} {left} {right} {x} {y} dst fine are =
    let a = none_first (is_unset left || is_unset right) _ _ fine in
    let b = none_first (is_frame_pointer dst) _ _ a.1 in
    let m = none_first (is_may left || is_may right) _ _ b.1 in
    let p = none_first (is_pointer right) _ _ m.1 in
    let c = none_first (makes_stack_offset_vary left right) _ _ p.1 in
    let t = none_first (is_none (difference_value left right)) _ _ c.1 in
    let set = neither (is_unset left) (is_unset right) a.0 in
    let v = set_value calls left x set.0 are.left_of in
    let w = set_value calls right y set.1 are.right_of in
    let both : HaveDifference slot left right = record {
      left_bound = are.left_bound;
      right_bound = are.right_bound;
      are_set = a.0;
      are_tested = m.0;
      no_pointer = p.0;
      steady = c.0;
      there = t.0;
    } in
    (b.0, rw (v.1, w.1) (taken_from calls left right v.0 w.0 both v.2 w.2))
