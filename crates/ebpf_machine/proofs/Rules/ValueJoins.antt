-- A join of two values speaks of what either side speaks of.
use Rattle.std.proofs.Common.{◌≡◌, ℕ, ◌≤◌, min, max, ℤ, ◌≤ℤ◌, Bool, true, false, cond, eqb, List, Option, Some, refl, sym, ◌∙◌, subst, arith, rules}
use Rattle.std.specs.Prelude.{Contains}
use Rattle.std.specs.Ordering.{int_eq}
use Rattle.std.specs.Int.{int_min, int_max}
use Rattle.std.proofs.lemmas.Bool.Decides.{nat_tests}
use Rattle.std.proofs.lemmas.Int.{ints}
use Rattle.ebpf_range.specs.declared.range.Range.{Range}
use Rattle.ebpf_state.specs.declared.value.Abs.{Abs}
use Rattle.ebpf_state.specs.declared.value.Abs.TheVariants.{Unset, Num, Stk, Ctx, Ob, May}
use Rattle.ebpf_state.specs.Abstract.{joined_value}
use Rattle.ebpf_machine.specs.declared.value.Value.{Value}
use Rattle.ebpf_machine.specs.declared.value.Value.TheVariants.{Number, Pointer}
use Rattle.ebpf_machine.specs.declared.value.Base.TheVariants.{Stack, Context, Object}
use Rattle.ebpf_machine.specs.Concretization.{IsOf}

-- a value that either side keeps where a test says that both are alike
chosen : (calls : List ℕ) (t : Bool) (a : Abs) (v : Option (Value ℕ)) → (t ≡ true → IsOf calls a v) → IsOf calls (cond t a Unset) v
chosen calls true a v h = h refl
chosen calls false a v h = tt

int_eq-true : (a b : ℤ) → int_eq a b ≡ true → a ≡ b
int_eq-true a b e = grind (arith, ints)

pub eqb-same : (a b : ℕ) → eqb a b ≡ true → a ≡ b
eqb-same a b e = grind (arith, nat_tests)

left_number : (a b : Range) (n : ℕ) → (a.lo ≤ n) × (n ≤ a.hi) → (min a.lo b.lo ≤ n) × (n ≤ max a.hi b.hi)
left_number a b n h = (omega arith, omega arith)

right_number : (a b : Range) (n : ℕ) → (b.lo ≤ n) × (n ≤ b.hi) → (min a.lo b.lo ≤ n) × (n ≤ max a.hi b.hi)
right_number a b n h = (omega arith, omega arith)

left_low : (a c w : ℤ) → a ≤ℤ w → int_min a c ≤ℤ w
left_low a c w h = grind (arith, ints)

right_low : (a c w : ℤ) → c ≤ℤ w → int_min a c ≤ℤ w
right_low a c w h = grind (arith, ints)

left_high : (b d w : ℤ) → w ≤ℤ b → w ≤ℤ int_max b d
left_high b d w h = grind (arith, ints)

right_high : (b d w : ℤ) → w ≤ℤ d → w ≤ℤ int_max b d
right_high b d w h = grind (arith, ints)

pub IsOf-joined_left : (calls : List ℕ) (a b : Abs) (v : Option (Value ℕ)) → IsOf calls a v → IsOf calls (joined_value a b) v
IsOf-joined_left calls (Num a) (Num b) (Some (Number n)) h = (left_number a b n h.0, h.1)
IsOf-joined_left calls (Stk a) (Stk b) (Some (Pointer Stack w)) h = chosen calls (int_eq a b) (Stk a) (Some (Pointer Stack w)) (λ e. h)
IsOf-joined_left calls (Ctx a b) (Ctx c d) (Some (Pointer Context w)) h = (left_low a c w h.0, left_high b d w h.1)
IsOf-joined_left calls (Ob r a b) (Ob q c d) (Some (Pointer (Object at) w)) h =
    chosen calls (eqb r q) (Ob r (int_min a c) (int_max b d)) (Some (Pointer (Object at) w)) (λ e. (h.0, left_low a c w h.1, left_high b d w h.2, h.3))
IsOf-joined_left calls (May r) (May q) (Some (Pointer (Object at) w)) h = chosen calls (eqb r q) (May r) (Some (Pointer (Object at) w)) (λ e. h)
IsOf-joined_left calls (May r) (May q) (Some (Number n)) h = chosen calls (eqb r q) (May r) (Some (Number n)) (λ e. h)
IsOf-joined_left calls _ _ _ h = search rules

pub IsOf-joined_right : (calls : List ℕ) (a b : Abs) (v : Option (Value ℕ)) → IsOf calls b v → IsOf calls (joined_value a b) v
IsOf-joined_right calls (Num a) (Num b) (Some (Number n)) h = (right_number a b n h.0, h.1)
IsOf-joined_right calls (Stk a) (Stk b) (Some (Pointer Stack w)) h =
    chosen calls (int_eq a b) (Stk a) (Some (Pointer Stack w)) (λ e. h ∙ sym (int_eq-true a b e))
IsOf-joined_right calls (Ctx a b) (Ctx c d) (Some (Pointer Context w)) h = (right_low a c w h.0, right_high b d w h.1)
IsOf-joined_right calls (Ob r a b) (Ob q c d) (Some (Pointer (Object at) w)) h =
    chosen calls (eqb r q) (Ob r (int_min a c) (int_max b d)) (Some (Pointer (Object at) w))
    (λ e. let same = sym (eqb-same r q e) in (h.0 ∙ same, right_low a c w h.1, right_high b d w h.2, subst (Contains calls) same h.3))
IsOf-joined_right calls (May r) (May q) (Some (Pointer (Object at) w)) h =
    chosen calls (eqb r q) (May r) (Some (Pointer (Object at) w)) (λ e. let same = sym (eqb-same r q e) in (h.0 ∙ same, h.1, subst (Contains calls) same h.2))
IsOf-joined_right calls (May r) (May q) (Some (Number n)) h =
    chosen calls (eqb r q) (May r) (Some (Number n)) (λ e. (h.0, λ held. h.1 (subst (Contains calls) (eqb-same r q e) held)))
IsOf-joined_right calls _ _ _ h = search rules
