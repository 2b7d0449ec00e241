-- What the rules send has all registers, and its numbers' ranges lie below 2^64.
use Rattle.std.proofs.Common.{ℕ, suc, ◌<◌, ◌^◌, ℤ, ◌+ℤ◌, Bool, true, false, Option, Some, None, arith, Result, Ok, Err}
use Rattle.std.specs.Prelude.{FitsSigned, unwrap_or, IfSome}
use Rattle.std.specs.Int.{w32}
use Rattle.std.proofs.lemmas.Int.{ints}
use Rattle.ebpf_insn.specs.declared.register.Reg.{Reg}
use Rattle.ebpf_insn.specs.declared.insn.Insn.{Insn}
use Rattle.ebpf_insn.specs.declared.insn.Insn.TheVariants as insn
use Rattle.ebpf_insn.specs.declared.insn.AluOp.{AluOp}
use Rattle.ebpf_insn.specs.declared.insn.AluOp.TheVariants as op
use Rattle.ebpf_insn.specs.declared.insn.Cond.{Cond}
use Rattle.ebpf_insn.specs.declared.insn.Source.{Source}
use Rattle.ebpf_insn.specs.declared.insn.Source.TheVariants.{Register, Imm}
use Rattle.ebpf_insn.specs.declared.insn.Width.{Width}
use Rattle.ebpf_insn.specs.declared.insn.Width.TheVariants.{W32, W64}
use Rattle.ebpf_insn.specs.Arithmetic.{immediate}
use Rattle.ebpf_insn.specs.Encoding.{IsDefined, IsSource}
use Rattle.ebpf_range.specs.declared.range.Range.{Range}
use Rattle.ebpf_range.specs.Interval.{low, constant}
use Rattle.ebpf_range.specs.Results.{extension_range, negation_range, swap_range}
use Rattle.ebpf_range.proofs.ResultLemmas.{IsBounded, result-bounded, low-bounded, extension-bounded, negation-bounded, swap-bounded}
use Rattle.ebpf_range.proofs.RefinementLemmas.{refinement-below}
use Rattle.ebpf_state.specs.declared.value.Abs.{Abs}
use Rattle.ebpf_state.specs.declared.value.Abs.TheVariants.{Unset, Num, Stk, Ctx, Ob, May}
use Rattle.ebpf_state.specs.StateView.{StateView}
use Rattle.ebpf_state.specs.States.{register_of, with_register}
use Rattle.ebpf_verify.specs.Pointers.{signed_ends, opposite_ends, moved_end, with_end, with_ends, moved_by, sum_value, difference_value}
use Rattle.ebpf_verify.specs.Operations.{unary_value, binary_value, result_of}
use Rattle.ebpf_verify.specs.Branches.{operand, null_test, refined_values, with_operand, with_operands, is_null_where, after_comparison}
use Rattle.ebpf_insn.specs.declared.insn.Size.{Size}
use Rattle.ebpf_state.specs.declared.stack.StackFault.{StackFault}
use Rattle.ebpf_state.specs.Stack.{loaded, stored}
use Rattle.ebpf_verify.specs.Memory.{value_or_unset, loaded_value, state_after, after_store}
use Rattle.ebpf_insn.specs.declared.register.Reg.TheVariants.{R0, R1, R2, R3, R4, R5}
use Rattle.ebpf_state.specs.References.{holding, forgotten}
use Rattle.ebpf_operation.specs.declared.helper.Helper.{Helper}
use Rattle.ebpf_operation.specs.declared.helper.Helper.TheVariants.{New, Free, Emit, Swap}
use Rattle.ebpf_operation.specs.Helpers.{helper_of}
use Rattle.ebpf_verify.specs.Calls.{without_arguments, with_result, without_given, after_new, after_free, after_swap, after_call}
use Rattle.ebpf_verify.specs.Rules.{after_operation, after_fall, after_jump}
use Rattle.ebpf_verify.proofs.Bounded.{IsBoundedValue, IsFull, IsBoundedLoad, IsFullStore, register_bounded, full_weaker, with_register-full}
use Rattle.ebpf_verify.proofs.Bounded.{settled-full, forgotten-full, loaded-bounded, context_bounded, stored-full}

-- a state that is sent, if any, has all registers
abbrev pub IsFullState : ℕ → Option StateView → Type 0
IsFullState slot None = Unit {0}
IsFullState slot (Some s) = IsFull slot s

-- ---- arithmetic

constant_bounded : (n : ℕ) → n < 2 ^ 64 → IsBounded (constant n)
constant_bounded n lt = lt

pub immediate-below : (width : Width) (z : ℤ) → FitsSigned w32 z → immediate width z < 2 ^ 64
immediate-below W32 z fits = omega (arith, ints)
immediate-below W64 z fits = omega (arith, ints)

pub operand_bounded : (slot : ℕ) (s : StateView) (width : Width) (src : Source) → IsSource src → IsFull slot s → IsBoundedValue slot (operand s width src)
operand_bounded slot s width (Register r) fits h = register_bounded slot s r h
operand_bounded slot s width (Imm z) fits h = constant_bounded (immediate width z) (immediate-below width z fits)

one_end_bounded : (slot : ℕ) (o : Option ℤ) (pointer : ℤ → Abs) → ((k : ℤ) → IsBoundedValue slot (pointer k))
    → IsBoundedValue slot (unwrap_or (with_end o pointer) Unset)
one_end_bounded slot None pointer h = tt
one_end_bounded slot (Some k) pointer h = h k

two_ends_bounded : (slot : ℕ) (o u : Option ℤ) (pointer : ℤ → ℤ → Abs) → ((a b : ℤ) → IsBoundedValue slot (pointer a b))
    → IsBoundedValue slot (unwrap_or (with_ends o u pointer) Unset)
two_ends_bounded slot None u pointer h = tt
two_ends_bounded slot (Some a) None pointer h = tt
two_ends_bounded slot (Some a) (Some b) pointer h = h a b

moved_bounded : (slot : ℕ) (p : Abs) (by : Option (ℤ × ℤ)) → IsBoundedValue slot (unwrap_or (moved_by p by) Unset)
moved_bounded slot (Stk k) (Some by) = one_end_bounded slot (moved_end k by.0) Stk (λ z. tt)
moved_bounded slot (Ctx a b) (Some by) = two_ends_bounded slot (moved_end a by.0) (moved_end b by.1) Ctx (λ y z. tt)
moved_bounded slot (Ob call a b) (Some by) = two_ends_bounded slot (moved_end a by.0) (moved_end b by.1) (Ob call) (λ y z. tt)
moved_bounded slot _ _ = tt

sum_bounded : (slot : ℕ) (a b : Abs) → IsBoundedValue slot a → IsBoundedValue slot b → IsBoundedValue slot (unwrap_or (sum_value a b) Unset)
sum_bounded slot (Num a) (Num b) h k = result-bounded op.Add W64 a b h k
sum_bounded slot p (Num b) h k = moved_bounded slot p (signed_ends b)
sum_bounded slot (Num a) p h k = moved_bounded slot p (signed_ends a)
sum_bounded slot _ _ h k = tt

difference_bounded : (slot : ℕ) (a b : Abs) → IsBoundedValue slot a → IsBoundedValue slot b → IsBoundedValue slot (unwrap_or (difference_value a b) Unset)
difference_bounded slot (Num a) (Num b) h k = result-bounded op.Sub W64 a b h k
difference_bounded slot p (Num b) h k = moved_bounded slot p (opposite_ends (signed_ends b))
difference_bounded slot _ _ h k = tt

unary_bounded : (slot : ℕ) (row : Range → Range) (v : Abs) → ((a : Range) → IsBounded a → IsBounded (row a)) → IsBoundedValue slot v
    → IsBoundedValue slot (unary_value row v)
unary_bounded slot row (Num a) keeps h = keeps a h
unary_bounded slot row _ keeps h = tt

binary_bounded : (slot : ℕ) (o : AluOp) (width : Width) (a b : Abs) → IsBoundedValue slot a → IsBoundedValue slot b
    → IsBoundedValue slot (binary_value o width a b)
binary_bounded slot o width (Num a) (Num b) h k = result-bounded o width a b h k
binary_bounded slot o width _ _ h k = tt

result_bounded : (slot : ℕ) (width : Width) (o : AluOp) (a b : Abs) → IsBoundedValue slot a → IsBoundedValue slot b
    → IsBoundedValue slot (result_of width o a b)
result_bounded slot W64 op.Mov a b h k = k
result_bounded slot W32 op.Mov a b h k = unary_bounded slot low b low-bounded k
result_bounded slot W64 op.Add a b h k = sum_bounded slot a b h k
result_bounded slot W64 op.Sub a b h k = difference_bounded slot a b h k
result_bounded slot width o a b h k = binary_bounded slot o width a b h k

-- ---- branches

abbrev AreBounded : Option (Range × Range) → Type 0
AreBounded known = IfSome known (λ p. IsBounded p.0 × IsBounded p.1)

with_operand-full : (slot : ℕ) (s : StateView) (src : Source) (a : Range) → IsFull slot s → IsBounded a → IsFull slot (with_operand s src a)
with_operand-full slot s (Register r) a h b = with_register-full slot s r (Num a) h b
with_operand-full slot s (Imm z) a h b = h

with_operands-full : (slot : ℕ) (left : Reg) (right : Source) (known : Option (Range × Range)) (s : StateView) → IsFull slot s
    → AreBounded known → IsFullState slot (with_operands left right known s)
with_operands-full slot left right None s h both = tt
with_operands-full slot left right (Some p) s h both =
    with_operand-full slot (with_register s left (Num p.0)) right p.1 (with_register-full slot s left (Num p.0) h both.0) both.1

refined_bounded : (slot : ℕ) (c : Cond) (width : Width) (a b : Abs) (taken : Bool) → IsBoundedValue slot a → IsBoundedValue slot b
    → AreBounded (refined_values c width a b taken)
refined_bounded slot c width (Num a) (Num b) taken h k = refinement-below (2 ^ 64) c width a b taken h k
refined_bounded slot c width _ _ taken h k = tt

comparison-full : (slot : ℕ) (test : Option ℕ) (c : Cond) (width : Width) (left : Reg) (right : Source) (taken : Bool) (s : StateView)
    → IsSource right → IsFull slot s → IsFullState slot (after_comparison test c width left right taken s)
comparison-full slot (Some call) c width left right taken s fits h = settled-full slot call (is_null_where c taken) s h
comparison-full slot None c width left right taken s fits h =
    with_operands-full slot left right (refined_values c width (register_of s left) (operand s width right) taken) s h
    (refined_bounded slot c width (register_of s left) (operand s width right) taken (register_bounded slot s left h) (operand_bounded slot s width right fits h))

-- ---- memory

load_or_unset : (slot : ℕ) (r : Result Abs StackFault) → IsBoundedLoad slot r → IsBoundedValue slot (value_or_unset r)
load_or_unset slot (Ok a) h = h
load_or_unset slot (Err fault) h = tt

load_bounded : (slot : ℕ) (size : Size) (signed : Bool) (offset : ℤ) (base : Abs) (s : StateView) → IsFull slot s
    → IsBoundedValue slot (loaded_value size signed offset base s)
load_bounded slot size signed offset (Stk k) s h = load_or_unset slot (loaded s size signed (k +ℤ offset)) (loaded-bounded slot s size signed (k +ℤ offset) h)
load_bounded slot size signed offset (Ctx a b) s h = context_bounded slot size signed
load_bounded slot size signed offset (Ob call a b) s h = context_bounded slot size signed
load_bounded slot size signed offset _ s h = tt

store_or_none : (slot : ℕ) (r : Result StateView StackFault) → IsFullStore slot r → IsFullState slot (state_after r)
store_or_none slot (Ok s) h = h
store_or_none slot (Err fault) h = tt

store_full : (slot : ℕ) (size : Size) (offset : ℤ) (base value : Abs) (s : StateView) → IsFull slot s → IsBoundedValue slot value
    → IsFullState slot (after_store size offset base value s)
store_full slot size offset (Stk k) value s h b = store_or_none slot (stored s size (k +ℤ offset) value) (stored-full slot s size (k +ℤ offset) value h b)
store_full slot size offset (Ob call low high) value s h b = h
store_full slot size offset _ value s h b = tt

-- ---- the table

operation-full : (slot : ℕ) (i : Insn) (s : StateView) → IsDefined i → IsFull slot s → IsFullState slot (after_operation i s)
operation-full slot (insn.Alu width o dst src) s defined h = with_register-full slot s dst
    (result_of width o (register_of s dst) (operand s width src)) h
    (result_bounded slot width o (register_of s dst) (operand s width src) (register_bounded slot s dst h)
    (operand_bounded slot s width src defined h))
operation-full slot (insn.Sext width bits dst src) s defined h = with_register-full slot s dst
    (unary_value (extension_range width bits) (register_of s src)) h
    (unary_bounded slot (extension_range width bits) (register_of s src) (λ a b. extension-bounded width bits a)
    (register_bounded slot s src h))
operation-full slot (insn.Neg width dst) s defined h = with_register-full slot s dst (unary_value (negation_range width) (register_of s dst)) h (unary_bounded slot (negation_range width) (register_of s dst) (λ a b. negation-bounded width a) (register_bounded slot s dst h))
operation-full slot (insn.Swap order bits dst) s defined h = with_register-full slot s dst (unary_value (swap_range order bits) (register_of s dst)) h (unary_bounded slot (swap_range order bits) (register_of s dst) (λ a b. swap-bounded order bits a) (register_bounded slot s dst h))
operation-full slot (insn.Wide dst value) s defined h = with_register-full slot s dst (Num (constant value)) h (constant_bounded value defined)
operation-full slot (insn.Load size signed dst base offset) s defined h =
    with_register-full slot s dst (loaded_value size signed offset (register_of s base) s) h (load_bounded slot size signed offset (register_of s base) s h)
operation-full slot _ s defined h = tt

-- ---- calls

without_arguments-full : (slot : ℕ) (s : StateView) → IsFull slot s → IsFull slot (without_arguments s)
without_arguments-full slot s h = lost R5 _ (lost R4 _ (lost R3 _ (lost R2 _ (lost R1 s h)))) where
  lost : (r : Reg) (t : StateView) → IsFull slot t → IsFull slot (with_register t r Unset)
  lost r t full = with_register-full slot t r Unset full tt

with_result-full : (slot : ℕ) (result : Abs) (s : StateView) → IsFull slot s → IsBoundedValue slot result → IsFull slot (with_result result s)
with_result-full slot result s h b = with_register-full slot (without_arguments s) R0 result (without_arguments-full slot s h) b

holding-full : (slot call kind : ℕ) (s : StateView) → IsFull slot s → IsFull slot (holding call kind s)
holding-full slot call kind s h = record { whole = h.whole; bounded = h.bounded; deep = h.deep; bounded_words = h.bounded_words }

zero_bounded : IsBounded (constant 0)
zero_bounded = constant_bounded 0 (omega arith)

-- the answer of a call of new is one of a call below the slot after it
new_full : (slot : ℕ) (kind : Abs) (s : StateView) → IsFull slot s → IsFullState (suc slot) (after_new slot kind s)
new_full slot (Num a) s h = with_result-full (suc slot) (May slot) (holding slot a.lo s) (holding-full (suc slot) slot a.lo s (full_weaker slot (suc slot) s (omega arith) h)) (omega arith)
new_full slot _ s h = tt

free_full : (slot : ℕ) (object : Abs) (s : StateView) → IsFull slot s → IsFullState slot (after_free object s)
free_full slot (Ob call a b) s h = with_result-full slot (Num (constant 0)) (forgotten call s) (forgotten-full slot call s h) zero_bounded
free_full slot _ s h = tt

given_full : (slot : ℕ) (given : Abs) (s : StateView) → IsFull slot s → IsFull slot (without_given given s)
given_full slot (Ob call a b) s h = forgotten-full slot call s h
given_full slot _ s h = h

-- the answer of a call of swap is one of a call below the slot after it
swap_full : (slot : ℕ) (shelf given : Abs) (s : StateView) → IsFull slot s → IsFullState (suc slot) (after_swap slot shelf given s)
swap_full slot (Num a) given s h =
    let left = full_weaker slot (suc slot) (without_given given s) (omega arith) (given_full slot given s h) in
    with_result-full (suc slot) (May slot) (holding slot a.lo (without_given given s)) (holding-full (suc slot) slot a.lo (without_given given s) left) (omega arith)
swap_full slot _ given s h = tt

state_weaker : (slot : ℕ) (o : Option StateView) → IsFullState slot o → IsFullState (suc slot) o
state_weaker slot None h = tt
state_weaker slot (Some s) h = full_weaker slot (suc slot) s (omega arith) h

call_full : (slot : ℕ) (helper : Option Helper) (s : StateView) → IsFull slot s → IsFullState (suc slot) (after_call slot helper s)
call_full slot None s h = tt
call_full slot (Some New) s h = new_full slot (register_of s R1) s h
call_full slot (Some Swap) s h = swap_full slot (register_of s R1) (register_of s R2) s h
call_full slot (Some Free) s h = state_weaker slot (after_free (register_of s R1) s) (free_full slot (register_of s R1) s h)
call_full slot (Some Emit) s h =
    full_weaker slot (suc slot) (with_result (Num (constant 0)) s) (omega arith) (with_result-full slot (Num (constant 0)) s h zero_bounded)

-- ---- what a slot sends is for a higher one

pub fall-full : (slot : ℕ) (i : Insn) (s : StateView) → IsDefined i → IsFull slot s → IsFullState (suc slot) (after_fall slot i s)
fall-full slot (insn.Branch width c left right offset) s defined h = state_weaker slot (after_fall slot (insn.Branch width c left right offset) s) (comparison-full slot (null_test width c (register_of s left) right) c width left right false s defined.0 h)
fall-full slot (insn.Store size base offset src) s defined h = state_weaker slot (after_fall slot (insn.Store size base offset src) s) (store_full slot size offset (register_of s base) (operand s W64 src) s h (operand_bounded slot s W64 src defined.0 h))
fall-full slot (insn.Call number) s defined h = call_full slot (helper_of number) s h
fall-full slot i s defined h = state_weaker slot (after_operation i s) (operation-full slot i s defined h)

pub jump-full : (slot : ℕ) (i : Insn) (s : StateView) → IsDefined i → IsFull slot s → IsFullState (suc slot) (after_jump i s)
jump-full slot (insn.Jump offset) s defined h = full_weaker slot (suc slot) s (omega arith) h
jump-full slot (insn.JumpFar offset) s defined h = full_weaker slot (suc slot) s (omega arith) h
jump-full slot (insn.Branch width c left right offset) s defined h = state_weaker slot (after_jump (insn.Branch width c left right offset) s) (comparison-full slot (null_test width c (register_of s left) right) c width left right true s defined.0 h)
jump-full slot _ s defined h = tt
