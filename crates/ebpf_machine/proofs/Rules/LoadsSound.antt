-- Loads that are not refused.
use Rattle.std.proofs.Common.{◌≡◌, ℕ, ◌+ℤ◌, ◌≤ℤ◌, Bool, true, false, cond, List, [], ◌∷◌, length, All, Option, Some, None, Result, Ok, Err, refl}
use Rattle.std.proofs.Common.{sym, ap, ◌∙◌, subst}
use Rattle.std.specs.Prelude.{ℤ, ◌==◌}
use Rattle.ebpf_insn.specs.declared.register.Reg.{Reg}
use Rattle.ebpf_insn.specs.declared.insn.Insn.{Insn}
use Rattle.ebpf_insn.specs.declared.insn.Insn.TheVariants as insn
use Rattle.ebpf_insn.specs.declared.insn.Size.{Size}
use Rattle.ebpf_insn.specs.Faults.{first_of}
use Rattle.ebpf_flow.specs.Flow.{or_else}
use Rattle.ebpf_state.specs.declared.value.Abs.{Abs}
use Rattle.ebpf_state.specs.declared.value.Abs.TheVariants.{Unset, Num, Stk, Ctx, Ob, May}
use Rattle.ebpf_state.specs.declared.stack.StackFault.{StackFault}
use Rattle.ebpf_state.specs.Abstract.{is_unset, is_may}
use Rattle.ebpf_state.specs.Stack.{bytes_in, place_of, loaded, loaded_range}
use Rattle.ebpf_state.specs.StateView.{StateView}
use Rattle.ebpf_state.specs.States.{register_of}
use Rattle.ebpf_verify.specs.declared.fault.VerifyCode.{VerifyCode}
use Rattle.ebpf_verify.specs.declared.fault.VerifyCode.TheVariants.{UnsetRegister, FramePointerWritten, OutsideContext, OutsideObject}
use Rattle.ebpf_verify.specs.declared.fault.VerifyCode.TheVariants.{UntestedAnswer, NumberAsAddress}
use Rattle.ebpf_verify.specs.Memory.{is_number, refused_access, is_in_bounds, size_held, reading_refusal, value_or_unset, loaded_value}
use Rattle.ebpf_verify.specs.Operations.{is_frame_pointer}
use Rattle.ebpf_machine.specs.declared.value.Value.{Value}
use Rattle.ebpf_machine.specs.declared.value.Value.TheVariants.{Number, Pointer}
use Rattle.ebpf_machine.specs.declared.value.Base.TheVariants.{Stack, Context, Object}
use Rattle.ebpf_machine.specs.declared.value.Cell.{Cell}
use Rattle.ebpf_machine.specs.Values.{Trap, ContextAccess, ObjectBounds, read}
use Rattle.ebpf_machine.specs.Cells.{loaded_at}
use Rattle.ebpf_machine.specs.Effect.{Found, read_object}
use Rattle.ebpf_machine.specs.Effect as effect
use Rattle.ebpf_machine.specs.View.{RunView, environment_of_view, object_at}
use Rattle.ebpf_machine.specs.Concretization.{IsOf, calls_of}
use Rattle.ebpf_machine.specs.Sound.{FitsCell}
use Rattle.ebpf_machine.proofs.Rules.Words.{AreOfCells}
use Rattle.ebpf_machine.proofs.Rules.Operations.{none_first, IsFitting}
use Rattle.ebpf_machine.proofs.Rules.Loads.{stack_load_sound, read_sound}
use Rattle.ebpf_machine.proofs.Rules.Found.{held_found}
use Rattle.ebpf_machine.proofs.Rules.Next.{IsHere, IsNext}
use Rattle.ebpf_machine.proofs.Rules.Operands.{register_holds, result_next}

pub first_passes : {C : Type 0} (t : Bool) (c : C) → cond t None (Some c) ≡ None → t ≡ true
first_passes true c e = refl
first_passes false c e = absurd (cc)

pub neither_refuses : {C : Type 0} (a b : Option C) → or_else a b ≡ None → (a ≡ None) × (b ≡ None)
neither_refuses None b e = (refl, e)
neither_refuses (Some c) b e = absurd (cc)

abbrev load_tests : Abs → Reg → Option VerifyCode
load_tests base dst = first_of (
    (is_unset base, UnsetRegister) ∷
    (is_frame_pointer dst, FramePointerWritten) ∷
    (is_number base, NumberAsAddress) ∷
    (is_may base, UntestedAnswer) ∷
    [])

-- ---- from the stack

stack_loaded : (calls : List ℕ) (size : Size) (signed : Bool) (offset : ℤ) (s : StateView) (stack : List (Cell ℕ)) (load : Result Abs StackFault)
    → loaded s size signed offset ≡ load → refused_access load ≡ None → AreOfCells calls s.words stack → All FitsCell stack
    → IsFitting calls (value_or_unset load) (loaded_at ◌==◌ (place_of offset (bytes_in size)) (bytes_in size) signed stack)
stack_loaded calls size signed offset s stack (Err fault) is fine words fit = absurd (cc)
stack_loaded calls size signed offset s stack (Ok known) is fine words fit = stack_load_sound calls s stack size signed offset known words fit is

-- ---- from an object

object_loaded : (calls : List ℕ) (size : Size) (signed : Bool) (low high at offset : ℤ) (there : Result Found Trap) (found : Found) (declared : ℕ)
    → there ≡ Ok found → length found.bytes ≡ declared → low ≤ℤ at → at ≤ℤ high
    → is_in_bounds declared low high offset (bytes_in size) ≡ true
    → IsFitting calls (Num (loaded_range (bytes_in size) signed)) (read_object there (at +ℤ offset) (bytes_in size) signed)
object_loaded calls size signed low high at offset there found declared is long below above inside =
    subst (λ (r : Result Found Trap). IsFitting calls (Num (loaded_range (bytes_in size) signed)) (read_object r (at +ℤ offset) (bytes_in size) signed))
    (sym is)
    (read_sound calls ObjectBounds found.bytes declared size signed low high at offset long below above inside)

-- ---- the table

-- the address of a load that is not refused is a pointer
load_from : {v : RunView} {i : Insn} {s : StateView} (size : Size) (signed : Bool) (offset : ℤ) (base : Abs) (x : Option (Value ℕ))
    → IsHere v i s → is_unset base ≡ false → is_number base ≡ false → is_may base ≡ false
    → reading_refusal v.subject.decl.context v.subject.rows size signed offset base s ≡ None → IsOf (calls_of v.objects) base x
    → IsFitting (calls_of v.objects) (loaded_value size signed offset base s) (effect.loaded (environment_of_view v) v.frame.stack size signed offset x)
load_from size signed offset Unset x here known no_number no_may fine h = absurd (cc)
load_from size signed offset (Num a) x here known no_number no_may fine h = absurd (cc)
load_from size signed offset (May call) x here known no_number no_may fine h = absurd (cc)
load_from {v} {s} size signed offset (Stk k) (Some (Pointer Stack w)) here known no_number no_may fine h =
    rw h (stack_loaded (calls_of v.objects) size signed (k +ℤ offset) s v.frame.stack
    (loaded s size signed (k +ℤ offset)) refl fine here.state.words here.sound.fit.stack)
load_from {v} size signed offset (Ctx low high) (Some (Pointer Context w)) here known no_number no_may fine h =
    read_sound (calls_of v.objects) ContextAccess v.context v.subject.decl.context size signed low high w offset here.sound.context h.0 h.1
    (first_passes (is_in_bounds v.subject.decl.context low high offset (bytes_in size)) OutsideContext fine)
load_from {v} {s} size signed offset (Ob call low high) (Some (Pointer (Object at) w)) here known no_number no_may fine h =
    let it = held_found v s call here.sized here.state.held h.3 in
    let inside = first_passes (is_in_bounds (size_held v.subject.rows call s) low high offset (bytes_in size)) OutsideObject fine in
    object_loaded (calls_of v.objects) size signed low high w offset (object_at v.objects at) it.found (size_held v.subject.rows call s)
    (ap (object_at v.objects) h.0 ∙ it.is) it.long h.1 h.2 inside
load_from size signed offset (Stk k) None here known no_number no_may fine h = absurd h
load_from size signed offset (Stk k) (Some (Number n)) here known no_number no_may fine h = absurd h
load_from size signed offset (Stk k) (Some (Pointer Context w)) here known no_number no_may fine h = absurd h
load_from size signed offset (Stk k) (Some (Pointer (Object name) w)) here known no_number no_may fine h = absurd h
load_from size signed offset (Ctx low high) None here known no_number no_may fine h = absurd h
load_from size signed offset (Ctx low high) (Some (Number n)) here known no_number no_may fine h = absurd h
load_from size signed offset (Ctx low high) (Some (Pointer Stack w)) here known no_number no_may fine h = absurd h
load_from size signed offset (Ctx low high) (Some (Pointer (Object name) w)) here known no_number no_may fine h = absurd h
load_from size signed offset (Ob call low high) None here known no_number no_may fine h = absurd h
load_from size signed offset (Ob call low high) (Some (Number n)) here known no_number no_may fine h = absurd h
load_from size signed offset (Ob call low high) (Some (Pointer Stack w)) here known no_number no_may fine h = absurd h
load_from size signed offset (Ob call low high) (Some (Pointer Context w)) here known no_number no_may fine h = absurd h

pub load_next : {v : RunView} (size : Size) (signed : Bool) (dst base : Reg) (offset : ℤ) {s : StateView}
    → IsHere v (insn.Load size signed dst base offset) s → IsNext v
load_next {v} size signed dst base offset {s} here =
    let i = insn.Load size signed dst base offset in
    let known = register_of s base in
    let x = read v.frame base in
    let tests = neither_refuses (load_tests known dst) (reading_refusal v.subject.decl.context v.subject.rows size signed offset known s) here.fine in
    let unset = none_first (is_unset known) _ _ tests.0 in
    let pointer = none_first (is_frame_pointer dst) _ _ unset.1 in
    let number = none_first (is_number known) _ _ pointer.1 in
    let may = none_first (is_may known) _ _ number.1 in
    let it = load_from size signed offset known x here unset.0 number.0 may.0 tests.1 (register_holds v i s base here) in
    result_next v i s dst (loaded_value size signed offset known s) (effect.loaded (environment_of_view v) v.frame.stack size signed offset x) here
    (record { does = refl; falls = refl; sends = refl }) pointer.0 it
