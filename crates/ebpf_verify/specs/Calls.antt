-- Calls of helpers (RFC 9669, section 4.3.1): the codes that refuse one, in order, and what is known after it. A helper takes its
-- arguments in r1 and r2 and leaves its result in r0; r1 to r5 are lost.
use Rattle.std.specs.Prelude.{ℕ, pos, nat_lt, nat_le, length, List, [], ◌∷◌, Bool, false, not, ◌&&◌, ◌==◌, Option, Some, None}
use Rattle.std.specs.Ordering.{int_eq}
use Rattle.ebpf_insn.specs.declared.register.Reg.TheVariants.{R0, R1, R2, R3, R4, R5}
use Rattle.ebpf_insn.specs.Faults.{first_of}
use Rattle.ebpf_range.specs.Interval.{constant}
use Rattle.ebpf_state.specs.declared.kinds.KindRow.{KindRow}
use Rattle.ebpf_state.specs.declared.value.Abs.{Abs}
use Rattle.ebpf_state.specs.declared.value.Abs.TheVariants.{Unset, Num, Ob, May}
use Rattle.ebpf_state.specs.Abstract.{is_unset, is_may}
use Rattle.ebpf_state.specs.StateView.{StateView}
use Rattle.ebpf_state.specs.States.{register_of, with_register}
use Rattle.ebpf_state.specs.References.{holding, forgotten, kind_held}
use Rattle.ebpf_verify.specs.declared.decl.Decl.{Decl}
use Rattle.ebpf_verify.specs.declared.fault.VerifyCode.{VerifyCode}
use Rattle.ebpf_verify.specs.declared.fault.VerifyCode.TheVariants.{UnsetRegister, UntestedAnswer, UnknownHelper, WrongArgument, TooManyHeld}
use Rattle.ebpf_operation.specs.declared.helper.Helper.{Helper}
use Rattle.ebpf_operation.specs.declared.helper.Helper.TheVariants.{New, Free, Emit, Swap}
use Rattle.ebpf_verify.specs.Memory.{is_number}

-- ---- what each asks of its argument

-- a constant that is the number of a kind
abbrev pub names_kind : ℕ → Abs → Bool
names_kind kinds (Num a) = (a.lo == a.hi) && nat_lt a.lo kinds
names_kind kinds _ = false

-- an object at its first byte
abbrev pub is_whole_object : Abs → Bool
is_whole_object (Ob call low high) = int_eq low (pos 0) && int_eq high (pos 0)
is_whole_object _ = false

-- new asks for a kind, and for room among the objects that the program declares
abbrev pub new_refusal : Decl → ℕ → ℕ → Abs → Option VerifyCode
new_refusal decl kinds held kind = first_of (
    (is_unset kind, UnsetRegister) ∷
    (not (names_kind kinds kind), WrongArgument) ∷
    (nat_le decl.held held, TooManyHeld) ∷
    [])

abbrev pub free_refusal : Abs → Option VerifyCode
free_refusal object = first_of (
    (is_unset object, UnsetRegister) ∷
    (is_may object, UntestedAnswer) ∷
    (not (is_whole_object object), WrongArgument) ∷
    [])

abbrev pub emit_refusal : Abs → Option VerifyCode
emit_refusal number = first_of (
    (is_unset number, UnsetRegister) ∷
    (not (is_number number), WrongArgument) ∷
    [])

-- the number that a constant is
abbrev pub constant_in : Abs → ℕ
constant_in (Num a) = a.lo
constant_in _ = 0

abbrev pub is_that : ℕ → Option ℕ → Bool
is_that kind None = false
is_that kind (Some k) = k == kind

-- what can go onto a shelf: nothing, which is 0, or an object of the shelf's kind at its first byte
abbrev pub fits_shelf : ℕ → StateView → Abs → Bool
fits_shelf shelf s (Num a) = (a.lo == 0) && (a.hi == 0)
fits_shelf shelf s (Ob call low high) = int_eq low (pos 0) && (int_eq high (pos 0) && is_that shelf (kind_held call s))
fits_shelf shelf s _ = false

-- the state without the object that goes onto a shelf
abbrev pub without_given : Abs → StateView → StateView
without_given (Ob call low high) s = forgotten call s
without_given _ s = s

-- swap asks for a shelf and for what goes onto it, and for room once that is gone
abbrev pub swap_refusal : Decl → ℕ → StateView → Abs → Abs → Option VerifyCode
swap_refusal decl kinds s shelf given = first_of (
    (is_unset shelf, UnsetRegister) ∷
    (is_unset given, UnsetRegister) ∷
    (is_may given, UntestedAnswer) ∷
    (not (names_kind kinds shelf), WrongArgument) ∷
    (not (fits_shelf (constant_in shelf) s given), WrongArgument) ∷
    (nat_le decl.held (length (without_given given s).held), TooManyHeld) ∷
    [])

abbrev pub call_refusal : Decl → List KindRow → Option Helper → StateView → Option VerifyCode
call_refusal decl rows None s = Some UnknownHelper
call_refusal decl rows (Some New) s = new_refusal decl (length rows) (length s.held) (register_of s R1)
call_refusal decl rows (Some Free) s = free_refusal (register_of s R1)
call_refusal decl rows (Some Emit) s = emit_refusal (register_of s R1)
call_refusal decl rows (Some Swap) s = swap_refusal decl (length rows) s (register_of s R1) (register_of s R2)

-- ---- what is known after it

abbrev pub without_arguments : StateView → StateView
without_arguments s = with_register (with_register (with_register (with_register (with_register s R1 Unset) R2 Unset) R3 Unset) R4 Unset) R5 Unset

abbrev pub with_result : Abs → StateView → StateView
with_result result s = with_register (without_arguments s) R0 result

-- the object of the call at this slot is held, and the answer may be null
abbrev pub after_new : ℕ → Abs → StateView → Option StateView
after_new slot (Num kind) s = Some (with_result (May slot) (holding slot kind.lo s))
after_new slot _ s = None

abbrev pub after_free : Abs → StateView → Option StateView
after_free (Ob call low high) s = Some (with_result (Num (constant 0)) (forgotten call s))
after_free _ s = None

-- what went onto the shelf is gone; what was there is held, and may be null
abbrev pub after_swap : ℕ → Abs → Abs → StateView → Option StateView
after_swap slot (Num shelf) given s = Some (with_result (May slot) (holding slot shelf.lo (without_given given s)))
after_swap slot _ given s = None

abbrev pub after_call : ℕ → Option Helper → StateView → Option StateView
after_call slot (Some New) s = after_new slot (register_of s R1) s
after_call slot (Some Free) s = after_free (register_of s R1) s
after_call slot (Some Emit) s = Some (with_result (Num (constant 0)) s)
after_call slot (Some Swap) s = after_swap slot (register_of s R1) (register_of s R2) s
after_call slot None s = None
