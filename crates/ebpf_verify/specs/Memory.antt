-- Loads and stores (RFC 9669, sections 5.1 and 5.2): the codes that refuse one, in order, and what is known after it.
use Rattle.std.specs.Prelude.{ℕ, ℤ, pos, ◌+ℤ◌, int_le, List, [], ◌∷◌, Bool, true, false, not, ◌||◌, ◌&&◌, if◌then◌else◌}
use Rattle.std.specs.Prelude.{Option, Some, None, option_map, unwrap_or, Result, Ok, Err, slice_get}
use Rattle.ebpf_insn.specs.declared.register.Reg.{Reg}
use Rattle.ebpf_insn.specs.declared.insn.Size.{Size}
use Rattle.ebpf_insn.specs.Faults.{first_of}
use Rattle.ebpf_flow.specs.Flow.{or_else}
use Rattle.ebpf_state.specs.declared.kinds.KindRow.{KindRow}
use Rattle.ebpf_state.specs.declared.value.Abs.{Abs}
use Rattle.ebpf_state.specs.declared.value.Abs.TheVariants.{Unset, Num, Stk, Ctx, Ob}
use Rattle.ebpf_state.specs.declared.stack.StackFault.{StackFault}
use Rattle.ebpf_state.specs.declared.stack.StackFault.TheVariants.{Bounds, UnsetByte, SplitPointer}
use Rattle.ebpf_state.specs.Abstract.{is_unset, is_may}
use Rattle.ebpf_state.specs.References.{kind_held}
use Rattle.ebpf_state.specs.Stack.{bytes_in, may_point, loaded_range, loaded, stored}
use Rattle.ebpf_state.specs.StateView.{StateView}
use Rattle.ebpf_verify.specs.declared.fault.VerifyCode.{VerifyCode}
use Rattle.ebpf_verify.specs.declared.fault.VerifyCode.TheVariants.{UnsetRegister, FramePointerWritten, OutsideStack, UnsetStack, OutsideContext}
use Rattle.ebpf_verify.specs.declared.fault.VerifyCode.TheVariants.{ContextWritten, OutsideObject, UntestedAnswer, PartialPointer, NumberAsAddress}
use Rattle.ebpf_verify.specs.Operations.{is_frame_pointer}

abbrev pub is_number : Abs → Bool
is_number (Num a) = true
is_number _ = false

-- the code of a fault of the stack
abbrev pub stack_code : StackFault → VerifyCode
stack_code Bounds = OutsideStack
stack_code UnsetByte = UnsetStack
stack_code SplitPointer = PartialPointer

abbrev pub refused_access : {X : Type 0} → Result X StackFault → Option VerifyCode
refused_access (Ok x) = None
refused_access (Err fault) = Some (stack_code fault)

-- n bytes at an offset from an address lie among those of something of this length, wherever between its ends the address
-- is
abbrev pub is_in_bounds : ℕ → ℤ → ℤ → ℤ → ℕ → Bool
is_in_bounds len low high offset bytes = int_le (pos 0) (low +ℤ offset) && int_le ((high +ℤ offset) +ℤ pos bytes) (pos len)

-- how many bytes an object of a kind has; nothing has none
abbrev pub size_of : List KindRow → Option ℕ → ℕ
size_of rows None = 0
size_of rows (Some kind) = unwrap_or (option_map (λ row. row.size) (slice_get rows kind)) 0

-- how many the object of a call has
abbrev pub size_held : List KindRow → ℕ → StateView → ℕ
size_held rows call s = size_of rows (kind_held call s)

-- ---- loads

-- why bytes at a pointer can't be loaded
abbrev pub reading_refusal : ℕ → List KindRow → Size → Bool → ℤ → Abs → StateView → Option VerifyCode
reading_refusal context rows size signed offset (Stk k) s = refused_access (loaded s size signed (k +ℤ offset))
reading_refusal context rows size signed offset (Ctx a b) s = if is_in_bounds context a b offset (bytes_in size) then None else Some OutsideContext
reading_refusal context rows size signed offset (Ob call a b) s = if is_in_bounds (size_held rows call s) a b offset (bytes_in size) then None else Some OutsideObject
reading_refusal context rows size signed offset _ s = None

abbrev pub load_refusal : ℕ → List KindRow → Size → Bool → Reg → ℤ → Abs → StateView → Option VerifyCode
load_refusal context rows size signed dst offset base s = or_else (first_of (
    (is_unset base, UnsetRegister) ∷
    (is_frame_pointer dst, FramePointerWritten) ∷
    (is_number base, NumberAsAddress) ∷
    (is_may base, UntestedAnswer) ∷
    [])) (reading_refusal context rows size signed offset base s)

abbrev pub value_or_unset : Result Abs StackFault → Abs
value_or_unset (Ok value) = value
value_or_unset (Err fault) = Unset

-- what is known of the value that is loaded
abbrev pub loaded_value : Size → Bool → ℤ → Abs → StateView → Abs
loaded_value size signed offset (Stk k) s = value_or_unset (loaded s size signed (k +ℤ offset))
loaded_value size signed offset (Ctx a b) s = Num (loaded_range (bytes_in size) signed)
loaded_value size signed offset (Ob call a b) s = Num (loaded_range (bytes_in size) signed)
loaded_value size signed offset _ s = Unset

-- ---- stores

-- why a value can't be stored through a pointer: the context is never written, and objects hold numbers alone
abbrev pub writing_refusal : List KindRow → Size → ℤ → Abs → Abs → StateView → Option VerifyCode
writing_refusal rows size offset (Stk k) value s = refused_access (stored s size (k +ℤ offset) value)
writing_refusal rows size offset (Ctx a b) value s = Some ContextWritten
writing_refusal rows size offset (Ob call a b) value s = first_of (
    (not (is_in_bounds (size_held rows call s) a b offset (bytes_in size)), OutsideObject) ∷
    (may_point value, PartialPointer) ∷
    [])
writing_refusal rows size offset _ value s = None

abbrev pub store_refusal : List KindRow → Size → ℤ → Abs → Abs → StateView → Option VerifyCode
store_refusal rows size offset base value s = or_else (first_of (
    (is_unset base || is_unset value, UnsetRegister) ∷
    (is_number base, NumberAsAddress) ∷
    (is_may base, UntestedAnswer) ∷
    [])) (writing_refusal rows size offset base value s)

abbrev pub state_after : Result StateView StackFault → Option StateView
state_after (Ok s) = Some s
state_after (Err fault) = None

-- what is known after a store that is not refused
abbrev pub after_store : Size → ℤ → Abs → Abs → StateView → Option StateView
after_store size offset (Stk k) value s = state_after (stored s size (k +ℤ offset) value)
after_store size offset (Ob call a b) value s = Some s
after_store size offset _ value s = None
