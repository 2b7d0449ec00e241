-- Arithmetic (RFC 9669, sections 4.1 and 4.2): the codes that refuse an operation, in order, and what is known of its result.
use Rattle.std.specs.Prelude.{[], ◌∷◌, Bool, true, false, ◌||◌, ◌&&◌, ◌==◌, not, is_none, Option, unwrap_or}
use Rattle.ebpf_insn.specs.declared.register.Reg.{Reg}
use Rattle.ebpf_insn.specs.declared.register.Reg.TheVariants.{R10}
use Rattle.ebpf_insn.specs.declared.insn.AluOp.{AluOp}
use Rattle.ebpf_insn.specs.declared.insn.AluOp.TheVariants as op
use Rattle.ebpf_insn.specs.declared.insn.Width.{Width}
use Rattle.ebpf_insn.specs.declared.insn.Width.TheVariants.{W32, W64}
use Rattle.ebpf_insn.specs.Faults.{first_of}
use Rattle.ebpf_range.specs.declared.range.Range.{Range}
use Rattle.ebpf_range.specs.Interval.{low}
use Rattle.ebpf_range.specs.Results.{result_range}
use Rattle.ebpf_state.specs.declared.value.Abs.{Abs}
use Rattle.ebpf_state.specs.declared.value.Abs.TheVariants.{Unset, Num, Stk}
use Rattle.ebpf_state.specs.Abstract.{is_unset, is_pointer, is_may}
use Rattle.ebpf_verify.specs.declared.fault.VerifyCode.{VerifyCode}
use Rattle.ebpf_verify.specs.declared.fault.VerifyCode.TheVariants.{UnsetRegister, FramePointerWritten, PointerMisused, MovedTooFar, UntestedAnswer}
use Rattle.ebpf_verify.specs.Pointers.{sum_value, difference_value}

abbrev pub is_frame_pointer : Reg → Bool
is_frame_pointer R10 = true
is_frame_pointer _ = false

-- a number that an instruction gives
abbrev pub constant_refusal : Reg → Option VerifyCode
constant_refusal dst = first_of ((is_frame_pointer dst, FramePointerWritten) ∷ [])

-- mov at 64 bits copies any value, pointers too
abbrev pub mov64_refusal : Abs → Reg → Option VerifyCode
mov64_refusal src dst = first_of ((is_unset src, UnsetRegister) ∷ (is_frame_pointer dst, FramePointerWritten) ∷ [])

-- an operation on one number: mov at 32 bits, movsx, neg, end
abbrev pub unary_refusal : Abs → Reg → Option VerifyCode
unary_refusal src dst = first_of (
    (is_unset src, UnsetRegister) ∷
    (is_frame_pointer dst, FramePointerWritten) ∷
    (is_may src, UntestedAnswer) ∷
    (is_pointer src, PointerMisused) ∷
    [])

-- an operation on two numbers
abbrev pub binary_refusal : Abs → Abs → Reg → Option VerifyCode
binary_refusal left right dst = first_of (
    (is_unset left || is_unset right, UnsetRegister) ∷
    (is_frame_pointer dst, FramePointerWritten) ∷
    (is_may left || is_may right, UntestedAnswer) ∷
    (is_pointer left || is_pointer right, PointerMisused) ∷
    [])

-- a pointer to the stack, and a value that is no constant: the stack's pointers are known exactly
abbrev pub makes_stack_offset_vary : Abs → Abs → Bool
makes_stack_offset_vary (Stk k) (Num a) = not (a.lo == a.hi)
makes_stack_offset_vary _ _ = false

-- add and sub at 64 bits, of two values whose result is this
abbrev pub moving_refusal : Abs → Abs → Reg → Bool → Bool → Option Abs → Option VerifyCode
moving_refusal left right dst moves_by_pointer moves_stack_by_unknown value = first_of (
    (is_unset left || is_unset right, UnsetRegister) ∷
    (is_frame_pointer dst, FramePointerWritten) ∷
    (is_may left || is_may right, UntestedAnswer) ∷
    (moves_by_pointer, PointerMisused) ∷
    (moves_stack_by_unknown, PointerMisused) ∷
    (is_none value, MovedTooFar) ∷
    [])

-- two numbers are added, or a pointer is moved by a number
abbrev pub add64_refusal : Abs → Abs → Reg → Option VerifyCode
add64_refusal left right dst =
    let unknown = makes_stack_offset_vary left right || makes_stack_offset_vary right left in
    moving_refusal left right dst (is_pointer left && is_pointer right) unknown (sum_value left right)

-- a number is taken from a number, or a pointer is moved back by a number
abbrev pub sub64_refusal : Abs → Abs → Reg → Option VerifyCode
sub64_refusal left right dst =
    moving_refusal left right dst (is_pointer right) (makes_stack_offset_vary left right) (difference_value left right)

abbrev pub alu_refusal : Width → AluOp → Abs → Abs → Reg → Option VerifyCode
alu_refusal W64 op.Mov left right dst = mov64_refusal right dst
alu_refusal W32 op.Mov left right dst = unary_refusal right dst
alu_refusal W64 op.Add left right dst = add64_refusal left right dst
alu_refusal W64 op.Sub left right dst = sub64_refusal left right dst
alu_refusal _ _ left right dst = binary_refusal left right dst

-- what is known of the result of an operation on one number
abbrev pub unary_value : (Range → Range) → Abs → Abs
unary_value row (Num a) = Num (row a)
unary_value row _ = Unset

-- of an operation on two numbers
abbrev pub binary_value : AluOp → Width → Abs → Abs → Abs
binary_value o width (Num a) (Num b) = Num (result_range o width a b)
binary_value o width _ _ = Unset

-- what is known of the result that is written
abbrev pub result_of : Width → AluOp → Abs → Abs → Abs
result_of W64 op.Mov left right = right
result_of W32 op.Mov left right = unary_value low right
result_of W64 op.Add left right = unwrap_or (sum_value left right) Unset
result_of W64 op.Sub left right = unwrap_or (difference_value left right) Unset
result_of width o left right = binary_value o width left right
