-- Branches (RFC 9669, section 4.3): the codes that refuse one, in order, and what is known on each of its edges.
use Rattle.std.specs.Prelude.{ℕ, zero, pos, [], ◌∷◌, Bool, true, false, ◌||◌, not, Option, Some, None, if◌then◌else◌}
use Rattle.ebpf_insn.specs.declared.register.Reg.{Reg}
use Rattle.ebpf_insn.specs.declared.insn.Source.{Source}
use Rattle.ebpf_insn.specs.declared.insn.Source.TheVariants.{Register, Imm}
use Rattle.ebpf_insn.specs.declared.insn.Cond.{Cond}
use Rattle.ebpf_insn.specs.declared.insn.Cond.TheVariants as on
use Rattle.ebpf_insn.specs.declared.insn.Width.{Width}
use Rattle.ebpf_insn.specs.declared.insn.Width.TheVariants.{W64}
use Rattle.ebpf_insn.specs.Arithmetic.{immediate}
use Rattle.ebpf_insn.specs.Faults.{first_of}
use Rattle.ebpf_range.specs.declared.range.Range.{Range}
use Rattle.ebpf_range.specs.Interval.{constant}
use Rattle.ebpf_range.specs.Refinements.{refinement}
use Rattle.ebpf_state.specs.declared.value.Abs.{Abs}
use Rattle.ebpf_state.specs.declared.value.Abs.TheVariants.{Num, May}
use Rattle.ebpf_state.specs.Abstract.{is_unset, is_pointer, is_may}
use Rattle.ebpf_state.specs.StateView.{StateView}
use Rattle.ebpf_state.specs.States.{register_of, with_register}
use Rattle.ebpf_state.specs.References.{settled}
use Rattle.ebpf_verify.specs.declared.fault.VerifyCode.{VerifyCode}
use Rattle.ebpf_verify.specs.declared.fault.VerifyCode.TheVariants.{UnsetRegister, PointerCompared}

-- what is known of a second operand
abbrev pub operand : StateView → Width → Source → Abs
operand s width (Register r) = register_of s r
operand s width (Imm z) = Num (constant (immediate width z))

-- eq and ne with the immediate 0, at 64 bits, compare an answer with null
abbrev pub compares_with_null : Width → Cond → Source → Bool
compares_with_null W64 on.Eq (Imm (pos zero)) = true
compares_with_null W64 on.Ne (Imm (pos zero)) = true
compares_with_null _ _ _ = false

abbrev pub answering_call : Abs → Option ℕ
answering_call (May call) = Some call
answering_call _ = None

-- the call whose answer a branch compares with null
abbrev pub null_test : Width → Cond → Abs → Source → Option ℕ
null_test width condition left right = if compares_with_null width condition right then answering_call left else None

-- any other comparison is of two numbers
abbrev pub comparison_refusal : Abs → Abs → Option VerifyCode
comparison_refusal left right = first_of (
    (is_unset left || is_unset right, UnsetRegister) ∷
    (is_pointer left || is_may left || is_pointer right || is_may right, PointerCompared) ∷
    [])

abbrev pub branch_refusal : Option ℕ → Abs → Abs → Option VerifyCode
branch_refusal (Some call) left right = None
branch_refusal None left right = comparison_refusal left right

-- what is known of both operands where a branch is taken, or where it is not
abbrev pub refined_values : Cond → Width → Abs → Abs → Bool → Option (Range × Range)
refined_values condition width (Num a) (Num b) taken = refinement condition width a b taken
refined_values condition width _ _ taken = None

abbrev pub with_operand : StateView → Source → Range → StateView
with_operand s (Register r) a = with_register s r (Num a)
with_operand s (Imm z) a = s

-- the left register is written first
abbrev pub with_operands : Reg → Source → Option (Range × Range) → StateView → Option StateView
with_operands left right None s = None
with_operands left right (Some known) s = Some (with_operand (with_register s left (Num known.0)) right known.1)

-- the answer is null where eq is taken, and where ne is not
abbrev pub is_null_where : Cond → Bool → Bool
is_null_where on.Eq taken = taken
is_null_where _ taken = not taken

abbrev pub after_comparison : Option ℕ → Cond → Width → Reg → Source → Bool → StateView → Option StateView
after_comparison (Some call) condition width left right taken s = Some (settled call (is_null_where condition taken) s)
after_comparison None condition width left right taken s =
    with_operands left right (refined_values condition width (register_of s left) (operand s width right) taken) s

-- what is known after a branch that is taken, or is not; nothing where it never goes that way
abbrev pub after_branch : Cond → Width → Reg → Source → Bool → StateView → Option StateView
after_branch condition width left right taken s = after_comparison (null_test width condition (register_of s left) right) condition width left right taken s
