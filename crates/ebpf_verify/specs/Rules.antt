-- The rule of each instruction: the codes that refuse it, in order, and the states that it sends on. That the rules are sound for
-- the machine is ebpf_machine/proofs/Rules/Soundness.
use Rattle.std.specs.Prelude.{ℕ, ℤ, List, [], ◌∷◌, true, false, ◌||◌, nat_lt, Option, Some, None, length}
use Rattle.ebpf_insn.specs.declared.register.Reg.{Reg}
use Rattle.ebpf_insn.specs.declared.register.Reg.TheVariants.{R0}
use Rattle.ebpf_insn.specs.declared.insn.Insn.{Insn}
use Rattle.ebpf_insn.specs.declared.insn.Insn.TheVariants as insn
use Rattle.ebpf_insn.specs.declared.insn.Cond.{Cond}
use Rattle.ebpf_insn.specs.declared.insn.Size.{Size}
use Rattle.ebpf_insn.specs.declared.insn.Source.{Source}
use Rattle.ebpf_insn.specs.declared.insn.Width.{Width}
use Rattle.ebpf_insn.specs.declared.insn.Width.TheVariants.{W64}
use Rattle.ebpf_insn.specs.Faults.{first_of}
use Rattle.ebpf_range.specs.Interval.{constant}
use Rattle.ebpf_range.specs.Results.{extension_range, negation_range, swap_range}
use Rattle.ebpf_state.specs.declared.kinds.KindRow.{KindRow}
use Rattle.ebpf_state.specs.declared.value.Abs.{Abs}
use Rattle.ebpf_state.specs.declared.value.Abs.TheVariants.{Num}
use Rattle.ebpf_state.specs.Abstract.{is_unset, is_pointer, is_may}
use Rattle.ebpf_state.specs.StateView.{StateView}
use Rattle.ebpf_state.specs.States.{register_of, with_register}
use Rattle.ebpf_verify.specs.declared.decl.Decl.{Decl}
use Rattle.ebpf_verify.specs.declared.fault.VerifyCode.{VerifyCode}
use Rattle.ebpf_verify.specs.declared.fault.VerifyCode.TheVariants.{UnsetRegister, HeldAtExit, NoNumberReturned}
use Rattle.ebpf_verify.specs.Operations.{constant_refusal, unary_refusal, alu_refusal, unary_value, result_of}
use Rattle.ebpf_verify.specs.Branches.{operand, null_test, branch_refusal, after_branch}
use Rattle.ebpf_verify.specs.Memory.{load_refusal, loaded_value, store_refusal, after_store}
use Rattle.ebpf_operation.specs.Helpers.{helper_of}
use Rattle.ebpf_verify.specs.Calls.{call_refusal, after_call}

-- exit returns a number, with no object held
abbrev pub exit_refusal : Abs → ℕ → Option VerifyCode
exit_refusal result held = first_of (
    (is_unset result, UnsetRegister) ∷
    (nat_lt 0 held, HeldAtExit) ∷
    (is_pointer result || is_may result, NoNumberReturned) ∷
    [])

-- what refuses a branch, and a store, from what is known of their operands
abbrev pub refusal_of_branch : Cond → Width → Reg → Source → StateView → Option VerifyCode
refusal_of_branch condition width left right s =
    branch_refusal (null_test width condition (register_of s left) right) (register_of s left) (operand s width right)

abbrev pub refusal_of_store : List KindRow → Size → Reg → ℤ → Source → StateView → Option VerifyCode
refusal_of_store rows size base offset src s = store_refusal rows size offset (register_of s base) (operand s W64 src) s

-- what is known after a store
abbrev pub state_after_store : Size → Reg → ℤ → Source → StateView → Option StateView
state_after_store size base offset src s = after_store size offset (register_of s base) (operand s W64 src) s

-- the first code that refuses an instruction of a program that declares this, where there are these kinds and this is known
-- before it
abbrev pub refusal : Decl → List KindRow → Insn → StateView → Option VerifyCode
refusal decl rows (insn.Alu width o dst src) s = alu_refusal width o (register_of s dst) (operand s width src) dst
refusal decl rows (insn.Sext width bits dst src) s = unary_refusal (register_of s src) dst
refusal decl rows (insn.Neg width dst) s = unary_refusal (register_of s dst) dst
refusal decl rows (insn.Swap order bits dst) s = unary_refusal (register_of s dst) dst
refusal decl rows (insn.Wide dst value) s = constant_refusal dst
refusal decl rows (insn.Jump offset) s = None
refusal decl rows (insn.JumpFar offset) s = None
refusal decl rows (insn.Branch width condition left right offset) s = refusal_of_branch condition width left right s
refusal decl rows insn.Exit s = exit_refusal (register_of s R0) (length s.held)
refusal decl rows (insn.Load size signed dst base offset) s = load_refusal decl.context rows size signed dst offset (register_of s base) s
refusal decl rows (insn.Store size base offset src) s = refusal_of_store rows size base offset src s
refusal decl rows (insn.Call number) s = call_refusal decl rows (helper_of number) s

-- an instruction that goes to the slot after it alone
abbrev pub Acts : Insn → Type 0
Acts (insn.Jump offset) = ⊥
Acts (insn.JumpFar offset) = ⊥
Acts (insn.Branch width condition left right offset) = ⊥
Acts insn.Exit = ⊥
Acts _ = Unit {0}

-- an instruction that writes what it makes of one number
abbrev pub ChangesNumber : Insn → Type 0
ChangesNumber (insn.Sext width bits dst src) = Unit {0}
ChangesNumber (insn.Neg width dst) = Unit {0}
ChangesNumber (insn.Swap order bits dst) = Unit {0}
ChangesNumber _ = ⊥

-- what is known after arithmetic, or a load, that is not refused
abbrev pub after_operation : Insn → StateView → Option StateView
after_operation (insn.Alu width o dst src) s = Some (with_register s dst (result_of width o (register_of s dst) (operand s width src)))
after_operation (insn.Sext width bits dst src) s = Some (with_register s dst (unary_value (extension_range width bits) (register_of s src)))
after_operation (insn.Neg width dst) s = Some (with_register s dst (unary_value (negation_range width) (register_of s dst)))
after_operation (insn.Swap order bits dst) s = Some (with_register s dst (unary_value (swap_range order bits) (register_of s dst)))
after_operation (insn.Wide dst value) s = Some (with_register s dst (Num (constant value)))
after_operation (insn.Load size signed dst base offset) s = Some (with_register s dst (loaded_value size signed offset (register_of s base) s))
after_operation _ s = None

-- what is known after the instruction at a slot, where it is not refused, on the edge to the slot after it
abbrev pub after_fall : ℕ → Insn → StateView → Option StateView
after_fall slot (insn.Branch width condition left right offset) s = after_branch condition width left right false s
after_fall slot (insn.Store size base offset src) s = state_after_store size base offset src s
after_fall slot (insn.Call number) s = after_call slot (helper_of number) s
after_fall slot i s = after_operation i s

-- the same on the edge to the target of its jump
abbrev pub after_jump : Insn → StateView → Option StateView
after_jump (insn.Jump offset) s = Some s
after_jump (insn.JumpFar offset) s = Some s
after_jump (insn.Branch width condition left right offset) s = after_branch condition width left right true s
after_jump _ s = None
