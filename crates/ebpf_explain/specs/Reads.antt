-- The registers that an instruction reads, and what is known of them.
use Rattle.std.specs.Prelude.{ℕ, if◌then◌else◌, List, [], ◌∷◌, ◌++◌, codes, Option, Some, None}
use Rattle.std.specs.List.{flat_map}
use Rattle.ebpf_insn.specs.declared.register.Reg.{Reg}
use Rattle.ebpf_insn.specs.declared.register.Reg.TheVariants.{R0, R1, R2}
use Rattle.ebpf_insn.specs.declared.insn.AluOp.{AluOp}
use Rattle.ebpf_insn.specs.declared.insn.AluOp.TheVariants as op
use Rattle.ebpf_insn.specs.declared.insn.Source.{Source}
use Rattle.ebpf_insn.specs.declared.insn.Source.TheVariants.{Register, Imm}
use Rattle.ebpf_insn.specs.declared.insn.Insn.{Insn}
use Rattle.ebpf_insn.specs.declared.insn.Insn.TheVariants as insn
use Rattle.ebpf_state.specs.declared.value.Abs.{Abs}
use Rattle.ebpf_state.specs.declared.value.Abs.TheVariants.{May}
use Rattle.ebpf_state.specs.Abstract.{is_unset}
use Rattle.ebpf_state.specs.StateView.{StateView}
use Rattle.ebpf_state.specs.States.{register_of}
use Rattle.ebpf_operation.specs.declared.helper.Helper.{Helper}
use Rattle.ebpf_operation.specs.declared.helper.Helper.TheVariants.{New, Free, Emit, Swap}
use Rattle.ebpf_operation.specs.Helpers.{helper_of}
use Rattle.ebpf_explain.specs.declared.reads.Reads.{Reads}
use Rattle.ebpf_explain.specs.declared.reads.Reads.TheVariants.{Nothing, One, Two}
use Rattle.ebpf_explain.specs.Registers.{known_register}

-- the registers that the code keeps
abbrev pub registers_of : Reads → List Reg
registers_of Nothing = []
registers_of (One register) = register ∷ []
registers_of (Two first second) = first ∷ second ∷ []

abbrev pub registers_in : Source → List Reg
registers_in (Register r) = r ∷ []
registers_in (Imm z) = []

-- mov doesn't read what it writes
abbrev pub operands_read : AluOp → Reg → Source → List Reg
operands_read op.Mov dst src = registers_in src
operands_read _ dst src = dst ∷ registers_in src

-- what the rule of a helper looks at
abbrev pub arguments_read : Option Helper → List Reg
arguments_read (Some New) = R1 ∷ []
arguments_read (Some Free) = R1 ∷ []
arguments_read (Some Emit) = R1 ∷ []
arguments_read (Some Swap) = R1 ∷ R2 ∷ []
arguments_read None = []

-- in the order in which the rule of the instruction tests them
abbrev pub registers_read : Insn → List Reg
registers_read (insn.Alu width o dst src) = operands_read o dst src
registers_read (insn.Sext width bits dst src) = src ∷ []
registers_read (insn.Neg width dst) = dst ∷ []
registers_read (insn.Swap order bits dst) = dst ∷ []
registers_read (insn.Wide dst value) = []
registers_read (insn.Load size signed dst base offset) = base ∷ []
registers_read (insn.Store size base offset src) = base ∷ registers_in src
registers_read (insn.Jump offset) = []
registers_read (insn.JumpFar offset) = []
registers_read (insn.Branch width cond left right offset) = left ∷ registers_in right
registers_read (insn.Call number) = arguments_read (helper_of number)
registers_read insn.Exit = R0 ∷ []

-- those of which the rule asks whether they were compared with null: of what `swap` is given, the object alone
abbrev pub answers_in : Option Helper → List Reg
answers_in (Some Swap) = R2 ∷ []
answers_in helper = arguments_read helper

abbrev pub answers_read : Insn → List Reg
answers_read (insn.Call number) = answers_in (helper_of number)
answers_read i = registers_read i

-- the words of those that are set
abbrev pub known_of : StateView → List Reg → List ℕ
known_of s registers = flat_map (known_register s) registers

-- the first that is not set
abbrev pub unset_or : Reg → Abs → Option Reg → Option Reg
unset_or r value other = if is_unset value then Some r else other

abbrev pub first_unset : StateView → List Reg → Option Reg
first_unset s [] = None
first_unset s (r ∷ rs) = unset_or r (register_of s r) (first_unset s rs)

-- the call of the first that is an answer which was not compared with null
abbrev pub answer_or : Abs → Option ℕ → Option ℕ
answer_or (May call) other = Some call
answer_or _ other = other

abbrev pub first_answer : StateView → List Reg → Option ℕ
first_answer s [] = None
first_answer s (r ∷ rs) = answer_or (register_of s r) (first_answer s rs)

-- a fault, with what is known of the registers that are read
abbrev pub fault_with_reads : List ℕ → StateView → List Reg → List ℕ
fault_with_reads fault s registers = fault ++ (codes "," ++ known_of s registers)
