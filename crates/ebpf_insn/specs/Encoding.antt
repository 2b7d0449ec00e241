-- The encoding of each instruction, and which bytes are programs (RFC 9669, sections 3 to 5).
use Rattle.std.specs.Prelude.{FitsSigned, ◌≡◌, ◌<◌, ◌≤◌, ◌/◌, ◌%◌, ◌^◌, ℕ, Bool, true, false, List, [], ◌∷◌, length, Option}
use Rattle.std.specs.Int.{w16, w32, cast_unsigned}
use Rattle.std.specs.List.{flat_map, AllByRecursion}
use Rattle.ebpf_insn.specs.declared.slot.Slot.{Slot}
use Rattle.ebpf_insn.specs.declared.insn.Insn.{Insn}
use Rattle.ebpf_insn.specs.declared.insn.Insn.TheVariants as insn
use Rattle.ebpf_insn.specs.declared.insn.Size.{Size}
use Rattle.ebpf_insn.specs.declared.insn.Size.TheVariants.{D}
use Rattle.ebpf_insn.specs.declared.insn.Source.{Source}
use Rattle.ebpf_insn.specs.declared.insn.Source.TheVariants as source
use Rattle.ebpf_insn.specs.declared.insn.AluOp.{AluOp}
use Rattle.ebpf_insn.specs.declared.insn.AluOp.TheVariants as op
use Rattle.ebpf_insn.specs.declared.opcode.Operand.{Operand}
use Rattle.ebpf_insn.specs.declared.opcode.Operand.TheVariants.{Immediate, Register}
use Rattle.ebpf_insn.specs.declared.opcode.Form.{Form}
use Rattle.ebpf_insn.specs.declared.opcode.Form.TheVariants as form
use Rattle.ebpf_insn.specs.Registers.{number_of}
use Rattle.ebpf_insn.specs.Slot.{bytes_of_slot}
use Rattle.ebpf_insn.specs.Opcodes.{opcode_of}
use Rattle.ebpf_insn.specs.Fields.{is_move_of, is_swap_of}
use Rattle.ebpf_insn.specs.Program.{instructions, placed}

-- a second operand: which it is, its register and its immediate
abbrev pub operand_of : Source → Operand
operand_of (source.Imm z) = Immediate
operand_of (source.Register r) = Register

abbrev pub source_register : Source → ℕ
source_register (source.Imm z) = 0
source_register (source.Register r) = number_of r

abbrev pub source_imm : Source → ℕ
source_imm (source.Imm z) = cast_unsigned w32 z
source_imm (source.Register r) = 0

-- the offset of an operation: 1 makes a division or a remainder a signed one
abbrev pub sign_offset : AluOp → ℕ
sign_offset op.SDiv = 1
sign_offset op.SRem = 1
sign_offset _ = 0

-- a signed operation has the form of the unsigned one
abbrev pub unsigned_of : AluOp → AluOp
unsigned_of op.SDiv = op.Div
unsigned_of op.SRem = op.Rem
unsigned_of o = o

-- the form of an instruction's first slot
abbrev pub form_of_insn : Insn → Form
form_of_insn (insn.Alu width o dst src) = form.Alu width (unsigned_of o) (operand_of src)
form_of_insn (insn.Sext width bits dst src) = form.Alu width op.Mov Register
form_of_insn (insn.Neg width dst) = form.Neg width
form_of_insn (insn.Swap order bits dst) = form.Swap order
form_of_insn (insn.Wide dst value) = form.Wide
form_of_insn (insn.Load size signed dst base offset) = form.Load size signed
form_of_insn (insn.Store size base offset src) = form.Store size (operand_of src)
form_of_insn (insn.Jump offset) = form.Jump
form_of_insn (insn.JumpFar offset) = form.JumpFar
form_of_insn (insn.Branch width condition left right offset) = form.Branch width condition (operand_of right)
form_of_insn (insn.Call number) = form.Call
form_of_insn insn.Exit = form.Exit

abbrev pub slot_with : Form → ℕ → ℕ → ℕ → ℕ → Slot
slot_with f dst src offset imm = record { opcode = opcode_of f; dst = dst; src = src; offset = offset; imm = imm }

-- the second half of a wide instruction
abbrev pub second_half : ℕ → Slot
second_half imm = record { opcode = 0; dst = 0; src = 0; offset = 0; imm = imm }

-- the first slot of an instruction
abbrev pub first_slot : Insn → Slot
first_slot (insn.Alu width o dst src) = slot_with (form.Alu width o (operand_of src)) (number_of dst) (source_register src) (sign_offset o) (source_imm src)
first_slot (insn.Sext width bits dst src) = slot_with (form.Alu width op.Mov Register) (number_of dst) (number_of src) bits 0
first_slot (insn.Neg width dst) = slot_with (form.Neg width) (number_of dst) 0 0 0
first_slot (insn.Swap order bits dst) = slot_with (form.Swap order) (number_of dst) 0 0 bits
first_slot (insn.Wide dst value) = slot_with form.Wide (number_of dst) 0 0 (value % 2 ^ 32)
first_slot (insn.Load size signed dst base offset) = slot_with (form.Load size signed) (number_of dst) (number_of base) (cast_unsigned w16 offset) 0
first_slot (insn.Store size base offset src) =
    slot_with (form.Store size (operand_of src)) (number_of base) (source_register src) (cast_unsigned w16 offset) (source_imm src)
first_slot (insn.Jump offset) = slot_with form.Jump 0 0 (cast_unsigned w16 offset) 0
first_slot (insn.JumpFar offset) = slot_with form.JumpFar 0 0 0 (cast_unsigned w32 offset)
first_slot (insn.Branch width condition left right offset) =
    slot_with (form.Branch width condition (operand_of right)) (number_of left) (source_register right) (cast_unsigned w16 offset) (source_imm right)
first_slot (insn.Call number) = slot_with form.Call 0 0 0 (cast_unsigned w32 number)
first_slot insn.Exit = slot_with form.Exit 0 0 0 0

-- the slots after it: a wide instruction has one more
abbrev pub later_slots : Insn → List Slot
later_slots (insn.Wide dst value) = second_half (value / 2 ^ 32) ∷ []
later_slots _ = []

abbrev pub slots_of : Insn → List Slot
slots_of i = first_slot i ∷ later_slots i

-- the bytes of an instruction
abbrev pub encoding : Insn → List ℕ
encoding i = flat_map bytes_of_slot (slots_of i)

abbrev pub IsSource : Source → Type 0
IsSource (source.Imm z) = FitsSigned w32 z
IsSource (source.Register r) = Unit {0}

-- there are signed loads of one, two and four bytes
abbrev pub has_load : Size → Bool → Bool
has_load size false = true
has_load D true = false
has_load _ true = true

-- the instructions that have an encoding
abbrev pub IsDefined : Insn → Type 0
IsDefined (insn.Alu width o dst src) = IsSource src
IsDefined (insn.Sext width bits dst src) = is_move_of width bits ≡ true
IsDefined (insn.Neg width dst) = Unit {0}
IsDefined (insn.Swap order bits dst) = is_swap_of bits ≡ true
IsDefined (insn.Wide dst value) = value < 2 ^ 64
IsDefined (insn.Load size signed dst base offset) = (has_load size signed ≡ true) × FitsSigned w16 offset
IsDefined (insn.Store size base offset src) = IsSource src × FitsSigned w16 offset
IsDefined (insn.Jump offset) = FitsSigned w16 offset
IsDefined (insn.JumpFar offset) = FitsSigned w32 offset
IsDefined (insn.Branch width condition left right offset) = IsSource right × FitsSigned w16 offset
IsDefined (insn.Call number) = FitsSigned w32 number
IsDefined insn.Exit = Unit {0}

-- a program: 1 to 4096 slots, which are those of instructions that have an encoding, one after another
pub record IsWellFormed (p : List (Option Insn)) : Type 0 where
  pub some : 0 < length p
  pub few : length p ≤ 4096
  pub defined : AllByRecursion IsDefined (instructions p)
  pub placed : p ≡ flat_map placed (instructions p)

-- the bytes of a program: the encodings of its instructions, one after another
abbrev pub program_bytes : List (Option Insn) → List ℕ
program_bytes p = flat_map encoding (instructions p)

pub record IsProgram (bytes : List ℕ) (p : List (Option Insn)) : Type 0 where
  pub formed : IsWellFormed p
  pub encoded : bytes ≡ program_bytes p
