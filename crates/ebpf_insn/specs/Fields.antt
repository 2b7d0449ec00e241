-- Which fields of its slots an instruction uses, and what they may hold (RFC 9669, sections 3 to 5).
use Rattle.std.specs.Prelude.{ℕ, Bool, true, false, not, ◌&&◌, ◌||◌, ◌==◌, nat_le, Option, Some, None}
use Rattle.ebpf_insn.specs.declared.slot.Slot.{Slot}
use Rattle.ebpf_insn.specs.declared.insn.Width.{Width}
use Rattle.ebpf_insn.specs.declared.insn.Width.TheVariants.{W32, W64}
use Rattle.ebpf_insn.specs.declared.insn.AluOp.{AluOp}
use Rattle.ebpf_insn.specs.declared.insn.AluOp.TheVariants.{Div, Rem, Mov}
use Rattle.ebpf_insn.specs.declared.opcode.Operand.{Operand}
use Rattle.ebpf_insn.specs.declared.opcode.Operand.TheVariants.{Immediate, Register}
use Rattle.ebpf_insn.specs.declared.opcode.Form.{Form}
use Rattle.ebpf_insn.specs.declared.opcode.Form.TheVariants as form

-- the second operand is the register src, or the immediate
abbrev pub takes_register : Operand → Bool
takes_register Immediate = false
takes_register Register = true

-- the offset chooses the sign of a division or a remainder, and how far a move extends one
abbrev pub offset_chooses : AluOp → Operand → Bool
offset_chooses Div operand = true
offset_chooses Rem operand = true
offset_chooses Mov operand = takes_register operand
offset_chooses _ operand = false

-- the fields of a slot that an instruction of some form uses
pub record UsedFields : Type 0 where
  pub dst : Bool
  pub src : Bool
  pub offset : Bool
  pub imm : Bool

-- the fields that a form uses
abbrev pub uses : Form → UsedFields
uses (form.Alu width o operand) = record { dst = true; src = takes_register operand; offset = offset_chooses o operand; imm = not (takes_register operand) }
uses (form.Neg width) = record { dst = true; src = false; offset = false; imm = false }
uses (form.Swap order) = record { dst = true; src = false; offset = false; imm = true }
uses form.Wide = record { dst = true; src = false; offset = false; imm = true }
uses (form.Load size signed) = record { dst = true; src = true; offset = true; imm = false }
uses (form.Store size operand) = record { dst = true; src = takes_register operand; offset = true; imm = not (takes_register operand) }
uses (form.Branch width condition operand) = record { dst = true; src = takes_register operand; offset = true; imm = not (takes_register operand) }
uses form.Jump = record { dst = false; src = false; offset = true; imm = false }
uses form.JumpFar = record { dst = false; src = false; offset = false; imm = true }
uses form.Call = record { dst = false; src = false; offset = false; imm = true }
uses form.Exit = record { dst = false; src = false; offset = false; imm = false }

-- the fields that a form doesn't use are zero
abbrev pub leaves_unused_zero : Form → Slot → Bool
leaves_unused_zero f s =
    ((uses f).dst || s.dst == 0) && ((uses f).src || s.src == 0) && ((uses f).offset || s.offset == 0) && ((uses f).imm || s.imm == 0)

-- calls within a program and by the numbers of BTF; wide loads of a map, a variable or code
abbrev pub has_left_out_source : Form → ℕ → Bool
has_left_out_source form.Call src = nat_le 1 src && nat_le src 2
has_left_out_source form.Wide src = nat_le 1 src && nat_le src 6
has_left_out_source _ src = false

-- how many bits a sign-extending move takes
abbrev pub is_move_of : Width → ℕ → Bool
is_move_of W32 bits = bits == 8 || bits == 16
is_move_of W64 bits = bits == 8 || bits == 16 || bits == 32

-- how many bits a byte swap takes
abbrev pub is_swap_of : ℕ → Bool
is_swap_of bits = bits == 16 || bits == 32 || bits == 64

-- the offset and the immediate are ones that the operation has
abbrev pub has_defined_fields : Form → Slot → Bool
has_defined_fields (form.Alu width Div operand) s = nat_le s.offset 1
has_defined_fields (form.Alu width Rem operand) s = nat_le s.offset 1
has_defined_fields (form.Alu width Mov Register) s = s.offset == 0 || is_move_of width s.offset
has_defined_fields (form.Swap order) s = is_swap_of s.imm
has_defined_fields _ s = true

-- the second half of a wide instruction holds nothing but its immediate
abbrev pub is_blank : Slot → Bool
is_blank s = s.opcode == 0 && s.dst == 0 && s.src == 0 && s.offset == 0

-- a wide instruction without a second slot, and with one that is no second half
abbrev pub lacks_second : Form → Option Slot → Bool
lacks_second form.Wide None = true
lacks_second _ second = false

abbrev pub has_bad_second : Form → Option Slot → Bool
has_bad_second form.Wide (Some s) = not (is_blank s)
has_bad_second _ second = false
