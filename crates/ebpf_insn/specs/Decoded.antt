-- The instruction of a slot that has no fault.
use Rattle.std.specs.Prelude.{ℕ, ◌+◌, ◌*◌, ◌^◌, ◌==◌, if◌then◌else◌, Option, Some, None}
use Rattle.std.specs.Int.{w16, w32, cast_signed}
use Rattle.ebpf_insn.specs.declared.slot.Slot.{Slot}
use Rattle.ebpf_insn.specs.declared.register.Reg.{Reg}
use Rattle.ebpf_insn.specs.declared.insn.Insn.{Insn}
use Rattle.ebpf_insn.specs.declared.insn.Insn.TheVariants as insn
use Rattle.ebpf_insn.specs.declared.insn.Width.{Width}
use Rattle.ebpf_insn.specs.declared.insn.Source.{Source}
use Rattle.ebpf_insn.specs.declared.insn.Source.TheVariants as source
use Rattle.ebpf_insn.specs.declared.insn.AluOp.{AluOp}
use Rattle.ebpf_insn.specs.declared.insn.AluOp.TheVariants.{Div, SDiv, Rem, SRem, Mov}
use Rattle.ebpf_insn.specs.declared.opcode.Operand.{Operand}
use Rattle.ebpf_insn.specs.declared.opcode.Operand.TheVariants.{Immediate, Register}
use Rattle.ebpf_insn.specs.declared.opcode.Form.{Form}
use Rattle.ebpf_insn.specs.declared.opcode.Form.TheVariants as form

abbrev pub source_at : Operand → Slot → Reg → Source
source_at Immediate s src = source.Imm (cast_signed w32 s.imm)
source_at Register s src = source.Register src

-- an offset that isn't 0 makes a division or a remainder a signed one
abbrev pub signed_by : ℕ → AluOp → AluOp
signed_by offset Div = if offset == 0 then Div else SDiv
signed_by offset Rem = if offset == 0 then Rem else SRem
signed_by offset o = o

-- and makes a move between registers a sign-extending one
abbrev pub alu_at : Width → AluOp → Operand → Slot → Reg → Reg → Insn
alu_at width Mov Register s dst src =
    if s.offset == 0 then insn.Alu width Mov dst (source.Register src) else insn.Sext width s.offset dst src
alu_at width o operand s dst src = insn.Alu width (signed_by s.offset o) dst (source_at operand s src)

-- the upper half of a wide instruction's value
abbrev pub upper_half : Option Slot → ℕ
upper_half None = 0
upper_half (Some s) = s.imm

abbrev pub insn_at_slot : Form → Slot → Option Slot → Reg → Reg → Insn
insn_at_slot (form.Alu width o operand) s second dst src = alu_at width o operand s dst src
insn_at_slot (form.Neg width) s second dst src = insn.Neg width dst
insn_at_slot (form.Swap order) s second dst src = insn.Swap order s.imm dst
insn_at_slot form.Wide s second dst src = insn.Wide dst (2 ^ 32 * upper_half second + s.imm)
insn_at_slot (form.Load size signed) s second dst src = insn.Load size signed dst src (cast_signed w16 s.offset)
insn_at_slot (form.Store size operand) s second dst src = insn.Store size dst (cast_signed w16 s.offset) (source_at operand s src)
insn_at_slot form.Jump s second dst src = insn.Jump (cast_signed w16 s.offset)
insn_at_slot form.JumpFar s second dst src = insn.JumpFar (cast_signed w32 s.imm)
insn_at_slot (form.Branch width condition operand) s second dst src = insn.Branch width condition dst (source_at operand s src) (cast_signed w16 s.offset)
insn_at_slot form.Call s second dst src = insn.Call (cast_signed w32 s.imm)
insn_at_slot form.Exit s second dst src = insn.Exit
