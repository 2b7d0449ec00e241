use Rattle.std.proofs.Common.{◌≡◌, ◌/◌, Some, sym, arith}
use Rattle.ebpf_insn.specs.declared.opcode.Form.TheVariants as form
use Rattle.ebpf_insn.specs.Opcodes.{alu_op_of}
use Rattle.ebpf_insn.proofs.Opcodes.{form_found, alu_op_is}
use Rattle.ebpf_insn.proofs.decode.decode_alu.Goals as goal

pub decode_form-requires : goal.decode_form-requires
decode_form-requires c =
    let found : alu_op_of (c.args.slot.opcode / 16) ≡ Some c.in-Some.op = sym c.in-Some.ensures in
    let known = alu_op_is (c.args.slot.opcode / 16) c.in-Some.op found in
    sym (form_found c.args.slot.opcode (form.Alu c.args.width c.in-Some.op c.args.operand) known.1 (omega (arith, known.0, c.requires)))
