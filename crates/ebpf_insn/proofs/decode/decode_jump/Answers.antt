use Rattle.std.proofs.Common.{◌≡◌, ◌/◌, Some, sym, arith}
use Rattle.ebpf_insn.specs.declared.opcode.Form.TheVariants as form
use Rattle.ebpf_insn.specs.Opcodes.{condition_of}
use Rattle.ebpf_insn.proofs.Opcodes.{form_found, condition_is}
use Rattle.ebpf_insn.proofs.decode.decode_jump.Goals as goal

pub decode_form-requires : goal.decode_form-requires
decode_form-requires c =
    let found : condition_of (c.args.slot.opcode / 16) ≡ Some c.in-Some.cond = sym c.in-Some.ensures in
    let known = condition_is (c.args.slot.opcode / 16) c.in-Some.cond found in
    sym (form_found c.args.slot.opcode (form.Branch c.args.width c.in-Some.cond c.args.operand) tt (omega (arith, known, c.requires)))
