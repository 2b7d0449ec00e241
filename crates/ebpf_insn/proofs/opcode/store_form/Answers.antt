use Rattle.std.proofs.Common.{rules, sym, arith}
use Rattle.ebpf_insn.specs.declared.opcode.Form.TheVariants as form
use Rattle.ebpf_insn.proofs.Opcodes.{form_found, store_none}
use Rattle.ebpf_insn.proofs.opcode.store_form.Goals as goal

pub returns-then-opcode-eq3 : goal.returns-then-opcode-eq3
returns-then-opcode-eq3 c =
    sym (form_found c.args.opcode (form.Store c.size-size.result c.args.operand) tt (omega (arith, c.size-size.ensures, c.if-opcode-eq3.true, c.requires)))

pub returns-else-opcode-eq3 : goal.returns-else-opcode-eq3
returns-else-opcode-eq3 c = sym (store_none c.args.opcode c.args.operand (search rules) c.requires c.if-opcode-eq3.false)
