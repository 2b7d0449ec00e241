use Rattle.std.proofs.Common.{rules, sym, arith}
use Rattle.std.proofs.lemmas.Bool.Decides.{nat_tests}
use Rattle.ebpf_insn.specs.declared.opcode.Form.TheVariants as form
use Rattle.ebpf_insn.proofs.Opcodes.{form_found, no_form}
use Rattle.ebpf_insn.proofs.opcode.wide_form.Goals as goal

pub returns-then-opcode-eq24 : goal.returns-then-opcode-eq24
returns-then-opcode-eq24 c = sym (form_found c.args.opcode form.Wide tt (sym c.if-opcode-eq24.true))

pub returns-else-opcode-eq24 : goal.returns-else-opcode-eq24
returns-else-opcode-eq24 c = sym (no_form c.args.opcode (search rules) (grind (arith, nat_tests)))
