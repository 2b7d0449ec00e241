use Rattle.std.proofs.Common.{rules, sym, arith}
use Rattle.std.proofs.lemmas.Bool.Decides.{nat_tests}
use Rattle.ebpf_insn.specs.declared.opcode.Form.TheVariants as form
use Rattle.ebpf_insn.proofs.Opcodes.{form_found, jump_none}
use Rattle.ebpf_insn.proofs.opcode.leaving_form.Goals as goal

pub returns-in_default : goal.returns-in_default
returns-in_default c = sym (jump_none c.args.opcode c.args.width (search rules) c.requires.class (grind (arith, nat_tests)) c.requires.none)

pub returns-in-5 : goal.returns-in-5
returns-in-5 c = sym (form_found c.args.opcode form.Jump tt (sym c.in-5.is))

pub returns-in-6 : goal.returns-in-6
returns-in-6 c = sym (form_found c.args.opcode form.JumpFar tt (sym c.in-6.is))

pub returns-in-133 : goal.returns-in-133
returns-in-133 c = sym (form_found c.args.opcode form.Call tt (sym c.in-133.is))

pub returns-in-149 : goal.returns-in-149
returns-in-149 c = sym (form_found c.args.opcode form.Exit tt (sym c.in-149.is))
