use Rattle.std.proofs.Common.{rules, true, false, refl, sym, arith}
use Rattle.std.proofs.lemmas.Bool.Decides.{nat_tests}
use Rattle.ebpf_insn.specs.declared.opcode.Form.TheVariants as form
use Rattle.ebpf_insn.proofs.Opcodes.{form_found, no_form}
use Rattle.ebpf_insn.proofs.opcode.load_form.Goals as goal

pub returns-in-3 : goal.returns-in-3
returns-in-3 c = sym (form_found c.args.opcode (form.Load c.size-size.result false) refl (omega (arith, c.size-size.ensures, c.in-3.is, c.requires)))

pub returns-in-4 : goal.returns-in-4
returns-in-4 c =
    sym (form_found c.args.opcode (form.Load c.size-size.result true) (grind (arith, nat_tests)) (omega (arith, c.size-size.ensures, c.in-4.is, c.requires)))

pub returns-in_default : goal.returns-in_default
returns-in_default c = sym (no_form c.args.opcode (search rules) (grind (arith, nat_tests)))

pub returns-in_default-2 : goal.returns-in_default-2
returns-in_default-2 c = sym (no_form c.args.opcode (search rules) (grind (arith, nat_tests)))
