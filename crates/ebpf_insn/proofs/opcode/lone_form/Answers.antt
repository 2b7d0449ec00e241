use Rattle.std.proofs.Common.{rules, sym, arith, inl, inr}
use Rattle.std.proofs.lemmas.Bool.Decides.{nat_tests}
use Rattle.ebpf_insn.specs.declared.opcode.Form.TheVariants as form
use Rattle.ebpf_insn.specs.declared.insn.Order.TheVariants.{Little, Big, Flip}
use Rattle.ebpf_insn.proofs.Opcodes.{form_found, alu_none}
use Rattle.ebpf_insn.proofs.opcode.lone_form.Goals as goal

pub returns-in_default : goal.returns-in_default
returns-in_default c = sym (alu_none c.args.opcode c.args.width (search rules) c.requires.class (grind (arith, nat_tests)) c.requires.none)

pub returns-in-132 : goal.returns-in-132
returns-in-132 c =
    sym (form_found c.args.opcode (form.Neg c.args.width) tt (elim c.in-132.is [ inl e ↦ omega (arith, e, c.requires.class) | inr e ↦ omega (arith, e, c.requires.class) ]))

pub returns-in-212 : goal.returns-in-212
returns-in-212 c = sym (form_found c.args.opcode (form.Swap Little) tt (sym c.in-212.is))

pub returns-in-220 : goal.returns-in-220
returns-in-220 c = sym (form_found c.args.opcode (form.Swap Big) tt (sym c.in-220.is))

pub returns-in-215 : goal.returns-in-215
returns-in-215 c = sym (form_found c.args.opcode (form.Swap Flip) tt (sym c.in-215.is))
