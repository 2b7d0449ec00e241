use Rattle.ebpf_assembly.proofs.OperandWords.{register_read}
use Rattle.ebpf_assembly.proofs.operand.register.Goals as goal

pub returns : goal.returns
returns c =
    register_read _ _ _ c.in_ok-number.field-0 c.register_of.result c.in_ok-first.ensures.cases.0 c.if-first-ne114.false c.in_ok-number.ensures.0
    c.in_ok-number.ensures.1 c.register_of.ensures
