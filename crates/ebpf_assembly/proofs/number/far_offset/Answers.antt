use Rattle.ebpf_assembly.proofs.Numbers.{offset_minus_read, offset_plus_read}
use Rattle.ebpf_assembly.proofs.number.far_offset.Goals as goal

pub returns-in_ok-number-in-45 : goal.returns-in_ok-number-in-45
returns-in_ok-number-in-45 c =
    offset_minus_read _ _ _ c.in_ok-number-in-45.field-0 c.negative.result c.in_ok-first.ensures.cases.0 c.in-45.is c.in_ok-number-in-45.ensures.0
    c.in_ok-number-in-45.ensures.1 c.negative.ensures

pub returns-in_ok-number-in-43 : goal.returns-in_ok-number-in-43
returns-in_ok-number-in-43 c =
    offset_plus_read _ _ _ c.in_ok-number-in-43.field-0 c.positive.result c.in_ok-first.ensures.cases.0 c.in-43.is c.in_ok-number-in-43.ensures.0
    c.in_ok-number-in-43.ensures.1 c.positive.ensures
