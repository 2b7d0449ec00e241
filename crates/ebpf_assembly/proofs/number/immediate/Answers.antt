use Rattle.ebpf_assembly.proofs.Numbers.{immediate_empty, minus_unread, minus_read, plain_read}
use Rattle.ebpf_assembly.proofs.number.immediate.Goals as goal

pub returns-in_err-first : goal.returns-in_err-first
returns-in_err-first c = rw c.from_residual.ensures (immediate_empty _ c.in_err-first.ensures.cases)

pub returns-in_err-number : goal.returns-in_err-number
returns-in_err-number c =
    rw c.from_residual-in_err-number.ensures (minus_unread _ _ _ c.in_ok-first.ensures.cases.0 c.if-first-eq45.true c.in_err-number.ensures)

pub returns-then-first-eq45 : goal.returns-then-first-eq45
returns-then-first-eq45 c =
    minus_read _ _ _ c.in_ok-number.field-0 c.negative.result c.in_ok-first.ensures.cases.0 c.if-first-eq45.true c.in_ok-number.ensures.0
    c.in_ok-number.ensures.1 c.negative.ensures

pub returns : goal.returns
returns c =
    plain_read _ _ _ c.in_ok-number-2.field-0 c.positive.result c.in_ok-first.ensures.cases.0 c.if-first-eq45.false c.in_ok-number-2.ensures.0
    c.in_ok-number-2.ensures.1 c.positive.ensures
