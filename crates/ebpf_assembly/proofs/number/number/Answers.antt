use Rattle.std.proofs.Common.{arith}
use Rattle.ebpf_assembly.proofs.Numbers.{is_none, is_some, no_empty, no_plus, no_zero, no_bytes, only_zero, parsed}
use Rattle.ebpf_assembly.proofs.number.number.Goals as goal

pub returns-in_err-first : goal.returns-in_err-first
returns-in_err-first c = rw c.from_residual.ensures (λ n small. no_empty _ n c.in_err-first.ensures.cases small)

pub returns-then-first-eq43 : goal.returns-then-first-eq43
returns-then-first-eq43 c = λ n small. no_plus _ _ _ n c.in_ok-first.ensures.cases.0 c.if-first-eq43.true small

pub returns-then-is_empty : goal.returns-then-is_empty
returns-then-is_empty c =
    (omega arith, only_zero _ _ _ c.in_ok-first.ensures.cases.0 c.if-first-eq48.true (is_none _ _ c.is_empty.ensures c.if-is_empty.true))

pub returns-else-is_empty : goal.returns-else-is_empty
returns-else-is_empty c =
    λ n small. no_zero _ _ _ n c.in_ok-first.ensures.cases.0 c.if-first-eq48.true (is_some _ _ c.is_empty.ensures c.if-is_empty.false) small

pub returns-in_default : goal.returns-in_default
returns-in_default c = λ n small. no_bytes _ n c.in_default.ensures.cases.0 small

pub returns : goal.returns
returns c =
    rw c.ok.ensures.value (parsed _ _ _ c.parse.result c.in_ok-first.ensures.cases.0 c.if-first-eq43.false c.if-first-eq48.false
    (rw c.in-Ok.ensures.cases.0 at c.parse.ensures.value.0))
