use Rattle.std.proofs.Common.{ℕ, Option, None, refl, subst}
use Rattle.ebpf_object_file.specs.declared.holding_line.HoldingLine.{HoldingLine}
use Rattle.ebpf_object_file.specs.HoldingLine.{IsHoldingLine}
use Rattle.ebpf_input.proofs.under.with_line.Goals as goal

pub returns-in-None : goal.returns-in-None
returns-in-None c =
    let f = c.in-Some-Some.function in
    let none = subst (λ (h : Option HoldingLine). IsHoldingLine f.file.now f.place c.saturating_add-at.result h) c.in-None.is c.holding_line.ensures in
    let at = subst (λ (n : ℕ). IsHoldingLine f.file.now f.place n None) c.saturating_add-at.ensures none in
    rw (c.in-Some-Some.is-0, c.in-Some-Some.is-1) (None, at, refl)
