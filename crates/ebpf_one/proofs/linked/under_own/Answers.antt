use Rattle.std.proofs.Common.{ℕ, Option, Some, refl, subst}
use Rattle.std.proofs.lemmas.Result.{IfOk-weaker}
use Rattle.ebpf_input.specs.declared.under.InFile.{InFile}
use Rattle.ebpf_input.specs.Under.{IsOver}
use Rattle.ebpf_one.proofs.linked.under_own.Goals as goal

pub returns : goal.returns
returns c =
    let function : InFile = record { file = c.args.file; place = c.args.place } in
    IfOk-weaker c.with_line.result _ _
    (λ response h. (function, refl, refl, subst (λ (k : Option ℕ). IsOver c.args.format (Some function) k c.args.said.answer response) c.own_slot-slot.ensures h))
    c.with_line.ensures
