use Rattle.std.proofs.Common.{◌≡◌, inr, rules, Bool, false, sym, subst}
use Rattle.std.proofs.lemmas.Result.{IfOk-weaker}
use Rattle.ebpf_one.specs.SourcedRun.{OneObject}
use Rattle.ebpf_one.proofs.answer.answer_object.Goals as goal

pub returns-in-Err : goal.returns-in-Err
returns-in-Err c =
    let off : c.args.how.lines ≡ false = search rules in
    IfOk-weaker c.answer_with_data.result _ _
    (λ response h. subst (λ (lines : Bool). OneObject c.args.ask.now c.args.how lines c.args.name.now c.args.file.now response) (sym off)
    (inr (c.in-Err.field-0, c.in-Err.ensures.refused, h c.in-Err.field-0)))
    c.answer_with_data.ensures
