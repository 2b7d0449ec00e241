use Rattle.std.proofs.Common.{inr}
use Rattle.std.proofs.lemmas.Result.{IfOk-weaker}
use Rattle.ebpf_show.proofs.Explanations.{of_no_lines, of_lines}
use Rattle.ebpf_show.proofs.explain_object.explain_function.Goals as goal

pub returns-in-Ok-Some : goal.returns-in-Ok-Some
returns-in-Ok-Some c = IfOk-weaker c.explain_lined.result _ _
    (λ response h. of_lines c.args.ask.now c.args.detail c.args.file.now c.args.function c.args.code _ response _ c.in-Ok-Some.field-0-is c.in-Ok-Some.ensures.found h)
    c.explain_lined.ensures

pub returns-in-Ok-None : goal.returns-in-Ok-None
returns-in-Ok-None c = IfOk-weaker c.explain_code.result _ _
    (λ response h. of_no_lines c.args.ask.now c.args.detail c.args.file.now c.args.function c.args.code _ response c.in-Ok-None.field-0-is c.in-Ok-None.ensures.found h)
    c.explain_code.ensures

pub returns-in-Err : goal.returns-in-Err
returns-in-Err c = IfOk-weaker c.explain_unread.result _ _
    (λ response h. inr (inr (c.in-Err.fault, c.in-Err.ensures.refused, h))) c.explain_unread.ensures
