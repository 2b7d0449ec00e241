use Rattle.std.proofs.Common.{Bool, false, inr, subst, sym}
use Rattle.std.proofs.lemmas.Result.{IfOk-weaker}
use Rattle.ebpf_input.specs.declared.ask.Input.{Input}
use Rattle.ebpf_one.specs.SourceText.{ListsInput}
use Rattle.ebpf_one.proofs.list.list_asked.Goals as goal

pub returns-in-Err : goal.returns-in-Err
returns-in-Err c =
    let format = c.args.format in
    let bytes = c.args.bytes.now in
    let fault = c.in-Err.field-0 in
    IfOk-weaker c.list_with_data.result _ _
    (λ response h. subst (λ (lines : Bool). ListsInput format c.args.input.now lines bytes response) (sym c.if-lines.false)
    (subst (λ (i : Input). ListsInput format i false bytes response) (sym c.in-Object-2.is) (inr (fault, c.in-Err.ensures.refused, h fault))))
    c.list_with_data.ensures
