use Rattle.std.proofs.Common.{inr, sym, subst}
use Rattle.std.proofs.lemmas.Result.{IfOk-weaker}
use Rattle.ebpf_input.specs.declared.ask.Input.{Input}
use Rattle.ebpf_input.specs.ObjectText.{RespondsInputOr}
use Rattle.ebpf_one.specs.LayOutLinked.{LaysOutWithData}
use Rattle.ebpf_one.specs.LayOutText.{LaysOut}
use Rattle.ebpf_one.proofs.lay_out.lay_out_asked.Goals as goal

pub returns-in-Err : goal.returns-in-Err
returns-in-Err c =
    let ask = c.args.ask.now in
    IfOk-weaker c.lay_out_with_data.result _ _
    (λ response h. subst (λ (i : Input). RespondsInputOr (LaysOutWithData ask) i (LaysOut ask.format) c.args.input.now response) (sym c.in-Object.is)
    (inr (c.in-Err.field-0, c.in-Err.ensures.refused, h c.in-Err.field-0)))
    c.lay_out_with_data.ensures
