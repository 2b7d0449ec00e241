use Rattle.std.proofs.Common.{inr, sym, subst}
use Rattle.std.proofs.lemmas.Result.{IfOk-weaker}
use Rattle.ebpf_input.specs.declared.ask.Input.{Input}
use Rattle.ebpf_input.specs.ObjectText.{RespondsInputOr}
use Rattle.ebpf_show.specs.GraphInput.{GraphsWithData}
use Rattle.ebpf_show.specs.Shown.{GraphsAs}
use Rattle.ebpf_show.proofs.graph.graph_asked.Goals as goal

pub returns-in-Err : goal.returns-in-Err
returns-in-Err c =
    let ask = c.args.ask.now in
    IfOk-weaker c.graph_with_data.result _ _
    (λ response h. subst (λ (i : Input). RespondsInputOr (GraphsWithData ask c.args.unroll c.args.states) i (GraphsAs c.args.unroll c.args.states ask.context.now ask.held) c.args.input.now response)
    (sym c.in-Object.is) (inr (c.in-Err.field-0, c.in-Err.ensures.refused, h c.in-Err.field-0)))
    c.graph_with_data.ensures
