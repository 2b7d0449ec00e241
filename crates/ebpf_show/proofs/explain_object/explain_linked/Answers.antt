use Rattle.std.proofs.lemmas.Result.{IfOk-weaker}
use Rattle.ebpf_show.proofs.Linked.{linked_shown}
use Rattle.ebpf_show.proofs.explain_object.explain_linked.Goals as goal

pub returns : goal.returns
returns c = IfOk-weaker c.after_rows.result _ _
    (λ response h. linked_shown c.args.format c.args.unroll c.args.linked c.args.source _ _ _ _ _ _ _ _ response
    c.states_of-shown.ensures c.in_ok-of.ensures c.deref.ensures.value c.deref-2.ensures.value c.deref-3.ensures.value
    c.in_ok-lines.ensures c.copied.ensures c.in_ok-said.ensures h)
    c.after_rows.ensures
