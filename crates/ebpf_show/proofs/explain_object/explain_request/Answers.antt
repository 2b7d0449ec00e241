use Rattle.std.proofs.Common.{refl}
use Rattle.std.proofs.lemmas.Result.{IfOk-weaker}
use Rattle.ebpf_show.proofs.explain_object.explain_request.Goals as goal

pub returns : goal.returns
returns c = IfOk-weaker c.explain_function.result _ _
    (λ response h. (record { request = c.args.linked.request; rows = c.in_ok-rows.rows }, refl, c.in_ok-rows.ensures, h)) c.explain_function.ensures
