use Rattle.std.proofs.Common.{inl}
use Rattle.std.proofs.lemmas.Result.{IfOk-weaker}
use Rattle.ebpf_one.proofs.answer.answer_with_data.Goals as goal

pub returns-in-Ok : goal.returns-in-Ok
returns-in-Ok c = IfOk-weaker c.answer_linked.result _ _ (λ response h e. inl (c.in-Ok.linked, c.in-Ok.ensures.found, h)) c.answer_linked.ensures
