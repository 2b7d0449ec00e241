use Rattle.std.proofs.Common.{inl}
use Rattle.std.proofs.lemmas.Result.{IfOk-weaker}
use Rattle.ebpf_one.proofs.lay_out_linked.lay_out_with_data.Goals as goal

pub returns-in-Ok : goal.returns-in-Ok
returns-in-Ok c = IfOk-weaker c.lay_out_linked.result _ _ (λ response h e. inl (c.in-Ok.linked, c.in-Ok.ensures.found, h)) c.lay_out_linked.ensures
