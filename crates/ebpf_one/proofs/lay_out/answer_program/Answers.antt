use Rattle.std.proofs.Common.{inr}
use Rattle.std.proofs.lemmas.Result.{IfOk-weaker}
use Rattle.ebpf_one.proofs.lay_out.answer_program.Goals as goal

pub returns-in_ok-why-in-Err : goal.returns-in_ok-why-in-Err
returns-in_ok-why-in-Err c = IfOk-weaker c.answer_why_not.result _ _
    (λ response h. inr (record {
      fault = c.in-Err.fault;
      is = c.in-Err.ensures.refused;
      why = c.in_ok-why-in-Err.why;
      says = c.in_ok-why-in-Err.ensures;
      told = h;
    }))
    c.answer_why_not.ensures
