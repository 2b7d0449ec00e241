use Rattle.std.proofs.Common.{inl, inr}
use Rattle.std.proofs.lemmas.Result.{IfOk-weaker}
use Rattle.ebpf_show.proofs.made.show_program.Goals as goal

pub returns-in-Ok : goal.returns-in-Ok
returns-in-Ok c = IfOk-weaker c.show_made.result _ _ (λ response h. inl (c.in-Ok.made, c.in-Ok.ensures.forward, h)) c.show_made.ensures

pub returns-in_ok-answer-in-Err : goal.returns-in_ok-answer-in-Err
returns-in_ok-answer-in-Err c = IfOk-weaker c.with_line_of.result _ _
    (λ response h. inr (record {
      fault = c.in-Err.fault;
      is = c.in-Err.ensures.refused;
      why = c.in_ok-why-in-Err.why;
      says = c.in_ok-why-in-Err.ensures;
      told = rw (c.slot.ensures, c.in_ok-answer-in-Err.ensures, c.format_of.ensures) at h;
    }))
    c.with_line_of.ensures
