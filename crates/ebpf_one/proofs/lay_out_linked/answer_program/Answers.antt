use Rattle.std.proofs.Common.{inl, inr, refl}
use Rattle.ebpf_one.proofs.lay_out_linked.answer_program.Goals as goal

pub returns-in_ok-answer-in-Ok : goal.returns-in_ok-answer-in-Ok
returns-in_ok-answer-in-Ok c =
    let e = c.in-Ok.ensures in
    inl (record {
      laid = c.in-Ok.laid;
      is = record { laid_as = e.laid_as; all = e.all; alike = e.alike; fine = e.fine };
      sends = c.in_ok-answer-in-Ok.ensures;
      unspoken = refl;
    })

pub returns-in_ok-answer-in-Err : goal.returns-in_ok-answer-in-Err
returns-in_ok-answer-in-Err c = inr (record {
  fault = c.in-Err.fault;
  is = c.in-Err.ensures.refused;
  why = c.in_ok-why-in-Err.why;
  says = c.in_ok-why-in-Err.ensures;
  of = c.slot-slot.ensures;
  told = c.in_ok-answer-in-Err.ensures;
})
