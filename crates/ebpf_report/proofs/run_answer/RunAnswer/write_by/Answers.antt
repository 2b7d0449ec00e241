use Rattle.ebpf_command.proofs.Sending.{Appends-kept, begins, on_err, on_ok, sends_all, sends_part}
use Rattle.ebpf_report.proofs.run_answer.RunAnswer.write_by.Goals as goal

pub returns-in_err-write_out-clause-beginning : goal.returns-in_err-write_out-clause-beginning
returns-in_err-write_out-clause-beginning g c =
    on_err c.from_residual-in_err-write_out.result _ (sends_part _ _ _ _ _ _ c.in_ok-put.ensures c.in_err-write_out.ensures.beginning)

pub returns-clause-written : goal.returns-clause-written
returns-clause-written g c =
    on_ok c.flush.result _ (Appends-kept _ _ _ _ (sends_all _ _ _ _ _ _ c.in_ok-put.ensures c.in_ok-write_out.ensures.written) c.flush.ensures.same)

pub returns-clause-beginning : goal.returns-clause-beginning
returns-clause-beginning g c =
    on_err c.flush.result _ (begins _ _ _ (Appends-kept _ _ _ _ (sends_all _ _ _ _ _ _ c.in_ok-put.ensures c.in_ok-write_out.ensures.written) c.flush.ensures.same))
