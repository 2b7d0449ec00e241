use Rattle.ebpf_command.proofs.Sending.{Appends-kept, begins, on_err, on_ok}
use Rattle.ebpf_command.proofs.output.write_text.Goals as goal

pub returns-clause-written : goal.returns-clause-written
returns-clause-written g c = on_ok c.flush.result _ (Appends-kept _ _ _ _ c.in_ok-write_bytes.ensures.written c.flush.ensures.same)

pub returns-clause-beginning : goal.returns-clause-beginning
returns-clause-beginning g c = on_err c.flush.result _ (begins _ _ _ (Appends-kept _ _ _ _ c.in_ok-write_bytes.ensures.written c.flush.ensures.same))
