use Rattle.ebpf_command.proofs.Sending.{puts_then}
use Rattle.ebpf_report.proofs.run_answer.JobsAnswer.put.Goals as goal

pub returns : goal.returns
returns g c = puts_then _ _ _ _ _ _ _ _ _ c.in_ok-put_reports.ensures (rw c.as_bytes.ensures.value at c.put.ensures)
