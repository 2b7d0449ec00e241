use Rattle.ebpf_report.proofs.run_answer.JobsAnswer.put_reports.Goals as goal

pub returns-in-Text : goal.returns-in-Text
returns-in-Text g c = rw (c.in-Text.is) c.put_each.ensures
