-- The text that `run` writes in pieces.
use Rattle.std.specs.Prelude.{ℕ, ◌++◌, List, [], Option, Some, None, string_bytes}
use Rattle.ebpf_machine.specs.declared.report.Report.{Report}
use Rattle.worker_pool.specs.Outcomes.{JobsOutcome}
use Rattle.ebpf_command.specs.declared.format.Format.{Format}
use Rattle.ebpf_command.specs.declared.format.Format.TheVariants.{Text, Json}
use Rattle.ebpf_command.specs.Response.{Response}
use Rattle.ebpf_report.specs.declared.run_answer.JobsAnswer.{JobsAnswer}
use Rattle.ebpf_report.specs.declared.run_answer.RunAnswer.{RunAnswer}
use Rattle.ebpf_report.specs.OutcomeLines.{report_lines}
use Rattle.ebpf_report.specs.OutcomeObjects.{job_object}
use Rattle.ebpf_report.specs.ReportForms.{each_from}
use Rattle.ebpf_report.specs.TotalsLines.{totals_lines}

-- what each job did
abbrev pub jobs_in : Format → List Report → List ℕ
jobs_in Text reports = each_from report_lines 0 reports
jobs_in Json reports = each_from job_object 0 reports

-- what follows in the text of an outcome: what the caches and the shelves did
abbrev pub totals_in : Format → JobsOutcome → List ℕ
totals_in format o = totals_lines format o.totals o.shelves

-- what jobs came to: what each did, and what follows
abbrev pub jobs_text : JobsAnswer → List ℕ
jobs_text j = jobs_in j.format j.reports ++ string_bytes j.totals

-- nothing where a fault or a refusal is all
abbrev pub any_jobs_text : Option JobsAnswer → List ℕ
any_jobs_text None = []
any_jobs_text (Some j) = jobs_text j

-- the fault or the verdicts, and then what the jobs came to
abbrev pub run_text : RunAnswer → List ℕ
run_text a = a.beginning.text ++ any_jobs_text a.jobs

abbrev pub run_response : RunAnswer → Response
run_response a = record { text = run_text a; done = a.beginning.done }
