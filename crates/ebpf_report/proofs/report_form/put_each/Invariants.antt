use Rattle.std.proofs.Common.{◌≡◌, ◌-◌, length}
use Rattle.ebpf_report.specs.ReportForms.{each_from}
use Rattle.ebpf_report.proofs.PutLemmas.{SendsFirst}
use Rattle.ebpf_report.proofs.report_form.put_each.Given as goal

abbrev pub invariant-loop-job : goal.invariant-loop-job
invariant-loop-job g l = record {
  len : length l.left ≡ length l.reports - l.job;
  sent : SendsFirst (g.W.Write.contents l.fn.writer) (g.W.Write.contents l.writer) l.fn.piece l.piece (each_from g.F.ReportForm.text l.job l.left) (each_from g.F.ReportForm.text 0 l.reports);
}
