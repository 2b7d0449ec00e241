use Rattle.std.proofs.Common.{subst}
use Rattle.ebpf_verify.specs.Subject.{Subject}
use Rattle.ebpf_machine.specs.Whole.{IsReportOf}
use Rattle.worker_pool.proofs.ending.end_job.Goals as goal

pub keep-requires-clause-report : goal.keep-requires-clause-report
keep-requires-clause-report g c = (
  c.args.run.context,
  subst (λ (s : Subject). IsReportOf s c.args.run.context c.exit_in_place-ended.result) c.requires.program c.exit_in_place-ended.ensures.report,
)

pub returns-clause-ended : goal.returns-clause-ended
returns-clause-ended g c = record {
  made = c.exit_in_place-ended.result;
  report = c.exit_in_place-ended.ensures.report;
  goes = c.exit_in_place-ended.ensures.goes;
  kept = c.keep.ensures.kept;
}
