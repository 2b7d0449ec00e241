-- What came of a job's run.
use Rattle.std.specs.Prelude.{◌≡◌, ◌++◌, ◌∷◌, [], List}
use Rattle.ebpf_machine.specs.declared.report.Report.{Report}
use Rattle.ebpf_machine.specs.RunState.{RunState}
use Rattle.ebpf_machine.specs.Store.{Store}
use Rattle.ebpf_machine.specs.Whole.{IsReportOf}

-- it exited, its report was added to these, and its store went by the report's answers
pub record HasEnded {S H : Type 0} (o : Store S H) (r : RunState H) (old new : S) (before after : List Report) : Type 0 where
  pub made : Report
  pub report : IsReportOf r.subject r.context made
  pub goes : o.goes old made.answers new
  pub kept : after ≡ before ++ made ∷ []
