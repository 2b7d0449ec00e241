-- What is said of an outcome beside its text.
use Rattle.std.specs.Prelude.{◌≡◌, ℕ, List, length, sum_by}
use Rattle.ebpf_machine.specs.declared.report.Report.{Report}
use Rattle.worker_pool.specs.declared.outcome.ShelfTotals.{ShelfTotals}
use Rattle.worker_pool.specs.Outcomes.{JobsOutcome}
use Rattle.ebpf_report.specs.declared.stats.Stats.{Stats}

-- how many instructions the reports tell
abbrev pub steps_in : List Report → ℕ
steps_in reports = sum_by (λ r. r.executed) reports

-- how often a shelf that had been filled was found empty
abbrev pub misses_in : List ShelfTotals → ℕ
misses_in shelves = sum_by (λ t. t.misses) shelves

pub record AreStatsOf (o : JobsOutcome) (s : Stats) : Type 0 where
  pub totals : s.totals ≡ o.totals
  pub clashes : s.clashes ≡ o.clashes
  pub strays : s.strays ≡ o.strays
  pub misses : s.misses ≡ misses_in o.shelves
  pub jobs : s.jobs ≡ length o.reports
  pub jobs_done : s.jobs_done ≡ o.jobs_done
  pub steps : s.steps ≡ steps_in o.reports
