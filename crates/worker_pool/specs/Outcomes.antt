-- What comes of jobs.
use Rattle.std.specs.Prelude.{◌≡◌, ◌+◌, ◌≤◌, ℕ, List, [], All, length, slice_get, sum_by, Option, Some, None}
use Rattle.ebpf_verify.specs.Subject.{Subject}
use Rattle.ebpf_machine.specs.declared.report.Report.{Report}
use Rattle.ebpf_machine.specs.Whole.{IsReportOf, granted, refused, fetched}
use Rattle.object_cache.specs.declared.totals.Totals.{Totals}
use Rattle.owners_table.specs.Owning.{OwnersView, SeatView}
use Rattle.ebpf_owned.specs.Claims.{lost}
use Rattle.worker_pool.specs.declared.admission.PoolFault.{PoolFault}
use Rattle.worker_pool.specs.declared.admission.PoolFault.TheVariants.{NoMemory}
use Rattle.job_list.specs.declared.jobs.Job.{Job}
use Rattle.worker_pool.specs.declared.outcome.Outcome.{Outcome}
use Rattle.worker_pool.specs.declared.outcome.ShelfTotals.{ShelfTotals}

-- what came of jobs, with a list of their reports
abbrev pub JobsOutcome : Type 0
JobsOutcome = Outcome (List Report)

-- the seat is at the table, and holds nothing
pub record IsIdle (o : OwnersView) (s : SeatView) : Type 0 where
  pub table : s.table ≡ o.table
  pub held : s.held ≡ []

-- the report is that of the job's program alone, on the job's context, with the answers that it reports
pub record IsReportFor (programs : List Subject) (job : Job) (r : Report) : Type 0 where
  pub subject : Subject
  pub subject_is : slice_get programs job.program ≡ Some subject
  pub report : IsReportOf subject job.context r

-- there is a report for each job, in the order of the jobs
pub record AreReportsFor (programs : List Subject) (jobs : List Job) (reports : List Report) : Type 0 where
  pub all : length reports ≡ length jobs
  pub each : (j : ℕ) (job : Job) (r : Report) → slice_get jobs j ≡ Some job → slice_get reports j ≡ Some r → IsReportFor programs job r

-- what a cache was asked for came back to it
pub record IsEvenTotal (t : Totals) : Type 0 where
  pub back : t.frees ≡ t.allocs
  pub none_missing : t.missing ≡ t.foreign

-- what was put on a shelf was got from there, but for what is left, which is one object at most
pub record IsEvenShelf (t : ShelfTotals) : Type 0 where
  pub balance : t.puts ≡ t.gets + t.left
  pub one : t.left ≤ 1

abbrev pub allocs_in : List Totals → ℕ
allocs_in ts = sum_by (λ t. t.allocs) ts

abbrev pub nulls_in : List Totals → ℕ
nulls_in ts = sum_by (λ t. t.nulls) ts

abbrev pub gets_in : List ShelfTotals → ℕ
gets_in ts = sum_by (λ t. t.gets) ts

abbrev pub left_in : List ShelfTotals → ℕ
left_in ts = sum_by (λ t. t.left) ts

-- how many calls of new were granted an object, and how many were answered null; how many calls of swap were given an object
abbrev pub granted_in : List Report → ℕ
granted_in reports = sum_by (λ r. granted r.answers) reports

abbrev pub refused_in : List Report → ℕ
refused_in reports = sum_by (λ r. refused r.answers) reports

abbrev pub fetched_in : List Report → ℕ
fetched_in reports = sum_by (λ r. fetched r.answers) reports

-- how many claims the seats noted, and how many of these found an owner
abbrev pub noted_by : List SeatView → ℕ
noted_by seats = sum_by (λ s. length s.notes) seats

abbrev pub lost_by : List SeatView → ℕ
lost_by seats = sum_by (λ s. lost s.notes) seats

-- how many fetches the seats noted
abbrev pub fetches_by : List SeatView → ℕ
fetches_by seats = sum_by (λ s. length s.fetches) seats

-- What came of the jobs, over seats that were these before and are those after, a seat a worker. A clash is an object that was given and
-- went back since its slot had an owner: its call was answered null. A stray is one that came off a shelf and went back since its slot
-- wasn't the shelf's.
pub record IsOutcome (programs : List Subject) (jobs : List Job) (before after : List SeatView) (o : JobsOutcome) : Type 0 where
  pub reports : AreReportsFor programs jobs o.reports
  pub even : All IsEvenTotal o.totals
  pub granted : allocs_in o.totals ≡ granted_in o.reports + o.clashes
  pub refused : nulls_in o.totals + o.clashes ≡ refused_in o.reports
  pub noted : noted_by after ≡ noted_by before + allocs_in o.totals
  pub lost : lost_by after ≡ lost_by before + o.clashes
  pub shelves : All IsEvenShelf o.shelves
  pub fetched : gets_in o.shelves ≡ fetched_in o.reports + o.strays
  pub fetches : fetches_by after ≡ fetches_by before + (gets_in o.shelves + left_in o.shelves)
  pub workers : length o.jobs_done.items ≡ length before
  pub jobs_done : sum_by (λ n. n) o.jobs_done.items ≡ length jobs

-- as many seats as before, all of them idle
pub record AreIdleAgain (o : OwnersView) (before after : List SeatView) : Type 0 where
  pub all : length after ≡ length before
  pub idle : All (IsIdle o) after

-- the fault that was to be found, or else there was no memory
abbrev pub IsFaultOf : Option PoolFault → PoolFault → Type 0
IsFaultOf (Some due) fault = fault ≡ due
IsFaultOf None fault = fault ≡ NoMemory
