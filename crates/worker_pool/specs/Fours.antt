-- Four jobs in a row, of one program.
use Rattle.std.specs.Prelude.{◌≡◌, ◌+◌, ℕ, true, is_some, List, slice_get, Some}
use Rattle.ebpf_machine.specs.declared.report.Report.{Report}
use Rattle.ebpf_machine.specs.Kinds.{known_kinds}
use Rattle.ebpf_machine.specs.World.{kinds_of}
use Rattle.ebpf_verify.specs.Subject.{Subject}
use Rattle.job_list.specs.declared.jobs.Job.{Job}
use Rattle.worker_pool.specs.declared.four_jobs.FourJobs.{FourJobs}
use Rattle.worker_pool.specs.declared.hands.Tools.{Tools}
use Rattle.worker_pool.specs.declared.spares.Spares.{Spares}
use Rattle.worker_pool.specs.Going.{IsAnswered}

-- the job of the number runs the program on the context
pub record IsOn (programs : List Subject) (jobs : List Job) (number : ℕ) (s : Subject) (context : List ℕ) : Type 0 where
  pub job : Job
  pub job_is : slice_get jobs number ≡ Some job
  pub subject_is : slice_get programs job.program ≡ Some s
  pub context_is : context ≡ job.context

-- and so do those after it, the same program of known kinds
pub record AreOn (programs : List Subject) (jobs : List Job) (number : ℕ) (f : FourJobs) : Type 0 where
  pub kinds : known_kinds ≡ kinds_of f.verified.now.rows
  pub one : IsOn programs jobs number f.verified.now f.contexts.one.now
  pub two : IsOn programs jobs (number + 1) f.verified.now f.contexts.two.now
  pub three : IsOn programs jobs (number + 2) f.verified.now f.contexts.three.now
  pub four : IsOn programs jobs (number + 3) f.verified.now f.contexts.four.now

-- a box for each
pub record HasEach (s : Spares) : Type 0 where
  pub one : is_some s.one ≡ true
  pub two : is_some s.two ≡ true
  pub three : is_some s.three ≡ true
  pub four : is_some s.four ≡ true

-- four reports more, of the jobs from this number on, each from where the one before it left the tools
pub record AreFourAnswered {L : Type 0} (programs : List Subject) (jobs : List Job) (number : ℕ) (before after : Tools L) (old new : List Report) : Type 0 where
  pub second : Tools L
  pub third : Tools L
  pub fourth : Tools L
  pub with_one : List Report
  pub with_two : List Report
  pub with_three : List Report
  pub one : IsAnswered programs jobs number before second old with_one
  pub two : IsAnswered programs jobs (number + 1) second third with_one with_two
  pub three : IsAnswered programs jobs (number + 2) third fourth with_two with_three
  pub four : IsAnswered programs jobs (number + 3) fourth after with_three new
