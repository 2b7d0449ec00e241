-- What workers are given, and what they have done.
use Rattle.std.specs.Prelude.{◌≡◌, ◌≢◌, ◌<◌, ◌≤◌, ◌+◌, ◌^◌, ℕ, ⊤, true, false, List, [], length, All, sum_by, slice_get, slice_index_or, Some}
use Rattle.ebpf_verify.specs.Subject.{Subject}
use Rattle.owners_table.specs.Owning.{OwnersView}
use Rattle.owners_table.specs.Drawing.{TicketsView, TicketView, IsOf}
use Rattle.worker_pool.specs.EachKind.{unused_hands, all_allocs, all_nulls, all_gets, IsEven}
use Rattle.worker_pool.specs.declared.worker.Ending.{Ending}
use Rattle.worker_pool.specs.declared.worker.Ending.TheVariants.{Through, Unstarted, OutOfMemory}
use Rattle.ebpf_machine.specs.Kinds.{AreKnown}
use Rattle.worker_pool.specs.declared.outcome.TheConstants.{MAX_JOBS}
use Rattle.worker_pool.specs.declared.answered.Answered.{Answered}
use Rattle.worker_pool.specs.declared.answered.Bundle.{Bundle}
use Rattle.job_list.specs.declared.jobs.Job.{Job}
use Rattle.worker_pool.specs.Numbering.{IsBlank, IsWhole, Numbered, bundles_in, told_by}
use Rattle.worker_pool.specs.declared.worker.Worker.{Worker}
use Rattle.worker_pool.specs.declared.hands.Tools.{Tools}
use Rattle.ebpf_machine.specs.Whole.{IsReportOf, granted, refused, fetched}
use Rattle.ebpf_owned.specs.Claims.{lost}
use Rattle.worker_pool.specs.Bundles.{AreAsDrawn}

-- the job's program is there, and the context has its length
pub record CanRun (programs : List Subject) (job : Job) : Type 0 where
  pub inside : job.program < length programs
  pub fits : (s : Subject) → slice_get programs job.program ≡ Some s → length job.context ≡ s.decl.context

-- the programs were verified against the kinds that the caches have, each job can be run, and a mark has room for its number
pub record AreReady (programs : List Subject) (jobs : List Job) : Type 0 where
  pub known : AreKnown programs
  pub can : All (CanRun programs) jobs
  pub few : length jobs ≤ MAX_JOBS

-- the report is that of the job of its number, run alone
pub record Answers (programs : List Subject) (jobs : List Job) (n : Numbered) : Type 0 where
  pub job : Job
  pub job_is : slice_get jobs n.job ≡ Some job
  pub subject : Subject
  pub subject_is : slice_get programs job.program ≡ Some subject
  pub report : IsReportOf subject job.context n.report

-- how many answers of their calls of new were objects, and how many null; how many answers of their calls of swap were objects
abbrev pub granted_by : List Numbered → ℕ
granted_by ns = sum_by (λ n. granted n.report.answers) ns

abbrev pub refused_by : List Numbered → ℕ
refused_by ns = sum_by (λ n. refused n.report.answers) ns

abbrev pub fetched_by : List Numbered → ℕ
fetched_by ns = sum_by (λ n. fetched n.report.answers) ns

-- What a worker drew, by how it ended, of that many bundles. Through: those that it answered, and a last one that is none.
-- Unstarted: none, and it answered none. Nothing is said where memory ran out.
abbrev pub HasDrawn : (limit : ℕ) → TicketView → List Bundle → Ending → Type 0
HasDrawn limit ticket bundles Through = (ticket.passed ≡ true) × AreAsDrawn limit ticket.drawn bundles
HasDrawn limit ticket bundles Unstarted = (ticket.drawn ≡ []) × (bundles ≡ [])
HasDrawn limit ticket bundles OutOfMemory = ⊤

-- which jobs a worker did, by the reports that it made and by how it ended
pub record IsServed (programs : List Subject) (jobs : List Job) (size : ℕ) (t : TicketsView) (ticket : TicketView) (answered : Answered)
    (ending : Ending) : Type 0 where
  pub tickets : IsOf t ticket
  pub good : All (Answers programs jobs) (told_by size answered)
  pub drawn : HasDrawn (bundles_in size (length jobs)) ticket answered.bundles.items ending
  pub whole : ending ≢ OutOfMemory → All (IsWhole size (length jobs)) answered.bundles.items

module _ {L : Type 0} where
  -- nothing was taken, and the seat holds nothing
  pub record IsUnused (o : OwnersView) (t : Tools L) : Type 0 where
    pub hands : t.hands ≡ unused_hands
    pub table : t.seat.table ≡ o.table
    pub held : t.seat.held ≡ []

  -- a worker that has done nothing
  pub record IsFresh (o : OwnersView) (t : TicketsView) (w : Worker L) : Type 0 where
    pub tools : Tools L
    pub tools_are : w.tools ≡ Some tools
    pub unused : IsUnused o tools
    pub ticket : IsOf t w.ticket
    pub drawn : w.ticket.drawn ≡ []
    pub passed : w.ticket.passed ≡ false
    pub answered : IsBlank w.answered

  -- what a worker did with its hands and its seat, by the reports that it made
  pub record AreUsed (before after : Tools L) (answered : List Numbered) : Type 0 where
    pub even : IsEven after.hands
    pub table : after.seat.table ≡ before.seat.table
    pub held : after.seat.held ≡ []
    pub notes : length after.seat.notes ≡ length before.seat.notes + all_allocs after.hands
    pub fetches : length after.seat.fetches ≡ length before.seat.fetches + all_gets after.hands
    pub few : (after.clashes ≤ 2 ^ 56) × (after.strays ≤ 2 ^ 56)
    pub lost : lost after.seat.notes ≡ lost before.seat.notes + after.clashes
    pub granted : all_allocs after.hands ≡ granted_by answered + after.clashes
    pub refused : all_nulls after.hands + after.clashes ≡ refused_by answered
    pub fetched : all_gets after.hands ≡ fetched_by answered + after.strays

  -- the worker after its work
  pub record IsDone (programs : List Subject) (jobs : List Job) (size : ℕ) (t : TicketsView) (before after : Worker L) : Type 0 where
    pub old : Tools L
    pub new : Tools L
    pub old_are : before.tools ≡ Some old
    pub new_are : after.tools ≡ Some new
    pub used : AreUsed old new (told_by size after.answered)
    pub served : IsServed programs jobs size t after.ticket after.answered after.ending

  -- so is each of them
  abbrev pub AreDone : List Subject → List Job → (size : ℕ) → TicketsView → (before after : List (Worker L)) → Type 0
  AreDone programs jobs size t before after =
      (i : ℕ) (d : Worker L) → i < length before → IsDone programs jobs size t (slice_index_or before i d) (slice_index_or after i d)

  -- there are workers, none of which has done anything, and what they need is there
  pub record CanBegin (programs : List Subject) (jobs : List Job) (o : OwnersView) (t : TicketsView) (ws : List (Worker L)) : Type 0 where
    pub some : 0 < length ws
    pub ready : AreReady programs jobs
    pub fresh : All (IsFresh o t) ws
