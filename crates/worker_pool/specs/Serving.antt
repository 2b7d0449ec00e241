-- What all workers did together.
use Rattle.std.specs.Prelude.{◌≡◌, ◌+◌, ◌<◌, ℕ, true, List, All, Any, map, length, sum_by}
use Rattle.ebpf_verify.specs.Subject.{Subject}
use Rattle.owners_table.specs.Owning.{OwnersView, SeatView}
use Rattle.owners_table.specs.Drawing.{TicketsView, IsOf, times_drawn}
use Rattle.worker_pool.specs.declared.worker.Ending.TheVariants.{Through}
use Rattle.job_list.specs.declared.jobs.Job.{Job}
use Rattle.worker_pool.specs.Numbering.{IsWhole, Numbered, bundles_in, times_of, told_by}
use Rattle.worker_pool.specs.declared.crew.Parts.{Parts}
use Rattle.worker_pool.specs.declared.crew.Done.{Done}
use Rattle.worker_pool.specs.EachKind.{AllAreEven, free_allocs, free_nulls, free_gets}
use Rattle.worker_pool.specs.Outcomes.{IsIdle, noted_by, lost_by, fetches_by}
use Rattle.worker_pool.specs.Places.{bundles_of}
use Rattle.worker_pool.specs.Working.{Answers, granted_by, refused_by, fetched_by}

module _ {L : Type 0} where
  abbrev pub all_allocs : Parts L → ℕ
  all_allocs p = free_allocs p.hands

  abbrev pub all_nulls : Parts L → ℕ
  all_nulls p = free_nulls p.hands

  abbrev pub all_gets : Parts L → ℕ
  all_gets p = free_gets p.hands

  -- the reports that each worker made
  abbrev pub reports_of : (size : ℕ) → Parts L → List (List Numbered)
  reports_of size p = map (told_by size) p.answered.items

  -- What is left of workers that had these seats. Where they are through together, one found no jobs left, and each
  -- bundle was answered as often as it was drawn.
  pub record AreServed (programs : List Subject) (jobs : List Job) (o : OwnersView) (size : ℕ) (t : TicketsView) (seats : List SeatView)
      (p : Parts L) (done : Done) : Type 0 where
    pub even : AllAreEven (length seats) p.hands
    pub seats_all : length p.seats.items ≡ length seats
    pub idle : All (IsIdle o) p.seats.items
    pub noted : noted_by p.seats.items ≡ noted_by seats + all_allocs p
    pub lost : lost_by p.seats.items ≡ lost_by seats + done.clashes
    pub fetches : fetches_by p.seats.items ≡ fetches_by seats + all_gets p
    pub granted : all_allocs p ≡ sum_by granted_by (reports_of size p) + done.clashes
    pub refused : all_nulls p + done.clashes ≡ sum_by refused_by (reports_of size p)
    pub fetched : all_gets p ≡ sum_by fetched_by (reports_of size p) + done.strays
    pub answered_all : length p.answered.items ≡ length seats
    pub whole : done.ending ≡ Through → All (IsWhole size (length jobs)) (bundles_of p.answered.items)
    pub good : All (All (Answers programs jobs)) (reports_of size p)
    pub drawers_all : length p.drawers.items ≡ length seats
    pub drawers : All (IsOf t) p.drawers.items
    pub through : done.ending ≡ Through → Any (λ s. s.passed ≡ true) p.drawers.items
    pub drawn : done.ending ≡ Through → (x : ℕ) → x < bundles_in size (length jobs) → times_drawn x p.drawers.items ≡ times_of x (bundles_of p.answered.items)
