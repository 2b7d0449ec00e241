-- What is left when the workers are done, which can be taken apart then.
use Rattle.std.proofs.Common.{Vec, Global}
use Rattle.std.specs.Prelude.{◌≡◌, ◌≤◌, ◌<◌, List, [], length, Result, IfOk, vec_capacity}
use Rattle.std.specs.declared.alloc.AllocError.{AllocError}
use Rattle.ebpf_verify.specs.Subject.{Subject}
use Rattle.owners_table.specs.Owning.{OwnersView, SeatView}
use Rattle.worker_pool.specs.EachKind.{HaveHands, HaveMade}
use Rattle.worker_pool.specs.declared.crew.Done.{Done}
use Rattle.worker_pool.specs.declared.crew.Parts.{Parts}
use Rattle.job_list.specs.declared.jobs.Job.{Job}
use Rattle.worker_pool.specs.declared.outcome.TheConstants.{MAX_JOBS}
use Rattle.worker_pool.specs.declared.setup.Room.{Room}
use Rattle.worker_pool.specs.declared.each_kind.Supplies.{Supplies}
use Rattle.worker_pool.specs.Bundles.{IsBundleSize}
use Rattle.worker_pool.specs.Numbering.{bundles_in}
use Rattle.worker_pool.specs.Outcomes.{AreIdleAgain, IsOutcome, JobsOutcome}
use Rattle.job_list.specs.ReportLists.{Kept}
use Rattle.worker_pool.specs.Serving.{AreServed}

-- the room, the supplies, the parts of workers that had these seats and did these jobs, and memory for the places of their bundles
pub record AreLeft {L : Type 0} (programs : List Subject) (jobs : List Job) (o : OwnersView) (before : List SeatView)
    (room : Room) (s : Supplies L) (p : Parts L) (places : Vec Kept Global) (done : Done) : Type 0 where
  pub served : AreServed programs jobs o room.size room.tickets before p done
  pub made : HaveMade s p.hands
  pub hands : HaveHands p.hands
  pub some : 0 < length before
  pub few : length before ≤ 64
  pub few_jobs : length jobs ≤ MAX_JOBS
  pub size : IsBundleSize room.size
  pub limit : room.tickets.limit ≡ bundles_in room.size (length jobs)
  pub tickets : room.tickets.seats ≡ length before
  pub places_are : (places.items ≡ []) × (bundles_in room.size (length jobs) ≤ vec_capacity places)
  pub jobs_done : (room.jobs_done.items ≡ []) × (length before ≤ vec_capacity room.jobs_done)

-- the seats are idle again, and what comes of it is the outcome of the jobs, where there is one
pub record AreSettled (programs : List Subject) (jobs : List Job) (o : OwnersView) (before after : List SeatView)
    (result : Result JobsOutcome AllocError) : Type 0 where
  pub done : IfOk result (IsOutcome programs jobs before after)
  pub seats : AreIdleAgain o before after

-- that of any seats that the workers may have had
abbrev pub Settles : {L : Type 0} → List Subject → List Job → OwnersView → Room → Supplies L → Parts L → Vec Kept Global → Done
    → List SeatView → Result JobsOutcome AllocError → Type 0
Settles programs jobs o room s p places done after result =
    (before : List SeatView) → AreLeft programs jobs o before room s p places done → AreSettled programs jobs o before after result
