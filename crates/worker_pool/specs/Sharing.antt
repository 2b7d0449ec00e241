-- What is said of workers by what they share, and of all that is left of them by what their jobs were done with.
use Rattle.std.proofs.Common.{Vec, Global}
use Rattle.std.specs.Prelude.{List}
use Rattle.owners_table.specs.Owning.{OwnersView, SeatView}
use Rattle.worker_pool.specs.declared.crew.Done.{Done}
use Rattle.worker_pool.specs.declared.crew.Parts.{Parts}
use Rattle.job_list.specs.declared.jobs.Job.{Job}
use Rattle.worker_pool.specs.declared.outcome.Host.{Host}
use Rattle.worker_pool.specs.declared.setup.Room.{Room}
use Rattle.worker_pool.specs.declared.each_kind.Supplies.{Supplies}
use Rattle.worker_pool.specs.declared.worker.Shared.{Shared}
use Rattle.worker_pool.specs.declared.worker.Worker.{Worker}
use Rattle.job_list.specs.ReportLists.{Kept}
use Rattle.worker_pool.specs.Serving.{AreServed}
use Rattle.worker_pool.specs.Settling.{AreLeft}
use Rattle.worker_pool.specs.Working.{CanBegin, AreDone}

module _ {L G R : Type 0} where
  -- the workers can begin on the jobs that they share
  abbrev pub CanBeginWith : Shared L G R → List (Worker L) → Type 0
  CanBeginWith s workers = CanBegin s.programs.now s.jobs.now s.owners.now s.tickets.now workers

  -- they are done with them
  abbrev pub AreDoneWith : Shared L G R → (before after : List (Worker L)) → Type 0
  AreDoneWith s before after = AreDone s.programs.now s.jobs.now s.size s.tickets.now before after

module _ {L : Type 0} where
  -- the parts of workers that had these seats and are done
  abbrev pub AreServedIn : Host → List Job → OwnersView → Room → List SeatView → Parts L → Done → Type 0
  AreServedIn host jobs owners room seats parts done = AreServed host.programs.items jobs owners room.size room.tickets seats parts done

  -- the room, the supplies and the parts of workers that are done, whatever seats they had, and memory for the places of their bundles
  abbrev pub AreLeftIn : Host → List Job → OwnersView → Room → Supplies L → Parts L → Vec Kept Global → Done → Type 0
  AreLeftIn host jobs owners room supplies parts places done =
      (before : List SeatView) × AreLeft host.programs.items jobs owners before room supplies parts places done
