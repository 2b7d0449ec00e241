-- Workers in the making, and what is left of them.
use Rattle.std.specs.Prelude.{◌≡◌, ◌≢◌, ◌≤◌, ◌^◌, ℕ, List, [], All, Any, length, map, reverse, sum_by, Option, Some, None, vec_capacity}
use Rattle.owners_table.specs.Owning.{OwnersView, SeatView}
use Rattle.owners_table.specs.Owning as owning
use Rattle.owners_table.specs.Drawing.{TicketsView, TicketView}
use Rattle.owners_table.specs.Drawing as drawing
use Rattle.worker_pool.specs.EachKind.{AllAreUnused, AllAreMadeOf, AreNone, unused_hands, AreOpened}
use Rattle.worker_pool.specs.Bundles.{IsBundleSize}
use Rattle.worker_pool.specs.Numbering.{IsBlank, bundles_in}
use Rattle.worker_pool.specs.Outcomes.{IsIdle}
use Rattle.worker_pool.specs.declared.crew.Done.{Done}
use Rattle.worker_pool.specs.declared.crew.Parts.{Parts}
use Rattle.worker_pool.specs.declared.each_kind.Hands.{Hands}
use Rattle.worker_pool.specs.declared.hands.Tools.{Tools}
use Rattle.worker_pool.specs.declared.setup.Setup.{Setup}
use Rattle.worker_pool.specs.declared.worker.Ending.TheVariants.{Through, OutOfMemory}
use Rattle.worker_pool.specs.declared.worker.Worker.{Worker}

module _ {L : Type 0} where
  -- parts for that many workers, with which nothing was done
  pub record AreFresh (o : OwnersView) (t : TicketsView) (count : ℕ) (p : Parts L) : Type 0 where
    pub hands : AllAreUnused count p.hands
    pub seats : (length p.seats.items ≡ count) × All (IsIdle o) p.seats.items
    pub drawers : (length p.drawers.items ≡ count) × All (λ s. s ≡ drawing.fresh t.table t.limit) p.drawers.items
    pub answered : (length p.answered.items ≡ count) × All IsBlank p.answered.items

  -- no parts, and memory for the parts of that many workers
  pub record HaveNone (count : ℕ) (p : Parts L) : Type 0 where
    pub hands : AreNone count p.hands
    pub seats : (p.seats.items ≡ []) × (count ≤ vec_capacity p.seats)
    pub drawers : (p.drawers.items ≡ []) × (count ≤ vec_capacity p.drawers)
    pub answered : (p.answered.items ≡ []) × (count ≤ vec_capacity p.answered)

  -- the tools of a worker; of one that has none, tools that belong to nobody
  abbrev pub nobodys : Tools L
  nobodys = record {
    hands = unused_hands;
    seat = owning.fresh (record { words = 0; slots = 0; views_name = 0; atom = 0; block = 0; offset = 0; slot_names = [] });
    clashes = 0;
    strays = 0;
  }

  abbrev pub tools_or : Option (Tools L) → Tools L
  tools_or None = nobodys
  tools_or (Some tools) = tools

  abbrev pub tools_in : Worker L → Tools L
  tools_in w = tools_or w.tools

  abbrev pub hands_in : Worker L → Hands L
  hands_in w = (tools_in w).hands

  abbrev pub seat_in : Worker L → SeatView
  seat_in w = (tools_in w).seat

  abbrev pub clashes_in : Worker L → ℕ
  clashes_in w = (tools_in w).clashes

  abbrev pub strays_in : Worker L → ℕ
  strays_in w = (tools_in w).strays

  -- the worker has its tools, and counted few clashes and strays
  pub record IsBack (w : Worker L) : Type 0 where
    pub tools : Tools L
    pub tools_are : w.tools ≡ Some tools
    pub few : (tools.clashes ≤ 2 ^ 56) × (tools.strays ≤ 2 ^ 56)

  -- these are the parts of the workers, in order
  pub record ArePartsOf (ws : List (Worker L)) (p : Parts L) : Type 0 where
    pub hands : AllAreMadeOf hands_in ws p.hands
    pub seats : p.seats.items ≡ map seat_in ws
    pub drawers : p.drawers.items ≡ map (λ w. w.ticket) ws
    pub answered : p.answered.items ≡ map (λ w. w.answered) ws

  -- the workers were taken apart, the last one first: their parts, and what they came to together
  pub record AreDismissed (ws : List (Worker L)) (p : Parts L) (done : Done) : Type 0 where
    pub parts : ArePartsOf (reverse ws) p
    pub clashes : done.clashes ≡ sum_by clashes_in ws
    pub strays : done.strays ≡ sum_by strays_in ws
    pub kept : done.ending ≢ OutOfMemory → All (λ w. w.ending ≢ OutOfMemory) ws
    pub through : done.ending ≡ Through → Any (λ w. w.ending ≡ Through) ws

  -- all that this many workers and jobs need, with which nothing was done
  pub record IsPrepared (count jobs : ℕ) (s : Setup L) : Type 0 where
    pub size : IsBundleSize s.room.size
    pub limit : s.room.tickets.limit ≡ bundles_in s.room.size jobs
    pub tickets : s.room.tickets.seats ≡ count
    pub drawers : (length s.drawers.items ≡ count) × All (λ d. d ≡ drawing.fresh s.room.tickets.table s.room.tickets.limit) s.drawers.items
    pub answered : (length s.answered.items ≡ count) × All IsBlank s.answered.items
    pub places : (s.places.items ≡ []) × (bundles_in s.room.size jobs ≤ vec_capacity s.places)
    pub jobs_done : (s.room.jobs_done.items ≡ []) × (count ≤ vec_capacity s.room.jobs_done)
    pub workers : (s.workers.items ≡ []) × (count ≤ vec_capacity s.workers)
    pub opened : AreOpened count s.supplies s.hands
