-- A worker more is made of the parts, and one more is taken apart.
use Rattle.std.proofs.Common.{◌≡◌, ◌≤◌, ℕ, Some, List, [], ◌∷◌, ◌++◌, map, reverse, sym, ap, ◌∙◌}
use Rattle.std.specs.Vec.{vec_capacity}
use Rattle.std.proofs.lemmas.List.{map_push, reverse-append, append_assoc}
use Rattle.owners_table.specs.Owning.{OwnersView}
use Rattle.owners_table.specs.Drawing.{TicketsView, TicketView}
use Rattle.owners_table.specs.Drawing as drawing
use Rattle.worker_pool.specs.EachKind.{HaveRoom, unused_hands}
use Rattle.worker_pool.specs.declared.worker.Worker.{Worker}
use Rattle.worker_pool.specs.declared.hands.Tools.{Tools}
use Rattle.worker_pool.specs.declared.crew.Parts.{Parts}
use Rattle.worker_pool.specs.Numbering.{IsBlank}
use Rattle.worker_pool.specs.Outcomes.{IsIdle}
use Rattle.worker_pool.specs.Working.{IsFresh}

-- memory for the parts of that many workers
pub record HasPartsRoom {L : Type 0} (count : ℕ) (p : Parts L) : Type 0 where
  pub hands : HaveRoom count p.hands
  pub seats : count ≤ vec_capacity p.seats
  pub drawers : count ≤ vec_capacity p.drawers
  pub answered : count ≤ vec_capacity p.answered

-- a worker of parts with which nothing was done
pub fresh_worker : {L : Type 0} (o : OwnersView) (t : TicketsView) (w : Worker L) (k : Tools L) → w.tools ≡ Some k → k.hands ≡ unused_hands → IsIdle o k.seat
    → w.ticket ≡ drawing.fresh t.table t.limit → IsBlank w.answered → IsFresh o t w
fresh_worker o t w k is hands idle ticket answered = record {
  tools = k;
  tools_are = is;
  unused = record { hands = hands; table = idle.table; held = idle.held };
  ticket = (ap (λ (s : TicketView). s.table) ticket, ap (λ (s : TicketView). s.limit) ticket);
  drawn = ap (λ (s : TicketView). s.drawn) ticket;
  passed = ap (λ (s : TicketView). s.passed) ticket;
  answered = answered;
}

-- the last goes after those that were taken before
pub taken_back : {X Y : Type 0} (f : X → Y) (made : List X) (new : X) (left rest : List Y) (y : Y) (all : List Y)
    → left ≡ rest ++ y ∷ [] → f new ≡ y → map f made ++ reverse left ≡ all → map f (made ++ new ∷ []) ++ reverse rest ≡ all
taken_back f made new left rest y all is same before =
    let turned : reverse left ≡ y ∷ reverse rest = ap reverse is ∙ reverse-append rest (y ∷ []) in
    let pushed = ap (λ l. l ++ reverse rest) (map_push f made new ∙ ap (λ v. map f made ++ v ∷ []) same) in
    pushed ∙ append_assoc (map f made) (y ∷ []) (reverse rest) ∙ ap (λ l. map f made ++ l) (sym turned) ∙ before
