use Rattle.std.proofs.Common.{rules, ◌≡◌, ◌<◌, ◌+◌, ◌++◌, ◌∙◌, ℕ, All, length, map, reverse, refl, sym, ap, subst}
use Rattle.std.proofs.lemmas.List.Elements.{All-push}
use Rattle.owners_table.specs.Drawing.{TicketView}
use Rattle.owners_table.specs.Drawing as drawing
use Rattle.worker_pool.specs.Numbering.{IsBlank}
use Rattle.worker_pool.specs.Outcomes.{IsIdle}
use Rattle.worker_pool.specs.Crews.{seat_in}
use Rattle.worker_pool.specs.Working.{IsFresh}
use Rattle.worker_pool.proofs.EachKind.{rooms_before, rest_all_unused, last_all_unused}
use Rattle.worker_pool.proofs.Pairs.{at_most, rest_len, rest_all, last_is}
use Rattle.worker_pool.proofs.Recruiting.{taken_back, fresh_worker}
use Rattle.worker_pool.proofs.crew.recruit.Goals as goal

pub loop-worker-preserved : goal.loop-worker-preserved
loop-worker-preserved g c =
    let i = c.loop-worker.invariant in
    let f = i.fresh in
    let o = c.args.shared.now.owners.now in
    let t = c.args.shared.now.tickets.now in
    let k = c.loop-worker._worker in
    let n = length c.args.parts.now.seats.items in
    let some : k < n = search rules in
    let new = c.push_reserved.ensures in
    let blank = λ (s : TicketView). s ≡ drawing.fresh t.table t.limit in
    let empty = IsBlank in
    let hands = c.take_last.ensures in
    let seats = c.take_last-in-loop-worker.ensures in
    let drawers = c.take_last-in-loop-worker-2.ensures in
    let answered = c.take_last-in-loop-worker-3.ensures in
    let worker = fresh_worker o t _ _ refl
    (last_all_unused n k _ _ _ some f.hands hands)
    (last_is (IsIdle o) n k _ _ _ seats.items some f.seats.0 f.seats.1)
    (last_is blank n k _ _ _ drawers.items some f.drawers.0 f.drawers.1)
    (last_is empty n k _ _ _ answered.items some f.answered.0 f.answered.1)
    in record {
      fresh = record {
        hands = rest_all_unused n k _ _ _ some f.hands hands;
        seats = (rest_len (IsIdle o) n k _ _ _ seats.items some f.seats.0 f.seats.1, rest_all (IsIdle o) n k _ _ _ seats.items some f.seats.0 f.seats.1);
        drawers = (rest_len blank n k _ _ _ drawers.items some f.drawers.0 f.drawers.1, rest_all blank n k _ _ _ drawers.items some f.drawers.0 f.drawers.1);
        answered =
            (rest_len empty n k _ _ _ answered.items some f.answered.0 f.answered.1, rest_all empty n k _ _ _ answered.items some f.answered.0 f.answered.1);
      };
      room = record {
        hands = rooms_before n _ _ _ i.room.hands hands;
        seats = at_most n _ _ i.room.seats seats.capacity;
        drawers = at_most n _ _ i.room.drawers drawers.capacity;
        answered = at_most n _ _ i.room.answered answered.capacity;
      };
      made = subst (All (IsFresh o t)) (sym new.items) (All-push (IsFresh o t) c.loop-worker.workers.items _ i.made worker);
      len = new.len ∙ ap (λ (m : ℕ). m + 1) i.len;
      space = at_most n _ _ i.space new.capacity;
      seats = ap (λ l. map seat_in l ++ reverse c.take_last-in-loop-worker.new.self.items) new.items ∙ taken_back seat_in c.loop-worker.workers.items _ _ _ _ _ seats.items refl i.seats;
    }
