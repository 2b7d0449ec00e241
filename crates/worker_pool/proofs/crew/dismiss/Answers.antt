use Rattle.std.proofs.Common.{rules, ◌≡◌, length, arith}
use Rattle.std.proofs.lemmas.List.{nil_from_length}
use Rattle.worker_pool.proofs.EachKind.{have_places, none_room, same_rooms}
use Rattle.worker_pool.proofs.Pairs.{at_most, fits}
use Rattle.worker_pool.proofs.Dismissing.{last_back, sums_fit, one_apart, none_apart, done_are, all_dismissed}
use Rattle.worker_pool.proofs.crew.dismiss.Goals as goal

pub loop-worker-init : goal.loop-worker-init
loop-worker-init g c =
    let n = c.requires.none in record {
      apart = none_apart c.args.workers.now.items c.args.parts.now c.requires.back n;
      room = record {
        hands = none_room _ _ n.hands;
        seats = n.seats.1;
        drawers = n.drawers.1;
        answered = n.answered.1;
      };
      len = omega arith;
    }

pub unreachable-requires : goal.unreachable-requires
unreachable-requires g c =
    let i = c.loop-worker.invariant.apart in
    let back = last_back _ _ _ c.take_last-tools.result _ _ c.take_last-tools.ensures.items i in
    c.in_default.not-Some back.tools back.tools_are

pub overflow_add-done : goal.overflow_add-done
overflow_add-done g c =
    let fits = sums_fit _ _ _ c.take_last-tools.result c.in-Some.field-0 _ _ c.take_last-tools.ensures.items c.in-Some.is c.loop-worker.invariant.apart c.requires.few in
    omega (arith, fits.0)

pub overflow_add-done-in-loop-worker : goal.overflow_add-done-in-loop-worker
overflow_add-done-in-loop-worker g c =
    let fits = sums_fit _ _ _ c.take_last-tools.result c.in-Some.field-0 _ _ c.take_last-tools.ensures.items c.in-Some.is c.loop-worker.invariant.apart c.requires.few in
    omega (arith, fits.1)

pub loop-worker-preserved : goal.loop-worker-preserved
loop-worker-preserved g c =
    let i = c.loop-worker.invariant in
    let n = length c.args.workers.now.items in record {
      apart = one_apart _ _ _ c.take_last-tools.result c.in-Some.field-0 _ _ c.take_last-tools.ensures.items c.in-Some.is i.apart _ _ c.with-done.ensures.kept c.with-done.ensures.through
          c.push_reserved.ensures c.push_reserved-in-loop-worker.ensures.items c.push_reserved-in-loop-worker-2.ensures.items c.push_reserved-in-loop-worker-3.ensures.items;
      room = record {
        hands = same_rooms n _ _ _ i.room.hands c.push_reserved.ensures;
        seats = at_most n _ _ i.room.seats c.push_reserved-in-loop-worker.ensures.capacity;
        drawers = at_most n _ _ i.room.drawers c.push_reserved-in-loop-worker-2.ensures.capacity;
        answered = at_most n _ _ i.room.answered c.push_reserved-in-loop-worker-3.ensures.capacity;
      };
      len = search rules;
    }

pub returns-clause-dismissed : goal.returns-clause-dismissed
returns-clause-dismissed g c =
    let zero : length c.loop-worker.workers.items ≡ 0 = search rules in
    let none = nil_from_length c.loop-worker.workers.items zero in
    all_dismissed _ _ _ _ none c.loop-worker.invariant.apart

pub push_reserved-requires : goal.push_reserved-requires
push_reserved-requires g c =
    let i = c.loop-worker.invariant in
    have_places _ i.apart.done _ _ _ _ _ i.apart.parts.hands (done_are _ _ _ _ i.apart) c.take_last-tools.ensures.items i.room.hands

pub push_reserved-requires-in-loop-worker : goal.push_reserved-requires-in-loop-worker
push_reserved-requires-in-loop-worker g c = let i = c.loop-worker.invariant in fits _ _ i.apart.done _ _ _ _ _ _ c.loop-worker.parts.seats.ok.0 i.apart.parts.seats (done_are _ _ _ _ i.apart) c.take_last-tools.ensures.items i.room.seats

pub push_reserved-requires-in-loop-worker-2 : goal.push_reserved-requires-in-loop-worker-2
push_reserved-requires-in-loop-worker-2 g c = let i = c.loop-worker.invariant in fits _ _ i.apart.done _ _ _ _ _ _ c.loop-worker.parts.drawers.ok.0 i.apart.parts.drawers (done_are _ _ _ _ i.apart) c.take_last-tools.ensures.items i.room.drawers

pub push_reserved-requires-in-loop-worker-3 : goal.push_reserved-requires-in-loop-worker-3
push_reserved-requires-in-loop-worker-3 g c = let i = c.loop-worker.invariant in fits _ _ i.apart.done _ _ _ _ _ _ c.loop-worker.parts.answered.ok.0 i.apart.parts.answered (done_are _ _ _ _ i.apart) c.take_last-tools.ensures.items i.room.answered
