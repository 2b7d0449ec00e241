use Rattle.std.proofs.Common.{rules, ◌≡◌, All, length, map, sym, ap, subst, ◌∙◌}
use Rattle.worker_pool.specs.Crews.{AreDismissed, IsBack, seat_in}
use Rattle.worker_pool.specs.Serving.{AreServed}
use Rattle.worker_pool.specs.Working.{IsFresh}
use Rattle.worker_pool.proofs.Turned.{written_back}
use Rattle.worker_pool.proofs.Serving.{all_back, all_served}
use Rattle.worker_pool.proofs.pool.serve_all.Goals as goal

pub dismiss-requires-clause-back : goal.dismiss-requires-clause-back
dismiss-requires-clause-back g c =
    let olds = c.as_mut_slice.result.now in
    let news = c.work_and_reap.new.workers in
    let lent = c.as_mut_slice.ensures.value in
    let fresh = subst (All (IsFresh c.args.given.now.owners.now c.args.room.now.tickets)) (sym lent) c.recruit.ensures.fresh in
    let len : length news ≡ length olds = search rules in
    let all : c.recruit.new.workers.len ≡ length news = search rules in
    let back = written_back c.recruit.new.workers.len news _ all in
    subst (All IsBack) (sym back) (all_back c.deref.result.now c.args.given.now.jobs.now c.args.given.now.owners.now c.args.room.now.size c.args.room.now.tickets olds news len fresh c.work_and_reap.ensures)

pub returns-clause-served : goal.returns-clause-served
returns-clause-served g c =
    let olds = c.as_mut_slice.result.now in
    let news = c.work_and_reap.new.workers in
    let lent = c.as_mut_slice.ensures.value in
    let fresh = subst (All (IsFresh c.args.given.now.owners.now c.args.room.now.tickets)) (sym lent) c.recruit.ensures.fresh in
    let seats = ap (map seat_in) lent ∙ c.recruit.ensures.seats in
    let len : length news ≡ length olds = search rules in
    let all : c.recruit.new.workers.len ≡ length news = search rules in
    let back = written_back c.recruit.new.workers.len news _ all in
    subst (λ ps. AreServed ps c.args.given.now.jobs.now c.args.given.now.owners.now c.args.room.now.size c.args.room.now.tickets c.args.parts.now.seats.items
    c.dismiss.new.parts c.dismiss.result)
    c.deref.ensures.value (all_served c.deref.result.now c.args.given.now.jobs.now c.args.given.now.owners.now c.args.room.now.size c.args.room.now.tickets olds news len fresh c.work_and_reap.ensures c.args.parts.now.seats.items c.dismiss.new.parts c.dismiss.result
    seats
    (subst (λ l. AreDismissed l c.dismiss.new.parts c.dismiss.result) back c.dismiss.ensures.dismissed))
