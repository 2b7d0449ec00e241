use Rattle.std.proofs.Common.{rules, ◌<◌, ◌+◌, length, refl, sym, ap, ◌∙◌}
use Rattle.worker_pool.specs.Outcomes.{IsIdle, fetches_by}
use Rattle.worker_pool.proofs.EachKind.{left_three}
use Rattle.worker_pool.proofs.Returning.{all_fetched, first_is, seats_all, seats_idle, seats_noted, seats_lost, seats_fetched}
use Rattle.worker_pool.proofs.each_kind.Supplies.close.Goals as goal

pub returns : goal.returns
returns g c =
    let seats = c.args.seats.now.items in
    let o = c.args.closing.now.owners.now in
    let first = c.close in
    let second = c.close-2 in
    let third = c.close-3 in
    let some : 0 < length seats = search rules in
    let seat = c.index_mut-seat.result.now in
    let is = c.index_mut-seat.ensures.value in
    let a = first.result.0.left in
    let b = second.result.0.left in
    let d = third.result.0.left in
    let left = a + b + d in
    let all = all_fetched a b d seat first.new.seat second.new.seat third.new.seat first.ensures.seat second.ensures.seat third.ensures.seat in
    record {
      cell_shelf = first.result.0;
      record_shelf = second.result.0;
      block_shelf = third.result.0;
      shelves_are = refl;
      cells = first.result.1;
      records = second.result.1;
      blocks = third.result.1;
      totals_are = refl;
      cells_closed = first.ensures.closed;
      records_closed = second.ensures.closed;
      blocks_closed = third.ensures.closed;
      all = seats_all o left seats seat third.new.seat some is all;
      idle = seats_idle o left seats seat third.new.seat some is all c.requires.idle (first_is (IsIdle o) seats seat some is c.requires.idle);
      noted = seats_noted o left seats seat third.new.seat some is all;
      lost = seats_lost o left seats seat third.new.seat some is all;
      fetches = seats_fetched o left seats seat third.new.seat some is all ∙ ap (λ n. fetches_by seats + n) (sym (left_three first.result.0 second.result.0 third.result.0));
    }
