use Rattle.std.proofs.Common.{[], ◌∷◌, length, ap, arith, length-append}
use Rattle.worker_pool.proofs.Answering.{answered_none, answered_next}
use Rattle.worker_pool.proofs.bundle.one_by_one.Goals as goal

pub loop-number-init : goal.loop-number-init
loop-number-init g c = record {
  even = c.requires.even;
  answered = answered_none _ _ _ _ _ c.requires.none;
  len = omega (arith, ap length c.requires.none);
  room = c.requires.room;
}

pub loop-number-preserved : goal.loop-number-preserved
loop-number-preserved g c =
    let i = c.loop-number.invariant in
    let a = c.in_ok-workspace.ensures.answered in
    let more = ap length a.kept in
    let all = length-append c.loop-number.reports.items (a.made ∷ []) in
    let from = c.loop-number.auto.number in record {
      even = c.answer.ensures.even;
      answered = answered_next _ _ _ _ _ _ _ _ i.answered _ a (omega (arith, i.len, from));
      len = omega (arith, i.len, more, all, from);
      room = omega (arith, i.room, c.answer.ensures.capacity);
    }
