use Rattle.std.proofs.Common.{◌≡◌, ◌+◌, length}
use Rattle.worker_pool.proofs.Recruiting.{HasPartsRoom}
use Rattle.worker_pool.proofs.Dismissing.{AreApart}
use Rattle.worker_pool.proofs.crew.dismiss.Given as goal

abbrev pub invariant-loop-worker : goal.invariant-loop-worker
invariant-loop-worker g l = record {
  apart : AreApart l.fn.workers.items l.workers.items l.parts l.done;
  room : HasPartsRoom (length l.fn.workers.items) l.parts;
  len : length l.workers.items + l._worker ≡ length l.fn.workers.items;
}
