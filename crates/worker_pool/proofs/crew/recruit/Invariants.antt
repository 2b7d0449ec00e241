use Rattle.std.proofs.Common.{◌≡◌, ◌≤◌, ◌-◌, ◌++◌, All, length, map, reverse, vec_len}
use Rattle.std.specs.Vec.{vec_capacity}
use Rattle.worker_pool.specs.Crews.{AreFresh, seat_in}
use Rattle.worker_pool.specs.Working.{IsFresh}
use Rattle.worker_pool.proofs.Recruiting.{HasPartsRoom}
use Rattle.worker_pool.proofs.crew.recruit.Given as goal

abbrev pub invariant-loop-worker : goal.invariant-loop-worker
invariant-loop-worker g l = record {
  fresh : AreFresh l.shared.owners.now l.shared.tickets.now (length l.fn.parts.seats.items - l._worker) l.parts;
  room : HasPartsRoom (length l.fn.parts.seats.items) l.parts;
  made : All (IsFresh l.shared.owners.now l.shared.tickets.now) l.workers.items;
  len : vec_len l.workers ≡ l._worker;
  space : length l.fn.parts.seats.items ≤ vec_capacity l.workers;
  seats : map seat_in l.workers.items ++ reverse l.parts.seats.items ≡ reverse l.fn.parts.seats.items;
}
