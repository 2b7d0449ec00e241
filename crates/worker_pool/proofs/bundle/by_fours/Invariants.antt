use Rattle.std.proofs.Common.{◌≡◌, ◌≤◌, ◌*◌, ◌-◌, length}
use Rattle.std.specs.Prelude.{vec_capacity}
use Rattle.worker_pool.specs.EachKind.{hands_of, IsEven}
use Rattle.worker_pool.specs.Going.{AreAnswered, tools_of}
use Rattle.worker_pool.specs.Numbering.{many_in}
use Rattle.worker_pool.proofs.bundle.by_fours.Given as goal

abbrev pub decreases-jobs : goal.decreases-jobs
decreases-jobs g l = l.end - l.number

abbrev pub invariant-jobs : goal.invariant-jobs
invariant-jobs g l = record {
  even : IsEven (hands_of l.store.stocks);
  answered : AreAnswered l.shared.programs.now l.shared.jobs.now (l.bundle * l.shared.size) (tools_of l.fn.store.stocks l.fn.store.client)
      (tools_of l.store.stocks l.store.client) l.reports.items;
  from : l.bundle * l.shared.size ≤ l.number;
  to : l.number ≤ l.end;
  len : length l.reports.items ≡ l.number - l.bundle * l.shared.size;
  room : many_in l.shared.size (length l.shared.jobs.now) l.bundle ≤ vec_capacity l.reports;
}
