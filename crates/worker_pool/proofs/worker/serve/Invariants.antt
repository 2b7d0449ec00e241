use Rattle.std.proofs.Common.{◌≡◌, All, length, false}
use Rattle.owners_table.specs.Drawing.{IsOf}
use Rattle.worker_pool.specs.EachKind.{hands_of, IsEven}
use Rattle.worker_pool.specs.Bundles.{AreAsDrawn}
use Rattle.worker_pool.specs.Going.{HasAnsweredAll, tools_of}
use Rattle.worker_pool.specs.Numbering.{IsWhole, bundles_in, told_by}
use Rattle.worker_pool.specs.Working.{Answers}
use Rattle.worker_pool.proofs.worker.serve.Given as goal

abbrev pub invariant-loop : goal.invariant-loop
invariant-loop g l = record {
  even : IsEven (hands_of l.store.stocks);
  table : IsOf l.shared.tickets.now l.ticket;
  going : l.ticket.passed ≡ false;
  drawn : AreAsDrawn (bundles_in l.shared.size (length l.shared.jobs.now)) l.ticket.drawn l.answered.bundles.items;
  good : All (Answers l.shared.programs.now l.shared.jobs.now) (told_by l.shared.size l.answered);
  goes : HasAnsweredAll (tools_of l.fn.store.stocks l.fn.store.client) (told_by l.shared.size l.answered) (tools_of l.store.stocks l.store.client);
  whole : All (IsWhole l.shared.size (length l.shared.jobs.now)) l.answered.bundles.items;
}
