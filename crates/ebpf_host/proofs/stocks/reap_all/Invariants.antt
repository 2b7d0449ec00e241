use Rattle.std.proofs.Common.{◌≡◌}
use Rattle.ebpf_host.proofs.stocks.reap_all.Given as goal

abbrev pub invariant-loop-page : goal.invariant-loop-page
invariant-loop-page g l = record {
  shelf : l.stock.shelf ≡ l.initial.stock.shelf;
  pages : l.arena.pages ≡ l.initial.arena.pages;
}
