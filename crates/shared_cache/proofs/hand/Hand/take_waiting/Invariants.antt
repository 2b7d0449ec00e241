use Rattle.std.proofs.Common.{◌≡◌, ◌⊎◌}
use Rattle.shared_cache.specs.Asking.{Moves}
use Rattle.shared_cache.specs.HandView.{HasNone}
use Rattle.shared_cache.proofs.hand.Hand.take_waiting.Given as goal

abbrev pub invariant-loop : goal.invariant-loop
invariant-loop g l = record {
  table : l.self.table ≡ l.fn.self.table;
  pages : Moves l.fn.pages l.pages 0 0;
  counts : l.self.counts ≡ l.fn.self.counts;
  rest : (l.self.layer ≡ l.fn.self.layer) × (l.self.aside ≡ l.fn.self.aside);
  asks : (l.self.notes ≡ l.fn.self.notes) ⊎ HasNone l.fn.self;
}
