use Rattle.std.proofs.Common.{◌≡◌}
use Rattle.worker_pool.specs.Hands.{AreUnused, HasRoom}
use Rattle.worker_pool.proofs.supply.Supply.fill.Given as goal

abbrev pub invariant-loop-hand : goal.invariant-loop-hand
invariant-loop-hand g l = record {
  made : l.self.cache.hands ≡ l._hand;
  shelf_made : l.self.shelf.hands ≡ l._hand;
  unused : AreUnused l._hand l.free;
  room : HasRoom l.count l.free;
}
