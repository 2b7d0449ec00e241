use Rattle.std.proofs.Common.{◌≡◌, ◌+◌}
use Rattle.object_cache.specs.ShelfView.{HasSpares}
use Rattle.object_cache.proofs.shelf.gathered.Given as goal

abbrev pub invariant-loop-place : goal.invariant-loop-place
invariant-loop-place g l = record {
  puts : (l.all_puts.parts + l.initial.hands ≡ l.place + 1) × (l.all_puts.amount ≡ 0);
  gets : (l.all_gets.parts + l.initial.hands ≡ l.place + 1) × (l.all_gets.amount ≡ 0);
  spares : HasSpares l.place l.spares;
}
