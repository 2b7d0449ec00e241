use Rattle.std.proofs.Common.{◌≡◌, ◌≤◌}
use Rattle.std.specs.Slots.{slots_items}
use Rattle.owners_table.proofs.Counting.{runs_in}
use Rattle.owners_table.proofs.owners.Owners.end.Given as goal

abbrev pub invariant-loop-at : goal.invariant-loop-at
invariant-loop-at l = record {
  counted : l.owned ≡ runs_in l.at (slots_items l.closed.words);
  few : l.owned ≤ l.at;
}
