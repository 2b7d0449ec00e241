use Rattle.std.proofs.Common.{◌≡◌, ◌++◌, ◌≤◌, length, vec_len}
use Rattle.std.specs.Prelude.{reverse}
use Rattle.std.specs.Vec.{vec_capacity}
use Rattle.shared_row.specs.Spread.{values_in}
use Rattle.shared_row.proofs.spread.gathered.Given as goal

abbrev pub invariant-loop-slot : goal.invariant-loop-slot
invariant-loop-slot g l = record {
  values : values_in l.slots.items ++ reverse l.into.items ≡ values_in l.fn.slots.items;
  room : length (values_in l.fn.slots.items) ≤ vec_capacity l.into;
}

abbrev pub decreases-loop-slot : goal.decreases-loop-slot
decreases-loop-slot g l = vec_len l.slots
