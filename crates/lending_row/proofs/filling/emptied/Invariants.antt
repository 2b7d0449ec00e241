use Rattle.std.proofs.Common.{◌≡◌, ◌+◌, ◌≤◌, ◌++◌, map, vec_len}
use Rattle.std.specs.Prelude.{Some, reverse}
use Rattle.std.specs.Vec.{vec_capacity}
use Rattle.lending_row.proofs.filling.emptied.Given as goal

abbrev pub invariant-loop-slot : goal.invariant-loop-slot
invariant-loop-slot g l = record {
  all : l.slots.items ++ map Some (reverse l.into.items) ≡ l.fn.slots.items;
  room : vec_len l.slots + vec_len l.into ≤ vec_capacity l.into;
}

abbrev pub decreases-loop-slot : goal.decreases-loop-slot
decreases-loop-slot g l = vec_len l.slots
