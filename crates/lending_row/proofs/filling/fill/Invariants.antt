use Rattle.std.proofs.Common.{◌≡◌, ◌+◌, ◌≤◌, ◌++◌, map, vec_len}
use Rattle.std.specs.Prelude.{Some, reverse}
use Rattle.std.specs.Vec.{vec_capacity}
use Rattle.lending_row.proofs.filling.fill.Given as goal

abbrev pub invariant-loop-value : goal.invariant-loop-value
invariant-loop-value g l = record {
  all : l.slots.items ++ map Some (reverse l.values.items) ≡ map Some l.fn.values.items;
  room : vec_len l.slots + vec_len l.values ≤ vec_capacity l.slots;
  capacity : vec_capacity l.values ≡ vec_capacity l.fn.values;
}

abbrev pub decreases-loop-value : goal.decreases-loop-value
decreases-loop-value g l = vec_len l.values
