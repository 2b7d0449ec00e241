use Rattle.std.proofs.Common.{◌≡◌, ◌+◌, ◌++◌, replicate, vec_len}
use Rattle.std.specs.Prelude.{None}
use Rattle.std.specs.Vec.{vec_capacity}
use Rattle.shared_row.proofs.spread.push_apart.Given as goal

abbrev pub invariant-loop-i : goal.invariant-loop-i
invariant-loop-i g l = record {
  items : l.slots.items ≡ l.initial.slots.items ++ replicate l._i None;
  len : vec_len l.slots ≡ vec_len l.initial.slots + l._i;
  capacity : vec_capacity l.slots ≡ vec_capacity l.initial.slots;
}
