use Rattle.std.proofs.Common.{◌≡◌, ℕ, ◌+◌, ◌*◌, ◌<◌, ◌++◌, get_or, vec_len}
use Rattle.std.specs.Prelude.{None, reverse}
use Rattle.std.specs.Vec.{vec_capacity}
use Rattle.shared_row.specs.Spread.{spot, values_in, IsValue}
use Rattle.shared_row.proofs.spread.spread.Given as goal

abbrev pub invariant-loop-value : goal.invariant-loop-value
invariant-loop-value g l = record {
  values : values_in l.slots.items ++ reverse l.values.items ≡ l.fn.values.items;
  len : vec_len l.slots + vec_len l.values * 16 ≡ spot (vec_len l.fn.values);
  places : (k : ℕ) → k + vec_len l.values < vec_len l.fn.values → IsValue (get_or l.slots.items (spot k) None);
  room : vec_capacity l.slots ≡ vec_capacity l.fn.slots;
  capacity : vec_capacity l.values ≡ vec_capacity l.fn.values;
}

abbrev pub decreases-loop-value : goal.decreases-loop-value
decreases-loop-value g l = vec_len l.values
