use Rattle.std.proofs.Common.{◌≡◌, ◌≢◌, ℕ, ◌<◌}
use Rattle.std.specs.Prelude.{slice_index}
use Rattle.slab_layer.proofs.slab_tables.take_number.Given as goal

abbrev pub invariant-loop-i : goal.invariant-loop-i
invariant-loop-i l = record {
  same : l.numbers ≡ l.fn.numbers;
  none : (k : ℕ) → k < l.i → slice_index l.numbers.items k ≢ l.number;
}
