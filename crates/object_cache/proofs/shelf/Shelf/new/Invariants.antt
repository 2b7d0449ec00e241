use Rattle.std.proofs.Common.{◌≡◌, ◌+◌, ◌<◌, ℕ, None, length}
use Rattle.std.specs.Prelude.{IsSome, slice_index_or}
use Rattle.object_cache.proofs.shelf.Shelf.new.Given as goal

abbrev pub invariant-loop-place : goal.invariant-loop-place
invariant-loop-place g l = record {
  puts : (l.put_rest.parts + l.place ≡ 65) × (l.put_rest.amount ≡ 0);
  gets : (l.get_rest.parts + l.place ≡ 65) × (l.get_rest.amount ≡ 0);
  wide : length l.spares ≡ 64;
  each : (k : ℕ) → k < l.place → IsSome (slice_index_or l.spares k None);
  totals : (l.puts.total ≡ 0) × (l.gets.total ≡ 0);
}
