use Rattle.std.proofs.Common.{◌≡◌, ℕ, ◌-◌, ◌%◌, ◌<◌, ◌≤◌}
use Rattle.vmem_arena.specs.Classes.{bit_of}
use Rattle.vmem_arena.specs.Segments.{free_len}
use Rattle.vmem_arena.proofs.fit.walk.Given as goal

abbrev pub invariant-loop-place : goal.invariant-loop-place
invariant-loop-place l = record {
  within : l.from ≤ 2304;
  none : (i : ℕ) → l.start ≤ i → i < l.from → bit_of l.classes i ≡ 1 → free_len l.table (i % 256) < l.n;
}

abbrev pub decreases-loop-place : goal.decreases-loop-place
decreases-loop-place l = 2304 - l.from
