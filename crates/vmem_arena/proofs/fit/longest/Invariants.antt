use Rattle.std.proofs.Common.{◌≡◌, ℕ, ◌-◌, ◌*◌, ◌/◌, ◌%◌, ◌<◌, ◌≤◌}
use Rattle.vmem_arena.specs.Classes.{bit_of}
use Rattle.vmem_arena.specs.Segments.{free_len}
use Rattle.vmem_arena.proofs.fit.longest.Given as goal

abbrev pub invariant-loop-place : goal.invariant-loop-place
invariant-loop-place l = record {
  within : l.from ≤ 2304;
  least : free_len l.table (l.last % 256) ≤ l.longest;
  most : (i : ℕ) → l.last / 256 * 256 ≤ i → i < l.from → bit_of l.classes i ≡ 1 → free_len l.table (i % 256) ≤ l.longest;
  reached : (page : ℕ) × (free_len l.table page ≡ l.longest);
}

abbrev pub decreases-loop-place : goal.decreases-loop-place
decreases-loop-place l = 2304 - l.from
