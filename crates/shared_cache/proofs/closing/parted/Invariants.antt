use Rattle.std.proofs.Common.{◌≡◌, ◌+◌, ◌*◌, ◌^◌, ◌≤◌, vec_len, All}
use Rattle.std.specs.List.{sum_by}
use Rattle.std.specs.Vec.{vec_capacity}
use Rattle.shared_row.specs.Views.{IsIdleAt}
use Rattle.shared_cache.specs.HandView.{objects}
use Rattle.shared_cache.proofs.closing.parted.Given as goal

abbrev pub invariant-loop-hand : goal.invariant-loop-hand
invariant-loop-hand g l = record {
  most : vec_len l.hands ≤ 65;
  table : All (λ h. h.table ≡ l.row.table) l.hands.items;
  passes : All (IsIdleAt l.row.table) l.passes.items × (vec_len l.passes + vec_len l.hands ≡ vec_len l.fn.hands);
  racks : vec_len l.racks + vec_len l.hands ≡ vec_len l.fn.hands;
  room : (vec_len l.fn.hands ≤ vec_capacity l.passes) × (vec_len l.fn.hands ≤ vec_capacity l.racks);
  parts : sum_by (λ p. p.parts) l.passes.items ≡ vec_len l.passes;
  few_allocs : l.sums.allocs + vec_len l.hands * 2 ^ 56 ≤ 65 * 2 ^ 56;
  few_nulls : l.sums.nulls + vec_len l.hands * 2 ^ 56 ≤ 65 * 2 ^ 56;
  few_busy : l.sums.busy + vec_len l.hands * 2 ^ 56 ≤ 65 * 2 ^ 56;
  allocs : l.sums.allocs + sum_by (λ h. h.counts.allocs) l.hands.items ≡ sum_by (λ h. h.counts.allocs) l.fn.hands.items;
  frees : l.sums.frees + sum_by (λ h. h.counts.frees) l.hands.items ≡ sum_by (λ h. h.counts.frees) l.fn.hands.items;
  nulls : l.sums.nulls + sum_by (λ h. h.counts.nulls) l.hands.items ≡ sum_by (λ h. h.counts.nulls) l.fn.hands.items;
  busy : l.sums.busy + sum_by (λ h. h.counts.busy) l.hands.items ≡ sum_by (λ h. h.counts.busy) l.fn.hands.items;
  even : sum_by (λ p. p.right) l.passes.items + l.sums.frees ≡ sum_by (λ p. p.left) l.passes.items + l.sums.allocs + sum_by (λ r. objects r.layer r.aside.items) l.racks.items;
  few_frees : l.sums.frees + vec_len l.hands * 2 ^ 57 ≤ 65 * 2 ^ 57;
}

abbrev pub decreases-loop-hand : goal.decreases-loop-hand
decreases-loop-hand g l = vec_len l.hands
