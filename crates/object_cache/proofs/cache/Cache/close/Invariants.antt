use Rattle.std.proofs.Common.{◌≡◌, ◌+◌, ◌*◌, ◌^◌, ◌≤◌, vec_len}
use Rattle.std.specs.List.{sum_by}
use Rattle.object_cache.proofs.cache.Cache.close.Given as goal

abbrev pub invariant-loop-hand : goal.invariant-loop-hand
invariant-loop-hand g l = record {
  most : vec_len l.hands ≤ 64;
  parts : (l.all_outs.parts + vec_len l.hands ≡ 65) × (l.all_ins.parts + vec_len l.hands ≡ 65);
  even : l.all_outs.amount + l.frees ≡ l.all_ins.amount + l.allocs;
  few_allocs : l.allocs + vec_len l.hands * 2 ^ 56 ≤ 64 * 2 ^ 56;
  few_frees : l.frees + vec_len l.hands * 2 ^ 56 ≤ 64 * 2 ^ 56;
  few_nulls : l.nulls + vec_len l.hands * 2 ^ 56 ≤ 64 * 2 ^ 56;
  allocs : l.allocs + sum_by (λ h. h.allocs) l.hands.items ≡ sum_by (λ h. h.allocs) l.fn.hands.items;
  frees : l.frees + sum_by (λ h. h.frees) l.hands.items ≡ sum_by (λ h. h.frees) l.fn.hands.items;
  nulls : l.nulls + sum_by (λ h. h.nulls) l.hands.items ≡ sum_by (λ h. h.nulls) l.fn.hands.items;
}

abbrev pub decreases-loop-hand : goal.decreases-loop-hand
decreases-loop-hand g l = vec_len l.hands
