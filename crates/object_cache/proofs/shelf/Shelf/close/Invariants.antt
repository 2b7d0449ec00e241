use Rattle.std.proofs.Common.{◌≡◌, ◌+◌, ◌*◌, ◌^◌, ◌≤◌, vec_len}
use Rattle.std.specs.List.{sum_by}
use Rattle.object_cache.proofs.shelf.Shelf.close.Given as goal

abbrev pub invariant-loop-hand : goal.invariant-loop-hand
invariant-loop-hand g l = record {
  most : vec_len l.hands ≤ 64;
  parts : (l.all_puts.parts + vec_len l.hands ≡ 65) × (l.all_gets.parts + vec_len l.hands ≡ 65);
  amounts : (l.all_puts.amount ≡ l.puts) × (l.all_gets.amount ≡ l.gets);
  few_puts : l.puts + vec_len l.hands * 2 ^ 56 ≤ 64 * 2 ^ 56;
  few_gets : l.gets + vec_len l.hands * 2 ^ 56 ≤ 64 * 2 ^ 56;
  puts : l.puts + sum_by (λ h. h.puts) l.hands.items ≡ sum_by (λ h. h.puts) l.fn.hands.items;
  gets : l.gets + sum_by (λ h. h.gets) l.hands.items ≡ sum_by (λ h. h.gets) l.fn.hands.items;
}

abbrev pub decreases-loop-hand : goal.decreases-loop-hand
decreases-loop-hand g l = vec_len l.hands
