use Rattle.std.proofs.Common.{◌≡◌, ◌+◌, vec_len, All}
use Rattle.std.specs.Vec.{vec_capacity}
use Rattle.shared_row.specs.Views.{fresh_pass}
use Rattle.shared_cache.specs.HandView.{fresh_hand}
use Rattle.shared_cache.proofs.cache.dealt.Given as goal

abbrev pub invariant-loop-pass : goal.invariant-loop-pass
invariant-loop-pass g l = record {
  len : vec_len l.all + vec_len l.passes ≡ vec_len l.fn.passes;
  room : vec_capacity l.all ≡ vec_len l.fn.passes;
  rest : All (λ p. p ≡ fresh_pass l.row.table) l.passes.items;
  all : All (λ h. h ≡ fresh_hand l.row.table) l.all.items;
}

abbrev pub decreases-loop-pass : goal.decreases-loop-pass
decreases-loop-pass g l = vec_len l.passes
