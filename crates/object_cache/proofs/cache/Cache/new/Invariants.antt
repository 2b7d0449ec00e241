use Rattle.std.proofs.Common.{◌≡◌, ◌+◌, vec_len}
use Rattle.std.specs.Vec.{vec_capacity}
use Rattle.object_cache.proofs.cache.Cache.new.Given as goal

abbrev pub invariant-loop-i : goal.invariant-loop-i
invariant-loop-i g l = record {
  outs : (l.out_rest.parts + l._i ≡ 65) × (l.out_rest.amount ≡ 0);
  ins : (l.in_rest.parts + l._i ≡ 65) × (l.in_rest.amount ≡ 0);
  even : l.outs.total ≡ l.ins.total;
  parts : (vec_len l.parts ≡ l._i) × (vec_capacity l.parts ≡ 65);
}
