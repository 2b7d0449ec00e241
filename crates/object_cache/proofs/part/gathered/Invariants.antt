use Rattle.std.proofs.Common.{◌≡◌, ◌+◌, vec_len}
use Rattle.object_cache.proofs.part.gathered.Given as goal

abbrev pub invariant-loop-part : goal.invariant-loop-part
invariant-loop-part g l = record {
  outs : l.all_outs.parts + vec_len l.parts ≡ vec_len l.initial.parts + 1;
  ins : l.all_ins.parts + vec_len l.parts ≡ vec_len l.initial.parts + 1;
  even : l.all_outs.amount ≡ l.all_ins.amount;
}

abbrev pub decreases-loop-part : goal.decreases-loop-part
decreases-loop-part g l = vec_len l.parts
