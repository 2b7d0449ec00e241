use Rattle.std.proofs.Common.{◌≡◌}
use Rattle.object_cache.proofs.asking.relieve_anywhere.Given as goal

abbrev pub invariant-loop-part : goal.invariant-loop-part
invariant-loop-part g l = record {
  layer : l.layer ≡ l.initial.layer;
  parts : l.share.parts ≡ l.initial.share.parts;
  amount : l.share.amount ≡ l.initial.share.amount;
  count : l.refusals.count ≡ l.part-index;
}
