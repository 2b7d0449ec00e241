use Rattle.std.proofs.Common.{◌≡◌}
use Rattle.object_cache.proofs.asking.refill_anywhere.Given as goal

abbrev pub invariant-loop-number : goal.invariant-loop-number
invariant-loop-number g l = record {
  layer : l.layer ≡ l.initial.layer;
  parts : l.share.parts ≡ l.initial.share.parts;
  amount : l.share.amount ≡ l.initial.share.amount;
  count : l.refusals.count ≡ l.number;
}
