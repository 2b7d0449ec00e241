use Rattle.std.proofs.Common.{arith}
use Rattle.magazine.specs.LayerView.{rounds_of}
use Rattle.homing.proofs.Moving.{one_more}
use Rattle.object_cache.proofs.hand.Hand.give.Goals as goal
use Rattle.object_cache.proofs.hand.Hand.give.Goals.{then-self-ge-MOST, else-self-ge-MOST}

pub invariant_of-self : goal.invariant_of-self
invariant_of-self g c =
    let i = c.self.invariant in
    record {
      one_out = i.one_out;
      one_in = i.one_in;
      even = omega (arith, one_more c.restore.result.slot (rounds_of c.self.inside.layer) (rounds_of c.try_give.new.self) c.in_default.ensures.given, i.even);
      lent = i.lent;
      few_allocs = i.few_allocs;
      few_frees =
          elim c.if-self-ge-MOST.branch [ then-self-ge-MOST w ↦ absurd w.wait_for_ever.ensures | else-self-ge-MOST w ↦ omega (arith, w.if-self-ge-MOST) ];
      few_nulls = i.few_nulls;
    }
