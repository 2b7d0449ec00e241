use Rattle.std.proofs.Common.{◌∙◌, arith}
use Rattle.homing.proofs.Homes.{sends_both}
use Rattle.homing.proofs.Moving.{list_less}
use Rattle.object_cache.proofs.part.Part.drain.Goals as goal

pub invariant_of-self : goal.invariant_of-self
invariant_of-self g c =
    let i = c.loop-magazine.self in
    record {
      one_each = (i.one_each.0, c.unload.ensures.parts ∙ i.one_each.1);
      even = omega (arith, list_less c.in-Some.magazine c.loop-magazine.self.depot.rounds c.drain_full.new.self.rounds c.in-Some.ensures.rounds, c.in-Some.ensures.full, c.unload.ensures.amount, i.even);
      lent = omega (arith, c.unload.ensures.amount, i.lent);
    }

pub loop-magazine-preserved : goal.loop-magazine-preserved
loop-magazine-preserved g c = λ final rest. c.loop-magazine.invariant final (sends_both c.loop-magazine.inner.slabs c.unload.new.self.slabs final c.in-Some.magazine c.drain_full.new.self.rounds c.loop-magazine.self.depot.rounds c.unload.ensures.sent rest c.in-Some.ensures.rounds)
