use Rattle.std.proofs.Common.{ap, arith}
use Rattle.magazine.specs.LayerView.{rounds_of}
use Rattle.homing.proofs.Moving.{one_more}
use Rattle.shared_cache.specs.HandView.{HandView}
use Rattle.shared_cache.proofs.hand.Hand.give.Goals as goal

pub invariant_of-self : goal.invariant_of-self
invariant_of-self g c =
    let i = c.self.invariant in
    let more = one_more c.restore.result.slot (rounds_of c.self.inside.rack.layer) (rounds_of c.try_give.new.self) c.in_default.ensures.given in
    let lent = ap (λ (h : HandView). h.counts.lent) c.self.view_is in
    record {
      idle = i.idle;
      part = i.part;
      even = omega (arith, more, i.even);
      balance = omega (arith, i.balance, lent, c.requires.lent);
      most = omega (arith, i.most, lent, c.requires.lent);
      room = i.room;
      few = i.few;
    }
