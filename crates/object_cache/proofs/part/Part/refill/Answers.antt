use Rattle.std.proofs.Common.{refl, ◌∙◌, arith}
use Rattle.homing.proofs.Moving.{list_less}
use Rattle.object_cache.proofs.part.Part.refill.Goals as goal

pub invariant_of-self-2 : goal.invariant_of-self-2
invariant_of-self-2 g c =
    let moved = list_less c.refill.new.self.loaded c.args.self.now.depot.rounds c.refill.new.depot.rounds (c.if-not-refill.ensures.rounds refl) in
    record {
      one_each = (c.transfer.ensures.parts_left ∙ c.args.self.now.one_each.0, c.args.self.now.one_each.1);
      even = omega (arith, moved, c.if-not-refill.ensures.loaded refl, c.transfer.ensures.amount_left, c.args.self.now.even, c.ROUNDS.ensures);
      lent = c.args.self.now.lent;
    }
