use Rattle.std.proofs.Common.{refl, ◌∙◌, arith}
use Rattle.homing.proofs.Moving.{list_more}
use Rattle.object_cache.proofs.part.Part.relieve.Goals as goal

pub invariant_of-self-2 : goal.invariant_of-self-2
invariant_of-self-2 g c =
    let moved = list_more c.args.layer.now.previous c.args.self.now.depot.rounds c.relieve.new.depot.rounds (c.if-not-relieve.ensures.rounds refl) in
    record {
      one_each = (c.transfer.ensures.parts_given ∙ c.args.self.now.one_each.0, c.args.self.now.one_each.1);
      even = omega (arith, moved, c.requires.full.1, c.transfer.ensures.amount_given, c.args.self.now.even, c.ROUNDS.ensures);
      lent = c.args.self.now.lent;
    }
