use Rattle.std.proofs.Common.{[], ◌∷◌, ◌∙◌, arith}
use Rattle.magazine.specs.LayerView.{rounds_of}
use Rattle.homing.proofs.Homes.{sends_both}
use Rattle.homing.proofs.Moving.{list_less}
use Rattle.object_cache.proofs.inner.Inner.empty.Goals as goal

pub loop-object-preserved : goal.loop-object-preserved
loop-object-preserved g c =
    let i = c.loop-object.invariant in
    let slot = c.in-Some.object.slot in
    let old = rounds_of c.loop-object.layer in
    let new = rounds_of c.try_take.new.self in
    let taken = c.in-Some.ensures.taken in
    record {
      parts = c.retire.ensures.parts ∙ i.parts;
      amount = omega (arith, list_less (slot ∷ []) old new taken, c.retire.ensures.amount, i.amount);
      sent =
          λ final rest. i.sent final (sends_both c.loop-object.self.slabs c.retire.new.self.slabs final (slot ∷ []) new old c.retire.ensures.sent rest taken);
    }
