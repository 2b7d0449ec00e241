use Rattle.std.proofs.Common.{[], ◌∷◌, arith}
use Rattle.magazine.specs.LayerView.{rounds_of}
use Rattle.homing.proofs.Homes.{sends_both}
use Rattle.homing.proofs.Moving.{list_less}
use Rattle.shared_cache.proofs.place.Place.empty_layer.Goals as goal

pub loop-foreign-preserved : goal.loop-foreign-preserved
loop-foreign-preserved g c =
    let i = c.loop-foreign.invariant in
    let slot = c.in-Some.object.slot in
    let old = rounds_of c.loop-foreign.layer in
    let new = rounds_of c.try_take.new.self in
    let taken = c.in-Some.ensures.taken in
    let home = c.go_home.ensures in
    record {
      few = omega (arith, home.few, c.loop-foreign-test.true);
      counted = omega (arith, list_less (slot ∷ []) old new taken, home.counted, i.counted);
      sent = λ final rest. i.sent final (sends_both c.loop-foreign.slabs c.go_home.new.slabs final (slot ∷ []) new old home.sent rest taken);
    }
