use Rattle.std.proofs.Common.{[], ◌∷◌, ◌∙◌, map, ap, arith}
use Rattle.std.proofs.lemmas.List.{map-append}
use Rattle.homing.proofs.Homes.{sends_last}
use Rattle.shared_cache.proofs.place.Place.empty_aside.Goals as goal

pub loop-foreign-preserved : goal.loop-foreign-preserved
loop-foreign-preserved g c =
    let i = c.loop-foreign.invariant in
    let taken = c.in-Some.ensures in
    let home = c.go_home.ensures in
    record {
      few = omega (arith, home.few, c.loop-foreign-test.true);
      room = (taken.capacity ∙ i.room.0, omega (arith, taken.cases, i.room.1));
      counted = omega (arith, taken.cases, home.counted, i.counted);
      sent =
          λ final rest. i.sent final (sends_last c.loop-foreign.slabs c.go_home.new.slabs final c.in-Some.object.slot _ _ home.sent rest (ap (λ xs. map (λ o. o.slot) xs) taken.items ∙ map-append (λ o. o.slot) c.pop.new.self.items (c.in-Some.object ∷ [])));
    }
