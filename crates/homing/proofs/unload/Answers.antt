use Rattle.std.proofs.Common.{length, ap, arith}
use Rattle.std.proofs.lemmas.List.{length_push}
use Rattle.homing.proofs.Homes.{sends_none, sends_last}
use Rattle.homing.proofs.unload.Goals as goal

pub loop-object-preserved : goal.loop-object-preserved
loop-object-preserved g c =
    let i = c.loop-object.invariant in
    record {
      sent = λ final rest. i.sent final (sends_last c.loop-object.slabs c.go_home.new.slabs final c.in-Some.object.slot c.pop.new.self c.loop-object.magazine c.go_home.ensures.sent rest c.in-Some.ensures.taken);
      few = omega (arith, length_push c.pop.new.self c.in-Some.object.slot, ap length c.in-Some.ensures.taken, c.go_home.ensures.few, i.few);
      counted = omega (arith, length_push c.pop.new.self c.in-Some.object.slot, ap length c.in-Some.ensures.taken, c.go_home.ensures.counted, i.counted);
    }

pub returns-clause-sent : goal.returns-clause-sent
returns-clause-sent g c = c.loop-object.invariant.sent c.loop-object.slabs (sends_none c.loop-object.slabs c.loop-object.magazine c.in_default.ensures.none)
