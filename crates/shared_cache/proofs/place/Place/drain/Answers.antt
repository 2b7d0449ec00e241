use Rattle.std.proofs.Common.{arith}
use Rattle.magazine.proofs.Rounds.{holds_some}
use Rattle.homing.proofs.Homes.{sends_both}
use Rattle.homing.proofs.Moving.{list_less}
use Rattle.shared_cache.proofs.Rows.{few_rounds}
use Rattle.shared_cache.proofs.place.Place.drain.Goals as goal

pub loop-foreign-preserved : goal.loop-foreign-preserved
loop-foreign-preserved g c =
    let i = c.loop-foreign.invariant in
    let old = c.loop-foreign.from-inside.depot.rounds in
    let new = c.drain_full.new.self.rounds in
    let out = c.in-Some.ensures in
    let home = c.unload.ensures in
    record {
      few = omega (arith, home.few, out.full, few_rounds _ g.K.Kind.is_row, c.loop-foreign-test.true);
      counted = omega (arith, list_less c.in-Some.magazine old new out.rounds, home.counted, i.counted);
      sent = λ final rest. i.sent final (sends_both c.loop-foreign.slabs c.unload.new.slabs final c.in-Some.magazine new old home.sent rest out.rounds);
      rest = i.rest;
    }

pub loop-foreign-smaller : goal.loop-foreign-smaller
loop-foreign-smaller g c =
    omega (arith, list_less c.in-Some.magazine c.loop-foreign.from-inside.depot.rounds c.drain_full.new.self.rounds c.in-Some.ensures.rounds, c.in-Some.ensures.full, holds_some _ g.K.Kind.is_row)
