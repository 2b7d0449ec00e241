use Rattle.std.proofs.Common.{arith}
use Rattle.magazine.proofs.Rounds.{holds_some}
use Rattle.homing.proofs.Moving.{list_less}
use Rattle.shared_cache.proofs.closing.take_in.Goals as goal

pub unload-requires : goal.unload-requires
unload-requires g c =
    let i = c.loop-magazine.invariant in
    let less = list_less c.in-Some.magazine c.loop-magazine.depot.rounds c.drain_full.new.self.rounds c.in-Some.ensures.rounds in
    record { room = omega (arith, less, i.few, c.requires.room) }

pub loop-magazine-smaller : goal.loop-magazine-smaller
loop-magazine-smaller g c =
    let less = list_less c.in-Some.magazine c.loop-magazine.depot.rounds c.drain_full.new.self.rounds c.in-Some.ensures.rounds in
    omega (arith, less, c.in-Some.ensures.full, holds_some _ g.K.Kind.is_row)

pub loop-magazine-preserved : goal.loop-magazine-preserved
loop-magazine-preserved g c =
    let i = c.loop-magazine.invariant in
    let less = list_less c.in-Some.magazine c.loop-magazine.depot.rounds c.drain_full.new.self.rounds c.in-Some.ensures.rounds in
    let home = c.unload.ensures in
    record {
      few = omega (arith, less, home.few, i.few);
      counted = omega (arith, less, home.counted, i.counted);
    }
