use Rattle.std.proofs.Common.{arith}
use Rattle.magazine.proofs.Rounds.{holds_some}
use Rattle.homing.proofs.Moving.{list_less}
use Rattle.shared_cache.proofs.place.Place.drop.Goals as goal

pub loop-magazine-smaller : goal.loop-magazine-smaller
loop-magazine-smaller g c =
    omega (arith, list_less c.in-Some.magazine c.loop-magazine.depot.rounds c.drain_full.new.self.rounds c.in-Some.ensures.rounds, c.in-Some.ensures.full, holds_some _ g.K.Kind.is_row)
