use Rattle.std.proofs.Common.{arith}
use Rattle.magazine.specs.LayerView.{rounds_of}
use Rattle.homing.proofs.Moving.{one_more}
use Rattle.object_cache.proofs.cache.Cache.take_back.Goals as goal

pub returns-in_default-clause-even : goal.returns-in_default-clause-even
returns-in_default-clause-even g c = omega (arith, one_more c.args.object.slot (rounds_of c.make_room.new.layer) (rounds_of c.try_give.new.self) c.in_default.ensures.given, c.make_room.ensures.even)
