use Rattle.std.specs.Prelude.{vec_len}
use Rattle.magazine.proofs.Rounds.{drained_rounds}
use Rattle.magazine.proofs.depot.Depot.drain_full.Goals as goal

pub returns-clause-rounds : goal.returns-clause-rounds
returns-clause-rounds g c =
    drained_rounds c.args.self.now c.self.inside.full.items c.pop.new.self.items (vec_len c.self.inside.empty) c.pop.result c.self.view_is c.pop.ensures.items
