use Rattle.std.specs.Prelude.{vec_len}
use Rattle.magazine.proofs.Rounds.{pushed_rounds}
use Rattle.magazine.proofs.depot.Depot.exchange_for_empty.Goals as goal

pub returns-clause-rounds : goal.returns-clause-rounds
returns-clause-rounds g c = λ _. pushed_rounds c.args.self.now c.self.inside.full.items c.push_reserved.new.self.items (vec_len c.self.inside.empty) c.replace-full.result c.args.magazine.now c.self.view_is c.push_reserved.ensures.items c.replace-full.ensures.value
