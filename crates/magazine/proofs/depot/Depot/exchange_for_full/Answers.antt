use Rattle.std.specs.Prelude.{vec_len}
use Rattle.magazine.proofs.Rounds.{popped_rounds}
use Rattle.magazine.proofs.depot.Depot.exchange_for_full.Goals as goal

pub returns-clause-rounds : goal.returns-clause-rounds
returns-clause-rounds g c = λ _. popped_rounds c.args.self.now c.self.inside.full.items c.pop.new.self.items (vec_len c.self.inside.empty) c.in-Some.full c.replace-empty.new.dest c.self.view_is c.in-Some.ensures.items c.replace-empty.ensures.after
