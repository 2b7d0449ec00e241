use Rattle.std.specs.Arc.{arc_value}
use Rattle.shared_store.proofs.store.StoreObjects.take.Goals as goal

pub invariant_of-self : goal.invariant_of-self
invariant_of-self c = record { of = c.take.ensures.replies.answered.of (arc_value c.args.self.now.house).commons c.args.self.now.of; home_is = c.args.self.now.home_is }
