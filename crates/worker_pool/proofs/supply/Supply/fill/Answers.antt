use Rattle.std.proofs.Common.{◌+◌, ℕ, ap, ◌∙◌}
use Rattle.worker_pool.proofs.Pairs.{one_unused, same_room}
use Rattle.worker_pool.proofs.supply.Supply.fill.Goals as goal

pub loop-hand-preserved : goal.loop-hand-preserved
loop-hand-preserved g c =
    let i = c.loop-hand.invariant in
    let one = λ (n : ℕ). n + 1 in record {
      made = c.in_ok-hand.ensures.made ∙ ap one i.made;
      shelf_made = c.hand-in-loop-hand.ensures.made ∙ ap one i.shelf_made;
      unused = one_unused _ _ _ _ i.unused c.push_reserved.ensures c.in_ok-hand.ensures.fresh c.hand-in-loop-hand.ensures.fresh;
      room = same_room _ _ _ _ i.room c.push_reserved.ensures;
    }
