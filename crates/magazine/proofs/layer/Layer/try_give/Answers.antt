use Rattle.std.proofs.Common.{◌≡◌, ◌⊎◌, inl, inr, ◌∙◌}
use Rattle.magazine.specs.LayerView.{exchanged}
use Rattle.magazine.proofs.Rounds.{given_rounds}
use Rattle.magazine.proofs.layer.Layer.try_give.Goals as goal
use Rattle.magazine.proofs.layer.Layer.try_give.Goals.{then-is_full+else-not-is_empty, else-is_full}

pub returns-clause-given : goal.returns-clause-given
returns-clause-given g c =
    let turned : (c.if-is_full.self ≡ exchanged c.args.self.now) ⊎ (c.if-is_full.self ≡ c.args.self.now) =
    elim c.if-is_full.branch [ then-is_full+else-not-is_empty w ↦ inl (w.self-is ∙ w.exchange.ensures) | else-is_full w ↦ inr w.self-is ] in
    given_rounds c.args.self.now c.if-is_full.self c.self-2.inside.loaded c.push.new.self c.self-2.inside.previous c.args.object.slot turned c.self-2.view_is c.push.ensures
