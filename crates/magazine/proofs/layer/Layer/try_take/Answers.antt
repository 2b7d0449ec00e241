use Rattle.std.proofs.Common.{◌≡◌, ◌⊎◌, inl, inr, ◌∙◌}
use Rattle.std.proofs.lemmas.Option.{IfSome_then}
use Rattle.magazine.specs.LayerView.{exchanged}
use Rattle.magazine.proofs.Rounds.{taken_rounds}
use Rattle.magazine.proofs.layer.Layer.try_take.Goals as goal
use Rattle.magazine.proofs.layer.Layer.try_take.Goals.{then-is_empty+else-is_empty-2, else-is_empty}

pub returns-clause-taken : goal.returns-clause-taken
returns-clause-taken g c =
    let turned : (c.if-is_empty.self ≡ exchanged c.args.self.now) ⊎ (c.if-is_empty.self ≡ c.args.self.now) =
    elim c.if-is_empty.branch [ then-is_empty+else-is_empty-2 w ↦ inl (w.self-is ∙ w.exchange.ensures) | else-is_empty w ↦ inr w.self-is ] in
    IfSome_then c.pop.result c.pop.ensures.taken (λ object popped. taken_rounds c.args.self.now c.if-is_empty.self c.self-2.inside.loaded c.pop.new.self c.self-2.inside.previous object.slot turned c.self-2.view_is popped)
