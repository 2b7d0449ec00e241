use Rattle.std.proofs.Common.{◌++◌, ◌∷◌, [], ap, ◌∙◌}
use Rattle.lending_row.proofs.Moving.{last-is-full}
use Rattle.lending_row.proofs.filling.emptied.Goals as goal

pub unreachable-requires : goal.unreachable-requires
unreachable-requires g c =
    let items = c.in-Some.ensures.items in
    last-is-full _ c.pop.new.self.items _ _ c.requires.full.0 c.loop-slot.invariant.all c.requires.full.1
    (items ∙ ap (λ o. c.pop.new.self.items ++ o ∷ []) c.in-None.is)
