use Rattle.std.proofs.Common.{sym, ap, ◌∙◌, replicate, arith}
use Rattle.shared_row.specs.Spread.{spot}
use Rattle.shared_row.proofs.Steps.{begins}
use Rattle.shared_row.proofs.row.Row.new.Goals as goal

pub new-requires : goal.new-requires
new-requires g c =
    let places = c.len-places.ensures in
    begins g.P.Scale.left g.P.Scale.right _ _ _ _ c.args.values.items
    (c.as_slice.ensures.value ∙ (c.in-Ok.ensures.items_if_clones_equal (λ y e. e) ∙ ap (λ n. replicate n 0) c.in-Some.ensures))
    (sym c.spread.new.slots.ok.0 ∙ (c.spread.ensures.len ∙ ap spot (sym places))) c.spread.ensures.values (sym c.args.values.ok.0 ∙ sym places)
    (λ k below. c.spread.ensures.places k (omega arith)) c.requires.even
