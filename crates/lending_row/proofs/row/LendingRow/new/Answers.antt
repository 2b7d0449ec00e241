use Rattle.std.proofs.Common.{◌∙◌}
use Rattle.lending_row.proofs.Moving.{same-values}
use Rattle.lending_row.proofs.Steps.{begins}
use Rattle.lending_row.proofs.row.LendingRow.new.Goals as goal

pub new-requires : goal.new-requires
new-requires g c =
    begins g.F.Fitting.fits _ _ _ c.args.values.items c.len-places.result
    (c.as_slice.ensures.value ∙ c.in-Ok.ensures.items_if_clones_equal (λ y e. e)) c.fill.ensures.slots (c.len-places.ensures ∙ c.args.values.ok.0) c.requires

pub returns-clause-back : goal.returns-clause-back
returns-clause-back g c = same-values _ _ (c.emptied.ensures ∙ (c.in-Err.ensures.err ∙ c.fill.ensures.slots))
