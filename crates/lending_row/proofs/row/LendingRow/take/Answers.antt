use Rattle.std.proofs.Common.{ap, arith}
use Rattle.shared_row.proofs.Lists.{head-first}
use Rattle.lending_row.specs.Views.{RowView}
use Rattle.lending_row.proofs.Steps.{taking}
use Rattle.lending_row.proofs.row.LendingRow.take.Goals as goal

pub swap_new_seat-found-requires : goal.swap_new_seat-found-requires
swap_new_seat-found-requires g c =
    let places = ap (λ (o : RowView g.row.K.Denot). o.places) c.self.view_is in
    let slots = c.self.invariant in
    let inside = c.requires in
    (omega arith, taking g.F.Fitting.fits _ _ _ (omega arith))

pub exchange-requires : goal.exchange-requires
exchange-requires g c =
    let found = c.swap_new_seat-found.ensures.1.0 c.if-found-ne0.false in
    (c.swap_new_seat-found.ensures.0, (_, head-first _ _ _ (ap (λ m. m.1) found.1)))
