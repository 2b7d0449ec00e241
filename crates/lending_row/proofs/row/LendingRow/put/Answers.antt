use Rattle.std.proofs.Common.{subst, sym, ap, ◌∙◌, arith}
use Rattle.lending_row.specs.Views.{RowView, SeatView}
use Rattle.lending_row.proofs.Holding.{has-first, now-has, still-taker}
use Rattle.lending_row.proofs.Steps.{putting}
use Rattle.lending_row.proofs.row.LendingRow.put.Goals as goal

pub exchange-requires : goal.exchange-requires
exchange-requires g c = (
  ap (λ (l : SeatView). l.table) c.loan.view_is ∙ (c.requires.loan ∙ sym (ap (λ (o : RowView g.row.K.Denot). o.table) c.self.view_is)),
  has-first c.loan.inside.seat.me _ _ c.loan.invariant.empty,
)

pub store-requires : goal.store-requires
store-requires g c =
    let e = c.exchange.ensures in
    let own = ap (λ (l : SeatView). l.table) c.loan.view_is in
    let same = own ∙ (c.requires.loan ∙ sym (ap (λ (o : RowView g.row.K.Denot). o.table) c.self.view_is)) in
    let words = ap (λ z. z.words) same in
    let slots = c.self.invariant in
    let inside = c.loan.invariant.inside in
    let good = subst (λ k. g.F.Fitting.fits k c.args.value) (sym (ap (λ (o : RowView g.row.K.Denot). o.key) c.self.view_is)) c.requires.fits in (
      e.0 ∙ same,
      omega arith,
      putting g.F.Fitting.fits _ _ _ _ _ c.args.value (omega arith) (now-has _ _ _ _ _ c.loan.invariant.empty e.3)
          (still-taker _ _ _ _ _ c.loan.invariant.empty e.3 c.loan.invariant.out) good,
    )
