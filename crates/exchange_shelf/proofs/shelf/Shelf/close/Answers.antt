use Rattle.std.proofs.Common.{sym, ap, ◌∙◌, arith}
use Rattle.exchange_shelf.specs.Views.{ShelfView}
use Rattle.exchange_shelf.proofs.Ending.{ends}
use Rattle.exchange_shelf.proofs.shelf.Shelf.close.Goals as goal

pub emptied-object-requires-clause-empty : goal.emptied-object-requires-clause-empty
emptied-object-requires-clause-empty g c =
    let last = c.close_with.ensures.values.2 in
    let all = c.joined-seat.ensures in
    let hands = ap (λ (o : ShelfView). o.hands) c.self.view_is in
    let whole = all.parts ∙ (c.requires.whole ∙ (sym hands ∙ sym c.self.invariant.3)) in
    (ends _ _ last.0 last.1.0 _ _ last.1.1 whole all.empty.1 _ _ last.2 last.3 last.4).0

pub returns-clause-even : goal.returns-clause-even
returns-clause-even g c =
    let last = c.close_with.ensures.values.2 in
    let all = c.joined-seat.ensures in
    let hands = ap (λ (o : ShelfView). o.hands) c.self.view_is in
    let whole = all.parts ∙ (c.requires.whole ∙ (sym hands ∙ sym c.self.invariant.3)) in
    let e = (ends _ _ last.0 last.1.0 _ _ last.1.1 whole all.empty.1 _ _ last.2 last.3 last.4).1 c.emptied-object.result c.emptied-object.ensures in
    omega (arith, e, all.exact.0, all.exact.1)
