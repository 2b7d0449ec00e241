use Rattle.std.proofs.Common.{sym, ap, ◌∙◌, arith}
use Rattle.exchange_shelf.specs.Views.{ShelfView}
use Rattle.exchange_shelf.proofs.Steps.{drawing}
use Rattle.exchange_shelf.proofs.shelf.Shelf.hand.Goals as goal

pub load-requires : goal.load-requires
load-requires g c =
    let words = c.self.invariant.0 in
    let due = c.requires.due in
    let parts = ap (λ m. m.0.parts) due in (
      c.requires.table ∙ sym (ap (λ (o : ShelfView). o.table) c.self.view_is),
      omega arith,
      drawing _ _ _ _ _ c.args.slot (ap (λ m. m.1) due) (ap (λ m. m.0.held) due) (ap (λ m. m.0.due) due) (omega arith),
    )
