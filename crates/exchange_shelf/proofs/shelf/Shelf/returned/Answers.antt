use Rattle.std.proofs.Common.{sym, ap, ◌∙◌, arith}
use Rattle.exchange_shelf.specs.Views.{ShelfView, HandView}
use Rattle.exchange_shelf.proofs.Steps.{returning}
use Rattle.exchange_shelf.proofs.shelf.Shelf.returned.Goals as goal

pub load-requires : goal.load-requires
load-requires g c =
    let words = c.self.invariant.0 in (
      ap (λ (v : HandView). v.table) c.hand.view_is ∙ (c.requires ∙ sym (ap (λ (o : ShelfView). o.table) c.self.view_is)),
      omega arith,
      returning _ _ _ _ _ _ c.hand.invariant.empty c.hand.invariant.held c.hand.invariant.some,
    )
