use Rattle.std.proofs.Common.{refl, sym, subst}
use Rattle.owners_table.specs.Owning.{Holds}
use Rattle.shared_store.specs.Stock.{StockView}
use Rattle.shared_store.proofs.Keeping.{gave}
use Rattle.shared_store.proofs.stock.Stock.give.Goals as goal

pub invariant_of-self : goal.invariant_of-self
invariant_of-self g c = gave _ _ c.self.invariant refl refl c.slot.result
    (subst (λ (v : StockView). Holds c.slot.result v.seat.held) (sym c.self.view_is) (subst (λ k. Holds k c.args.self.now.seat.held) (sym c.slot.ensures) c.requires.held))
    c.give.ensures.counts c.release.ensures refl
