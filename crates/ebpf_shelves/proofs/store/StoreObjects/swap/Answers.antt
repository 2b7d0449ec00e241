use Rattle.std.proofs.Common.{List, true, length, ap, ◌∙◌, sym, subst}
use Rattle.std.specs.Prelude.{IfSome, ◌<◌}
use Rattle.ebpf_shelves.specs.declared.store.Entry.{Entry}
use Rattle.ebpf_shelves.proofs.Standing.{IsSwapped, given_off, got_inside, swapped}
use Rattle.ebpf_shelves.specs.Store.{marked}
use Rattle.ebpf_shelves.proofs.store.StoreObjects.swap.Goals.{After-mark-2}
use Rattle.ebpf_shelves.proofs.store.StoreObjects.swap.Goals as goal

pub exchange-got-requires-clause-apart : goal.exchange-got-requires-clause-apart
exchange-got-requires-clause-apart c = let s = c.args.self.now in given_off s.table.items s.shelves c.args.shelf c.args.given s.standing c.requires.given

pub mark-requires-2 : goal.mark-requires-2
mark-requires-2 c = subst (λ (t : List Entry). IfSome c.exchange-got.result (λ o. o.slot < length t)) (sym c.mark.ensures)
    (got_inside c.args.self.now.table.items c.exchange-got.ensures c.args.self.now.standing c.requires.given)

-- what holds once the table says what is out
done : (c : After-mark-2)
    → IsSwapped c.args.self.now.table.items c.args.shelf c.args.given c.exchange-got.result c.mark-2.new.table.items c.exchange-got.new.self
done c = swapped c.args.self.now.table.items _ c.exchange-got.ensures c.args.self.now.standing c.requires.given
    (c.mark-2.ensures ∙ ap (λ t. marked t c.exchange-got.result true) c.mark.ensures)

pub invariant_of-self : goal.invariant_of-self
invariant_of-self c =
    let s = c.args.self.now in
    record { standing = (done (goal.at.invariant_of-self c).After-mark-2).stands }
