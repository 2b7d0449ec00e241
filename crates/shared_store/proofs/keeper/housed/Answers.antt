use Rattle.std.proofs.Common.{◌+◌, ap, sym, subst, arith}
use Rattle.std.specs.Prelude.{Some}
use Rattle.std.proofs.lemmas.List.Elements.{All-pop}
use Rattle.shared_store.specs.Making.{IsMade}
use Rattle.shared_store.specs.Tools.{AreAtHome}
use Rattle.shared_store.specs.declared.house.House.{House}
use Rattle.shared_store.proofs.keeper.housed.Goals as goal

pub homes-requires : goal.homes-requires
homes-requires c =
    (All-pop (AreAtHome c.in_ok-commons.commons) c.in_ok-commons.sets.items c.take_last-own.new.self.items (Some c.take_last-own.result) c.take_last-own.ensures.items
    c.in_ok-commons.ensures.tools.1).0

pub returns-clause-own : goal.returns-clause-own
returns-clause-own c =
    let own = (All-pop (AreAtHome c.in_ok-commons.commons) c.in_ok-commons.sets.items c.take_last-own.new.self.items (Some c.take_last-own.result)
    c.take_last-own.ensures.items c.in_ok-commons.ensures.tools.1).1 in
    subst (λ (h : House). AreAtHome h.commons c.take_last-own.result) (sym c.in_ok-house.ensures.ok) own

pub returns-clause-made : goal.returns-clause-made
returns-clause-made c = subst (λ (h : House). IsMade (c.args.workers + 1) h.commons) (sym c.in_ok-house.ensures.ok) c.in_ok-commons.ensures.made

pub returns-clause-places : goal.returns-clause-places
returns-clause-places c =
    omega (arith, ap (λ (h : House). h.homes.places) c.in_ok-house.ensures.ok, c.in_ok-homes.ensures.0, c.take_last-own.ensures.len, c.in_ok-commons.ensures.tools.0)
