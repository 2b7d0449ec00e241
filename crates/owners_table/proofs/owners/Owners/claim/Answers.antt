use Rattle.std.proofs.Common.{refl, sym, ◌∙◌, arith}
use Rattle.owners_table.proofs.OwningSteps.{claims}
use Rattle.owners_table.proofs.SeatLemmas.{of-table, in-reach, stays-single, own-found, owner-there, counts-try, claim-rest, claim-won, claim-lost}
use Rattle.owners_table.proofs.owners.Owners.claim.Goals as goal

pub compare_exchange-found-requires : goal.compare_exchange-found-requires
compare_exchange-found-requires c =
    let reach = in-reach _ _ _ _ c.place.result _ _ c.self.view_is c.self.invariant.0 c.self.invariant.2 c.place.ensures.back c.requires.slot in (
      of-table c.seat.inside.seat _ _ _ _ _ c.seat.view_is c.self.view_is c.requires.table,
      reach.0,
      claims _ _ _ _ _ _ _ _ c.seat.invariant.0 reach.1 c.word.ensures.range,
    )

pub invariant_of-seat : goal.invariant_of-seat
invariant_of-seat c = stays-single c.seat.inside.seat _ _ _ _ _ c.compare_exchange-found.ensures.2 c.seat.invariant

pub returns-in_default-clause-ok : goal.returns-in_default-clause-ok
returns-in_default-clause-ok c =
    claim-won c.place.result _ c.word.result _ c.compare_exchange-found.result _ c.seat.inside.seat _
    (c.compare_exchange-found.ensures.2.2 _ c.seat.invariant.0).0 c.place.ensures.back c.word.ensures.value (sym c.in_default.ensures.word) c.seat.view_is

pub returns-in_default-clause-rest : goal.returns-in_default-clause-rest
returns-in_default-clause-rest c =
    claim-rest _ c.word.result c.compare_exchange-found.result _ c.seat.inside.seat _ (c.compare_exchange-found.ensures.2.2 _ c.seat.invariant.0).0 c.seat.view_is

pub returns-in_default-clause-own : goal.returns-in_default-clause-own
returns-in_default-clause-own c has =
    let told = c.compare_exchange-found.ensures.2.2 _ c.seat.invariant.0 in
    let run = (own-found c.place.result _ _ c.seat.inside.seat _ c.place.ensures.back c.seat.view_is told.1 has).0 in
    let free = c.in_default.ensures.word in
    omega arith

pub returns-in_default-clause-tries : goal.returns-in_default-clause-tries
returns-in_default-clause-tries c =
    counts-try _ _ c.seat.inside.seat _ (c.compare_exchange-found.ensures.2.2 _ c.seat.invariant.0).0 refl c.seat.view_is

pub invariant_of-seat-2 : goal.invariant_of-seat-2
invariant_of-seat-2 c = stays-single c.seat.inside.seat _ _ _ _ _ c.compare_exchange-found.ensures.2 c.seat.invariant

pub returns-clause-taken : goal.returns-clause-taken
returns-clause-taken c =
    let found = c.in-Some.ensures.word in
    claim-lost c.place.result _ c.word.result c.compare_exchange-found.result _ _ c.seat.inside.seat _
    (c.compare_exchange-found.ensures.2.2 _ c.seat.invariant.0).0 c.place.ensures.back (owner-there c.in-Some.owner _ found) found c.seat.view_is

pub returns-clause-rest : goal.returns-clause-rest
returns-clause-rest c =
    claim-rest _ c.word.result c.compare_exchange-found.result _ c.seat.inside.seat _ (c.compare_exchange-found.ensures.2.2 _ c.seat.invariant.0).0 c.seat.view_is

pub returns-clause-own : goal.returns-clause-own
returns-clause-own c has =
    let told = c.compare_exchange-found.ensures.2.2 _ c.seat.invariant.0 in
    c.in-Some.ensures.word ∙ (own-found c.place.result _ _ c.seat.inside.seat _ c.place.ensures.back c.seat.view_is told.1 has).1

pub returns-clause-tries : goal.returns-clause-tries
returns-clause-tries c =
    counts-try _ _ c.seat.inside.seat _ (c.compare_exchange-found.ensures.2.2 _ c.seat.invariant.0).0 refl c.seat.view_is
