use Rattle.std.proofs.Common.{◌+◌, refl, ◌∙◌, arith}
use Rattle.owners_table.proofs.OwningSteps.{fetches}
use Rattle.owners_table.proofs.SeatLemmas.{of-table, in-reach, stays-single, own-found, counts-try, fetch-rest, fetch-won, fetch-lost}
use Rattle.owners_table.proofs.owners.Owners.fetch.Goals as goal

pub compare_exchange-found-requires : goal.compare_exchange-found-requires
compare_exchange-found-requires c =
    let reach = in-reach _ _ _ _ c.place.result _ _ c.self.view_is c.self.invariant.0 c.self.invariant.2 c.place.ensures.back c.requires.slot in
    let shelf = c.requires.shelf in
    let same = c.from-wanted.ensures in (
      of-table c.seat.inside.seat _ _ _ _ _ c.seat.view_is c.self.view_is c.requires.table,
      reach.0,
      fetches _ _ _ _ _ _ _ _ _ c.seat.invariant.0 reach.1 (omega arith) (omega arith) c.word.ensures.range,
    )

pub invariant_of-seat : goal.invariant_of-seat
invariant_of-seat c = stays-single c.seat.inside.seat _ _ _ _ _ c.compare_exchange-found.ensures.2 c.seat.invariant

pub returns-then-found-wanted-clause-other : goal.returns-then-found-wanted-clause-other
returns-then-found-wanted-clause-other c =
    fetch-lost c.place.result _ c.from-wanted.result _ c.word.result c.compare_exchange-found.result _ _ c.seat.inside.seat _
    (c.compare_exchange-found.ensures.2.2 _ c.seat.invariant.0).0 c.place.ensures.back c.from-wanted.ensures c.if-found-wanted.true
    c.owner_with.ensures.word c.seat.view_is

pub returns-then-found-wanted-clause-rest : goal.returns-then-found-wanted-clause-rest
returns-then-found-wanted-clause-rest c =
    fetch-rest _ (c.from-wanted.result + 1) c.word.result c.compare_exchange-found.result _ c.seat.inside.seat _
    (c.compare_exchange-found.ensures.2.2 _ c.seat.invariant.0).0 c.seat.view_is

pub returns-then-found-wanted-clause-own : goal.returns-then-found-wanted-clause-own
returns-then-found-wanted-clause-own c has =
    let told = c.compare_exchange-found.ensures.2.2 _ c.seat.invariant.0 in
    c.owner_with.ensures.word ∙ (own-found c.place.result _ _ c.seat.inside.seat _ c.place.ensures.back c.seat.view_is told.1 has).1

pub returns-then-found-wanted-clause-tries : goal.returns-then-found-wanted-clause-tries
returns-then-found-wanted-clause-tries c =
    counts-try _ _ c.seat.inside.seat _ (c.compare_exchange-found.ensures.2.2 _ c.seat.invariant.0).0 refl c.seat.view_is

pub invariant_of-seat-2 : goal.invariant_of-seat-2
invariant_of-seat-2 c = stays-single c.seat.inside.seat _ _ _ _ _ c.compare_exchange-found.ensures.2 c.seat.invariant

pub returns-clause-ok : goal.returns-clause-ok
returns-clause-ok c =
    fetch-won c.place.result _ c.from-wanted.result _ c.word.result _ c.compare_exchange-found.result _ c.seat.inside.seat _
    (c.compare_exchange-found.ensures.2.2 _ c.seat.invariant.0).0 c.place.ensures.back c.from-wanted.ensures c.word.ensures.value
    c.if-found-wanted.false c.seat.view_is

pub returns-clause-rest : goal.returns-clause-rest
returns-clause-rest c =
    fetch-rest _ (c.from-wanted.result + 1) c.word.result c.compare_exchange-found.result _ c.seat.inside.seat _
    (c.compare_exchange-found.ensures.2.2 _ c.seat.invariant.0).0 c.seat.view_is

pub returns-clause-own : goal.returns-clause-own
returns-clause-own c has =
    let told = c.compare_exchange-found.ensures.2.2 _ c.seat.invariant.0 in
    let run = (own-found c.place.result _ _ c.seat.inside.seat _ c.place.ensures.back c.seat.view_is told.1 has).0 in
    let found = c.if-found-wanted.false in
    let shelf = c.requires.shelf in
    let same = c.from-wanted.ensures in
    omega arith

pub returns-clause-tries : goal.returns-clause-tries
returns-clause-tries c =
    counts-try _ _ c.seat.inside.seat _ (c.compare_exchange-found.ensures.2.2 _ c.seat.invariant.0).0 refl c.seat.view_is
