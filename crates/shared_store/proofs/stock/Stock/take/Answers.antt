use Rattle.std.proofs.Common.{refl, ◌∙◌}
use Rattle.shared_store.proofs.Answering.{as_seen, clashed_answers, refused_answers, took_answers}
use Rattle.shared_store.proofs.Keeping.{clashed, refused, took}
use Rattle.shared_store.proofs.stock.Stock.take.Goals as goal

pub invariant_of-self : goal.invariant_of-self
invariant_of-self g c = refused _ _ c.self.invariant refl refl c.in_default.field-0 c.in_default.ensures.counts refl refl

pub returns-in_default-clause-answers : goal.returns-in_default-clause-answers
returns-in_default-clause-answers g c =
    as_seen _ _ _ _ _ _ c.self.view_is
    (refused_answers _ _ c.self.invariant (record { hand = c.in_default.ensures.table; shelf_hand = refl; seat = refl }) refl refl c.in_default.field-0
    c.in_default.ensures.counts refl)

pub invariant_of-self-in_default-claim : goal.invariant_of-self-in_default-claim
invariant_of-self-in_default-claim g c =
    let e = c.in_default-claim.ensures in
    took _ _ c.self.invariant refl refl c.slot.result _ c.in-Ok.ensures.counts c.in-Ok.ensures.few e.ok.0 (λ now. e.own now) e.ok.1 e.rest.0 refl

pub returns-in_default-claim-clause-answers : goal.returns-in_default-claim-clause-answers
returns-in_default-claim-clause-answers g c =
    as_seen _ _ _ _ _ _ c.self.view_is
    (took_answers _ _ c.self.invariant (record { hand = c.in-Ok.ensures.table; shelf_hand = refl; seat = c.in_default-claim.ensures.table }) refl refl c.in-Ok.ensures.counts refl)

pub invariant_of-self-2 : goal.invariant_of-self-2
invariant_of-self-2 g c =
    let e = c.in-Err.ensures in
    clashed _ _ c.self.invariant refl refl c.slot.result c.in-Err.field-0.owner _ c.in-Ok.ensures.counts c.give.ensures.counts c.in-Ok.ensures.few
    e.taken.0 e.taken.1 e.rest.0 refl

pub returns-clause-answers : goal.returns-clause-answers
returns-clause-answers g c =
    as_seen _ _ _ _ _ _ c.self.view_is
    (clashed_answers _ _ c.self.invariant (record { hand = c.give.ensures.table ∙ c.in-Ok.ensures.table; shelf_hand = refl; seat = c.in-Err.ensures.table }) refl refl _
    c.in-Ok.ensures.counts c.give.ensures.counts refl)
