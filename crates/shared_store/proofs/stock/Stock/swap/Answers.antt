use Rattle.std.proofs.Common.{None, refl, ap, sym, subst, ◌∙◌}
use Rattle.std.specs.Prelude.{option_map}
use Rattle.owners_table.specs.Marking.{mark_word}
use Rattle.owners_table.specs.Owning.{Holds, SeatView}
use Rattle.ebpf_owned.specs.Exchanges.{HasPassed, less, one_if}
use Rattle.ebpf_owned.proofs.Exchanging.{passed, passed_some}
use Rattle.exchange_shelf.specs.Views as views
use Rattle.shared_cache.specs.HandView.{IsLaden}
use Rattle.shared_store.specs.Stock.{StockView}
use Rattle.shared_store.proofs.Answering.{answered_since, as_many, as_seen}
use Rattle.shared_store.proofs.Keeping.{as_held, by_slot, got, got_answers, left, left_table, nothing_got, nothing_got_answers, put_is, quiet, same_one, strayed, strayed_answers, unladen}
use Rattle.shared_store.proofs.stock.Stock.swap.Goals as goal

pub can_get-requires : goal.can_get-requires
can_get-requires g c = record { of = c.requires.of.hand }

pub give_back-requires-clause-of : goal.give_back-requires-clause-of
give_back-requires-clause-of g c =
    let e = c.can_get.ensures in
    record {
      hand = e.hand.0 ∙ c.requires.of.hand;
      shelf_hand = ap (λ (v : views.HandView). v.table) e.rest.0 ∙ c.requires.of.shelf_hand;
      seat = ap (λ (v : SeatView). v.table) e.rest.1 ∙ c.requires.of.seat;
    }

pub give_back-requires-clause-given : goal.give_back-requires-clause-given
give_back-requires-clause-given g c = as_held (λ o. o.slot) c.args.given _ _ c.can_get.ensures.rest.1 c.requires.given

pub returns-then-not-can_get-clause-answers : goal.returns-then-not-can_get-clause-answers
returns-then-not-can_get-clause-answers g c =
    answered_since _ _ (record { hand = c.can_get.ensures.hand; rest = c.can_get.ensures.rest }) _ 0 0 0 c.give_back.ensures.answers

pub returns-then-not-can_get-clause-put : goal.returns-then-not-can_get-clause-put
returns-then-not-can_get-clause-put g c = λ free. absurd (free (c.if-not-can_get.ensures.laden refl))

pub offered-offered-requires-clause-seat : goal.offered-offered-requires-clause-seat
offered-offered-requires-clause-seat g c =
    ap (λ (v : StockView). v.seat.table) c.self.view_is ∙ ap (λ (v : SeatView). v.table) c.can_get.ensures.rest.1 ∙ c.requires.of.seat

pub offered-offered-requires-clause-given : goal.offered-offered-requires-clause-given
offered-offered-requires-clause-given g c =
    as_held (λ o. o.slot) c.args.given _ _ (ap (λ (v : StockView). v.seat) c.self.view_is ∙ c.can_get.ensures.rest.1) c.requires.given

pub offered-offered-requires-clause-lent : goal.offered-offered-requires-clause-lent
offered-offered-requires-clause-lent g c = c.self.invariant.lent

pub received-requires-clause-hand : goal.received-requires-clause-hand
received-requires-clause-hand g c =
    (quiet c.args.given _ _ c.offered-offered.ensures.hand).table ∙ ap (λ (v : StockView). v.hand.table) c.self.view_is ∙ c.can_get.ensures.hand.0 ∙ c.requires.of.hand

pub received-requires-clause-room : goal.received-requires-clause-room
received-requires-clause-room g c =
    unladen c.args.given _ _ c.offered-offered.ensures.hand
    (λ laden. c.if-not-can_get.ensures.room refl (subst (λ (v : StockView). IsLaden v.hand) c.self.view_is laden))

pub received-requires-clause-seat : goal.received-requires-clause-seat
received-requires-clause-seat g c =
    left_table (option_map (λ o. o.slot) c.args.given) c.args.shelf _ _ c.offered-offered.ensures.seat
    ∙ ap (λ (v : StockView). v.seat.table) c.self.view_is ∙ ap (λ (v : SeatView). v.table) c.can_get.ensures.rest.1 ∙ c.requires.of.seat

pub returns-in_err-parcel-clause-answers : goal.returns-in_err-parcel-clause-answers
returns-in_err-parcel-clause-answers g c =
    let same = ap (λ (v : StockView). v.seat) c.self.view_is ∙ c.can_get.ensures.rest.1 in
    let o = c.offered-offered.ensures in
    let answers = answered_since c.args.self.now _ (record { hand = c.can_get.ensures.hand; rest = c.can_get.ensures.rest }) _ 0 0 0
    (as_seen _ _ _ 0 0 0 c.self.view_is
    (nothing_got_answers (λ o. o.slot) c.args.given _ c.self.invariant (as_held (λ o. o.slot) c.args.given _ _ same c.requires.given) _ _ _ c.args.shelf o.hand o.seat
    (same_one c.offered-offered.result ∙ o.one) _ c.in_err-parcel.ensures)) in
    as_many _ _ 0 _ (ap one_if (sym c.from_residual.ensures)) answers

pub returns-in_err-parcel-clause-put : goal.returns-in_err-parcel-clause-put
returns-in_err-parcel-clause-put g c =
    let same = ap (λ (v : StockView). v.seat) c.self.view_is ∙ c.can_get.ensures.rest.1 in
    let o = c.offered-offered.ensures in
    λ _. put_is (λ o. o.slot) c.args.given _ c.self.invariant (as_held (λ o. o.slot) c.args.given _ _ same c.requires.given) _ _ _ c.args.shelf o.hand o.seat
    (same_one c.offered-offered.result ∙ o.one) _ _ 0 c.in_err-parcel.ensures (ap (λ (v : StockView). v.shelf_hand) c.self.view_is ∙ c.can_get.ensures.rest.0)

pub returns-in-Some-clause-answers : goal.returns-in-Some-clause-answers
returns-in-Some-clause-answers g c =
    let same = ap (λ (v : StockView). v.seat) c.self.view_is ∙ c.can_get.ensures.rest.1 in
    let o = c.offered-offered.ensures in
    let e = c.in-Some.ensures in
    answered_since c.args.self.now _ (record { hand = c.can_get.ensures.hand; rest = c.can_get.ensures.rest }) _ 0 0 1
    (as_seen _ _ _ 0 0 1 c.self.view_is
    (got_answers (λ o. o.slot) c.args.given _ c.self.invariant (as_held (λ o. o.slot) c.args.given _ _ same c.requires.given) _ _ _ c.args.shelf o.hand o.seat
    (same_one c.offered-offered.result ∙ o.one) _ _ _ c.in_ok-parcel.ensures e.notes.0 e.notes.1 e.few e.tables.1 e.tables.0 e.counts))

pub returns-in-Some-clause-put : goal.returns-in-Some-clause-put
returns-in-Some-clause-put g c =
    let same = ap (λ (v : StockView). v.seat) c.self.view_is ∙ c.can_get.ensures.rest.1 in
    let o = c.offered-offered.ensures in
    λ _. put_is (λ o. o.slot) c.args.given _ c.self.invariant (as_held (λ o. o.slot) c.args.given _ _ same c.requires.given) _ _ _ c.args.shelf o.hand o.seat
    (same_one c.offered-offered.result ∙ o.one) _ _ 1 c.in_ok-parcel.ensures (ap (λ (v : StockView). v.shelf_hand) c.self.view_is ∙ c.can_get.ensures.rest.0)

pub returns-in-None-clause-answers : goal.returns-in-None-clause-answers
returns-in-None-clause-answers g c =
    let same = ap (λ (v : StockView). v.seat) c.self.view_is ∙ c.can_get.ensures.rest.1 in
    let o = c.offered-offered.ensures in
    let e = c.in-None.ensures in
    answered_since c.args.self.now _ (record { hand = c.can_get.ensures.hand; rest = c.can_get.ensures.rest }) _ 0 0 0
    (as_seen _ _ _ 0 0 0 c.self.view_is
    (strayed_answers (λ o. o.slot) c.args.given _ c.self.invariant (as_held (λ o. o.slot) c.args.given _ _ same c.requires.given) _ _ _ c.args.shelf o.hand o.seat
    (same_one c.offered-offered.result ∙ o.one) _ _ _ c.in_ok-parcel.ensures e.notes.0 e.notes.1 e.few e.tables.1 e.tables.0 e.stray.1))

pub returns-in-None-clause-put : goal.returns-in-None-clause-put
returns-in-None-clause-put g c =
    let same = ap (λ (v : StockView). v.seat) c.self.view_is ∙ c.can_get.ensures.rest.1 in
    let o = c.offered-offered.ensures in
    λ _. put_is (λ o. o.slot) c.args.given _ c.self.invariant (as_held (λ o. o.slot) c.args.given _ _ same c.requires.given) _ _ _ c.args.shelf o.hand o.seat
    (same_one c.offered-offered.result ∙ o.one) _ _ 1 c.in_ok-parcel.ensures (ap (λ (v : StockView). v.shelf_hand) c.self.view_is ∙ c.can_get.ensures.rest.0)

pub returns-then-not-can_get-clause-passed : goal.returns-then-not-can_get-clause-passed
returns-then-not-can_get-clause-passed g c =
    let held = c.args.self.now.seat.held in
    let same = ap (λ (v : SeatView). less (option_map (λ o. o.slot) c.args.given) v.held) c.can_get.ensures.rest.1 in
    passed (option_map (λ o. o.slot) c.args.given) None _ held _ (by_slot (λ o. o.slot) held c.args.given (λ s. Holds s held) c.requires.given)
    (c.give_back.ensures.held ∙ same) tt

pub invariant_of-self : goal.invariant_of-self
invariant_of-self g c =
    let same = ap (λ (v : StockView). v.seat) c.self.view_is ∙ c.can_get.ensures.rest.1 in
    let o = c.offered-offered.ensures in
    nothing_got (λ o. o.slot) c.args.given _ c.self.invariant (as_held (λ o. o.slot) c.args.given _ _ same c.requires.given) _ _ _ c.args.shelf o.hand o.seat
    (same_one c.offered-offered.result ∙ o.one) _ c.in_err-parcel.ensures

pub returns-in_err-parcel-clause-passed : goal.returns-in_err-parcel-clause-passed
returns-in_err-parcel-clause-passed g c =
    let same = ap (λ (v : StockView). v.seat) c.self.view_is ∙ c.can_get.ensures.rest.1 in
    let held = c.args.self.now.seat.held in
    let given = option_map (λ o. o.slot) c.args.given in
    let are = (left given c.args.shelf _ _ c.offered-offered.ensures.seat).held ∙ ap (λ (v : SeatView). less given v.held) same in
    subst (λ r. HasPassed given (option_map (λ o. o.slot) r) (mark_word c.args.mark.run c.args.mark.at) held c.offered-offered.new.seat.held)
    (sym c.from_residual.ensures) (passed given None _ held _ (by_slot (λ o. o.slot) held c.args.given (λ s. Holds s held) c.requires.given) are tt)

pub invariant_of-self-in-Some : goal.invariant_of-self-in-Some
invariant_of-self-in-Some g c =
    let same = ap (λ (v : StockView). v.seat) c.self.view_is ∙ c.can_get.ensures.rest.1 in
    let o = c.offered-offered.ensures in
    let e = c.in-Some.ensures in
    got (λ o. o.slot) c.args.given _ c.self.invariant (as_held (λ o. o.slot) c.args.given _ _ same c.requires.given) _ _ _ c.args.shelf o.hand o.seat
    (same_one c.offered-offered.result ∙ o.one) _ _ _ c.in_ok-parcel.ensures e.notes.0 e.notes.1 e.few c.open-object.result.slot _ e.counts e.fetched.0 e.fetched.1

pub invariant_of-self-in-None : goal.invariant_of-self-in-None
invariant_of-self-in-None g c =
    let same = ap (λ (v : StockView). v.seat) c.self.view_is ∙ c.can_get.ensures.rest.1 in
    let o = c.offered-offered.ensures in
    let e = c.in-None.ensures in
    strayed (λ o. o.slot) c.args.given _ c.self.invariant (as_held (λ o. o.slot) c.args.given _ _ same c.requires.given) _ _ _ c.args.shelf o.hand o.seat
    (same_one c.offered-offered.result ∙ o.one) _ _ _ c.in_ok-parcel.ensures e.notes.0 e.notes.1 e.few e.stray.1 e.stray.0

pub returns-in-Some-clause-passed : goal.returns-in-Some-clause-passed
returns-in-Some-clause-passed g c =
    let same = ap (λ (v : StockView). v.seat) c.self.view_is ∙ c.can_get.ensures.rest.1 in
    let held = c.args.self.now.seat.held in
    let given = option_map (λ o. o.slot) c.args.given in
    let are = (left given c.args.shelf _ _ c.offered-offered.ensures.seat).held ∙ ap (λ (v : SeatView). less given v.held) same in
    let e = c.in-Some.ensures in
    let is = c.slot_in-left.ensures in
    passed_some (λ o. o.slot) c.args.given c.slot_in-left.result held is c.requires.given c.in-Some.object.slot c.open-object.result.slot _ _
    c.offered-offered.new.seat.held _ (are ∙ ap (λ l. less l held) (sym is)) (ap (λ o. o.slot) (sym e.object)) refl e.fetched.0 e.fetched.1 e.apart

pub returns-in-None-clause-passed : goal.returns-in-None-clause-passed
returns-in-None-clause-passed g c =
    let same = ap (λ (v : StockView). v.seat) c.self.view_is ∙ c.can_get.ensures.rest.1 in
    let held = c.args.self.now.seat.held in
    let given = option_map (λ o. o.slot) c.args.given in
    let are = (left given c.args.shelf _ _ c.offered-offered.ensures.seat).held ∙ ap (λ (v : SeatView). less given v.held) same in
    passed given None _ held _ (by_slot (λ o. o.slot) held c.args.given (λ s. Holds s held) c.requires.given) (c.in-None.ensures.stray.0 ∙ are) tt
