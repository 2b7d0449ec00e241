use Rattle.std.proofs.Common.{◌≡◌, ◌∙◌, ap, arith}
use Rattle.std.specs.Prelude.{Some}
use Rattle.std.proofs.lemmas.List.Elements.{All-pop, All-push, All-same}
use Rattle.exchange_shelf.specs.Views.{fresh_hand as fresh_shelf_hand}
use Rattle.owners_table.specs.Owning.{fresh as fresh_seat}
use Rattle.shared_cache.specs.HandView.{fresh_hand}
use Rattle.shared_store.specs.Making.{IsUnused}
use Rattle.shared_store.proofs.opening.stocked.Goals as goal

pub loop-hand-preserved : goal.loop-hand-preserved
loop-hand-preserved g c =
    let i = c.loop-hand.invariant in
    let supply = c.args.supply.now in
    let owners = c.args.owners.now in
    let pop = c.in-Some.ensures in
    let shelf = c.take_last-shelf_hand.ensures in
    let last = c.take_last-seat.ensures in
    let push = c.push_reserved.ensures in
    let parts = c.new.ensures.parts in
    let (hands, hand) = All-pop (λ h. h ≡ fresh_hand supply.cache.table) c.loop-hand.hands.items c.pop.new.self.items (Some c.in-Some.hand) pop.items i.hands in
    let (shelf_hands, shelf_hand) = All-pop (λ h. h ≡ fresh_shelf_hand supply.shelf.table) c.loop-hand.shelf_hands.items c.take_last-shelf_hand.new.self.items
    (Some c.take_last-shelf_hand.result) shelf.items i.shelf_hands in
    let (seats, seat) = All-pop (λ s. s ≡ fresh_seat owners.table) c.loop-hand.seats.items c.take_last-seat.new.self.items (Some c.take_last-seat.result) last.items i.seats in
    let made : IsUnused supply owners c.new.result = record {
      of = record { hand = ap (λ h. h.table) (parts.0 ∙ hand); shelf_hand = ap (λ h. h.table) (parts.1 ∙ shelf_hand); seat = ap (λ s. s.table) (parts.2 ∙ seat) };
      none = ap (λ s. s.held) (parts.2 ∙ seat);
    } in
    record {
      hands = hands;
      shelf_hands = shelf_hands;
      seats = seats;
      all = All-same (IsUnused supply owners) c.push_reserved.new.self.items _ push.items (All-push (IsUnused supply owners) c.loop-hand.all.items _ i.all made);
      pairs = omega (arith, pop.cases, shelf.len, i.pairs);
      enough = omega (arith, pop.cases, last.len, i.enough);
      len = omega (arith, pop.cases, push.len, i.len);
      room = omega (arith, push.capacity, i.room);
      rest = omega (arith, last.len, push.len, i.rest);
    }
