use Rattle.std.proofs.Common.{◌≡◌, ◌∙◌, ap, arith}
use Rattle.std.specs.Prelude.{Some}
use Rattle.std.proofs.lemmas.List.Elements.{All-pop, All-push, All-same}
use Rattle.exchange_shelf.specs.Views as shelf
use Rattle.owners_table.specs.Owning.{SeatView}
use Rattle.shared_cache.specs.HandView.{HandView}
use Rattle.shared_store.specs.Making.{IsUnused}
use Rattle.shared_store.specs.Parting.{IsFree}
use Rattle.shared_store.proofs.Parting.{moved, stock_even, sum_last}
use Rattle.shared_store.proofs.ending.parted.Goals as goal

pub loop-stock-preserved : goal.loop-stock-preserved
loop-stock-preserved g c =
    let i = c.loop-stock.invariant in
    let supply = c.args.supply.now in
    let owners = c.args.owners.now in
    let stock = c.in-Some.stock in
    let pop = c.in-Some.ensures in
    let e = c.end-hand.ensures in
    let (hand, shelf_hand, seat, own_clashes, own_strays) = c.end-hand.result in
    let hands = c.push_reserved.ensures in
    let shelf_hands = c.push_reserved-in-Some.ensures in
    let seats = c.push_reserved-in-Some-2.ensures in
    let stocks = c.loop-stock.stocks.items in
    let rest = c.pop.new.self.items in
    let (less, own) = All-pop (IsUnused supply owners) stocks rest (Some stock) pop.items i.unused in
    let even = stock_even stock e.stock own.none in
    let at_cache = All-push (λ h. h.table ≡ supply.cache.table) c.loop-stock.hands.items hand i.hands.0 (ap (λ (h : HandView). h.table) e.parts.0 ∙ own.of.hand) in
    let at_shelf = All-push (λ h. h.table ≡ supply.shelf.table) c.loop-stock.shelf_hands.items shelf_hand i.shelf_hands.0
    (ap (λ (h : shelf.HandView). h.table) e.parts.1 ∙ own.of.shelf_hand) in
    let free = All-push (IsFree owners) c.loop-stock.seats.items seat i.seats.0
    (ap (λ (s : SeatView). s.table) e.parts.2 ∙ own.of.seat, ap (λ (s : SeatView). s.held) e.parts.2 ∙ own.none) in
    let fewer = pop.cases in
    let frees = sum_last (λ h. h.counts.frees) _ c.loop-stock.hands.items hand hands.items in
    let allocs = sum_last (λ h. h.counts.allocs) _ c.loop-stock.hands.items hand hands.items in
    let puts = sum_last (λ h. h.puts) _ c.loop-stock.shelf_hands.items shelf_hand shelf_hands.items in
    let gets = sum_last (λ h. h.gets) _ c.loop-stock.shelf_hands.items shelf_hand shelf_hands.items in
    let parts = sum_last (λ h. h.parts) _ c.loop-stock.shelf_hands.items shelf_hand shelf_hands.items in
    let own_frees = ap (λ (h : HandView). h.counts.frees) e.parts.0 in
    let own_allocs = ap (λ (h : HandView). h.counts.allocs) e.parts.0 in
    let own_puts = ap (λ (h : shelf.HandView). h.puts) e.parts.1 in
    let own_gets = ap (λ (h : shelf.HandView). h.gets) e.parts.1 in
    let own_parts = ap (λ (h : shelf.HandView). h.parts) e.parts.1 in
    record {
      most = omega (arith, fewer, i.most);
      unused = less;
      hands = (All-same (λ h. h.table ≡ supply.cache.table) _ _ hands.items at_cache, omega (arith, fewer, hands.len, i.hands.1));
      shelf_hands = (All-same (λ h. h.table ≡ supply.shelf.table) _ _ shelf_hands.items at_shelf, omega (arith, fewer, shelf_hands.len, i.shelf_hands.1));
      seats = (All-same (IsFree owners) _ _ seats.items free, omega (arith, fewer, seats.len, i.seats.1));
      room = (omega (arith, hands.capacity, i.room.0), omega (arith, shelf_hands.capacity, i.room.1), omega (arith, seats.capacity, i.room.2));
      whole = omega (arith, parts, own_parts, e.stock.part, shelf_hands.len, i.whole);
      same = λ f. moved (λ s. f s.hand) f stocks rest stock c.loop-stock.hands.items _ hand _ pop.items hands.items (ap f e.parts.0) (i.same f);
      same_on_shelf = λ f.
          moved (λ s. f s.shelf_hand) f stocks rest stock c.loop-stock.shelf_hands.items _ shelf_hand _ pop.items shelf_hands.items (ap f e.parts.1) (i.same_on_shelf f);
      even = omega (arith, frees, allocs, puts, gets, own_frees, own_allocs, own_puts, own_gets, even.even, i.even);
      few_puts = omega (arith, fewer, puts, own_puts, even.few.0, i.few_puts);
      few_gets = omega (arith, fewer, gets, own_gets, even.few.1, i.few_gets);
      clashes = omega (arith, sum_last (λ s. s.clashes) stocks rest stock pop.items, e.parts.3, i.clashes);
      strays = omega (arith, sum_last (λ s. s.strays) stocks rest stock pop.items, e.parts.4, i.strays);
      few_clashes = omega (arith, fewer, e.parts.3, even.gone.0, i.few_clashes);
      few_strays = omega (arith, fewer, e.parts.4, even.gone.1, i.few_strays);
    }
