use Rattle.std.proofs.Common.{◌∷◌, sym, ap, ◌∙◌, arith}
use Rattle.std.specs.Prelude.{None}
use Rattle.atomic_table.specs.Table.{rest}
use Rattle.exchange_shelf.specs.Passing.{one_if}
use Rattle.exchange_shelf.specs.Views.{HandView, ShelfView, swapped}
use Rattle.exchange_shelf.proofs.Steps.{exchanging}
use Rattle.exchange_shelf.proofs.Swapping.{swaps, counts-more}
use Rattle.exchange_shelf.proofs.shelf.Shelf.swap.Goals as goal

pub exchange-requires : goal.exchange-requires
exchange-requires g c = (
  ap (λ (v : HandView). v.table) c.hand.view_is ∙ (c.requires ∙ sym (ap (λ (o : ShelfView). o.table) c.self.view_is)),
  (None, c.hand.invariant.empty ∙ ap (λ r. (c.hand.inside.mine, None) ∷ rest r) (sym c.hand.invariant.empty)),
)

pub swap-found-requires : goal.swap-found-requires
swap-found-requires g c =
    let words = c.self.invariant.0 in
    let e = c.exchange.ensures in
    let some = c.hand.invariant.some in
    let parts = ap (λ m. m.0.parts) e.3 in (
      e.0 ∙ (ap (λ (v : HandView). v.table) c.hand.view_is ∙ (c.requires ∙ sym (ap (λ (o : ShelfView). o.table) c.self.view_is))),
      omega arith,
      exchanging _ _ _ _ _ _ c.args.given (ap (λ m. m.1) e.3 ∙ ap (λ r. (c.hand.inside.mine, c.args.given) ∷ rest r) c.hand.invariant.empty)
          (ap (λ m. m.0.held) e.3 ∙ c.hand.invariant.held) (omega arith),
    )

pub exchange-got-requires : goal.exchange-got-requires
exchange-got-requires g c =
    let e = c.exchange.ensures in
    let has = ap (λ m. m.1) e.3 ∙ ap (λ r. (c.hand.inside.mine, c.args.given) ∷ rest r) c.hand.invariant.empty in
    let told = c.swap-found.ensures.2 c.args.given has (ap (λ m. m.0.held) e.3 ∙ c.hand.invariant.held) in (
      c.swap-found.ensures.0
          ∙ (e.0 ∙ (ap (λ (v : HandView). v.table) c.hand.view_is ∙ (c.requires ∙ sym (ap (λ (o : ShelfView). o.table) c.self.view_is)))),
      (told.0, ap (λ m. m.1) told.1 ∙ ap (λ m. (c.swap-found.result, told.0) ∷ rest m.1) (sym told.1)),
    )

pub invariant_of-hand : goal.invariant_of-hand
invariant_of-hand g c =
    let e = c.exchange.ensures in
    let has = ap (λ m. m.1) e.3 ∙ ap (λ r. (c.hand.inside.mine, c.args.given) ∷ rest r) c.hand.invariant.empty in
    let told = c.swap-found.ensures.2 c.args.given has (ap (λ m. m.0.held) e.3 ∙ c.hand.invariant.held) in
    let last = swaps c.hand.inside.seat.me c.exchange.new.seat.me _ _ c.args.given _ _ (ap
    (λ m. m.0) e.3) told c.exchange-got.ensures.2 c.exchange-got.ensures.3 in
    let some = c.hand.invariant.some in
    let parts = ap (λ s. s.parts) last.0 in record {
      empty = last.1;
      held = ap (λ s. s.held) last.0;
      due = ap (λ s. s.due) last.0 ∙ c.hand.invariant.due;
      some = omega arith;
      puts = counts-more _ _ _ _ _ c.counted-hand-inside.ensures c.hand.invariant.puts (ap (λ s. s.puts) last.0);
      gets = counts-more _ _ _ _ _ c.counted-hand-inside-2.ensures c.hand.invariant.gets (ap (λ s. s.gets) last.0);
    }

pub returns : goal.returns
returns g c =
    let e = c.exchange.ensures in
    let has = ap (λ m. m.1) e.3 ∙ ap (λ r. (c.hand.inside.mine, c.args.given) ∷ rest r) c.hand.invariant.empty in
    let told = c.swap-found.ensures.2 c.args.given has (ap (λ m. m.0.held) e.3 ∙ c.hand.invariant.held) in
    let last = swaps c.hand.inside.seat.me c.exchange.new.seat.me _ _ c.args.given _ _ (ap
    (λ m. m.0) e.3) told c.exchange-got.ensures.2 c.exchange-got.ensures.3 in
    let table = c.exchange-got.ensures.0 ∙ (c.swap-found.ensures.0 ∙ e.0) in
    (λ i. record { table = table i; parts = (last.0 i).parts; swaps = (last.0 i).swaps; puts = (last.0 i).puts; gets = (last.0 i).gets })
    ∙ ap (λ (v : HandView). swapped v (one_if c.args.given) (one_if c.exchange-got.result)) c.hand.view_is
