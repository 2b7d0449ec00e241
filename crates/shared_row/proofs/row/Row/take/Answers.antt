use Rattle.std.proofs.Common.{ℕ, ◌∷◌, sym, ap, ◌∙◌, arith}
use Rattle.std.specs.Prelude.{None}
use Rattle.shared_row.specs.Views.{PassView, RowView, all_none}
use Rattle.shared_row.proofs.Lists.{head-first, rest-of, first-value}
use Rattle.shared_row.proofs.Steps.{taking, some-is-not-none}
use Rattle.shared_row.proofs.row.Row.take.Goals as goal

pub spot-spot-requires : goal.spot-spot-requires
spot-spot-requires g c =
    let places = ap (λ (o : RowView). o.places) c.self.view_is in
    let wide = c.self.invariant.3 in
    let inside = c.requires.place in
    omega arith

pub compare_exchange-found-requires : goal.compare_exchange-found-requires
compare_exchange-found-requires g c =
    let places = ap (λ (o : RowView). o.places) c.self.view_is in
    let key = c.self.invariant.0 in
    let words = c.self.invariant.1 in
    let spot = c.spot-spot.ensures in
    let inside = c.requires.place in (
      ap (λ (v : PassView). v.table) c.pass.view_is ∙ (c.requires.table ∙ sym (ap (λ (o : RowView). o.table) c.self.view_is)),
      omega arith,
      taking g.P.Scale.left g.P.Scale.right _ _ _ _ _ _ c.args.place spot (omega arith) c.pass.invariant.0,
    )

pub invariant_of-pass : goal.invariant_of-pass
invariant_of-pass g c =
    let told = (c.compare_exchange-found.ensures.2 c.args.place c.spot-spot.ensures).1 c.if-found-ne0.true in
    let some = c.pass.invariant.0 in
    let parts = ap (λ m. m.0.parts) told in (
      omega arith,
      ap (λ m. m.1) told ∙ (c.pass.invariant.1 ∙ ap all_none (sym (ap (λ m. m.0.held) told))),
    )

pub exchange-requires : goal.exchange-requires
exchange-requires g c =
    let found = (c.compare_exchange-found.ensures.2 c.args.place c.spot-spot.ensures).0 c.if-found-ne0.false in (
      c.compare_exchange-found.ensures.0
          ∙ (ap (λ (v : PassView). v.table) c.pass.view_is ∙ (c.requires.table ∙ sym (ap (λ (o : RowView). o.table) c.self.view_is))),
      (_, head-first _ _ _ (ap (λ m. m.1) found.1)),
    )

pub returns-clause-none : goal.returns-clause-none
returns-clause-none g c =
    let found = (c.compare_exchange-found.ensures.2 c.args.place c.spot-spot.ensures).0 c.if-found-ne0.false in
    some-is-not-none _ _ found.0 (first-value (sym (ap (λ m. m.1) found.1) ∙ c.exchange.ensures.2))

pub invariant_of-pass-2 : goal.invariant_of-pass-2
invariant_of-pass-2 g c =
    let found = (c.compare_exchange-found.ensures.2 c.args.place c.spot-spot.ensures).0 c.if-found-ne0.false in
    let e = c.exchange.ensures.3 in
    let held = ap (λ m. m.0.held) e ∙ ap (λ m. m.0.held) found.1 in
    let some = c.pass.invariant.0 in
    let parts = ap (λ m. m.0.parts) e ∙ ap (λ m. m.0.parts) found.1 in (
      omega arith,
      ap (λ m. m.1) e
          ∙ (ap (λ r. (c.spot-spot.result, None) ∷ r) (rest-of _ _ _ (ap (λ m. m.1) found.1) ∙ c.pass.invariant.1)
          ∙ (ap (λ (j : ℕ). (j, None) ∷ all_none c.pass.inside.seat.me.0.held) c.spot-spot.ensures ∙ ap all_none (sym held))),
    )
