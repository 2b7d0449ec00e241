use Rattle.std.proofs.Common.{◌+◌, ℕ, sym, ap, ◌∙◌, arith}
use Rattle.shared_row.specs.Views.{PassView, RowView, all_none, opened}
use Rattle.shared_row.proofs.Lists.{head-first, rest-of, tail-same}
use Rattle.shared_row.proofs.Steps.{putting}
use Rattle.shared_row.proofs.row.Row.put.Goals as goal

pub spot-spot-requires : goal.spot-spot-requires
spot-spot-requires g c =
    let places = ap (λ (o : RowView). o.places) c.self.view_is in
    let wide = c.self.invariant.3 in
    let inside = c.requires.place in
    omega arith

pub store-requires : goal.store-requires
store-requires g c =
    let places = ap (λ (o : RowView). o.places) c.self.view_is in
    let key = c.self.invariant.0 in
    let words = c.self.invariant.1 in
    let spot = c.spot-spot.ensures in
    let inside = c.requires.place in
    let e = c.exchange.ensures in
    let some = c.pass.invariant.0 in
    let parts = ap (λ m. m.0.parts) e.3 in (
      e.0 ∙ (ap (λ (v : PassView). v.table) c.pass.view_is ∙ (c.requires.table ∙ sym (ap (λ (o : RowView). o.table) c.self.view_is))),
      omega arith,
      putting g.P.Scale.left g.P.Scale.right _ _ _ _ _ _ c.args.place spot (omega arith) (omega arith) c.args.value c.requires.open.0
          (head-first _ _ _ (ap (λ m. m.1) e.3)) (ap (λ m. m.0.held) e.3 ∙ (ap (λ (v : PassView). v.out) c.pass.view_is ∙ c.requires.open.1)),
    )

pub invariant_of-pass : goal.invariant_of-pass
invariant_of-pass g c =
    let e = c.exchange.ensures in
    let ks = c.requires.open.0 in
    let own = ap (λ (v : PassView). v.out) c.pass.view_is ∙ c.requires.open.1 in
    let s = c.store.ensures.2 c.args.value c.args.place ks c.spot-spot.ensures (head-first _ _ _ (ap (λ m. m.1) e.3)) (ap (λ m. m.0.held) e.3 ∙ own) in
    let some = c.pass.invariant.0 in
    let parts = ap (λ m. m.0.parts) s ∙ ap (λ m. m.0.parts) e.3 in (
      omega arith,
      ap (λ m. m.1) s
          ∙ (rest-of _ _ _ (ap (λ m. m.1) e.3)
          ∙ (rest-of _ _ _ (c.pass.invariant.1 ∙ ap all_none own) ∙ ap all_none (sym (ap (λ m. m.0.held) s)))),
    )

pub returns : goal.returns
returns g c others same =
    let e = c.exchange.ensures in
    let ks = c.requires.open.0 in
    let own = ap (λ (v : PassView). v.out) c.pass.view_is ∙ c.requires.open.1 in
    let s = c.store.ensures.2 c.args.value c.args.place ks c.spot-spot.ensures (head-first _ _ _ (ap (λ m. m.1) e.3)) (ap (λ m. m.0.held) e.3 ∙ own) in
    let l : ℕ = g.P.Scale.right c.args.value in
    let r : ℕ = g.P.Scale.left c.args.value in
    (λ i. record {
      table = (c.store.ensures.0 ∙ e.0) i;
      parts = (ap (λ m. m.0.parts) s ∙ ap (λ m. m.0.parts) e.3) i;
      left = (ap (λ m. m.0.left) s ∙ ap (λ m. m.0.left + l) e.3) i;
      right = (ap (λ m. m.0.right) s ∙ ap (λ m. m.0.right + r) e.3) i;
      out = (ap (λ m. m.0.held) s ∙ tail-same _ _ _ _ (sym c.requires.open.1 ∙ same)) i;
      notes = (ap (λ m. m.0.notes) s ∙ ap (λ m. m.0.notes) e.3) i;
    }) ∙ ap (λ (v : PassView). opened v l r others) c.pass.view_is
