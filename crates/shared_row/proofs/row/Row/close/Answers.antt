use Rattle.std.proofs.Common.{length, sym, ap, ◌∙◌, arith}
use Rattle.std.specs.Prelude.{sum_by}
use Rattle.shared_row.specs.Views.{RowView}
use Rattle.shared_row.proofs.Ending.{ends}
use Rattle.shared_row.proofs.row.Row.close.Goals as goal

pub gathered_from-requires-clause-room : goal.gathered_from-requires-clause-room
gathered_from-requires-clause-room g c =
    let last = c.close_with.ensures.values.2 in
    let all = c.joined-all.ensures in
    let passes = ap (λ (o : RowView). o.passes) c.self.view_is in
    let places = ap (λ (o : RowView). o.places) c.self.view_is in
    let key = c.self.invariant.0 in
    let room = c.requires.room in
    let whole = all.parts ∙ (c.requires.whole ∙ sym passes) in
    let e = (ends g.P.Scale.left g.P.Scale.right _ _ last.0 last.1.0 _ _ last.1.1 whole all.empty.1 _ last.3 last.4).0 in
    omega arith

pub returns-clause-len : goal.returns-clause-len
returns-clause-len g c =
    let last = c.close_with.ensures.values.2 in
    let all = c.joined-all.ensures in
    let passes = ap (λ (o : RowView). o.passes) c.self.view_is in
    let places = ap (λ (o : RowView). o.places) c.self.view_is in
    let key = c.self.invariant.0 in
    let whole = all.parts ∙ (c.requires.whole ∙ sym passes) in
    let e = (ends g.P.Scale.left g.P.Scale.right _ _ last.0 last.1.0 _ _ last.1.1 whole all.empty.1 _ last.3 last.4).0 in
    let long = c.gathered_from.result.ok.0 in
    let n = ap (λ xs. length xs) c.gathered_from.ensures in
    omega arith

pub returns-clause-even : goal.returns-clause-even
returns-clause-even g c =
    let last = c.close_with.ensures.values.2 in
    let all = c.joined-all.ensures in
    let passes = ap (λ (o : RowView). o.passes) c.self.view_is in
    let whole = all.parts ∙ (c.requires.whole ∙ sym passes) in
    let e = (ends g.P.Scale.left g.P.Scale.right _ _ last.0 last.1.0 _ _ last.1.1 whole all.empty.1 _ last.3 last.4).1 in
    let l = ap (sum_by g.P.Scale.left) c.gathered_from.ensures in
    let r = ap (sum_by g.P.Scale.right) c.gathered_from.ensures in
    omega (arith, e, all.left, all.right, l, r)
