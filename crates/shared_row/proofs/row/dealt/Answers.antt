use Rattle.std.proofs.Common.{◌-◌, sym, ap, ◌∙◌, arith}
use Rattle.shared_row.specs.Views.{RowView}
use Rattle.shared_row.proofs.Steps.{splitting}
use Rattle.shared_row.proofs.row.dealt.Goals as goal

pub split_seat-seat-requires : goal.split_seat-seat-requires
split_seat-seat-requires g c =
    let i = c.loop-i.invariant in
    let words = c.row.invariant.1 in
    let more = c.loop-i-test.true in (
      i.table ∙ sym (ap (λ (o : RowView). o.table) c.row.view_is),
      omega arith,
      splitting g.P.Scale.left g.P.Scale.right _ _ _ _ (c.args.passes - c.loop-i._i) i.sheet (omega arith),
    )
