use Rattle.std.proofs.Common.{◌++◌, sym, ap, ◌∙◌, subst, arith}
use Rattle.owners_table.specs.declared.owning.OwnerSheet.{OwnerSheet}
use Rattle.owners_table.specs.Sheets.{sheet_of}
use Rattle.owners_table.specs.Owning.{SeatView, OwnersView, Apart, blank}
use Rattle.owners_table.proofs.OwningSteps.{splits, joins, looks}
use Rattle.owners_table.proofs.owners.Owners.meet.Goals as goal

pub join_seat-requires : goal.join_seat-requires
join_seat-requires c =
    let wide = c.self.invariant.0 in
    let here = sym (ap (λ (o : OwnersView). o.table) c.self.view_is) in (
      ap (λ (v : SeatView). v.table) c.first.view_is ∙ (c.requires.first ∙ here),
      ap (λ (v : SeatView). v.table) c.second.view_is ∙ (c.requires.second ∙ here),
      c.second.invariant.1,
      omega arith,
      joins _ _ _ _ _ _,
    )

pub load-requires : goal.load-requires
load-requires c =
    let wide = c.self.invariant.0 in
    let here = sym (ap (λ (o : OwnersView). o.table) c.self.view_is) in (
      c.join_seat.ensures.0 ∙ (ap (λ (v : SeatView). v.table) c.first.view_is ∙ (c.requires.first ∙ here)),
      omega arith,
      looks _ _ _ _ _ _,
    )

pub split_seat-one-requires : goal.split_seat-one-requires
split_seat-one-requires c =
    let wide = c.self.invariant.0 in
    let here = sym (ap (λ (o : OwnersView). o.table) c.self.view_is) in (
      c.load.ensures.0 ∙ (c.join_seat.ensures.0 ∙ (ap (λ (v : SeatView). v.table) c.first.view_is ∙ (c.requires.first ∙ here))),
      omega arith,
      splits _ _ _ _,
    )

pub returns-clause-apart : goal.returns-clause-apart
returns-clause-apart c =
    let t : OwnerSheet = sheet_of blank c.first.inside.seat in
    let u : OwnerSheet = sheet_of blank c.second.inside.seat in
    let both = ap (λ m. m.0) c.join_seat.ensures.2 ∙ λ i. c.first.invariant.0 i ++ c.second.invariant.0 i in
    let apart = c.load.ensures.2.1 t u both in
    subst (λ (p : SeatView × SeatView). Apart p.0.held p.1.held) (λ i. (c.first.view_is i, c.second.view_is i)) apart
