use Rattle.std.proofs.Common.{◌≡◌, [], ◌∷◌, sym, ap, ◌∙◌, arith}
use Rattle.owners_table.specs.Owning.{SeatView, OwnersView, sheet}
use Rattle.owners_table.proofs.OwningSteps.{joins}
use Rattle.owners_table.proofs.Joining.{last-own, joins-last}
use Rattle.owners_table.proofs.owners.Owners.joined.Goals as goal

pub join_seat-requires : goal.join_seat-requires
join_seat-requires c =
    let wide = c.self.invariant.0 in
    let here = sym (ap (λ (o : OwnersView). o.table) c.self.view_is) in
    let last = last-own sheet (λ (s : SeatView). s.table ≡ c.args.self.now.table) _ _ _ _ _ _ _ c.loop-other.invariant c.in-Some.ensures.items in
    (c.loop-other.invariant.table ∙ here, ap (λ (s : SeatView). s.table) c.other.view_is ∙ (last ∙ here), c.other.invariant.1, omega arith, joins _ _ _ _ _ _)

pub loop-other-preserved : goal.loop-other-preserved
loop-other-preserved c =
    let j = c.join_seat.ensures in
    joins-last sheet (λ (s : SeatView). s.table ≡ c.args.self.now.table) _ _ _ _ _ _ _ _ _ _ c.loop-other.invariant c.in-Some.ensures.items
    j.0 (ap (λ m. m.0) j.2) (ap (λ m. m.1) j.2) (c.other.invariant.0 ∙ ap (λ (s : SeatView). sheet s ∷ []) c.other.view_is)
