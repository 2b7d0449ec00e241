use Rattle.std.proofs.Common.{[], ◌∷◌, sym, ap, ◌∙◌, arith}
use Rattle.owners_table.specs.Drawing.{TicketView, TicketsView, IsOf, sheet}
use Rattle.owners_table.proofs.DrawingSteps.{joins}
use Rattle.owners_table.proofs.Joining.{last-own, joins-last}
use Rattle.owners_table.proofs.tickets.Tickets.joined.Goals as goal

pub join_seat-requires : goal.join_seat-requires
join_seat-requires c =
    let wide = c.self.invariant.0 in
    let here = sym (ap (λ (o : TicketsView). o.table) c.self.view_is) in
    let last = last-own sheet (IsOf c.args.self.now) _ _ _ _ _ _ _ c.loop-other.invariant c.in-Some.ensures.items in
    (c.loop-other.invariant.table ∙ here, ap (λ (s : TicketView). s.table) c.other.view_is ∙ (last.0 ∙ here), c.other.invariant.0.1, omega arith, joins _ _ _ _ _ _)

pub loop-other-preserved : goal.loop-other-preserved
loop-other-preserved c =
    let j = c.join_seat.ensures in
    joins-last sheet (IsOf c.args.self.now) _ _ _ _ _ _ _ _ _ _ c.loop-other.invariant c.in-Some.ensures.items
    j.0 (ap (λ m. m.0) j.2) (ap (λ m. m.1) j.2) (c.other.invariant.0.0 ∙ ap (λ (s : TicketView). sheet s ∷ []) c.other.view_is)
