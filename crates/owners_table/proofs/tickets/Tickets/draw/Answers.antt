use Rattle.std.proofs.Common.{◌≡◌, ℕ, List, sym, ap, ◌∙◌, arith}
use Rattle.owners_table.specs.declared.drawing.TicketSheet.{TicketSheet}
use Rattle.owners_table.specs.Sheets.{first_or, sheet_of}
use Rattle.owners_table.specs.Drawing.{TicketView, TicketsView, blank}
use Rattle.owners_table.proofs.Dealing.{only-first}
use Rattle.owners_table.proofs.DrawingSteps.{draws, draws-below, draws-late}
use Rattle.owners_table.proofs.tickets.Tickets.draw.Goals as goal

pub fetch_add-n-requires : goal.fetch_add-n-requires
fetch_add-n-requires c =
    let words = c.self.invariant.0 in
    let s = c.seat.invariant in (
      ap (λ (v : TicketView). v.table) c.seat.view_is ∙ (c.requires.0 ∙ sym (ap (λ (t : TicketsView). t.table) c.self.view_is)),
      omega arith,
      draws _ _ _ _ _ _ s.0.0 (s.1 ∙ c.if-seat.false),
    )

-- the limit that the sheet knows is that of the tickets
limits : (sheet limit seen own : ℕ) → sheet ≡ seen → seen ≡ limit → own ≡ limit → sheet ≡ own
limits sheet limit seen own a b e = a ∙ (b ∙ sym e)

pub invariant_of-seat : goal.invariant_of-seat
invariant_of-seat c =
    let told = c.fetch_add-n.ensures.2 in
    let s = c.seat.invariant in
    let e = told.1 _ s.0.0 in
    let limit = limits _ _ _ c.self.inside.limit (ap (λ (v : TicketView). v.limit) c.seat.view_is) c.requires.1 (ap (λ (t : TicketsView). t.limit) c.self.view_is) in (
      (only-first (blank 0) _ _ e, told.0 ∙ s.0.1),
      ap (λ (v : List TicketSheet). (first_or (blank 0) v).passed) e ∙ (draws-below c.fetch_add-n.result c.self.inside.limit (sheet_of (blank 0) c.seat.inside.seat) limit c.if-n-self.true ∙ s.1),
    )

pub invariant_of-seat-2 : goal.invariant_of-seat-2
invariant_of-seat-2 c =
    let told = c.fetch_add-n.ensures.2 in
    let s = c.seat.invariant in
    let e = told.1 _ s.0.0 in
    let limit = limits _ _ _ c.self.inside.limit (ap (λ (v : TicketView). v.limit) c.seat.view_is) c.requires.1 (ap (λ (t : TicketsView). t.limit) c.self.view_is) in (
      (only-first (blank 0) _ _ e, told.0 ∙ s.0.1),
      ap (λ (v : List TicketSheet). (first_or (blank 0) v).passed) e ∙ draws-late c.fetch_add-n.result c.self.inside.limit (sheet_of (blank 0) c.seat.inside.seat) limit c.if-n-self.false,
    )
