use Rattle.std.proofs.Common.{◌≡◌, ℕ, ◌<◌, List, [], ◌∷◌, sym, ap, ◌∙◌, refl, arith}
use Rattle.atomic_table.specs.Seated.{TableId}
use Rattle.atomic_table.specs.declared.shared.Seat.{Seat}
use Rattle.owners_table.specs.declared.drawing.TicketSheet.{TicketSheet}
use Rattle.owners_table.specs.Sheets.{first_or}
use Rattle.owners_table.specs.Drawing.{blank, fresh, ticket_view}
use Rattle.owners_table.proofs.DrawingSteps.{splits}
use Rattle.owners_table.specs.declared.drawing.Bounds.{Bounds}
use Rattle.owners_table.proofs.Dealing.{deals-none, room-left, first-blank, last-blank, deals-one, deals-last, still-single}
use Rattle.owners_table.proofs.tickets.Tickets.new.Goals as goal

-- the view of a seat that was just dealt
dealt : (limit : ℕ) (p : Seat (Unit {0}) (List TicketSheet)) (table : TableId) → p.table_id ≡ table → p.me.0 ≡ blank limit ∷ []
    → ticket_view p ≡ fresh table limit
dealt limit p table e m =
    λ i. record { table = e i; limit = (first_or (blank 0) (m i)).limit; drawn = (first_or (blank 0) (m i)).drawn; passed = (first_or (blank 0) (m i)).passed }

pub split_seat-seat-requires : goal.split_seat-seat-requires
split_seat-seat-requires c =
    let t = c.in_ok-table.ensures in
    let some : 0 < c.in_ok-table.table.shared.table_id.words = omega (arith, t.0) in
    (c.loop-i.invariant.table, some, splits _ _ _ _)

pub loop-i-init : goal.loop-i-init
loop-i-init c =
    let t = c.in_ok-table.ensures in
    let a = c.in_ok-all.ensures in
    deals-none _ _ _ _ _ _ _ _ _ t.2 _ c.from.ensures c.requires (ap (λ m. m.0) t.4) (ap (λ m. m.1) t.4) a.len refl a.capacity a.items

pub loop-i-preserved : goal.loop-i-preserved
loop-i-preserved c =
    let s = c.split_seat-seat.ensures in
    let p = c.push_reserved.ensures in
    deals-one _ _ _ _ _ _ _ _ _ c.loop-i.invariant c.loop-i-test.true c.split_seat-seat.result _ _ _ _ _ s.3 (ap (λ m. m.0) s.4)
    (dealt c.args.limit c.split_seat-seat.result _)
    s.0 (ap (λ m. m.0) s.2) (ap (λ m. m.1) s.2) p.len (λ room. omega (arith, room, p.capacity)) p.items

pub push_reserved-requires : goal.push_reserved-requires
push_reserved-requires c = room-left _ _ _ _ _ _ _ _ _ c.loop-i.invariant (c.loop-i.auto._i-end c.requires)

pub push_reserved-requires-2 : goal.push_reserved-requires-2
push_reserved-requires-2 c = room-left _ _ _ _ _ _ _ _ _ c.loop-i.invariant (c.loop-i.auto._i-end c.requires)

pub invariant_of-push_reserved : goal.invariant_of-push_reserved
invariant_of-push_reserved c =
    let same = c.split_seat-seat.ensures.4 in
    let one = first-blank _ _ _ _ _ _ _ _ _ c.loop-i.invariant _ (ap (λ m. m.0) same) in
    (still-single (blank 0) (blank c.args.limit) _ _ _ one (ap (λ m. m.1) same) refl, ap (λ v. (first_or (blank 0) v).passed) one)

pub invariant_of-push_reserved-2 : goal.invariant_of-push_reserved-2
invariant_of-push_reserved-2 c =
    let one = last-blank _ _ _ _ _ _ _ _ _ c.loop-i.invariant c.loop-i-test.false in
    (still-single (blank 0) (blank c.args.limit) _ _ _ one refl c.loop-i.invariant.bare, ap (λ v. (first_or (blank 0) v).passed) one)

pub invariant_of-result : goal.invariant_of-result
invariant_of-result c =
    let t = c.in_ok-table.ensures in
    (t.0, t.1, sym (ap (λ (z : Bounds). z.limit) t.5))

pub returns-clause-tickets : goal.returns-clause-tickets
returns-clause-tickets c =
    let key = c.in_ok-table.ensures.5 in
    (refl, ap (λ (z : Bounds). z.seats) key ∙ c.from.ensures)

pub returns-clause-seats : goal.returns-clause-seats
returns-clause-seats c =
    let i = c.loop-i.invariant in
    let p = c.push_reserved-2.ensures in
    let end = c.loop-i-test.false in
    deals-last _ _ _ _ _ _ _ _ _ i (c.loop-i.auto._i-end c.requires) end _ _ _ p.len p.items
    (dealt c.args.limit c.loop-i.rest _ i.table (last-blank _ _ _ _ _ _ _ _ _ i end))
