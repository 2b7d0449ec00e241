use Rattle.std.proofs.Common.{◌≡◌, ℕ, length, sym, ap, ◌∙◌, subst, rules}
use mathlib.Core.Option.{some}
use Rattle.owners_table.specs.Drawing.{TicketsView, Drawn}
use Rattle.owners_table.proofs.DrawingEnd.{drawn-once, drawn-each}
use Rattle.owners_table.proofs.tickets.Tickets.close.Goals as goal

pub returns-in-Some-clause-once : goal.returns-in-Some-clause-once
returns-in-Some-clause-once c few =
    let last = c.close_with.ensures.values.2 in
    let limit = sym c.self.invariant.2 ∙ ap (λ (t : TicketsView). t.limit) c.self.view_is in
    let seats = ap (λ (t : TicketsView). t.seats) c.self.view_is in
    let rule = subst (λ (p : ℕ × ℕ). Drawn p.0 p.1 last.0) (λ i. (limit i, seats i)) last.1.0 in
    let at = last.1.1 ∙ ap (λ m. some m.0) c.in-Some.ensures.some.1 in
    drawn-once c.args.self.limit c.args.self.seats last.0 c.in-Some.all.id rule c.args.seats.items at few

pub returns-in-Some-clause-each : goal.returns-in-Some-clause-each
returns-in-Some-clause-each c few whole =
    let last = c.close_with.ensures.values.2 in
    let limit = sym c.self.invariant.2 ∙ ap (λ (t : TicketsView). t.limit) c.self.view_is in
    let seats = ap (λ (t : TicketsView). t.seats) c.self.view_is in
    let rule = subst (λ (p : ℕ × ℕ). Drawn p.0 p.1 last.0) (λ i. (limit i, seats i)) last.1.0 in
    let at = last.1.1 ∙ ap (λ m. some m.0) c.in-Some.ensures.some.1 in
    let all : length c.args.seats.items ≡ c.args.self.seats = search rules in
    drawn-each c.args.self.limit c.args.self.seats last.0 c.in-Some.all.id rule c.args.seats.items at few all
