use Rattle.std.proofs.Common.{◌≡◌, ℕ, List, [], ap, ◌∙◌, subst}
use mathlib.Core.Option.{some}
use Rattle.owners_table.specs.Owning.{OwnersView, Owned, IsLeft}
use Rattle.owners_table.proofs.OwningEnd.{left-by, left-none}
use Rattle.owners_table.proofs.owners.Owners.ended.Goals as goal

pub returns-in_default-clause-left : goal.returns-in_default-clause-left
returns-in_default-clause-left c =
    let last = c.close.ensures.values.2 in
    let empty = subst (λ r. Rattle.std.specs.Option.IfNone r (c.args.seats.items ≡ [])) c.in_default.is c.joined-joined.ensures.none in
    let table : OwnersView = record { table = c.self.inside.table.shared.table_id; slots = c.self.inside.slots; seats = c.self.inside.table.shared.key.seats } in
    subst (λ (p : OwnersView × List ℕ). IsLeft p.0 c.args.seats.items p.1) (λ i. (c.self.view_is i, last.2 i)) (left-none table c.args.seats.items last.0 (subst (λ (n : ℕ). Owned n table.seats last.0) c.self.invariant.2 last.1) empty)

pub returns-clause-left : goal.returns-clause-left
returns-clause-left c =
    let last = c.close_with.ensures.values.2 in
    let table : OwnersView = record { table = c.self.inside.table.shared.table_id; slots = c.self.inside.slots; seats = c.self.inside.table.shared.key.seats } in
    let at = last.1.1 ∙ ap (λ m. some m.0) c.in-Some.ensures.some.1 in
    subst (λ (p : OwnersView × List ℕ). IsLeft p.0 c.args.seats.items p.1) (λ i. (c.self.view_is i, last.2 i)) (left-by table c.args.seats.items last.0 c.in-Some.all.id (subst (λ (n : ℕ). Owned n table.seats last.0) c.self.invariant.2 last.1.0) at)
