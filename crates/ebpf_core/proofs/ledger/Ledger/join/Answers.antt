use Rattle.std.proofs.Common.{◌≡◌, ◌∙◌, ℕ, List, false, Ok, Err, sym, ap, subst}
use Rattle.ebpf_state.specs.Ascending.{IsAscending}
use Rattle.ebpf_machine.specs.World.{is_in}
use Rattle.ebpf_machine.specs.Events.{with_slot}
use Rattle.ebpf_core.proofs.Ledgers.{place_found, ascending_joined}
use Rattle.ebpf_core.proofs.ledger.Ledger.join.Goals as goal

pub unreachable-requires : goal.unreachable-requires
unreachable-requires c =
    let slots = c.self.inside.slots.items in
    let there =
    place_found c.args.slot slots c.deref.result.now (Ok c.in_default.field-0) c.self.invariant c.deref.ensures.value c.in_default.ensures.position in
    let new = subst (λ (l : List ℕ). is_in c.args.slot l ≡ false) (sym c.self.view_is) c.requires.new in
    cc (sym there.0 ∙ new)

pub returns-clause-joined : goal.returns-clause-joined
returns-clause-joined c =
    let slots = c.self.inside.slots.items in
    let there = place_found c.args.slot slots c.deref.result.now (Err c.in-Err.place) c.self.invariant c.deref.ensures.value c.in-Err.ensures.position in
    c.in_ok-insert.ensures.items ∙ there.1 ∙ ap (with_slot c.args.slot) c.self.view_is

pub invariant_of-self-2 : goal.invariant_of-self-2
invariant_of-self-2 c =
    let slots = c.self.inside.slots.items in
    let there = place_found c.args.slot slots c.deref.result.now (Err c.in-Err.place) c.self.invariant c.deref.ensures.value c.in-Err.ensures.position in
    subst IsAscending (sym (c.in_ok-insert.ensures.items ∙ there.1)) (ascending_joined c.args.slot slots there.0 c.self.invariant)
