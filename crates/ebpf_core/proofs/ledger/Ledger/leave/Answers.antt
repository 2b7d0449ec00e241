use Rattle.std.proofs.Common.{◌∙◌, ◌==◌, not, Ok, Err, sym, ap, subst}
use Rattle.ebpf_state.specs.Ascending.{IsAscending}
use Rattle.ebpf_machine.specs.Events.{without_slot}
use Rattle.ebpf_verify.proofs.Ascents.{ascending_kept}
use Rattle.ebpf_core.proofs.Ledgers.{place_found, parted_none}
use Rattle.ebpf_core.proofs.ledger.Ledger.leave.Goals as goal

pub returns-in-Ok : goal.returns-in-Ok
returns-in-Ok c =
    let slots = c.self.inside.slots.items in
    let there = place_found c.args.slot slots c.deref.result.now (Ok c.in-Ok.place) c.self.invariant c.deref.ensures.value c.in-Ok.ensures.position in
    c.remove.ensures.items ∙ there.1 ∙ ap (without_slot c.args.slot) c.self.view_is

pub invariant_of-self : goal.invariant_of-self
invariant_of-self c =
    let slots = c.self.inside.slots.items in
    let there = place_found c.args.slot slots c.deref.result.now (Ok c.in-Ok.place) c.self.invariant c.deref.ensures.value c.in-Ok.ensures.position in
    subst IsAscending (sym (c.remove.ensures.items ∙ there.1)) (ascending_kept (λ s. not (s == c.args.slot)) slots c.self.invariant)

pub returns-in_default : goal.returns-in_default
returns-in_default c =
    let slots = c.self.inside.slots.items in
    let there =
    place_found c.args.slot slots c.deref.result.now (Err c.in_default.field-0) c.self.invariant c.deref.ensures.value c.in_default.ensures.position in
    sym c.self.view_is ∙ (sym (parted_none c.args.slot slots there.0) ∙ ap (without_slot c.args.slot) c.self.view_is)
