use Rattle.std.proofs.Common.{Option, None, refl, sym, ap, ◌∙◌, arith}
use Rattle.ebpf_machine.specs.Events.{NoSuchProgramOrKind, SlotNotReapable}
use Rattle.ebpf_core.specs.declared.place.Place.{Place}
use Rattle.ebpf_core.specs.Places.{is_home_of}
use Rattle.ebpf_core.proofs.PlaceLemmas.{updated_places}
use Rattle.ebpf_core.proofs.Slots.{reap_unknown, reap_away, reap_done, reap_tended}
use Rattle.ebpf_core.proofs.world.World.reap.Goals as goal

pub returns-then-number-ge3-clause-refused : goal.returns-then-number-ge3-clause-refused
returns-then-number-ge3-clause-refused c = λ w h. (NoSuchProgramOrKind, reap_unknown w _ c.args.kind c.args.slot h (omega arith), refl)

pub returns-then-not-is_home_of-clause-refused : goal.returns-then-not-is_home_of-clause-refused
returns-then-not-is_home_of-clause-refused c = rw (← c.self.view_is) (λ w h.
    let away = ap (λ (p : Option Place). is_home_of p c.args.kind) (sym c.get.ensures.value) ∙ sym c.is_home_of.ensures ∙ c.if-not-is_home_of.true in
    (SlotNotReapable, reap_away w _ c.args.kind c.args.slot h c.self.invariant.placed (omega arith) away, refl))

pub invariant_of-self : goal.invariant_of-self
invariant_of-self c = reap_tended _ c.args.kind c.args.slot c.leave.new.ledgers c.remove.new.self.entries c.self.invariant (record {
  known = omega arith;
  home = ap (λ (p : Option Place). is_home_of p c.args.kind) (sym c.get.ensures.value) ∙ sym c.is_home_of.ensures ∙ c.if-not-is_home_of.false;
  ledgers_are = c.leave.ensures;
  places_are = updated_places c.self.inside.places c.remove.new.self c.args.slot None c.remove.ensures.updates;
})

pub returns-clause-done : goal.returns-clause-done
returns-clause-done c =
    rw (← c.self.view_is) (λ w h. reap_done w _ c.args.kind c.args.slot c.leave.new.ledgers c.remove.new.self.entries h c.self.invariant.placed (record {
      known = omega arith;
      home = ap (λ (p : Option Place). is_home_of p c.args.kind) (sym c.get.ensures.value) ∙ sym c.is_home_of.ensures ∙ c.if-not-is_home_of.false;
      ledgers_are = c.leave.ensures;
      places_are = updated_places c.self.inside.places c.remove.new.self c.args.slot None c.remove.ensures.updates;
    }))
