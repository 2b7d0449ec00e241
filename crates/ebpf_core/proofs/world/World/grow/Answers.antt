use Rattle.std.proofs.Common.{refl, sym, ◌∙◌, subst, arith}
use Rattle.ebpf_machine.specs.Events.{NoSuchProgramOrKind, SlotInLedger}
use Rattle.ebpf_core.specs.Shown.{IsTendedWorld}
use Rattle.ebpf_core.proofs.PlaceLemmas.{updated_places}
use Rattle.ebpf_core.proofs.Slots.{on_ok, on_err, grow_unknown, grow_there, grow_undone, grow_legal, grow_done, grow_tended}
use Rattle.ebpf_core.proofs.world.World.grow.Goals as goal

pub returns-then-number-ge3-clause-refused : goal.returns-then-number-ge3-clause-refused
returns-then-number-ge3-clause-refused c = λ w h. (NoSuchProgramOrKind, grow_unknown w _ c.args.kind c.args.slot h (omega arith), refl)

pub returns-then-contains_key-clause-refused : goal.returns-then-contains_key-clause-refused
returns-then-contains_key-clause-refused c =
    rw (← c.self.view_is) (λ w h. (
      SlotInLedger,
      grow_there w _ c.args.kind c.args.slot h c.self.invariant.placed (omega arith)
          (sym c.contains_key.ensures ∙ c.if-contains_key.true),
      refl,
    ))

pub invariant_of-self-then-is_err-2 : goal.invariant_of-self-then-is_err-2
invariant_of-self-then-is_err-2 c =
    let joins = on_ok c.join.result c.if-is_err.ensures.value c.join.ensures.joined in
    let same = on_err c.insert.result c.if-is_err-2.ensures.value c.insert.ensures.err in
    let again = grow_undone _ c.args.kind c.args.slot c.join.new.ledgers c.leave.new.ledgers c.insert.new.self.entries c.self.invariant.placed
    (sym c.contains_key.ensures ∙ c.if-contains_key.false) joins c.leave.ensures same in
    subst IsTendedWorld (sym again) c.self.invariant

pub returns-then-is_err-2-clause-unchanged : goal.returns-then-is_err-2-clause-unchanged
returns-then-is_err-2-clause-unchanged c =
    let joins = on_ok c.join.result c.if-is_err.ensures.value c.join.ensures.joined in
    let same = on_err c.insert.result c.if-is_err-2.ensures.value c.insert.ensures.err in
    grow_undone _ c.args.kind c.args.slot c.join.new.ledgers c.leave.new.ledgers c.insert.new.self.entries c.self.invariant.placed
    (sym c.contains_key.ensures ∙ c.if-contains_key.false) joins c.leave.ensures same ∙ c.self.view_is

pub invariant_of-self-else-is_err-2 : goal.invariant_of-self-else-is_err-2
invariant_of-self-else-is_err-2 c = grow_tended _ c.args.kind c.args.slot c.in-Ok.object c.join.new.ledgers c.insert.new.self.entries c.self.invariant (record {
  known = omega arith;
  free = sym c.contains_key.ensures ∙ c.if-contains_key.false;
  new = c.in-Ok.ensures;
  ledgers_are = on_ok c.join.result c.if-is_err.ensures.value c.join.ensures.joined;
  places_are = updated_places c.self.inside.places c.insert.new.self c.args.slot _ (on_ok c.insert.result c.if-is_err-2.ensures.value c.insert.ensures.updates);
})

pub returns-clause-done : goal.returns-clause-done
returns-clause-done c = rw (← c.self.view_is)
    (λ w h. grow_done w _ c.args.kind c.args.slot c.in-Ok.object c.join.new.ledgers c.insert.new.self.entries h c.self.invariant.placed (record {
      known = omega arith;
      free = sym c.contains_key.ensures ∙ c.if-contains_key.false;
      new = c.in-Ok.ensures;
      ledgers_are = on_ok c.join.result c.if-is_err.ensures.value c.join.ensures.joined;
      places_are = updated_places c.self.inside.places c.insert.new.self c.args.slot _ (on_ok c.insert.result c.if-is_err-2.ensures.value c.insert.ensures.updates);
    }))

pub returns-in_default-clause-refused : goal.returns-in_default-clause-refused
returns-in_default-clause-refused c =
    rw (← c.self.view_is) (λ w h. grow_legal w _ c.args.kind c.args.slot h c.self.invariant.placed (omega arith)
    (sym c.contains_key.ensures ∙ c.if-contains_key.false))

pub returns-then-is_err-clause-refused : goal.returns-then-is_err-clause-refused
returns-then-is_err-clause-refused c =
    rw (← c.self.view_is) (λ w h. grow_legal w _ c.args.kind c.args.slot h c.self.invariant.placed (omega arith)
    (sym c.contains_key.ensures ∙ c.if-contains_key.false))

pub returns-then-is_err-2-clause-refused : goal.returns-then-is_err-2-clause-refused
returns-then-is_err-2-clause-refused c =
    rw (← c.self.view_is) (λ w h. grow_legal w _ c.args.kind c.args.slot h c.self.invariant.placed (omega arith)
    (sym c.contains_key.ensures ∙ c.if-contains_key.false))
