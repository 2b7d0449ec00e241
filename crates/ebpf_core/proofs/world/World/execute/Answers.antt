use Rattle.std.proofs.Common.{rules, ◌≡◌, ℕ, true, false, Some, None, Option, List, refl, sym, ap, ◌∙◌, subst, arith}
use Rattle.std.specs.Prelude.{is_some, slice_get}
use Rattle.std.proofs.lemmas.Option.{slice_get_past, slice_get_read}
use Rattle.std.proofs.lemmas.List.Elements.{All-set}
use Rattle.ebpf_machine.specs.Events.{NoSuchRun, RunEnded}
use Rattle.ebpf_shelves.specs.declared.object.Object.{Object}
use Rattle.ebpf_core.specs.Places.{lent_by, place_at, place_lent}
use Rattle.ebpf_core.specs.Shown.{WorldState, IsTended}
use Rattle.ebpf_core.specs.Stepping.{code_by, CanLend}
use Rattle.ebpf_core.proofs.Runs.{at_number}
use Rattle.ebpf_core.proofs.Executing.{IsInstruction, instruction, executed_none, executed_ended, executed_bad, executed_after}
use Rattle.ebpf_core.proofs.Exchanging.{can_lend}
use Rattle.ebpf_core.proofs.Passed.{placed_after, moved_by, freed_known, known_by, shelves_known}
use Rattle.ebpf_core.proofs.world.World.execute.Goals.{After-step_in-freed}
use Rattle.ebpf_core.proofs.world.World.execute.Goals as goal

exited : (o : Option ℕ) → is_some o ≡ true → (n : ℕ) × (o ≡ Some n)
exited None e = absurd (cc)
exited (Some n) e = (n, refl)

going : (o : Option ℕ) → is_some o ≡ false → o ≡ None
going None e = refl
going (Some n) e = absurd (cc)

pub returns-then-number-len-clause-refused : goal.returns-then-number-len-clause-refused
returns-then-number-len-clause-refused c = rw (← c.self.view_is) (λ w h.
    (NoSuchRun, executed_none w _ c.args.run _ h (slice_get_past c.self.inside.runs.items c.args.run (omega arith)), refl))

pub returns-then-is_some-clause-refused : goal.returns-then-is_some-clause-refused
returns-then-is_some-clause-refused c = rw (← c.self.view_is) (λ w h.
    let at = slice_get_read c.self.inside.runs.items _ c.args.run c.index_mut-run.result.now refl (omega arith) c.index_mut-run.ensures.value in
    let ended = exited c.index_mut-run.result.now.exit (search rules) in
    (RunEnded, executed_ended w _ c.args.run ended.0 _ c.index_mut-run.result.now h at ended.1, refl))

pub returns-in-Some-clause-refused : goal.returns-in-Some-clause-refused
returns-in-Some-clause-refused c = rw (← c.self.view_is) (λ w h.
    let r = c.index_mut-run.result.now in
    let at = slice_get_read c.self.inside.runs.items _ c.args.run r refl (omega arith) c.index_mut-run.ensures.value in
    let tended = at_number IsTended c.self.inside.runs.items c.args.run r c.self.invariant.runs at in
    let code = ap (code_by c.self.inside.places.entries c.args.answer) (sym c.wants.ensures) ∙ sym c.answer_fault.ensures ∙ c.in-Some.is in
    executed_bad w _ c.args.run c.args.answer c.in-Some.code r h c.self.invariant.placed at tended.sound (going r.exit (search rules)) code)

pub step_in-freed-requires-clause-lends : goal.step_in-freed-requires-clause-lends
step_in-freed-requires-clause-lends c =
    let r = c.index_mut-run.result.now in
    let at = slice_get_read c.self.inside.runs.items _ c.args.run r refl (omega arith) c.index_mut-run.ensures.value in
    let tended = at_number IsTended c.self.inside.runs.items c.args.run r c.self.invariant.runs at in
    let fine = ap (code_by c.self.inside.places.entries c.args.answer) (sym c.wants.ensures) ∙ sym c.answer_fault.ensures ∙ c.in_default.is in
    subst (λ (l : Option Object). CanLend l c.replace-shelves.result r) (sym c.lend-lent.ensures.object)
    (subst (λ (s : List (Option Object)). CanLend (lent_by c.args.answer c.self.inside.places.entries) s r) (sym c.replace-shelves.ensures.value)
    (can_lend _ c.args.run c.args.answer r c.self.invariant.placed tended at fine))

-- ---- what is known once the instruction was done

-- the world before it
abbrev before : After-step_in-freed → WorldState
before c = record {
  programs = c.self.inside.programs.now;
  runs = c.self.inside.runs.items;
  ledgers = c.self.inside.ledgers;
  places = c.self.inside.places.entries;
  shelves = c.self.inside.shelves;
}

-- the run of the number goes on
there : (c : After-step_in-freed) → slice_get c.self.inside.runs.items c.args.run ≡ Some c.index_mut-run.result.now
there c = slice_get_read c.self.inside.runs.items _ c.args.run c.index_mut-run.result.now refl (omega arith) c.index_mut-run.ensures.value

goes_on : (c : After-step_in-freed) → c.index_mut-run.result.now.exit ≡ None
goes_on c = going c.index_mut-run.result.now.exit (search rules)

-- it is one instruction of this run, in the world that is kept
abbrev done : (c : After-step_in-freed)
    → IsInstruction (before c) c.args.run c.args.answer c.index_mut-run.result.now c.step_in-freed.new.run c.step_in-freed.result.0
done c =
    instruction _ c.args.run c.args.answer c.index_mut-run.result.now c.step_in-freed.new.run c.lend-lent.result c.step_in-freed.result.0 c.wants.result
    c.answer_fault.result c.self.invariant (there c) (goes_on c) c.answer_fault.ensures c.in_default.is c.wants.ensures c.lend-lent.ensures.object
    c.replace-shelves.result c.step_in-freed.result.1 c.replace-shelves.ensures.value c.step_in-freed.ensures.stepped

-- and what it was lent left its place
lent_from : (c : After-step_in-freed) → (q : ℕ)
    → place_at c.lend-lent.new.places.entries q ≡ place_lent c.args.answer c.args.run c.index_mut-run.result.now.pc c.self.inside.places.entries q
lent_from c q =
    c.lend-lent.ensures.places q ∙ ap (λ (n : ℕ). place_lent c.args.answer c.args.run n c.self.inside.places.entries q) c.pc-at.ensures.value

pub put-requires : goal.put-requires
put-requires c =
    let h = (goal.at.put-requires c).After-step_in-freed in
    let shown = c.self.invariant.shown in
    record { known = freed_known shown.0 _ c.args.run c.args.answer _ _ c.step_in-freed.result.0 _ shown.1 (done h) (lent_from h) }

pub exchange-requires : goal.exchange-requires
exchange-requires c =
    let h = (goal.at.exchange-requires c).After-step_in-freed in
    let shown = c.self.invariant.shown in
    let r = c.index_mut-run.result.now in
    let known = shelves_known shown.0 _ c.args.run c.args.answer r _ c.step_in-freed.result.0 _ c.put.new.places.entries shown.1 (done h) (lent_from h)
    c.put.ensures.places in
    let are = known_by c.self.inside.shelves r c.step_in-freed.result.1 c.put.new.places.entries c.reaches-reached.result c.slot_reached-stood.result
    c.slot_reached-stands.result c.reaches-reached.ensures c.slot_reached-stood.ensures c.slot_reached-stands.ensures known in
    record { stood = are.stood_has; stands = are.stands_has }

pub invariant_of-self-2 : goal.invariant_of-self-2
invariant_of-self-2 c =
    let i = done (goal.at.invariant_of-self-2 c).After-step_in-freed in
    let w = c.self.invariant.shown in
    let r = c.index_mut-run.result.now in
    let after = executed_after w.0 _ c.args.run c.args.answer r _ c.step_in-freed.result.0 w.1 i in
    let m = moved_by _ c.args.run c.args.answer r c.step_in-freed.result.0 c.step_in-freed.result.1 _ c.put.new.places.entries c.exchange.new.places.entries
    c.reaches-reached.result c.slot_reached-stood.result c.slot_reached-stands.result c.pc-at.result c.pc-at.ensures.value c.reaches-reached.ensures
    c.slot_reached-stood.ensures c.slot_reached-stands.ensures c.lend-lent.ensures.places c.put.ensures.places c.exchange.ensures.places in
    record {
      known = c.self.invariant.known;
      runs = All-set IsTended c.self.inside.runs.items c.args.run _ c.step_in-freed.ensures.tended c.self.invariant.runs;
      placed = placed_after w.0 _ c.args.run c.args.answer r _ c.step_in-freed.result.0 _ c.put.new.places.entries c.exchange.new.places.entries w.1 i m;
      shown = (after.after, after.shows c.exchange.new.places.entries);
    }

pub returns-clause-done : goal.returns-clause-done
returns-clause-done c = rw (← c.self.view_is) (λ w h.
    let i = done (goal.at.returns-clause-done c).After-step_in-freed in
    let after = executed_after w _ c.args.run c.args.answer _ _ c.step_in-freed.result.0 h i in
    (after.after, after.legal, after.shows c.exchange.new.places.entries))
