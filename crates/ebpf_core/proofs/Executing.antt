-- A run that is kept does the instruction at its pc: it is the event of the world that is shown.
use Rattle.std.proofs.Common.{◌≡◌, ◌≢◌, ◌⊎◌, inl, inr, ℕ, Bool, true, false, cond, List, [], length, get_or, Option, Some, None, Ok, Err, refl}
use Rattle.std.proofs.Common.{sym, ap, ◌∙◌, subst, length-set}
use Rattle.std.specs.Prelude.{slice_get, slice_set, option_map, IfNone, ◌==◌}
use Rattle.std.proofs.lemmas.List.Elements.{All-map}
use Rattle.ebpf_machine.specs.declared.holding.Holding.{Holding}
use Rattle.ebpf_machine.specs.World.{Name, Kind, World, Running, Owner, Shelved, Going, Exited, kinds_of, image_at, standing, shelved_at, shelved_in}
use Rattle.ebpf_machine.specs.Events.{Illegal, NoSuchRun, RunEnded, Asking, Unasked, OfNoKind, OfKind, AtShelf, answer_fault, asking_of, exec}
use Rattle.ebpf_machine.specs.Kinds.{known_kinds}
use Rattle.ebpf_machine.specs.View.{ObjectView, RunView, view_of, view_in, slots_in, effect_of_view}
use Rattle.ebpf_machine.specs.RunState.{RunState, object_seen, status_of}
use Rattle.ebpf_machine.specs.Step.{MayAnswer, standing_seen, asking_in, wanted, Served, Idle, Refused, Granted, Empty, Fetched, answer_for}
use Rattle.ebpf_machine.specs.Step.{served_from, served_in}
use Rattle.ebpf_machine.specs.Shelves.{shelf_done, shelved_from}
use Rattle.ebpf_machine.specs.Advance.{slots_after}
use Rattle.ebpf_machine.specs.Sound.{AreSized, IsSound}
use Rattle.ebpf_machine.proofs.Lists.ListLemmas.{get_set_same, get_set_other}
use Rattle.ebpf_machine.proofs.World.Asking.{asking_seen}
use Rattle.ebpf_machine.proofs.World.KeptShelves.{standing_kept}
use Rattle.ebpf_machine.proofs.World.Execs.{IsNextWorld, served_to, next_world, may_serve}
use Rattle.ebpf_machine.specs.declared.answer.Answer.{Answer}
use Rattle.ebpf_machine.specs.declared.answer.Answer.TheVariants.{Absent, Null, Slot}
use Rattle.ebpf_core.specs.declared.fault.ApplyCode.{ApplyCode}
use Rattle.ebpf_core.specs.declared.fault.ApplyCode.TheVariants.{SlotOfAnotherKind}
use Rattle.ebpf_shelves.specs.declared.object.Object.{Object}
use Rattle.ebpf_core.specs.declared.place.Place.{Place}
use Rattle.ebpf_core.specs.declared.place.Place.TheVariants as place
use Rattle.ebpf_core.specs.declared.place.Place.TheVariants.{Home, Held}
use Rattle.ebpf_core.specs.Faults.{code_of}
use Rattle.ebpf_shelves.specs.Shelves.{as_shelved, standing_on}
use Rattle.ebpf_core.specs.Passing.{IsOut, offers}
use Rattle.ebpf_core.specs.Places.{Places, place_at, object_home, lent_by}
use Rattle.ebpf_core.specs.Shown.{WorldState, Shows, IsTended, IsTendedWorld, ArePlaced, IsPlaced, run_seen, slots_of}
use Rattle.ebpf_core.specs.Stepping.{slot_code, code_by, IsStepped}
use Rattle.ebpf_core.proofs.LegalAnswers.{code_at}
use Rattle.ebpf_core.proofs.Placing.{answers_from}
use Rattle.ebpf_core.proofs.Runs.{at_number, run_shown, none_shown, same_number}

-- the objects of a run that is kept have the bytes of their kinds
pub sized_tended : (r : RunState Object) → IsTended r → AreSized (run_seen r)
sized_tended r h = All-map IsLong (object_seen (λ o. o.bytes.items)) r.held (λ k d lt. long (get_or r.held k d) (h.out.out k d lt)) where
  IsLong : ObjectView → Type 0
  IsLong o = length o.bytes ≡ length (image_at (kinds_of r.subject.rows) o.kind)

  long : (x : Holding Object) → IsOut None [] x.object × (x.object.kind ≡ x.kind)
      → length x.object.bytes.items ≡ length (image_at (kinds_of r.subject.rows) x.kind)
  long x (out, kind) =
      out.sized.size ∙ ap (λ (k : ℕ). length (image_at known_kinds k)) kind ∙ ap (λ (ks : List Kind). length (image_at ks x.kind)) (sym h.kinds)

-- ---- the answer that the store gives is the event's

-- an object at home is in its slot
abbrev AreTheirs : Places → Type 0
AreTheirs places = (slot : ℕ) (o : Object) → place_at places slot ≡ Some (Home o) → o.slot ≡ slot

-- where no object is asked for, none is answered
absent_answer : (places : Places) (answer : Answer) → code_by places answer None ≡ None → answer ≡ Absent
absent_answer places Absent fine = refl
absent_answer places Null fine = absurd (cc)
absent_answer places (Slot slot) fine = absurd (by (place_at places slot) fine) where
  by : (p : Option Place) → slot_code p None ≡ None → ⊥
  by None fine = cc
  by (Some (Home o)) fine = cc
  by (Some (Held run at)) fine = cc
  by (Some (place.Shelved shelf)) fine = cc

module _ (places : Places) (shelves : List (Option Object)) (at : ℕ) where
  abbrev May : Answer → Asking → Served → Type 0
  May answer asked given = MayAnswer (offers (lent_by answer places) shelves) at asked given

  answer_wanted : (answer : Answer) (kind : ℕ) (given : Served) → AreTheirs places → code_by places answer (Some kind) ≡ None
      → May answer (OfKind kind) given → answer_for given ≡ answer
  answer_wanted Absent kind given theirs fine may = absurd (cc)
  answer_wanted Null kind Idle theirs fine may = absurd may
  answer_wanted Null kind Refused theirs fine may = refl
  answer_wanted Null kind Empty theirs fine may = absurd may
  answer_wanted Null kind (Fetched other bytes) theirs fine may = absurd may
  answer_wanted Null kind (Granted slot) theirs fine may = absurd may
  answer_wanted (Slot slot) kind given theirs fine may = by_place (place_at places slot) refl fine may where
    of_kind : (o : Object) (given : Served) (t : Bool) → (o.kind == kind) ≡ t → place_at places slot ≡ Some (Home o)
        → cond t None (Some SlotOfAnotherKind) ≡ None → MayAnswer (offers (Some o) shelves) at (OfKind kind) given
        → answer_for given ≡ Slot slot
    of_kind o given false is there fine may = absurd (cc)
    of_kind o Idle true is there fine may = absurd may
    of_kind o Refused true is there fine may = absurd (cc)
    of_kind o Empty true is there fine may = absurd may
    of_kind o (Fetched other bytes) true is there fine may = absurd may
    of_kind o (Granted s) true is there fine may = ap Slot (sym may.1 ∙ theirs slot o there)

    by_place : (p : Option Place) → place_at places slot ≡ p → slot_code p (Some kind) ≡ None
        → MayAnswer (offers (object_home p) shelves) at (OfKind kind) given → answer_for given ≡ Slot slot
    by_place None there fine may = absurd (cc)
    by_place (Some (Held run place)) there fine may = absurd (cc)
    by_place (Some (place.Shelved shelf)) there fine may = absurd (cc)
    by_place (Some (Home o)) there fine may = of_kind o given (o.kind == kind) refl there fine may

  -- the event that it makes is the event
  answer_given : (answer : Answer) (asked : Asking) (given : Served) → AreTheirs places
      → code_by places answer (wanted asked) ≡ None → May answer asked given → answer_for given ≡ answer
  answer_given answer Unasked given theirs fine may = ap answer_for may ∙ sym (absent_answer places answer fine)
  answer_given answer OfNoKind given theirs fine may = absurd may
  answer_given answer (OfKind kind) given theirs fine may = answer_wanted answer kind given theirs fine may
  answer_given answer (AtShelf shelf) Empty theirs fine may = sym (absent_answer places answer fine)
  answer_given answer (AtShelf shelf) (Fetched slot bytes) theirs fine may = sym (absent_answer places answer fine)
  answer_given answer (AtShelf shelf) Idle theirs fine may = absurd may
  answer_given answer (AtShelf shelf) Refused theirs fine may = absurd may
  answer_given answer (AtShelf shelf) (Granted slot) theirs fine may = absurd may

-- what the shelf of a world serves is what the store may answer
shelf_serves : (w : World) (lent : Option Object) (shelves : List (Option Object)) (at shelf : ℕ) (given : Served)
    → shelved_in w shelf ≡ standing_on shelves shelf → MayAnswer (offers lent shelves) at (AtShelf shelf) given
    → served_from w (standing w shelf) ≡ given
shelf_serves w lent shelves at shelf given shows may = by given (standing w shelf) refl may where
  by : (given : Served) (o : Option Owner) → standing w shelf ≡ o → MayAnswer (offers lent shelves) at (AtShelf shelf) given → served_from w o ≡ given
  by Empty None is may = refl
  by Empty (Some o) is may = let stands = ap (option_map (λ (x : Owner). shelved_at w x.slot)) (sym is) ∙ shows ∙ may in absurd (cc)
  by (Fetched slot bytes) None is may = let none = ap (option_map (λ (x : Owner). shelved_at w x.slot)) (sym is) ∙ shows ∙ may in absurd (cc)
  by (Fetched slot bytes) (Some o) is may = same (ap (option_map (λ (x : Owner). shelved_at w x.slot)) (sym is) ∙ shows ∙ may) where
    same : Some (shelved_at w o.slot) ≡ Some (record { slot = slot; bytes = bytes }) → Fetched o.slot (w.bytes o.slot) ≡ Fetched slot bytes
    same e = ap (λ (x : Option Shelved). served_as x) e where
      served_as : Option Shelved → Served
      served_as None = Empty
      served_as (Some x) = Fetched x.slot x.bytes
  by Idle o is may = absurd may
  by Refused o is may = absurd may
  by (Granted slot) o is may = absurd may

-- ---- an instruction of a run that is kept

-- a run that goes on is done one instruction of, with an answer that is legal
pub record IsInstruction (kept : WorldState) (k : ℕ) (answer : Answer) (r t : RunState Object) (freed : Option Object) : Type 0 where
  pub tended : IsTendedWorld kept
  pub run : IsTended r
  pub at : slice_get kept.runs k ≡ Some r
  pub going : r.exit ≡ None
  pub fine : code_by kept.places answer (wanted (asking_in (run_seen r))) ≡ None
  pub after : List (Option Object)
  pub step : IsStepped (lent_by answer kept.places) freed kept.shelves after r t

pub going_seen : (r : RunState Object) → r.exit ≡ None → (run_seen r).status ≡ Going
going_seen r going = ap status_of going

pub answered : (kept : WorldState) (k : ℕ) (answer : Answer) (r t : RunState Object) (freed : Option Object) (i : IsInstruction kept k answer r t freed)
    → answer_for i.step.served ≡ answer
answered kept k answer r t freed i = answer_given kept.places kept.shelves r.pc answer (asking_in (run_seen r)) i.step.served theirs i.fine i.step.may where
  theirs : AreTheirs kept.places
  theirs slot o at = (subst (IsPlaced kept slot) at (i.tended.placed.each slot)).same

-- so it is, by what the tests and the step said
abbrev pub instruction : (kept : WorldState) (k : ℕ) (answer : Answer) (r t : RunState Object) (lent freed : Option Object) (wants : Option ℕ)
    (fault : Option ApplyCode)
    → IsTendedWorld kept → slice_get kept.runs k ≡ Some r → r.exit ≡ None
    → fault ≡ code_by kept.places answer wants → fault ≡ None → wants ≡ wanted (asking_in (run_seen r))
    → lent ≡ lent_by answer kept.places → (shelves after : List (Option Object)) → shelves ≡ kept.shelves
    → IfNone r.exit (IsStepped lent freed shelves after r t) → IsInstruction kept k answer r t freed
instruction kept k answer r t lent freed wants fault tended at goes code none wanted_is lent_is shelves after shelves_are step = record {
  after = after;
  tended = tended;
  run = at_number IsTended kept.runs k r tended.runs at;
  at = at;
  going = goes;
  fine = ap (code_by kept.places answer) (sym wanted_is) ∙ sym code ∙ none;
  step = subst (λ (l : Option Object). IsStepped l freed kept.shelves after r t) lent_is
      (subst (λ (s : List (Option Object)). IsStepped lent freed s after r t) shelves_are (then_going r.exit goes step));
}
  where
    then_going : (o : Option ℕ) → o ≡ None → IfNone o (IsStepped lent freed shelves after r t) → IsStepped lent freed shelves after r t
    then_going None e h = h
    then_going (Some n) e h = absurd (cc)

-- ---- why an event is not legal

-- a run that goes on, in the world that shows it, and why an answer to it is not legal there
pub record IsAt (w : World) (places : Places) (k : ℕ) (r : RunState Object) : Type 0 where
  pub run : Running
  pub there : slice_get w.runs k ≡ Some run
  pub seen : view_of w k run ≡ run_seen r
  pub goes : run.status ≡ Going
  pub sound : IsSound (view_of w k run)
  pub code : (answer : Answer)
      → option_map code_of (answer_fault w (asking_of w run) answer) ≡ code_by places answer (wanted (asking_in (run_seen r)))

pub going_at : (w : World) (kept : WorldState) (k : ℕ) (r : RunState Object) → Shows w kept → ArePlaced kept
    → slice_get kept.runs k ≡ Some r → IsSound (run_seen r) → r.exit ≡ None → IsAt w kept.places k r
going_at w kept k r h placed at sound going =
    let run = run_shown w kept k r h at in
    let goes : run.0.status ≡ Going = ap (λ (v : RunView). v.status) run.2 ∙ going_seen r going in
    let here = subst IsSound (sym run.2) sound in
    record {
      run = run.0;
      there = run.1;
      seen = run.2;
      goes = goes;
      sound = here;
      code = λ answer. code_at w k run.0 kept.places answer h.owned (answers_from w kept answer h placed) run.1 here goes
          ∙ ap (λ (v : RunView). code_by kept.places answer (wanted (asking_in v))) run.2;
    }

-- there is no such run
pub executed_none : (w : World) (kept : WorldState) (k : ℕ) (answer : Answer) → Shows w kept → slice_get kept.runs k ≡ None
    → exec w k answer ≡ Err NoSuchRun
executed_none w kept k answer h at = rw (none_shown w kept k h at) refl

-- the run has ended
pub executed_ended : (w : World) (kept : WorldState) (k n : ℕ) (answer : Answer) (r : RunState Object) → Shows w kept
    → slice_get kept.runs k ≡ Some r → r.exit ≡ Some n → exec w k answer ≡ Err RunEnded
executed_ended w kept k n answer r h at ended =
    let run = run_shown w kept k r h at in
    let exited : run.0.status ≡ Exited n = ap (λ (v : RunView). v.status) run.2 ∙ ap status_of ended in
    rw (run.1, exited) refl

-- the answer is not one that the run may get
pub executed_bad : (w : World) (kept : WorldState) (k : ℕ) (answer : Answer) (code : ApplyCode) (r : RunState Object) → Shows w kept
    → ArePlaced kept → slice_get kept.runs k ≡ Some r → IsSound (run_seen r) → r.exit ≡ None
    → code_by kept.places answer (wanted (asking_in (run_seen r))) ≡ Some code
    → (why : Illegal) × (exec w k answer ≡ Err why) × (code ≡ code_of why)
executed_bad w kept k answer code r h placed at sound going bad = by (answer_fault w (asking_of w here.run) answer) refl where
  here : IsAt w kept.places k r
  here = going_at w kept k r h placed at sound going

  by : (o : Option Illegal) → answer_fault w (asking_of w here.run) answer ≡ o
      → (why : Illegal) × (exec w k answer ≡ Err why) × (code ≡ code_of why)
  by None fault = let none = ap (option_map code_of) (sym fault) ∙ here.code answer ∙ bad in absurd (cc)
  by (Some why) fault = let same = ap (option_map code_of) (sym fault) ∙ here.code answer ∙ bad in (why, rw (here.there, here.goes, fault) refl, cc)

-- ---- the world after it

pub record IsAfter (w : World) (kept : WorldState) (k : ℕ) (answer : Answer) (r t : RunState Object) (served : Served) (stands : List (Option Object)) : Type
    0 where
  pub after : World
  pub legal : exec w k answer ≡ Ok after
  pub shows : (places : Places) → Shows after (record kept { runs = slice_set kept.runs k t; places = places; shelves = stands })
  pub slots : slots_of t ≡ slots_after (effect_of_view (run_seen r)) served r.subject.decl.held r.pc (slots_of r)

no_fault : (o : Option Illegal) → option_map code_of o ≡ None → o ≡ None
no_fault None e = refl
no_fault (Some why) e = absurd (cc)

pub executed_after : (w : World) (kept : WorldState) (k : ℕ) (answer : Answer) (r t : RunState Object) (freed : Option Object)
    → Shows w kept → (i : IsInstruction kept k answer r t freed) → IsAfter w kept k answer r t i.step.served i.after
executed_after w kept k answer r t freed h i = record { after = after; legal = next.1.legal; shows = shows; slots = slots } where
  here : IsAt w kept.places k r
  here = going_at w kept k r h i.tended.placed i.at i.run.sound i.going

  next : (after : World) × IsNextWorld w k here.run answer after
  next = next_world w k here.run answer h.owned here.there here.sound here.goes
      (no_fault (answer_fault w (asking_of w here.run) answer) (here.code answer ∙ i.fine))

  after : World
  after = next.0

  -- the world serves what the store answered
  serves : served_in w (asking_in (run_seen r)) (answer_for i.step.served) ≡ i.step.served
  serves = may_serve w (offers (lent_by answer kept.places) kept.shelves) r.pc (asking_in (run_seen r)) i.step.served i.step.may
      (λ shelf asked. shelf_serves w (lent_by answer kept.places) kept.shelves r.pc shelf i.step.served (h.shelves shelf)
      (subst (λ (a : Asking). MayAnswer (offers (lent_by answer kept.places) kept.shelves) r.pc a i.step.served) asked i.step.may))

  given : answer_for i.step.served ≡ answer
  given = answered kept k answer r t freed i

  -- which is what the answer serves
  served : served_to w here.run answer ≡ i.step.served
  served =
      ap (λ (asked : Asking). served_in w asked answer) (asking_seen w k here.run h.owned here.there ∙ ap asking_in here.seen)
      ∙ ap (served_in w (asking_in (run_seen r))) (sym given)
      ∙ serves

  view : view_in w k ≡ Some (run_seen r)
  view = h.views k ∙ ap (option_map run_seen) i.at

  -- what the step says of the world that is shown
  happens : (view_in after k ≡ Some (run_seen t)) × (slots_in after k ≡ slots_of t)
      × ((shelf : ℕ) → shelved_in after shelf ≡ standing_seen w (slots_of r) (effect_of_view (run_seen r)) shelf)
  happens = i.step.event w after k h.owned view (h.slots k r i.at) serves (ap (exec w k) given ∙ next.1.legal)

  event : (view_in after k ≡ Some (run_seen t)) × (slots_in after k ≡ slots_of t)
  event = (happens.0, happens.1)

  slots : slots_of t ≡ slots_after (effect_of_view (run_seen r)) i.step.served r.subject.decl.held r.pc (slots_of r)
  slots =
      let subject = ap (λ (v : RunView). slots_after (effect_of_view v) i.step.served v.subject.decl.held v.pc (slots_in w k)) here.seen in
      sym event.1 ∙ next.1.slots ∙ ap (λ (s : Served).
      slots_after (effect_of_view (view_of w k here.run)) s here.run.subject.decl.held here.run.pc (slots_in w k)) served ∙ subject
      ∙ ap (slots_after (effect_of_view (run_seen r)) i.step.served r.subject.decl.held r.pc) (h.slots k r i.at)

  -- and of what is on its shelves
  stands : (shelf : ℕ) → shelved_in after shelf ≡ standing_on i.after shelf
  stands shelf =
      happens.2 shelf
      ∙ standing_kept (λ (o : Object). o.bytes.items) (λ (o : Object). o.slot) w k r view (h.slots k r i.at) (effect_of_view (run_seen r)) shelf
      ∙ ap (shelf_done (shelved_from as_shelved r.held) (effect_of_view (run_seen r)) shelf) (h.shelves shelf)
      ∙ sym (i.step.shelves shelf)

  runs : List (RunState Object)
  runs = slice_set kept.runs k t

  view_at : (j : ℕ) → (j ≡ k) ⊎ (j ≢ k) → view_in after j ≡ option_map run_seen (slice_get runs j)
  view_at j (inl same) = subst (λ (n : ℕ). view_in after n ≡ option_map run_seen (slice_get runs n)) (sym same)
      (event.0 ∙ sym (ap (option_map run_seen) (get_set_same kept.runs k r t i.at)))
  view_at j (inr ne) = next.1.others j ne ∙ (h.views j ∙ sym (ap (option_map run_seen) (get_set_other kept.runs k j t ne)))

  slots_at : (j : ℕ) (x : RunState Object) → slice_get runs j ≡ Some x → (j ≡ k) ⊎ (j ≢ k) → slots_in after j ≡ slots_of x
  slots_at j x there (inl same) =
      let now : t ≡ x = some_same (sym (get_set_same kept.runs k r t i.at) ∙ ap (slice_get runs) (sym same) ∙ there) in
      ap (slots_in after) same ∙ event.1 ∙ ap slots_of now
    where
      some_same : {a b : RunState Object} → Some a ≡ Some b → a ≡ b
      some_same e = cc
  slots_at j x there (inr ne) = next.1.others_slots j ne ∙ h.slots j x (sym (get_set_other kept.runs k j t ne) ∙ there)

  shows : (places : Places) → Shows after (record kept { runs = runs; places = places; shelves = i.after })
  shows places = record {
    views = λ j. view_at j (same_number j k);
    slots = λ j x there. slots_at j x there (same_number j k);
    as_many = next.1.as_many ∙ (h.as_many ∙ sym (length-set kept.runs k t));
    kinds = next.1.kinds ∙ h.kinds;
    ledgers = next.1.ledgers ∙ h.ledgers;
    owned = next.1.owned;
    shelves = stands;
  }
