-- What is written of a run, instruction after instruction, is of the run in a world of its own: of each of its steps, or of those that are chosen.
use Rattle.std.proofs.Common.{◌≡◌, ℕ, suc, ◌+◌, ◌≤◌, Bool, true, false, List, [], ◌++◌, length, Option, Some, None, refl, sym, ap, ◌∙◌, subst, add-one, arith}
use Rattle.std.specs.Prelude.{is_none, option_map, if◌then◌else◌}
use Rattle.std.proofs.lemmas.Grind.{common_steps}
use Rattle.std.proofs.lemmas.List.{append_assoc}
use Rattle.ebpf_insn.specs.Program.{instructions, insn_at}
use Rattle.ebpf_verify.specs.Subject.{Subject}
use Rattle.ebpf_machine.specs.declared.report.Report.{Report}
use Rattle.ebpf_machine.specs.World.{kinds_of}
use Rattle.ebpf_machine.specs.Kinds.{known_kinds}
use Rattle.ebpf_machine.specs.RunState.{RunState, first_state_of, seen}
use Rattle.ebpf_machine.specs.Store.{Store}
use Rattle.ebpf_machine.specs.Sound.{IsSound}
use Rattle.ebpf_machine.specs.Step.{told_by, seen_in}
use Rattle.ebpf_machine.specs.Turns.{IsTurn, AreTurns, IsEnded}
use Rattle.ebpf_machine.specs.View.{RunView}
use Rattle.ebpf_machine.proofs.WholeRuns.Starts.{starts}
use Rattle.ebpf_machine.proofs.WholeRuns.Told.{IsUnderWay, under_way}
use Rattle.ebpf_explain.proofs.TextLemmas.{no_text, one_text}
use Rattle.ebpf_shelves.specs.declared.object.Object.{Object}
use Rattle.ebpf_shelves.specs.declared.store.Store as kept
use Rattle.ebpf_shelves.specs.contracts.store.StoreObjects.TheImpl.{store-value}
use Rattle.ebpf_shelves.specs.Going.{granting, told_on}
use Rattle.ebpf_shelves.specs.Shelves.{standing_on}
use Rattle.ebpf_shelves.proofs.Granting.{IsFine, fine_before, fine_last, next_slot}
use Rattle.ebpf_command.specs.declared.format.Format.{Format}
use Rattle.ebpf_steps.specs.Changes.{frame_of}
use Rattle.ebpf_steps.specs.declared.choice.Choice.{Choice}
use Rattle.ebpf_steps.specs.Chosen.{chosen_at}
use Rattle.ebpf_steps.specs.StepText.{line_at}
use Rattle.ebpf_one.specs.Reports.{IsReportWith}
use Rattle.ebpf_one.specs.declared.headed.Headed.{Headed}
use Rattle.ebpf_one.specs.Headed.{heading_after}
use Rattle.ebpf_one.specs.Steps.{is_shown, lines_between, seen_after, shown_between, slot_shown, step_of, steps_of}
use Rattle.ebpf_one.proofs.Solo.{IsBegun, reports_exit, shows_after}

-- what is said of the store of one run
abbrev pub keeping : Store kept.Store Object
keeping = store-value.it

-- no memory was short
abbrev pub IsAmple : Bool → kept.Store → Type 0
IsAmple nulls s = IsFine nulls (granting s.nulls s.short s.table.items)

abbrev pub Begins : Bool → kept.Store → Subject → List ℕ → RunState Object → Type 0
Begins nulls first s context start = IsBegun keeping (IsAmple nulls) nulls first s context start

-- a run at its first instruction, over a store that has granted nothing
pub begins : (nulls : Bool) (first : kept.Store) (s : Subject) (context : List ℕ) (start : RunState Object) → first.nulls ≡ nulls → length first.table.items ≡ 0
    → ((shelf : ℕ) → standing_on first.shelves shelf ≡ None) → kinds_of s.rows ≡ known_kinds → start ≡ first_state_of s context
    → ((bytes : Object → List ℕ) → IsSound (seen bytes start)) → Begins nulls first s context start
begins nulls first s context start is none bare kinds at sound = record {
  so = λ told s went. record {
    grants = λ kind at slot can. (sym is ∙ sym went.nulls ∙ can.0, next_slot _ _ _ told can.1 went.slots none);
    fetches = λ shelf slot bytes what can stands. stands ∙ can;
    misses = λ shelf what can stands. stands ∙ can;
  };
  ample = λ s t told went fine. fine_before nulls _ _ told went fine;
  sizes = λ s h out. (out.sized.size, out.sized.known);
  kinds = sym kinds;
  bare = λ shelf. sym (bare shelf);
  is = at;
  starts = starts _ _ _ _ start at (sound _);
}

-- what is written of a run so far, after a text: of each chosen instruction that it executed, if no memory was short; and the slot of the last one
pub record IsTraced (format : Format) (choice : Choice) (source : Option Headed) (nulls : Bool) (s : Subject) (context : List ℕ) (first now : kept.Store)
    (start r : RunState Object) (last : Option ℕ) (before text : List ℕ) : Type 0 where
  pub begun : Begins nulls first s context start
  pub nulls_are : first.nulls ≡ nulls
  pub turns : AreTurns keeping r.executed start r first now
  pub last_is : IsAmple nulls now → last ≡ slot_shown choice s context nulls r.executed
  pub written : IsAmple nulls now → text ≡ before ++ steps_of format choice source s context nulls r.executed
  pub bounded : r.executed ≤ length (instructions s.program)

-- nothing yet
pub none_traced : (format : Format) (choice : Choice) (source : Option Headed) (nulls : Bool) (s : Subject) (context : List ℕ) (first : kept.Store)
    (start : RunState Object) (before : List ℕ) → first.nulls ≡ nulls → Begins nulls first s context start
    → IsTraced format choice source nulls s context first first start start None before before
unfolding slot_shown
none_traced format choice source nulls s context first start before are begun =
    let none : 0 ≡ start.executed = sym (ap (λ (r : RunState Object). r.executed) begun.is) in record {
      begun = begun;
      nulls_are = are;
      turns = subst (λ (n : ℕ). AreTurns keeping n start start first first) none (refl, refl);
      last_is = λ ample. ap (slot_shown choice s context nulls) none;
      written = λ ample. subst (λ (n : ℕ). before ≡ before ++ steps_of format choice source s context nulls n) none
          (no_text before (step_of format choice source s context nulls));
      bounded = omega (arith, none);
    }

-- ---- what a choice makes of a step

nothing : (xs : List ℕ) → xs ++ [] ≡ xs
nothing xs = grind (arith, common_steps)

pub slot_of_shown : (choice : Choice) (s : Subject) (context : List ℕ) (nulls : Bool) (n : ℕ) → is_shown choice s context nulls n ≡ true
    → slot_shown choice s context nulls (suc n) ≡ option_map (λ (v : RunView). v.pc) (seen_after s context nulls n)
unfolding slot_shown
slot_of_shown choice s context nulls n is_so =
    ap (λ (b : Bool). if b then option_map (λ (v : RunView). v.pc) (seen_after s context nulls n) else slot_shown choice s context nulls n) is_so

pub slot_of_hidden : (choice : Choice) (s : Subject) (context : List ℕ) (nulls : Bool) (n : ℕ) → is_shown choice s context nulls n ≡ false
    → slot_shown choice s context nulls (suc n) ≡ slot_shown choice s context nulls n
unfolding slot_shown
slot_of_hidden choice s context nulls n is_not =
    ap (λ (b : Bool). if b then option_map (λ (v : RunView). v.pc) (seen_after s context nulls n) else slot_shown choice s context nulls n) is_not

module _ {format : Format} {choice : Choice} {source : Option Headed} {nulls : Bool} {s : Subject} {context : List ℕ} {first now : kept.Store}
    {start r : RunState Object} {last : Option ℕ} {before text : List ℕ}
    (was : IsTraced format choice source nulls s context first now start r last before text) where
  pub is_under_way : IsUnderWay keeping first now s context r
  is_under_way = under_way keeping first first now s context r.executed start r was.begun.sizes was.begun.kinds was.begun.starts was.turns

  shown : IsAmple nulls now → seen_after s context nulls r.executed ≡ Some (seen_in keeping now r)
  shown ample = (shows_after keeping (IsAmple nulls) nulls first s context start was.begun r.executed now r was.turns ample).view

  -- ---- one instruction more

  module _ (new : kept.Store) (t : RunState Object) (turn : IsTurn keeping r t now new) (few : t.executed ≤ length (instructions s.program)) where
    one_more : AreTurns keeping (suc r.executed) start t first new
    one_more = record { run = r; store = now; before = was.turns; last = turn }

    counted : r.executed + 1 ≡ t.executed
    counted = sym turn.counted

    ample_before : IsAmple nulls new → IsAmple nulls now
    ample_before ample = (was.begun.ample now new (told_by turn.step.0) turn.step.2.store.goes ample).0

    shown_next : IsAmple nulls new → seen_after s context nulls (suc r.executed) ≡ Some (seen_in keeping new t)
    shown_next ample = (shows_after keeping (IsAmple nulls) nulls first s context start was.begun (suc r.executed) new t one_more ample).view

    abbrev pub row : List ℕ
    row = line_at format r.pc (insn_at s.program r.pc) (frame_of t)

    abbrev pub chosen : Bool
    chosen = chosen_at choice r.executed r.pc (insn_at s.program r.pc) (frame_of t)

    shown_is : IsAmple nulls new → is_shown choice s context nulls r.executed ≡ chosen
    shown_is ample =
        (λ i. shown_between choice r.executed (shown (ample_before ample) i) (shown_next ample i))
        ∙ ap (λ (x : Subject). chosen_at choice r.executed r.pc (insn_at x.program r.pc) (frame_of t)) is_under_way.subject_is

    lines_are : IsAmple nulls new
        → lines_between format source (slot_shown choice s context nulls r.executed) (seen_after s context nulls r.executed) (seen_after s context nulls (suc r.executed))
        ≡ heading_after format source last r.pc ++ row
    lines_are ample =
        let place = was.last_is (ample_before ample) in
        (λ i. lines_between format source (sym place i) (shown (ample_before ample) i) (shown_next ample i))
        ∙ ap (λ (x : Subject). heading_after format source last r.pc ++ line_at format r.pc (insn_at x.program r.pc) (frame_of t)) is_under_way.subject_is

    -- what is written of it
    abbrev pub step_if : Bool → List ℕ
    step_if b =
        if b then lines_between format source (slot_shown choice s context nulls r.executed) (seen_after s context nulls r.executed) (seen_after s context nulls (suc r.executed)) else []

    traced_with : (next : Option ℕ) (more : List ℕ) → (IsAmple nulls new → next ≡ slot_shown choice s context nulls (suc r.executed)) → (here : List ℕ)
        → (IsAmple nulls new → here ≡ step_of format choice source s context nulls r.executed) → more ≡ text ++ here
        → IsTraced format choice source nulls s context first new start t next before more
    traced_with next more place here is both = record {
      begun = was.begun;
      nulls_are = was.nulls_are;
      turns = subst (λ (n : ℕ). AreTurns keeping n start t first new) counted (rw add-one one_more);
      last_is = λ ample. subst (λ (n : ℕ). next ≡ slot_shown choice s context nulls n) counted (rw add-one (place ample));
      written = λ ample. subst (λ (n : ℕ). more ≡ before ++ steps_of format choice source s context nulls n) counted
          (one_text before text more here r.executed (step_of format choice source s context nulls) (is ample) (was.written (ample_before ample)) both);
      bounded = few;
    }

    -- a step that isn't chosen
    pub hidden_traced : chosen ≡ false → IsTraced format choice source nulls s context first new start t last before text
    hidden_traced is_not = traced_with last text
        (λ ample. was.last_is (ample_before ample) ∙ sym (slot_of_hidden choice s context nulls r.executed (shown_is ample ∙ is_not)))
        [] (λ ample. sym (ap step_if (shown_is ample ∙ is_not))) (sym (nothing text))

    -- one that is
    shown_traced : chosen ≡ true → (headed more : List ℕ) → headed ≡ text ++ heading_after format source last r.pc → more ≡ headed ++ row
        → IsTraced format choice source nulls s context first new start t (Some r.pc) before more
    shown_traced is_so headed more head line =
        let both : more ≡ text ++ (heading_after format source last r.pc ++ row) = line ∙ ap (λ (xs : List ℕ). xs ++ row) head ∙ append_assoc text (heading_after format source last r.pc) row in
        traced_with (Some r.pc) more
        (λ ample. sym (slot_of_shown choice s context nulls r.executed (shown_is ample ∙ is_so)
        ∙ ap (λ (v : Option RunView). option_map (λ (u : RunView). u.pc) v) (shown (ample_before ample))))
        (heading_after format source last r.pc ++ row) (λ ample. sym (ap step_if (shown_is ample ∙ is_so) ∙ lines_are ample)) both

    pub shown_traced_at : (slot : ℕ) → slot ≡ r.pc → chosen ≡ true → (headed more : List ℕ) → headed ≡ text ++ heading_after format source last slot
        → more ≡ headed ++ line_at format slot (insn_at s.program slot) (frame_of t)
        → IsTraced format choice source nulls s context first new start t (Some slot) before more
    shown_traced_at slot is is_so headed more head line =
        subst (λ (n : ℕ). IsTraced format choice source nulls s context first new start t (Some n) before more) (sym is)
        (shown_traced is_so headed more (head ∙ ap (λ (n : ℕ). text ++ heading_after format source last n) is)
        (line ∙ ap (λ (n : ℕ). headed ++ line_at format n (insn_at s.program n) (frame_of t)) is))

  -- ---- the end

  module _ (after : kept.Store) (report : Report) (is : IsEnded keeping r report now after) (fine : after.short ≡ false) where
    ample : IsAmple nulls now
    ample =
        let began = granting first.nulls first.short first.table.items in
        let between = granting now.nulls now.short now.table.items in
        let ended = granting after.nulls after.short after.table.items in
        let went = told_on began between ended _ [] is_under_way.told is.goes in
        (fine_before nulls between ended [] is.goes (fine_last nulls began ended _ was.nulls_are went fine)).0

    -- the report is that of the run in a world of its own, of which its steps are written
    pub reports_traced : is_none r.exit ≡ false → IsReportWith s context nulls report
    reports_traced exits = by r.exit refl where
      by : (exit : Option ℕ) → r.exit ≡ exit → IsReportWith s context nulls report
      by None going = absurd (cc)
      by (Some n) exited = reports_exit keeping (IsAmple nulls) nulls first now after s context start r r.executed n report was.begun was.turns refl was.bounded ample exited is

    pub writes_traced : text ≡ before ++ steps_of format choice source s context nulls report.executed
    writes_traced = was.written ample ∙ ap (λ (n : ℕ). before ++ steps_of format choice source s context nulls n) (sym is.executed)
