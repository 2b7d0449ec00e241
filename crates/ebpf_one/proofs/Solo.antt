-- The run in a world of its own goes on as the run over its store does, to the end that is reported.
use Rattle.std.proofs.Common.{◌≡◌, ℕ, zero, suc, ◌+◌, ◌-◌, ◌<◌, ◌≤◌, max, Bool, true, false, cond, List, [], ◌∷◌, length, map, Option, Some, None}
use Rattle.std.proofs.Common.{Result, Ok, Err, refl, sym, ap, ◌∙◌, subst, arith}
use Rattle.std.specs.Prelude.{IfSome, slice_get}
use Rattle.std.specs.List.{list_any}
use Rattle.std.proofs.lemmas.List.{length-map}
use Rattle.std.proofs.lemmas.List.Sums.{sum_by-append}
use Rattle.ebpf_insn.specs.Program.{instructions}
use Rattle.ebpf_state.specs.declared.kinds.KindRow.{KindRow}
use Rattle.ebpf_verify.specs.Subject.{Subject}
use Rattle.ebpf_machine.specs.declared.report.Reply.{Reply}
use Rattle.ebpf_machine.specs.declared.report.Report.{Report}
use Rattle.ebpf_machine.specs.World.{World, Running, Going, Exited, kinds_of, held_by, holds_of, is_in, shelved_in}
use Rattle.ebpf_machine.specs.Events.{Illegal, RunEnded, Asking, Unasked, OfNoKind, OfKind, AtShelf, answer_fault, asking_of, exec}
use Rattle.ebpf_machine.specs.Alone.{Alone, Fed, Outcome, advanced, alone_after, alone_first, outcome_alone, outcome_of, replies_from}
use Rattle.ebpf_machine.specs.Replies.{outcome_in_report, replies_in, replies_of}
use Rattle.ebpf_machine.specs.View.{RunView, object_in, view_of, view_in, effect_of_view, stepped}
use Rattle.ebpf_machine.specs.RunState.{RunState, first_state_of, seen, status_of}
use Rattle.ebpf_machine.specs.Store.{Store}
use Rattle.ebpf_machine.specs.Sound.{IsSound, IsAlone}
use Rattle.ebpf_machine.specs.Step.{FitsShelf, Served, answer_for, told_by, result_of, asking_in, seen_in}
use Rattle.ebpf_machine.specs.Turns.{IsTurn, AreTurns, AreTurnsWithin, IsEnded}
use Rattle.ebpf_machine.specs.Whole.{granted, refused, is_granted}
use Rattle.ebpf_machine.proofs.World.Asking.{asking_seen}
use Rattle.ebpf_machine.proofs.World.Execs.{IsNextWorld, next_world, shown_run}
use Rattle.ebpf_machine.proofs.World.Lone.{after_none, none_more, outcome_exited, peak_stepped, served_fits_shelf}
use Rattle.ebpf_machine.proofs.World.Owned.{owned_first}
use Rattle.ebpf_machine.proofs.WholeRuns.Told.{HaveSizes, IsReadyIn, IsUnderWay, told_turn, under_way}
use Rattle.ebpf_machine.proofs.WholeRuns.Turning.{exits, few_instructions}
use Rattle.ebpf_one.specs.Reports.{IsReportWith}
use Rattle.ebpf_one.specs.Solo.{next_slot, provided, solo_after, solo_by, solo_next}
use Rattle.ebpf_machine.proofs.World.KeptShelves.{standing_kept}
use Rattle.ebpf_one.proofs.Providing.{AnswersSo, IsShown, IsProvided, provides}

-- ---- the instruction in the world that is provided

module _ {S H : Type 0} (o : Store S H) (s new : S) (r t : RunState H) (a : Alone) (turn : IsTurn o r t s new) (f : Fed) (p : IsProvided o s r turn.step.0 f)
    (sound : IsSound (seen_in o s r)) (alone : IsAlone (seen_in o s r)) where
  abbrev v : RunView
  v = seen_in o s r

  abbrev served : Served
  served = turn.step.0

  shown : (x : Running) × (slice_get f.world.runs 0 ≡ Some x) × (view_of f.world 0 x ≡ v)
  shown = shown_run f.world 0 v p.view

  goes : v.status ≡ Going
  goes = ap status_of turn.going

  -- it is legal
  next : (x : Running) → slice_get f.world.runs 0 ≡ Some x → view_of f.world 0 x ≡ v → (after : World) × IsNextWorld f.world 0 x f.answer after
  next x there seen =
      let asked : asking_of f.world x ≡ asking_in v = asking_seen f.world 0 x p.owned there ∙ ap asking_in seen in
      next_world f.world 0 x f.answer p.owned there (subst IsSound (sym seen) sound) (ap (λ (u : RunView). u.status) seen ∙ goes)
      (ap (λ (k : Asking). answer_fault f.world k f.answer) asked ∙ p.fine)

  fits : FitsShelf v (result_of served)
  fits =
      let kinds = ap (λ (u : RunView). kinds_of u.subject.rows) (sym shown.2) ∙ p.owned.runs.kinds_are 0 shown.0 shown.1 in
      subst (λ (k : Served). FitsShelf v (result_of k)) p.serves (served_fits_shelf f.world v (answer_for served) p.owned kinds)

  -- the world after it holds as many objects at most as the run alone did
  peak_is : (after : World) → IsShown o s r a → view_in after 0 ≡ Some (seen_in o new t)
      → max a.peak (holds_of after 0) ≡ (alone_after t.executed t.subject t.context (replies_of (seen_in o new t))).peak
  peak_is after was view =
      let x = shown_run after 0 (seen_in o new t) view in
      let state : seen_in o new t ≡ stepped (result_of served) v = turn.step.2.state in
      let held : holds_of after 0 ≡ length (seen_in o new t).objects =
      sym (length-map (held_by after 0) (object_in after)) ∙ ap (λ (u : RunView). length u.objects) x.2 in
      ap (λ (n : ℕ). max n (holds_of after 0)) was.peak
      ∙ ap (max (alone_after v.executed v.subject v.context (replies_of v)).peak) (held ∙ ap (λ (u : RunView). length u.objects) state)
      ∙ sym (peak_stepped v (result_of served) sound alone goes fits)
      ∙ (λ i. (alone_after (sym turn.counted i) (sym turn.same.0 i) (sym turn.same.1 i) (replies_of (sym state i))).peak)

  pub shows_next : IsShown o s r a → granted t.replies ≡ granted r.replies + granted (told_by served) → IsShown o new t (advanced (exec f.world 0 f.answer) a)
  shows_next was more = by shown where
    by : (x : Running) × (slice_get f.world.runs 0 ≡ Some x) × (view_of f.world 0 x ≡ v) → IsShown o new t (advanced (exec f.world 0 f.answer) a)
    by (x, there, seen) =
        let n = next x there seen in
        let legal : exec f.world 0 (answer_for served) ≡ Ok n.0 = ap (exec f.world 0) (sym p.answer) ∙ n.1.legal in
        let event = turn.step.2.event f.world n.0 0 p.owned p.view p.slots p.serves legal in
        subst (λ (result : Result World Illegal). IsShown o new t (advanced result a)) (sym n.1.legal) (record {
          owned = n.1.owned;
          view = event.0;
          slots = event.1;
          shelves = λ shelf.
              let stands = event.2 shelf ∙ standing_kept (o.bytes_of s) o.slot_of f.world 0 r p.view p.slots (effect_of_view v) shelf in
              subst (o.stand new shelf) (sym stands) (turn.step.3 shelf (shelved_in f.world shelf) (p.shelves shelf));
          below = λ slot there. let fewer = p.below slot (sym (ap (λ (ls : List (List ℕ)). list_any (is_in slot) ls) n.1.ledgers) ∙ there) in
              omega (arith, fewer, more);
          peak = peak_is n.0 was event.0;
        })

-- ---- at its first instruction

no_slots : (rows : List KindRow) (slot : ℕ) → list_any (is_in slot) (map (λ row. []) rows) ≡ false
no_slots [] slot = refl
no_slots (row ∷ rows) slot = no_slots rows slot

shows_first : {S H : Type 0} (o : Store S H) (s : S) (subject : Subject) (context : List ℕ) → ((shelf : ℕ) → o.stand s shelf None)
    → IsShown o s (first_state_of subject context) (alone_first subject context)
unfolding alone_after
shows_first o s subject context bare = record {
  owned = owned_first subject context;
  view = refl;
  slots = refl;
  shelves = bare;
  below = λ slot there. let none = no_slots subject.rows slot in absurd (cc);
  peak = refl;
}

-- and it is where the run alone begins
pub starts_alone : {H : Type 0} (bytes : H → List ℕ) (subject : Subject) (context : List ℕ) (r : RunState H)
    → r ≡ first_state_of subject context → IsAlone (seen bytes r)
starts_alone {H} bytes subject context r first =
    subst (λ (x : RunState H). IsAlone (seen bytes x)) (sym first) (ap (λ (a : Alone). view_in a.world 0) (after_none subject context (replies_from [] [])))

-- ---- instruction after instruction

-- a run begins over a store that answers so, granted nothing, and has nothing on its shelves; where the store is fine in the end, it was so
-- all the time, and refused no call that was to be granted
pub record IsBegun {S H : Type 0} (o : Store S H) (IsFine : S → Type 0) (nulls : Bool) (first : S) (subject : Subject) (context : List ℕ)
    (r : RunState H) : Type 0 where
  pub so : (told : List Reply) (s : S) → o.goes first told s → AnswersSo o nulls (granted told) s
  pub ample : (s t : S) (told : List Reply) → o.goes s told t → IsFine t → IsFine s × (nulls ≡ false → refused told ≡ 0)
  pub sizes : (s : S) → HaveSizes o s
  pub kinds : o.kinds ≡ kinds_of subject.rows
  pub bare : (shelf : ℕ) → o.stand first shelf None
  pub is : r ≡ first_state_of subject context
  pub starts : IsUnderWay o first first subject context r

module _ {S H : Type 0} (o : Store S H) (IsFine : S → Type 0) (nulls : Bool) (first : S) (subject : Subject) (context : List ℕ) (r : RunState H)
    (begun : IsBegun o IsFine nulls first subject context r) where
  one_more : (s new : S) (between t : RunState H) (a : Alone) → IsUnderWay o first s subject context between → IsShown o s between a
      → (turn : IsTurn o between t s new) → IsFine new → IsShown o new t (solo_next nulls a)
  one_more s new between t a was shown turn fine = by (shown_run a.world 0 v shown.view) where
    v : RunView
    v = seen_in o s between

    given : IsProvided o s between turn.step.0 (provided (asking_in v) nulls (granted between.replies) a.world)
    given =
        provides o nulls s between a turn.step.0 (begun.so between.replies s was.told) shown was.sound (ap status_of turn.going) turn.step.1
        (begun.ample s new (told_by turn.step.0) turn.step.2.store.goes fine).1

    ready : IsReadyIn o s between
    ready = record { out = was.out; sound = was.sound; alone = was.alone; kinds = begun.kinds ∙ ap (λ (x : Subject). kinds_of x.rows) (sym was.subject_is) }

    more : granted t.replies ≡ granted between.replies + granted (told_by turn.step.0)
    more =
        ap (λ (rs : List Reply). granted rs) (told_turn o s new between t (begun.sizes s) ready turn)
        ∙ sum_by-append (λ (x : Reply). cond (is_granted x) 1 0) between.replies (told_by turn.step.0)

    by : (x : Running) × (slice_get a.world.runs 0 ≡ Some x) × (view_of a.world 0 x ≡ v) → IsShown o new t (solo_next nulls a)
    by (x, there, seen) =
        let asked : asking_of a.world x ≡ asking_in v = asking_seen a.world 0 x shown.owned there ∙ ap asking_in seen in
        let slot : next_slot x ≡ granted between.replies = ap (λ (u : RunView). granted u.replies) seen in
        let same : provided (asking_in v) nulls (granted between.replies) a.world ≡ provided (asking_of a.world x) nulls (next_slot x) a.world =
        λ i. provided (sym asked i) nulls (sym slot i) a.world in
        let after = shows_next o s new between t a turn (provided (asking_of a.world x) nulls (next_slot x) a.world)
        (subst (IsProvided o s between turn.step.0) same given) was.sound was.alone shown more in
        subst (λ (running : Option Running). IsShown o new t (solo_by running nulls a)) (sym there) after

  pub shows_after : (number : ℕ) (new : S) (t : RunState H) → AreTurns o number r t first new → IsFine new
      → IsShown o new t (solo_after number subject context nulls)
  unfolding solo_after
  shows_after zero new t turns fine =
      let from_first = shows_first o first subject context begun.bare in
      subst (λ (x : RunState H). IsShown o new x (alone_first subject context)) (sym (turns.0 ∙ begun.is))
      (subst (λ (x : S). IsShown o x (first_state_of subject context) (alone_first subject context)) (sym turns.1) from_first)
  shows_after (suc number) new t turns fine =
      let before =
      shows_after number turns.store turns.run turns.before (begun.ample turns.store new (told_by turns.last.step.0) turns.last.step.2.store.goes fine).0 in
      let was = under_way o first first turns.store subject context number r turns.run begun.sizes begun.kinds begun.starts turns.before in
      one_more turns.store new turns.run t (solo_after number subject context nulls) was before turns.last fine

-- ---- once it has exited

ended_by : (nulls : Bool) (slot : ℕ) (w : World) (x : Running) (n : ℕ) (asked : Asking) → slice_get w.runs 0 ≡ Some x
    → x.status ≡ Exited n → exec (provided asked nulls slot w).world 0 (provided asked nulls slot w).answer ≡ Err RunEnded
ended_by nulls slot w x n Unasked there ended = rw (there, ended) refl
ended_by nulls slot w x n OfNoKind there ended = rw (there, ended) refl
ended_by nulls slot w x n (AtShelf shelf) there ended = rw (there, ended) refl
ended_by true slot w x n (OfKind kind) there ended = rw (there, ended) refl
ended_by false slot w x n (OfKind kind) there ended = rw (there, ended) refl

ended_stays : (nulls : Bool) (a : Alone) (x : Running) (n : ℕ) → slice_get a.world.runs 0 ≡ Some x → x.status ≡ Exited n → solo_next nulls a ≡ a
ended_stays nulls a x n there ended =
    ap (λ (running : Option Running). solo_by running nulls a) there
    ∙ ap (λ (result : Result World Illegal). advanced result a) (ended_by nulls (next_slot x) a.world x n (asking_of a.world x) there ended)

stays_after : (more number : ℕ) (subject : Subject) (context : List ℕ) (nulls : Bool) (x : Running) (n : ℕ)
    → slice_get (solo_after number subject context nulls).world.runs 0 ≡ Some x → x.status ≡ Exited n
    → solo_after (more + number) subject context nulls ≡ solo_after number subject context nulls
unfolding solo_after
stays_after zero number subject context nulls x n there ended = let e : 0 + number ≡ number = omega arith in rw e refl
stays_after (suc more) number subject context nulls x n there ended =
    let before = stays_after more number subject context nulls x n there ended in
    let e : suc more + number ≡ suc (more + number) = omega arith in
    rw (e, before) (ended_stays nulls (solo_after number subject context nulls) x n there ended)

-- ---- the report

-- the most objects that it held are those that the run alone did
reported_peak : {S H : Type 0} (o : Store S H) (s after : S) (t : RunState H) (n : ℕ) (report : Report) → t.exit ≡ Some n
    → IsEnded o t report s after → IsSound (seen_in o s t) → IsAlone (seen_in o s t)
    → report.peak ≡ (alone_after t.executed t.subject t.context (replies_from t.replies t.taken)).peak
reported_peak o s after t n report exited is sound alone =
    let v = seen_in o s t in
    let replies : replies_in report ≡ replies_of v = λ i. replies_from (is.answers i) (is.taken i) in
    let told : outcome_alone t.subject t.context (replies_in report) ≡ outcome_in_report n report =
    subst (λ (e : Option ℕ). IfSome e (λ m. outcome_alone t.subject t.context (replies_in report) ≡ outcome_in_report m report)) exited is.alone in
    let ends = outcome_exited v n sound alone (ap status_of exited) (replies_from [] []) in
    ap (λ (out : Outcome). out.peak) (sym told ∙ ap (outcome_alone t.subject t.context) (replies ∙ sym (none_more (replies_of v))) ∙ ends)

-- so the report of a run that exited is that of the run in a world of its own
pub reports_exit : {S H : Type 0} (o : Store S H) (IsFine : S → Type 0) (nulls : Bool) (first new after : S) (subject : Subject) (context : List ℕ)
    (r t : RunState H) (number n : ℕ) (report : Report)
    → IsBegun o IsFine nulls first subject context r → AreTurns o number r t first new → t.executed ≡ number
    → number ≤ length (instructions subject.program)
    → IsFine new → t.exit ≡ Some n → IsEnded o t report new after → IsReportWith subject context nulls report
reports_exit o IsFine nulls first new after subject context r t number n report begun turns counted few fine exited is =
    by (shown_run a.world 0 v shown.view) where
      was : IsUnderWay o first new subject context t
      was = under_way o first first new subject context number r t begun.sizes begun.kinds begun.starts turns

      v : RunView
      v = seen_in o new t

      a : Alone
      a = solo_after number subject context nulls

      shown : IsShown o new t a
      shown = shows_after o IsFine nulls first subject context r begun number new t turns fine

      outcome : (x : Running) → slice_get a.world.runs 0 ≡ Some x → view_of a.world 0 x ≡ v
          → outcome_of a ≡ record { status = Exited n; output = report.output; executed = report.executed; peak = report.peak }
      outcome x there seen =
          let status : x.status ≡ Exited n = ap (λ (u : RunView). u.status) seen ∙ ap status_of exited in
          let output : x.frame.output ≡ report.output = ap (λ (u : RunView). u.frame.output) seen ∙ sym is.output in
          let executed : x.executed ≡ report.executed = ap (λ (u : RunView). u.executed) seen ∙ sym is.executed in
          let peak : a.peak ≡ report.peak = shown.peak ∙ sym (reported_peak o new after t n report exited is was.sound was.alone) in
          rw (there, status, output, executed, peak) refl

      by : (x : Running) × (slice_get a.world.runs 0 ≡ Some x) × (view_of a.world 0 x ≡ v) → IsReportWith subject context nulls report
      by (x, there, seen) =
          let rest = length (instructions subject.program) - number in
          let all : length (instructions subject.program) ≡ rest + number = omega (arith, few) in
          let stays = stays_after rest number subject context nulls x n there (ap (λ (u : RunView). u.status) seen ∙ ap status_of exited) in
          record {
            exit = n;
            exited = is.exit ∙ exited;
            same = ap (λ (m : ℕ). outcome_of (solo_after m subject context nulls)) all ∙ ap outcome_of stays ∙ outcome x there seen;
          }

-- as no program has as many instructions as the run may do, it exits
pub report_solo : {S H : Type 0} (o : Store S H) (IsFine : S → Type 0) (limit : ℕ) (first new after : S) (r t : RunState H)
    → AreTurnsWithin o limit r t first new → 4096 < limit → t.executed ≤ length (instructions t.subject.program)
    → (nulls : Bool) (subject : Subject) (context : List ℕ) → IsBegun o IsFine nulls first subject context r
    → IsFine new → (report : Report) → IsEnded o t report new after → IsReportWith subject context nulls report
report_solo o IsFine limit first new after r t within many bounded nulls subject context begun fine report is =
    let was = under_way o first first new subject context within.number r t begun.sizes begun.kinds begun.starts within.turns in
    let exited = exits o limit r t first new (let few = few_instructions (o.bytes_of new) t was.sound in omega (arith, few, many)) bounded within in
    let none : r.executed ≡ 0 = ap (λ (x : RunState _). x.executed) begun.is in
    let counted : t.executed ≡ within.number = omega (arith, within.counted, none) in
    let same = ap (λ (s : Subject). length (instructions s.program)) was.subject_is in
    reports_exit o IsFine nulls first new after subject context r t within.number exited.0 report begun within.turns counted
    (omega (arith, bounded, counted, same)) fine exited.1 is
