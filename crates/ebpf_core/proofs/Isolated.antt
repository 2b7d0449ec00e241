-- Every legal list of events leaves each run to itself.
use Rattle.std.proofs.Common.{◌≡◌, ◌≢◌, ◌⊎◌, inl, inr, ℕ, ◌+◌, ◌≤◌, All, List, [], ◌∷◌, ◌++◌, filter, length, map, Option, Some, None, Result, Ok}
use Rattle.std.proofs.Common.{Err, refl, sym, ap, ◌∙◌, subst, append_assoc, append-nil, take, arith}
use Rattle.std.specs.Prelude.{slice_get}
use Rattle.std.proofs.lemmas.Bool.{eq-eqb, ne_eqb}
use Rattle.std.proofs.lemmas.Grind.{common_steps}
use Rattle.std.proofs.lemmas.List.{length-map}
use Rattle.std.proofs.lemmas.Option.{slice_get_past}
use Rattle.std.proofs.lemmas.Simd.{map-map}
use Rattle.ebpf_verify.specs.Subject.{Subject}
use Rattle.ebpf_verify.specs.Verdict.{IsAccepted}
use Rattle.ebpf_machine.specs.declared.report.Reply.{Reply}
use Rattle.ebpf_machine.specs.World.{World, Running, Going, Exited, Trapped, Status, held_by, first_run}
use Rattle.ebpf_machine.specs.Kinds.{known_kinds}
use Rattle.ebpf_machine.specs.Events.{Illegal, Asking, answer_fault, started}
use Rattle.ebpf_machine.specs.Alone.{Outcome, alone_after, outcome_alone, replies_from}
use Rattle.ebpf_machine.specs.View.{ObjectView, RunView, object_in, view_of, view_in, stepped}
use Rattle.ebpf_machine.specs.RunState.{first_state_of}
use Rattle.ebpf_machine.specs.Step.{FitsShelf, result_of, served_in, asking_in}
use Rattle.ebpf_machine.specs.Sound.{IsSound, IsAlone, IsOwned, IsWellStated, AreSized}
use Rattle.ebpf_machine.proofs.World.Asking.{asking_seen}
use Rattle.ebpf_machine.proofs.World.Owned.{owned_empty}
use Rattle.ebpf_machine.proofs.World.Steps.{going_of, bounded, first_sound, sound_stepped}
use Rattle.ebpf_machine.proofs.World.Execs.{sized_in, shown_run}
use Rattle.ebpf_machine.proofs.World.Lone.{served_fits_shelf, none_more, alone_stepped, seen_alone, outcome_exited}
use Rattle.ebpf_shelves.specs.declared.object.Object.{Object}
use Rattle.ebpf_machine.specs.declared.answer.Answer.{Answer}
use Rattle.ebpf_core.specs.declared.event.Event.{Event}
use Rattle.ebpf_core.specs.declared.event.Event.TheVariants.{Start, Exec, Grow, Reap}
use Rattle.ebpf_core.specs.Events.{first_world, happened}
use Rattle.ebpf_core.specs.Shown.{run_seen}
use Rattle.ebpf_machine.specs.Kinds.{AreKnown}
use Rattle.ebpf_core.specs.Replay.{and_then, world_after_from}
use Rattle.ebpf_core.specs.Isolation.{is_to_new, answers_to, answer_in, reply_by, replies_to, IsUntrapped, IsWhereAlone, IsOutcomeOf, IsIsolated}
use Rattle.ebpf_core.specs.Isolation.{IsSafe, IsAlwaysSafe}
use Rattle.ebpf_core.proofs.LegalAnswers.{told_next}
use Rattle.ebpf_core.proofs.OtherRuns.{own_run, AreSound, IsEventOf, IsExec, start_next, exec_next, event_next}
use Rattle.ebpf_machine.proofs.World.Owners.{kind_there, owned_there, shelf_once}
use Rattle.ebpf_core.proofs.OwnedSlots.{unheld}
use Rattle.ebpf_core.proofs.Runs.{at_number, is_number, get_last, first_alone}

-- what every event keeps: the world fits together, each run is sound, is where the run alone is, and was answered what the events
-- answered it, which is nothing before it starts
record IsOwn (v : RunView) (answers : List Reply) : Type 0 where
  sound : IsSound v
  alone : IsAlone v
  told : filter is_to_new v.replies ≡ answers

record IsKept (w : World) (events : List Event) : Type 0 where
  owned : IsOwned w
  kinds : w.kinds ≡ known_kinds
  runs : (k : ℕ) (run : Running) → slice_get w.runs k ≡ Some run → IsOwn (view_of w k run) (answers_to k events)
  unanswered : (k : ℕ) → slice_get w.runs k ≡ None → answers_to k events ≡ []

-- the answers of the events so far, and that of one more
answers_more : (k : ℕ) (events : List Event) (e : Event) → answers_to k (events ++ e ∷ []) ≡ answers_to k events ++ answer_in k e
answers_more k [] e = append-nil (answer_in k e)
answers_more k (x ∷ events) e =
    ap (λ (rest : List Reply). answer_in k x ++ rest) (answers_more k events e) ∙ sym (append_assoc (answer_in k x) (answers_to k events) (answer_in k e))

answers_same : (k : ℕ) (events : List Event) (e : Event) → answer_in k e ≡ [] → answers_to k (events ++ e ∷ []) ≡ answers_to k events
answers_same k events e none = answers_more k events e ∙ ap (λ (rest : List Reply). answers_to k events ++ rest) none ∙ append-nil (answers_to k events)

-- an event brings its answer to its own run, and to no other
answer_own : (number : ℕ) (answer : Answer) → answer_in number (Exec number answer) ≡ reply_by answer
answer_own number answer = rw (eq-eqb number number refl) refl

answer_other : (w : World) (k : ℕ) (e : Event) → own_run w e ≢ Some k → answer_in k e ≡ []
answer_other w k (Start program context) ne = refl
answer_other w k (Exec number answer) ne = let other = ne_eqb number k (λ same. ne (ap Some same)) in rw other refl
answer_other w k (Grow kind slot) ne = refl
answer_other w k (Reap kind slot) ne = refl

same_of : {X : Type 0} (o : Option X) (a b : X) → o ≡ Some a → o ≡ Some b → a ≡ b
same_of o a b e f = cc

-- ---- a run that the event isn't of

sound_kept : (w : World) (events : List Event) → IsKept w events → AreSound w
sound_kept w events h = λ k run at. (h.runs k run at).sound

own_left : (w v : World) (events : List Event) (e : Event) (k : ℕ) (run : Running) → IsKept w events → IsEventOf w v (own_run w e)
    → own_run w e ≢ Some k → slice_get v.runs k ≡ Some run → IsOwn (view_of v k run) (answers_to k (events ++ e ∷ []))
own_left w v events e k run h next ne there =
    let seen : view_in v k ≡ Some (view_of v k run) = rw there refl in
    let before = shown_run w k (view_of v k run) (sym (next.left k ne).view ∙ seen) in
    subst (IsOwn (view_of v k run)) (sym (answers_same k events e (answer_other w k e ne)))
    (subst (λ (x : RunView). IsOwn x (answers_to k events)) before.2 (h.runs k before.0 before.1))

-- there is no run then either where there was none
none_left : (w v : World) (events : List Event) (e : Event) (k : ℕ) → IsKept w events → IsEventOf w v (own_run w e)
    → own_run w e ≢ Some k → slice_get v.runs k ≡ None → answers_to k (events ++ e ∷ []) ≡ []
none_left w v events e k h next ne none =
    let unseen : view_in v k ≡ None = rw none refl in
    answers_same k events e (answer_other w k e ne) ∙ h.unanswered k (unshown (slice_get w.runs k) refl (sym (next.left k ne).view ∙ unseen))
  where
    unshown : (o : Option Running) → slice_get w.runs k ≡ o → view_in w k ≡ None → slice_get w.runs k ≡ None
    unshown None there unseen = there
    unshown (Some r) there unseen = let seen : view_in w k ≡ Some (view_of w k r) = rw there refl in absurd (cc)

-- ---- a run starts

own_first : (w : World) (s : Subject) (context : List ℕ) (k : ℕ) → IsAccepted s → length context ≡ s.decl.context → IsOwned w
    → slice_get w.runs k ≡ None → IsOwn (view_of w k (first_run s context)) []
own_first w s context k accepted long owned none =
    let v : RunView = run_seen (first_state_of s context) in
    let same : v ≡ view_of w k (first_run s context) = rw (unheld w k owned none) refl in
    subst (λ (u : RunView). IsOwn u []) same
    (record { sound = first_sound {H = Object} (λ o. o.bytes.items) s context accepted long; alone = first_alone s context; told = refl })

started_own : (w : World) (events : List Event) (s : Subject) (context bytes : List ℕ) (program : ℕ) (run : Running) → IsAccepted s
    → length context ≡ s.decl.context → IsKept w events
    → slice_get (started s context w).runs (length w.runs) ≡ Some run
    → IsOwn (view_of (started s context w) (length w.runs) run) (answers_to (length w.runs) (events ++ Start program bytes ∷ []))
started_own w events s context bytes program run accepted long h there =
    let k = length w.runs in
    let none : slice_get w.runs k ≡ None = slice_get_past w.runs k (omega arith) in
    let same : first_run s context ≡ run = same_of _ _ _ (get_last w.runs (first_run s context)) there in
    let silent = answers_same k events (Start program bytes) refl ∙ h.unanswered k none in
    subst (IsOwn (view_of (started s context w) k run)) (sym silent)
    (subst (λ (r : Running). IsOwn (view_of w k r) []) same (own_first w s context k accepted long h.owned none))

-- ---- a run does an instruction

own_next : (w : World) (v : RunView) (answers : List Reply) (answer : Answer) → IsOwn v answers → AreSized v → v.status ≡ Going
    → answer_fault w (asking_in v) answer ≡ None
    → FitsShelf v (result_of (served_in w (asking_in v) answer))
    → IsOwn (stepped (result_of (served_in w (asking_in v) answer)) v) (answers ++ reply_by answer)
own_next w v answers answer own sized going fine fits = record {
  sound = sound_stepped v (result_of (served_in w (asking_in v) answer)) own.sound sized going;
  alone = alone_stepped v (result_of (served_in w (asking_in v) answer)) own.sound own.alone going fits;
  told = told_next w v answer own.sound sized going fine ∙ ap (λ (rs : List Reply). rs ++ reply_by answer) own.told;
}

stepped_own : (w v : World) (events : List Event) (number : ℕ) (answer : Answer) (run : Running) → IsKept w events
    → IsExec w number answer v → slice_get v.runs number ≡ Some run
    → IsOwn (view_of v number run) (answers_to number (events ++ Exec number answer ∷ []))
stepped_own w v events number answer run h exec there =
    let u = view_of w number exec.r in
    let seen : view_in v number ≡ Some (view_of v number run) = rw there refl in
    let asks = asking_seen w number exec.r h.owned exec.there in
    let fine = subst (λ (asked : Asking). answer_fault w asked answer ≡ None) asks exec.fine in
    let served = ap (λ (asked : Asking). Some (stepped (result_of (served_in w asked answer)) u)) asks in
    let next = own_next w u (answers_to number events) answer (h.runs number exec.r exec.there) (sized_in w number exec.r h.owned exec.there) exec.going fine
    (served_fits_shelf w u answer h.owned (h.owned.runs.kinds_are number exec.r exec.there)) in
    let answers : answers_to number events ++ reply_by answer ≡ answers_to number (events ++ Exec number answer ∷ []) =
    ap (λ (more : List Reply). answers_to number events ++ more) (sym (answer_own number answer)) ∙ sym (answers_more number events (Exec number answer)) in
    subst (IsOwn (view_of v number run)) answers
    (subst (λ (x : RunView). IsOwn x (answers_to number events ++ reply_by answer)) (same_of _ _ _ (exec.next.seen ∙ served) seen) next)

-- ---- every event

-- the run that the event is of
own_event : (programs : List Subject) (e : Event) (w v : World) (events : List Event) (k : ℕ) (run : Running)
    → All IsAccepted programs → IsKept w events → happened programs e w ≡ Ok v → own_run w e ≡ Some k
    → slice_get v.runs k ≡ Some run → IsOwn (view_of v k run) (answers_to k (events ++ e ∷ []))
own_event programs (Start program context) w v events k run all h is own there =
    let start = start_next programs program context w v is in
    let same : length w.runs ≡ k = cc in
    let there_now = ap (λ (u : World). slice_get u.runs k) start.is ∙ there in
    subst (λ (u : World). IsOwn (view_of u k run) (answers_to k (events ++ Start program context ∷ []))) start.is
    (subst (λ (i : ℕ). slice_get (started start.subject context w).runs i ≡ Some run
    → IsOwn (view_of (started start.subject context w) i run) (answers_to i (events ++ Start program context ∷ []))) same
    (λ at. started_own w events start.subject context context program run (at_number IsAccepted programs program start.subject all start.there) start.long h
    at) there_now)
own_event programs (Exec number answer) w v events k run all h is own there =
    let exec = exec_next w v number answer h.owned (sound_kept w events h) is in
    let same : number ≡ k = cc in
    subst (λ (i : ℕ). slice_get v.runs i ≡ Some run → IsOwn (view_of v i run) (answers_to i (events ++ Exec number answer ∷ []))) same
    (λ at. stepped_own w v events number answer run h exec at) there
own_event programs (Grow kind slot) w v events k run all h is own there = absurd (cc)
own_event programs (Reap kind slot) w v events k run all h is own there = absurd (cc)

-- it is there then
own_there : (programs : List Subject) (e : Event) (w v : World) (events : List Event) (k : ℕ) → IsKept w events
    → happened programs e w ≡ Ok v → own_run w e ≡ Some k → slice_get v.runs k ≢ None
own_there programs (Start program context) w v events k h is own none =
    let start = start_next programs program context w v is in
    let same : length w.runs ≡ k = cc in
    let last : slice_get (started start.subject context w).runs k ≡ Some (first_run start.subject context) =
    ap (slice_get (started start.subject context w).runs) (sym same) ∙ get_last w.runs (first_run start.subject context) in
    let there_now = ap (λ (u : World). slice_get u.runs k) start.is ∙ none in
    absurd (cc)
own_there programs (Exec number answer) w v events k h is own none =
    let exec = exec_next w v number answer h.owned (sound_kept w events h) is in
    let same : number ≡ k = cc in
    let unseen : view_in v k ≡ None = rw none refl in
    let seen = ap (view_in v) (sym same) ∙ exec.next.seen in
    absurd (cc)
own_there programs (Grow kind slot) w v events k h is own none = absurd (cc)
own_there programs (Reap kind slot) w v events k h is own none = absurd (cc)

kept_by : (programs : List Subject) (e : Event) (w v : World) (events : List Event) → All IsAccepted programs → AreKnown programs
    → IsKept w events → happened programs e w ≡ Ok v → IsKept v (events ++ e ∷ [])
kept_by programs e w v events all known h is = record {
  owned = next.owned;
  kinds = next.kinds ∙ h.kinds;
  runs = λ k run there. at_run k run there (is_number (own_run w e) k);
  unanswered = λ k none. silent k none (is_number (own_run w e) k);
}
  where
    next : IsEventOf w v (own_run w e)
    next = event_next programs e w v known h.owned h.kinds (sound_kept w events h) is

    at_run : (k : ℕ) (run : Running) → slice_get v.runs k ≡ Some run → (own_run w e ≡ Some k) ⊎ (own_run w e ≢ Some k)
        → IsOwn (view_of v k run) (answers_to k (events ++ e ∷ []))
    at_run k run there (inl own) = own_event programs e w v events k run all h is own there
    at_run k run there (inr ne) = own_left w v events e k run h next ne there

    silent : (k : ℕ) → slice_get v.runs k ≡ None → (own_run w e ≡ Some k) ⊎ (own_run w e ≢ Some k) → answers_to k (events ++ e ∷ []) ≡ []
    silent k none (inl own) = absurd (own_there programs e w v events k h is own none)
    silent k none (inr ne) = none_left w v events e k h next ne none

-- ---- so every list keeps it

first_owned : IsOwned first_world
first_owned = owned_empty known_kinds known_kinds refl

first_kept : IsKept first_world []
first_kept = record { owned = first_owned; kinds = refl; runs = λ k run at. absurd (cc); unanswered = λ k past. refl }

world_after_kept : (programs : List Subject) (rest events : List Event) (index : ℕ) (w v : World) → All IsAccepted programs
    → AreKnown programs → IsKept w events → world_after_from programs rest index w ≡ Ok v → IsKept v (events ++ rest)
unfolding world_after_from
world_after_kept programs [] events index w v all known h e =
    let same : w ≡ v = cc in
    let whole : events ++ [] ≡ events = grind (arith, common_steps) in
    rw whole (subst (λ (u : World). IsKept u events) same h)
world_after_kept programs (x ∷ rest) events index w v all known h e =
    subst (IsKept v) (append_assoc events (x ∷ []) rest)
    (next (happened programs x w) refl e (λ u k f. world_after_kept programs rest (events ++ x ∷ []) (index + 1) u v all known k f))
  where
    next : (r : Result World Illegal) → happened programs x w ≡ r
        → and_then r index (world_after_from programs rest (index + 1)) ≡ Ok v
        → ((u : World) → IsKept u (events ++ x ∷ []) → world_after_from programs rest (index + 1) u ≡ Ok v → IsKept v ((events ++ x ∷ []) ++ rest))
        → IsKept v ((events ++ x ∷ []) ++ rest)
    next (Err why) is e go = absurd (cc)
    next (Ok u) is e go = go u (kept_by programs x w u events all known h is) e

-- ---- a run of such a world is isolated

untrapped : (v : RunView) → IsSound v → IsUntrapped v.status
untrapped v sound = by_status v.status sound.stated where
  by_status : (s : Status) → IsWellStated s v → IsUntrapped s
  by_status Going h = tt
  by_status (Exited n) h = tt
  by_status (Trapped trap) h = h

alone_of : (w : World) (k : ℕ) (run : Running) (answers : List Reply) → IsOwn (view_of w k run) answers → IsWhereAlone w k run
alone_of w k run answers own =
    let h = seen_alone (view_of w k run) own.sound own.alone in
    let bytes_of : ObjectView → List ℕ = λ x. x.bytes in
    let world : World = (alone_after run.executed run.subject run.context (replies_to run)).world in
    record {
      alone = h.lone.run;
      only = h.lone.only;
      pc = sym (ap (λ (v : RunView). v.pc) h.seen);
      output = sym (ap (λ (v : RunView). v.frame.output) h.seen);
      objects = sym (map-map bytes_of (object_in w) (held_by w k)) ∙ (sym (ap (λ (v : RunView). map bytes_of v.objects) h.seen)
          ∙ map-map bytes_of (object_in world) (held_by world 0));
      executed = sym (ap (λ (v : RunView). v.executed) h.seen);
      status = sym (ap (λ (v : RunView). v.status) h.seen);
    }

outcome_of_run : (w : World) (k : ℕ) (run : Running) (answers : List Reply) (n : ℕ) → IsOwn (view_of w k run) answers
    → run.status ≡ Exited n → IsOutcomeOf run n (outcome_alone run.subject run.context (replies_to run))
outcome_of_run w k run answers n own ended =
    let is = ap (outcome_alone run.subject run.context) (sym (none_more (replies_to run)))
    ∙ outcome_exited (view_of w k run) n own.sound own.alone ended (replies_from [] []) in
    record { status = ap (λ (o : Outcome). o.status) is; output = ap (λ (o : Outcome). o.output) is; executed = ap (λ (o : Outcome). o.executed) is }

-- a run that exited holds nothing, and any other no more than it declared
none_held : (v : RunView) (n : ℕ) → IsSound v → v.status ≡ Exited n → length v.objects ≡ 0
none_held v n sound ended = ap (λ (os : List ObjectView). length os) (subst (λ (s : Status). IsWellStated s v) ended sound.stated).returned

few_held : (v : RunView) → IsSound v → length v.objects ≤ v.subject.decl.held
few_held v sound = by_status v.status refl where
  by_status : (s : Status) → v.status ≡ s → length v.objects ≤ v.subject.decl.held
  by_status Going e = (going_of v sound e).declared
  by_status (Exited n) e = let none = none_held v n sound e in omega (arith, none)
  by_status (Trapped trap) e = absurd (subst (λ (s : Status). IsWellStated s v) e sound.stated)

isolated : (w : World) (events : List Event) (k : ℕ) (run : Running) → IsKept w events → slice_get w.runs k ≡ Some run
    → IsIsolated w k run (answers_to k events)
isolated w events k run h at =
    let own = h.runs k run at in
    let v = view_of w k run in
    let many = length-map (held_by w k) (object_in w) in
    record {
      untrapped = untrapped v own.sound;
      told = own.told;
      alone = alone_of w k run (answers_to k events) own;
      ended = λ n ended. outcome_of_run w k run (answers_to k events) n own ended;
      bounded = bounded v own.sound;
      declared = let few = few_held v own.sound in omega (arith, many, few);
      returned = λ n ended. let none = none_held v n own.sound ended in sym many ∙ none;
    }

safe_kept : (w : World) (events : List Event) → IsKept w events → IsSafe w events
safe_kept w events h = record {
  runs = λ k run at. isolated w events k run h at;
  held_once = h.owned.holders.once;
  shelved_once = λ shelf. shelf_once w shelf h.owned;
  in_ledger = λ o among. record {
    once = h.owned.holders.in_ledger o among;
    there = kind_there w o.slot (owned_there w o h.owned among);
    asked =
        h.owned.runs.asked o among;
  };
  imaged = h.owned.ledgers.imaged;
}

-- the main theorem: every beginning of a list, where it is legal, leads to a safe world
pub always_safe : (programs : List Subject) (events : List Event) → All IsAccepted programs → AreKnown programs → IsAlwaysSafe programs events
always_safe programs events all known =
    λ n w e. safe_kept w (take n events) (world_after_kept programs (take n events) [] 0 first_world w all known first_kept e)
