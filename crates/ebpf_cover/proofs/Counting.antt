-- A run that is counted instruction by instruction: its counts are those of the run alone, whatever replies come after its own.
use Rattle.std.proofs.Common.{◌≡◌, ℕ, zero, suc, ◌+◌, ◌<◌, ◌==◌, get_or, true, false, ◌&&◌, not, cond, Bool, List, [], length, Option, Some, None}
use Rattle.std.proofs.Common.{option_map, refl, sym, ap, ◌∙◌, subst, append_assoc, arith, add-zero, add-one}
use Rattle.std.specs.Prelude.{IfNone, is_none}
use Rattle.std.proofs.lemmas.Bool.Decides.{nat_tests}
use Rattle.ebpf_verify.specs.Subject.{Subject}
use Rattle.ebpf_insn.specs.declared.insn.Insn.{Insn}
use Rattle.ebpf_insn.specs.Program.{insn_at}
use Rattle.ebpf_insn.proofs.ProgramLemmas.{insn_at_within}
use Rattle.ebpf_machine.specs.Sound.{IsGoing, IsWellStated}
use Rattle.ebpf_machine.specs.World.{Status, Going, kinds_of}
use Rattle.ebpf_machine.specs.Alone.{Replies, replies_from, alone_after}
use Rattle.ebpf_machine.specs.Replies.{replies_of, replies_in, more_than}
use Rattle.ebpf_machine.specs.View.{RunView, view_in, stepped}
use Rattle.ebpf_machine.specs.RunState.{RunState, status_of}
use Rattle.ebpf_machine.specs.Step.{IsStepOver, seen_in, result_of}
use Rattle.ebpf_machine.specs.declared.report.Report.{Report}
use Rattle.ebpf_machine.specs.declared.run.Turn.{Turn}
use Rattle.ebpf_machine.specs.Store.{Store, AreGone, OthersStay}
use Rattle.ebpf_machine.specs.Turns.{IsTurn, IsAfterSteps, AreTurns, AreTurnsWithin}
use Rattle.ebpf_machine.proofs.World.Asking.{Asks, ForNothing, ForObject, ForShelf, asks_of}
use Rattle.ebpf_machine.proofs.World.Lone.{alone_more, none_more}
use Rattle.ebpf_machine.proofs.World.Replies.{one_told, one_swapped, replies_kept, replies_added, replies_swapped}
use Rattle.ebpf_machine.proofs.World.Steps.{next_of}
use Rattle.ebpf_machine.proofs.WholeRuns.Told.{HaveSizes, IsUnderWay, sized_out, under_way}
use Rattle.ebpf_cover.specs.declared.tally.Tally.{Tally}
use Rattle.ebpf_cover.specs.Covered.{IsRunCounted, times, slot_after, is_slot, is_at, leaves}
use Rattle.ebpf_cover.specs.Stretches.{goes_on, IsTally, IsNoted, slots_in, begun_at, executed_so_far, taken_so_far}
use Rattle.ebpf_cover.proofs.Stretching.{IsStretch, stretch_at, is_within, passed_more}
use Rattle.ebpf_cover.proofs.GoingOn.{straight_on}

-- ---- steps

-- a step of a run that has not exited
pub turn_of_step : {S H : Type 0} (o : Store S H) (how : Turn) (old new : S) (r t : RunState H) → r.exit ≡ None → IsAfterSteps o how r t old new → IfNone r.exit (IsStepOver o r t old new)
    → AreGone o new r.held t.held → OthersStay o old new r.held → IfNone r.exit (t.executed ≡ r.executed + 1) → IsTurn o r t old new
turn_of_step o how old new r t going after step gone others counted = record {
  going = going;
  step = subst (λ (e : Option ℕ). IfNone e (IsStepOver o r t old new)) going step;
  out = after.out;
  alone = after.alone;
  sound = after.sound;
  same = after.same;
  gone = gone;
  others = others;
  counted = subst (λ (e : Option ℕ). IfNone e (t.executed ≡ r.executed + 1)) going counted;
}

-- it is n steps and one, where n is 0
pub one_turn : {S H : Type 0} (o : Store S H) (n : ℕ) (old new : S) (r t : RunState H) → n ≡ 0 → IsTurn o r t old new → AreTurns o (n + 1) r t old new
one_turn {S} {H} o n old new r t none turn = let one : 1 ≡ n + 1 = omega (arith, none) in subst (λ (m : ℕ). AreTurns o m r t old new) one (record { run = r; store = old; before = (refl, refl); last = turn })

-- n steps and one are all that a run does within this limit, where it counts as many
pub all_turns : {S H : Type 0} (o : Store S H) (n : ℕ) (old new : S) (r t : RunState H) → AreTurnsWithin o (n + 1) r t old new → t.executed ≡ r.executed + n + 1 → AreTurns o (n + 1) r t old new
all_turns o n old new r t turns did = let number : turns.number ≡ n + 1 = omega (arith, turns.counted, did) in subst (λ (m : ℕ). AreTurns o m r t old new) number turns.turns

-- ---- the replies of a run after a step are those before, and maybe more

pub grown : {S H : Type 0} (o : Store S H) (old new : S) (r t : RunState H) (first : S) (subject : Subject) (context : List ℕ) → HaveSizes o old → o.kinds ≡ kinds_of r.subject.rows
    → IsUnderWay o first old subject context r → IsTurn o r t old new
    → (more : Replies) × (replies_of (seen_in o new t) ≡ more_than (replies_of (seen_in o old r)) more)
grown o old new r t first subject context sizes known is turn = by (asks_of v (next_of v is.sound (sized_out o old r sizes known is.out) now)) where
  v : RunView
  v = seen_in o old r

  now : v.status ≡ Going
  now = ap status_of turn.going

  state : replies_of (seen_in o new t) ≡ replies_of (stepped (result_of turn.step.0) v)
  state = ap replies_of turn.step.2.state

  by : Asks v → (more : Replies) × (replies_of (seen_in o new t) ≡ more_than (replies_of v) more)
  by (ForNothing unasked) = (replies_from [] [], state ∙ replies_kept v (result_of turn.step.0) now unasked ∙ sym (none_more (replies_of v)))
  by (ForObject kind asked new_one) = (one_told (result_of turn.step.0), state ∙ replies_added v (result_of turn.step.0) kind now new_one)
  by (ForShelf shelf asked new_one) = (one_swapped (result_of turn.step.0), state ∙ replies_swapped v (result_of turn.step.0) shelf now new_one)

more_more : (a b c : Replies) → more_than (more_than a b) c ≡ more_than a (more_than b c)
more_more a b c = λ i. replies_from (append_assoc a.answers b.answers c.answers i) (append_assoc a.taken b.taken c.taken i)

-- ---- where the run alone is

there : (v : RunView) (n : ℕ) (subject : Subject) (context : List ℕ) (replies : Replies) → v.executed ≡ n → v.subject ≡ subject → v.context ≡ context
    → view_in (alone_after v.executed v.subject v.context replies).world 0 ≡ Some v → slot_after subject context replies n ≡ Some v.pc
there v n subject context replies executed same_subject same_context seen =
    rw (← executed, ← same_subject, ← same_context) (ap (option_map (λ (u : RunView). u.pc)) seen)

-- ---- a run that goes on is at one of its program's slots

some_inside : (p : List (Option Insn)) (k : ℕ) → is_none (insn_at p k) ≡ false → k < length p
some_inside p k some = by (insn_at p k) refl some where
  by : (i : Option Insn) → insn_at p k ≡ i → is_none i ≡ false → k < length p
  by None e is = absurd (cc)
  by (Some i) e is = insn_at_within p k i e

pub inside_tally : {S H : Type 0} (o : Store S H) (first now : S) (subject : Subject) (context : List ℕ) (r : RunState H) (t : Tally) (at : ℕ) → IsUnderWay o first now subject context r
    → r.exit ≡ None → IsTally subject.program t → at ≡ r.pc → at < slots_in t
inside_tally o first now subject context r t at under going tally is = omega (arith, is, here, tally.long, ap (λ (s : Subject). length s.program) under.subject_is) where
  v : RunView
  v = seen_in o now r

  stated : IsGoing v
  stated = subst (λ (status : Status). IsWellStated status v) (ap status_of going) under.sound.stated

  here : r.pc < length r.subject.program
  here = some_inside r.subject.program r.pc stated.inside

-- ---- counts of a run under way

-- how often each slot was executed and left, before the run and now
pub record IsCounted {S H : Type 0} (o : Store S H) (first now : S) (subject : Subject) (context : List ℕ) (r : RunState H) (executed_old taken_old executed_new taken_new : ℕ → ℕ) : Type 0 where
  pub under : IsUnderWay o first now subject context r
  pub executed : (more : Replies) (slot : ℕ) → executed_new slot ≡ executed_old slot + times (is_at subject context (more_than (replies_of (seen_in o now r)) more) slot) r.executed
  pub taken : (more : Replies) (slot : ℕ) → taken_new slot ≡ taken_old slot + times (leaves subject context (more_than (replies_of (seen_in o now r)) more) slot) r.executed

pub none_counted : {S H : Type 0} (o : Store S H) (s : S) (subject : Subject) (context : List ℕ) (r : RunState H) (executed taken : ℕ → ℕ)
    → IsUnderWay o s s subject context r → r.executed ≡ 0 → IsCounted o s s subject context r executed taken executed taken
unfolding times
none_counted o s subject context r executed taken under none = record {
  under = under;
  executed = λ more slot. sym (add-zero (executed slot)) ∙ ap (λ (n : ℕ). executed slot + times (is_at subject context (more_than (replies_of (seen_in o s r)) more) slot) n) (sym none);
  taken = λ more slot. sym (add-zero (taken slot)) ∙ ap (λ (n : ℕ). taken slot + times (leaves subject context (more_than (replies_of (seen_in o s r)) more) slot) n) (sym none);
}

-- one number more
one_more : (is : ℕ → Bool) (n : ℕ) → times is (n + 1) ≡ times is n + cond (is n) 1 0
unfolding times
one_more is n = rw add-one refl

-- the count of a slot with one number more, which was counted before by the same test
count_more : (is before : ℕ → Bool) (n m : ℕ) (b : Bool) (old was now : ℕ) → is n ≡ b → times before n ≡ times is n → m ≡ n + 1
    → was ≡ old + times before n → now ≡ was + cond b 1 0 → now ≡ old + times is m
count_more is before n m b old was now here same next earlier more =
    let one = ap (λ (t : Bool). cond {A = ℕ} t 1 0) here in let counted = ap (times is) next ∙ one_more is n in omega arith

-- an instruction is counted: the slot at which a run was before it, and the one after it
record IsOneMore (at next : ℕ) (executed_old taken_old executed_new taken_new : ℕ → ℕ) : Type 0 where
  executed : (slot : ℕ) → executed_new slot ≡ executed_old slot + cond (at == slot) 1 0
  taken : (slot : ℕ) → taken_new slot ≡ taken_old slot + cond ((at == slot) && not (next == slot + 1)) 1 0

-- one instruction more
one_counted : {S H : Type 0} (o : Store S H) (first old new : S) (subject : Subject) (context : List ℕ) (r t : RunState H) (executed_old taken_old executed_was taken_was executed_is taken_is : ℕ → ℕ)
    → ((s : S) → HaveSizes o s) → o.kinds ≡ kinds_of subject.rows → IsCounted o first old subject context r executed_old taken_old executed_was taken_was → IsTurn o r t old new
    → IsOneMore r.pc t.pc executed_was taken_was executed_is taken_is → IsCounted o first new subject context t executed_old taken_old executed_is taken_is
one_counted {S} {H} o first old new subject context r t executed_old taken_old executed_was taken_was executed_is taken_is sizes kinds h turn noted = record {
  under = under;
  executed = λ more slot.
      count_more (is_at subject context (all more) slot) (is_at subject context (more_than (replies_of (seen_in o old r)) (on more)) slot) r.executed t.executed (r.pc == slot) _ _ _
      (ap (λ (o : Option ℕ). is_slot o slot) (at_first more)) (ap (λ (rs : Replies). times (is_at subject context rs slot) r.executed) (is_all more))
      turn.counted (h.executed (on more) slot) (noted.executed slot);
  taken = λ more slot.
      let same : leaves subject context (all more) slot r.executed ≡ ((r.pc == slot) && not (t.pc == slot + 1)) =
      ap (λ (o : Option ℕ). is_slot o slot && not (is_at subject context (all more) (slot + 1) (r.executed + 1))) (at_first more)
      ∙ ap (λ (o : Option ℕ). (r.pc == slot) && not (is_slot o (slot + 1))) (at_last more) in
      count_more (leaves subject context (all more) slot) (leaves subject context (more_than (replies_of (seen_in o old r)) (on more)) slot) r.executed t.executed _ _ _ _
      same (ap (λ (rs : Replies). times (leaves subject context rs slot) r.executed) (is_all more)) turn.counted (h.taken (on more) slot) (noted.taken slot);
}
  where
    under : IsUnderWay o first new subject context t
    under = under_way o first old new subject context 1 r t sizes kinds h.under (record { run = r; store = old; before = (refl, refl); last = turn })

    known : o.kinds ≡ kinds_of r.subject.rows
    known = kinds ∙ ap (λ (s : Subject). kinds_of s.rows) (sym h.under.subject_is)

    grew : (more : Replies) × (replies_of (seen_in o new t) ≡ more_than (replies_of (seen_in o old r)) more)
    grew = grown o old new r t first subject context (sizes old) known h.under turn

    all : Replies → Replies
    all more = more_than (replies_of (seen_in o new t)) more

    on : Replies → Replies
    on more = more_than grew.0 more

    is_all : (more : Replies) → more_than (replies_of (seen_in o old r)) (on more) ≡ all more
    is_all more = sym (more_more (replies_of (seen_in o old r)) grew.0 more) ∙ ap (λ (rs : Replies). more_than rs more) (sym grew.1)

    at_first : (more : Replies) → slot_after subject context (all more) r.executed ≡ Some r.pc
    at_first more = there (seen_in o old r) r.executed subject context (all more) refl h.under.subject_is h.under.context_is
        (subst (λ (rs : Replies). view_in (alone_after r.executed r.subject r.context rs).world 0 ≡ Some (seen_in o old r)) (is_all more) (alone_more (seen_in o old r) (on more) h.under.sound h.under.alone))

    at_last : (more : Replies) → slot_after subject context (all more) (r.executed + 1) ≡ Some t.pc
    at_last more = there (seen_in o new t) (r.executed + 1) subject context (all more) turn.counted under.subject_is under.context_is (alone_more (seen_in o new t) more under.sound under.alone)

-- ---- a stretch

-- n instructions that go straight on from a slot, and the run that is after them
record IsOnTheWay {S H : Type 0} (o : Store S H) (first now : S) (subject : Subject) (context : List ℕ) (from n : ℕ) (t : RunState H) (executed_old taken_old executed_was taken_was : ℕ → ℕ) : Type 0 where
  at : t.pc ≡ from + n
  counted : IsCounted o first now subject context t executed_old taken_old (λ slot. executed_was slot + cond (is_within from n slot) 1 0) taken_was

none_within : (at slot : ℕ) → cond {A = ℕ} (is_within at 0 slot) 1 0 ≡ 0
none_within at slot = grind (arith, nat_tests)

one_within : (at n slot : ℕ) → cond {A = ℕ} (is_within at (n + 1) slot) 1 0 ≡ cond {A = ℕ} (is_within at n slot) 1 0 + cond {A = ℕ} (at + n == slot) 1 0
one_within at n slot = grind (arith, nat_tests)

straight_counted : {S H : Type 0} (o : Store S H) (first old : S) (subject : Subject) (context : List ℕ) (r : RunState H) (executed_old taken_old executed_was taken_was : ℕ → ℕ)
    → ((s : S) → HaveSizes o s) → o.kinds ≡ kinds_of subject.rows → IsCounted o first old subject context r executed_old taken_old executed_was taken_was
    → (n : ℕ) → ((k : ℕ) → k < n → goes_on subject.program (r.pc + k) ≡ true) → (t : RunState H) (now : S) → AreTurns o n r t old now → t.exit ≡ None
    → IsOnTheWay o first now subject context r.pc n t executed_old taken_old executed_was taken_was
straight_counted {S} {H} o first old subject context r executed_old taken_old executed_was taken_was sizes kinds h zero on t now turns going = rw (turns.0, turns.1) (record {
  at = omega arith;
  counted = record {
    under = h.under;
    executed = λ more slot. let none = none_within r.pc slot in let was = h.executed more slot in omega (arith, none, was);
    taken = h.taken;
  };
})
straight_counted {S} {H} o first old subject context r executed_old taken_old executed_was taken_was sizes kinds h (suc n) on t now turns going =
    on_the_way (straight_counted o first old subject context r executed_old taken_old executed_was taken_was sizes kinds h n (λ k below. on k (omega (arith, below))) turns.run turns.store turns.before turns.last.going)
  where
    not_left : (at to slot : ℕ) → to ≡ at + 1 → cond {A = ℕ} ((at == slot) && not (to == slot + 1)) 1 0 ≡ 0
    not_left at to slot e = grind (arith, nat_tests)

    on_the_way : IsOnTheWay o first turns.store subject context r.pc n turns.run executed_old taken_old executed_was taken_was → IsOnTheWay o first now subject context r.pc (suc n) t executed_old taken_old executed_was taken_was
    on_the_way before =
        let straight : goes_on turns.run.subject.program turns.run.pc ≡ true =
        ap (λ (s : Subject). goes_on s.program turns.run.pc) before.counted.under.subject_is ∙ ap (goes_on subject.program) before.at ∙ on n (omega arith) in
        let known : o.kinds ≡ kinds_of turns.run.subject.rows = kinds ∙ ap (λ (s : Subject). kinds_of s.rows) (sym before.counted.under.subject_is) in
        let next : t.pc ≡ turns.run.pc + 1 = straight_on o turns.store now turns.run t (sizes turns.store) known before.counted.under.out before.counted.under.sound turns.last going straight in
        record {
          at = omega (arith, before.at, next);
          counted = one_counted o first turns.store now subject context turns.run t executed_old taken_old _ _ _ _ sizes kinds before.counted turns.last (record {
            executed = λ slot.
                let one = one_within r.pc n slot in
                let same = ap (λ (at : ℕ). cond {A = ℕ} (at == slot) 1 0) before.at in
                let more : suc n ≡ n + 1 = omega arith in
                let this = ap (λ (m : ℕ). cond {A = ℕ} (is_within r.pc m slot) 1 0) more in
                omega (arith, one, same, this);
            taken = λ slot. let none = not_left turns.run.pc t.pc slot next in omega (arith, none);
          });
        }

-- a stretch as a whole
pub stretch_counted : {S H : Type 0} (o : Store S H) (first old new : S) (subject : Subject) (context : List ℕ) (n : ℕ) (r t : RunState H) (executed_old taken_old : ℕ → ℕ) (was is : Tally)
    → ((s : S) → HaveSizes o s) → o.kinds ≡ kinds_of subject.rows → IsTally subject.program was → get_or was.straight.items r.pc 0 ≡ n
    → IsCounted o first old subject context r executed_old taken_old (executed_so_far subject.program was) (taken_so_far was) → AreTurns o (n + 1) r t old new
    → IsNoted r.pc (r.pc + n) t.pc was is
    → IsCounted o first new subject context t executed_old taken_old (executed_so_far subject.program is) (taken_so_far is)
stretch_counted {S} {H} o first old new subject context n r t executed_old taken_old was is sizes kinds tally straight h turns noted = record {
  under = whole.under;
  executed = λ more slot. let all = passed_more (goes_on subject.program) (begun_at was) (begun_at is) r.pc n stretch noted.begun slot in let done = whole.executed more slot in omega (arith, all, done);
  taken = λ more slot. let done = whole.taken more slot in done;
}
  where
    stretch : IsStretch (goes_on subject.program) r.pc n
    stretch = stretch_at subject.program was.straight.items tally.straight n r.pc straight

    are : AreTurns o (suc n) r t old new
    are = let same : n + 1 ≡ suc n = omega arith in subst (λ (m : ℕ). AreTurns o m r t old new) same turns

    before : IsOnTheWay o first are.store subject context r.pc n are.run executed_old taken_old (executed_so_far subject.program was) (taken_so_far was)
    before = straight_counted o first old subject context r executed_old taken_old (executed_so_far subject.program was) (taken_so_far was) sizes kinds h n stretch.straight are.run are.store are.before are.last.going

    whole : IsCounted o first new subject context t executed_old taken_old (λ slot. executed_so_far subject.program was slot + cond (is_within r.pc (n + 1) slot) 1 0) (taken_so_far is)
    whole = one_counted o first are.store new subject context are.run t executed_old taken_old _ _ _ _ sizes kinds before.counted are.last (record {
      executed = λ slot. let one = one_within r.pc n slot in let same = ap (λ (at : ℕ). cond {A = ℕ} (at == slot) 1 0) before.at in omega (arith, one, same);
      taken = λ slot. noted.taken slot ∙ ap (λ (at : ℕ). taken_so_far was slot + cond ((at == slot) && not (t.pc == slot + 1)) 1 0) (sym before.at);
    })

-- a whole run that was answered what a report says
pub run_counted : {S H : Type 0} (o : Store S H) (first now : S) (subject : Subject) (context : List ℕ) (r : RunState H) (executed_old taken_old executed_new taken_new : ℕ → ℕ) (ended report : Report)
    → IsCounted o first now subject context r executed_old taken_old executed_new taken_new → ended.executed ≡ r.executed → ended.answers ≡ r.replies → ended.taken ≡ r.taken
    → ended.executed ≡ report.executed → ended.answers ≡ report.answers → ended.taken ≡ report.taken → IsRunCounted subject context report executed_old taken_old executed_new taken_new
run_counted o first now subject context r executed_old taken_old executed_new taken_new ended report h long answers taken same_long same_answers same_taken = record {
  executed = λ slot. by (is_at subject context) slot (executed_old slot) (executed_new slot) (h.executed (replies_from [] []) slot);
  taken = λ slot. by (leaves subject context) slot (taken_old slot) (taken_new slot) (h.taken (replies_from [] []) slot);
}
  where
    all : more_than (replies_of (seen_in o now r)) (replies_from [] []) ≡ replies_in report
    all = none_more (replies_of (seen_in o now r)) ∙ (λ i. replies_from ((sym answers ∙ same_answers) i) ((sym taken ∙ same_taken) i))

    by : (is : Replies → ℕ → ℕ → Bool) (slot old new : ℕ) → new ≡ old + times (is (more_than (replies_of (seen_in o now r)) (replies_from [] [])) slot) r.executed
        → new ≡ old + times (is (replies_in report) slot) report.executed
    by is slot old new e = e ∙ ap (λ (rs : Replies). old + times (is rs slot) r.executed) all ∙ ap (λ (m : ℕ). old + times (is (replies_in report) slot) m) (sym long ∙ same_long)
