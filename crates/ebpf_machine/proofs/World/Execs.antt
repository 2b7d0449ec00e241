-- The next instruction of a sound run in its world: with an answer that fits what it asks it is legal, and the run goes on as it
-- sees itself.
use Rattle.std.proofs.Common.{◌≡◌, ◌≢◌, ℕ, ◌+◌, ◌<◌, ◌≤◌, Bool, true, false, arith, List, [], ◌∷◌, length, Option, Some, None, Result, Ok, Err}
use Rattle.std.proofs.Common.{refl, sym, ap, ◌∙◌, subst, inl, inr, length-set}
use Rattle.std.specs.Prelude.{Contains, slice_get, ◌==◌, ◌&&◌, not, nat_le}
use Rattle.std.proofs.lemmas.Bool.{cond_both}
use Rattle.std.proofs.lemmas.Bool.Decides.{nat_tests}
use Rattle.std.proofs.lemmas.List.{length-map}
use Rattle.std.proofs.lemmas.List.Elements.{All-map}
use Rattle.ebpf_insn.specs.Program.{insn_at}
use Rattle.ebpf_insn.specs.Faults.{first_of}
use Rattle.ebpf_machine.specs.Values.{Frame}
use Rattle.ebpf_machine.specs.Effect.{Act, Nothing, Write, Ask, Free, Exchange, Effect, Goes, Ends, Traps}
use Rattle.ebpf_machine.specs.declared.answer.Answer.{Answer}
use Rattle.ebpf_machine.specs.declared.answer.Answer.TheVariants.{Absent, Slot}
use Rattle.ebpf_machine.specs.World.{Name, Kind, World, Running, Owner, Going, standing, shelved_in, environment, holds_of, held_by, is_home, is_in}
use Rattle.ebpf_machine.specs.World.{kind_in, kinds_of, image_at, ledger_of}
use Rattle.ebpf_machine.specs.declared.answer.Answer.TheVariants as brought
use Rattle.ebpf_machine.specs.Events.{under_way, Illegal, SlotNotHome, SlotOfAnotherKind, Asking, Unasked, OfNoKind, OfKind, AtShelf, put_on}
use Rattle.ebpf_machine.specs.Events.{fetched, with_run, exchanged, granted, done_by, effect_of_run, asking_of, answer_fault, exec}
use Rattle.ebpf_machine.specs.View.{ObjectView, RunView, object_in, view_of, view_in, slots_in, environment_of_view, effect_of_view, stepped}
use Rattle.ebpf_machine.specs.Step.{IsEvent, Offers, MayAnswer, Served, Idle, Refused, Granted, Empty, Fetched, served_by, served_from, served_in}
use Rattle.ebpf_machine.specs.Step.{answer_for, result_of, asking_in, standing_then, standing_seen}
use Rattle.ebpf_machine.specs.Advance.{slots_after}
use Rattle.ebpf_machine.specs.Sound.{IsOwned, IsSound, AreSized}
use Rattle.ebpf_machine.proofs.Lists.ListLemmas.{All-by_contains}
use Rattle.ebpf_machine.proofs.Rules.Next.{HasRoom}
use Rattle.ebpf_machine.proofs.World.Owners.{held_owner}
use Rattle.ebpf_machine.proofs.World.ObjectsFound.{own_found, objects_found}
use Rattle.ebpf_machine.proofs.World.Exchanges.{IsOwnGiven}
use Rattle.ebpf_machine.proofs.World.Acts.{act_seen, effect_seen, served_act, served_effect, IsGrantable, IsOwnAct, IsOwnEffect, own_view}
use Rattle.ebpf_machine.proofs.World.Acts.{own_slots, others_view, others_slots}
use Rattle.ebpf_machine.proofs.World.Standing.{HasRoomFor, shelves_done, standing_alike}
use Rattle.ebpf_machine.proofs.World.Owned.{IsForward, owned_done}
use Rattle.ebpf_machine.proofs.World.Telling.{by_call}
use Rattle.ebpf_machine.proofs.World.Projection.{IsToldAs, effect_at-told}
use Rattle.ebpf_machine.proofs.World.Pointing.{plain_goes}
use Rattle.ebpf_machine.proofs.World.Asking.{IsThere, IsGivenThere, asked_by, asked_goes, asked_ends, asking_seen, there_goes}
use Rattle.ebpf_machine.proofs.World.Steps.{IsNext, next_of}

-- what the next instruction of a run is served by its world, with this answer
abbrev pub served_to : World → Running → Answer → Served
served_to w r answer = served_in w (asking_of w r) answer

-- the world that the next instruction of a run leads to, with this answer
pub record IsNextWorld (w : World) (run : ℕ) (r : Running) (answer : Answer) (after : World) : Type 0 where
  pub legal : exec w run answer ≡ Ok after
  pub owned : IsOwned after
  pub as_many : length after.runs ≡ length w.runs
  pub seen : view_in after run ≡ Some (stepped (result_of (served_to w r answer)) (view_of w run r))
  pub slots : slots_in after run ≡ slots_after (effect_of_view (view_of w run r)) (served_to w r answer) r.subject.decl.held r.pc (slots_in w run)
  pub others : (other : ℕ) → other ≢ run → view_in after other ≡ view_in w other
  pub others_slots : (other : ℕ) → other ≢ run → slots_in after other ≡ slots_in w other
  pub shelves : (shelf : ℕ) → shelved_in after shelf ≡ standing_then w (effect_of_run w run r) shelf
  pub shelves_seen : (shelf : ℕ) → shelved_in after shelf ≡ standing_seen w (slots_in w run) (effect_of_view (view_of w run r)) shelf
  pub kinds : after.kinds ≡ w.kinds
  pub ledgers : after.ledgers ≡ w.ledgers

-- ---- what an effect leaves as it was

record IsSteady (w after : World) : Type 0 where
  as_many : length after.runs ≡ length w.runs
  kinds : after.kinds ≡ w.kinds
  ledgers : after.ledgers ≡ w.ledgers

steady_granted : (w : World) (run : ℕ) (r : Running) (slot to kind : ℕ) (frame : Frame Name) → IsSteady w (granted slot w (under_way run r to frame) kind)
steady_granted w run r slot to kind frame =
    cond_both (nat_le r.subject.decl.held (holds_of w run)) _ _ (IsSteady w) (λ e. record {
      as_many = length-set w.runs run _;
      kinds = refl;
      ledgers = refl;
    }) (λ e. record { as_many = length-set w.runs run _; kinds = refl; ledgers = refl })

steady_put : (w v : World) (run shelf : ℕ) (given : Option Name) → IsSteady w v → IsSteady w (put_on given shelf run v)
steady_put w v run shelf None same = same
steady_put w v run shelf (Some name) same = record { as_many = same.as_many; kinds = same.kinds; ledgers = same.ledgers }

steady_exchanged : (w : World) (run : ℕ) (r : Running) (shelf to : ℕ) (given : Option Name) (frame : Frame Name)
    → IsSteady w (exchanged (standing w shelf) w (under_way run r to frame) shelf given)
steady_exchanged w run r shelf to given frame = by (standing w shelf) where
  by : (o : Option Owner) → IsSteady w (exchanged o w (under_way run r to frame) shelf given)
  by None = steady_put w (with_run w run _) run shelf given (record { as_many = length-set w.runs run _; kinds = refl; ledgers = refl })
  by (Some o) =
      cond_both (nat_le r.subject.decl.held (holds_of (put_on given shelf run w) run)) _ _ (IsSteady w) (λ e. record {
        as_many = length-set w.runs run _;
        kinds = refl;
        ledgers = refl;
      })
      (λ e. steady_put w (fetched o shelf run r.pc (with_run w run _)) run shelf given
      (record { as_many = length-set w.runs run _; kinds = refl; ledgers = refl }))

steady_done : (w : World) (run : ℕ) (r : Running) (e : Effect Name) (answer : Answer) → IsSteady w (done_by e answer w run r)
steady_done w run r (Ends n) answer = record { as_many = length-set w.runs run _; kinds = refl; ledgers = refl }
steady_done w run r (Traps trap) answer = record { as_many = length-set w.runs run _; kinds = refl; ledgers = refl }
steady_done w run r (Goes Nothing to frame) answer = record { as_many = length-set w.runs run _; kinds = refl; ledgers = refl }
steady_done w run r (Goes (Write name at bytes) to frame) answer = record { as_many = length-set w.runs run _; kinds = refl; ledgers = refl }
steady_done w run r (Goes (Free name) to frame) answer = record { as_many = length-set w.runs run _; kinds = refl; ledgers = refl }
steady_done w run r (Goes (Exchange shelf given) to frame) answer = steady_exchanged w run r shelf to given frame
steady_done w run r (Goes (Ask kind) to frame) Absent = record { as_many = length-set w.runs run _; kinds = refl; ledgers = refl }
steady_done w run r (Goes (Ask kind) to frame) brought.Null = record { as_many = length-set w.runs run _; kinds = refl; ledgers = refl }
steady_done w run r (Goes (Ask kind) to frame) (Slot slot) = steady_granted w run r slot to kind frame

-- ---- the effect in the world and the effect that is seen

pub kinds_alike : (w : World) (run : ℕ) (r : Running) → IsOwned w → slice_get w.runs run ≡ Some r → length r.subject.rows ≡ length w.kinds
kinds_alike w run r owned there = sym (length-map r.subject.rows _) ∙ ap (λ (kinds : List Kind). length kinds) (owned.runs.kinds_are run r there)

and_false : (t : Bool) → (t && false) ≡ false
and_false true = refl
and_false false = refl

-- what a run meets in the world is seen by it
met : (w : World) (run : ℕ) (r : Running) → IsOwned w → slice_get w.runs run ≡ Some r
    → IsToldAs by_call (environment w run r) (environment_of_view (view_of w run r)) r.frame
met w run r owned there = record {
  context = refl;
  kinds = kinds_alike w run r owned there;
  holds = length-map (held_by w run) (object_in w);
  objects = λ n has. objects_found w run r n owned there has;
  names = λ n m has too. same n m (n.call == m.call) refl (λ e. owned.runs.one_slot run r there n m has too e);
}
  where
    same : (n m : Name) (t : Bool) → (n.call == m.call) ≡ t → (n.call ≡ m.call → n.slot ≡ m.slot)
        → (n.call == m.call) ≡ ((n.slot == m.slot) && (n.call == m.call))
    same n m false e one = rw e (sym (and_false (n.slot == m.slot)))
    same n m true e one = let slots = equal n.slot m.slot (one (calls n.call m.call e)) in rw (e, slots) refl
      where
        calls : (a b : ℕ) → (a == b) ≡ true → a ≡ b
        calls a b e = grind (arith, nat_tests)

        equal : (a b : ℕ) → a ≡ b → (a == b) ≡ true
        equal a b e = grind (arith, nat_tests)

seen_effect : (w : World) (run : ℕ) (r : Running) → IsOwned w → slice_get w.runs run ≡ Some r
    → effect_seen (effect_of_run w run r) ≡ effect_of_view (view_of w run r)
seen_effect w run r owned there =
    sym (effect_at-told by_call (insn_at r.subject.program r.pc) r.pc (environment w run r) (environment_of_view (view_of w run r)) r.frame
    (met w run r owned there))

-- each object of a run has as many bytes as its kind says
pub sized_in : (w : World) (run : ℕ) (r : Running) → IsOwned w → slice_get w.runs run ≡ Some r → AreSized (view_of w run r)
sized_in w run r owned there =
    All-map IsSized (object_in w) (held_by w run)
    (All-by_contains (λ o. IsSized (object_in w o)) (held_by w run) (λ o among. sized o (held_owner w run o among).0)) where
      IsSized : ObjectView → Type 0
      IsSized o = length o.bytes ≡ length (image_at (kinds_of r.subject.rows) o.kind)

      sized : (o : Owner) → Contains w.owners o → IsSized (object_in w o)
      sized o among =
          owned.holders.sized o among ∙ ap (λ (kinds : List Kind). length (image_at kinds (kind_in w o.slot))) (sym (owned.runs.kinds_are run r there))

-- ---- the effect is the run's own, and leads forward

-- a slot that is answered is one that may be granted
grantable : (w : World) (kind : ℕ) (answer : Answer) → answer_fault w (OfKind kind) answer ≡ None → IsGrantable w kind answer
grantable w kind Absent fine = tt
grantable w kind brought.Null fine = tt
grantable w kind (Slot slot) fine = by (is_home w slot) (is_in slot (ledger_of w kind)) refl refl fine where
  by : (t u : Bool) → is_home w slot ≡ t → is_in slot (ledger_of w kind) ≡ u
      → first_of ((not t, SlotNotHome) ∷ (not u, SlotOfAnotherKind) ∷ []) ≡ None
      → (is_home w slot ≡ true) × (is_in slot (ledger_of w kind) ≡ true)
  by true true home its fine = (home, its)
  by true false home its fine = absurd (cc)
  by false u home its fine = absurd (cc)

own_act : (w : World) (run : ℕ) (r : Running) (answer : Answer) (act : Act Name) → IsThere (environment w run r) act
    → answer_fault w (asked_by act) answer ≡ None → IsOwnAct w run answer act
own_act w run r answer Nothing there fine = tt
own_act w run r answer (Write name at bytes) there fine =
    let own = own_found w run name there.0 there.1 in
    (own.0, subst (λ (old : List ℕ). at + length bytes ≤ length old) own.1 there.2)
own_act w run r answer (Ask kind) there fine = (there, grantable w kind answer fine)
own_act w run r answer (Free name) there fine = (own_found w run name there.0 there.1).0
own_act w run r answer (Exchange shelf given) there fine = (there.0, given_own given there.1) where
  given_own : (given : Option Name) → IsGivenThere (environment w run r) shelf given → IsOwnGiven w run shelf given
  given_own None found = tt
  given_own (Some name) found = let own = own_found w run name found.0 found.1 in (own.0, sym own.2 ∙ found.2)

abbrev IsOwnNext : World → ℕ → Running → Answer → Effect Name → Type 0
IsOwnNext w run r answer e = IsOwnEffect w run answer e × IsForward r.frame r.pc e × HasRoomFor w run r e

own_next : (w : World) (run : ℕ) (r : Running) (answer : Answer) (e : Effect Name) → answer_fault w (asking_of w r) answer ≡ None
    → effect_of_run w run r ≡ e → effect_seen e ≡ effect_of_view (view_of w run r) → IsNext (view_of w run r)
    → IsOwnNext w run r answer e
own_next w run r answer (Ends n) fine is seen next = (tt, tt, tt)
own_next w run r answer (Traps trap) fine is seen (inl (act, to, after, g)) = let does = g.does in absurd (cc)
own_next w run r answer (Traps trap) fine is seen (inr (n, ends)) = let does = ends.does in absurd (cc)
own_next w run r answer (Goes act to frame) fine is seen (inr (n, ends)) = let does = ends.does in absurd (cc)
own_next w run r answer (Goes act to frame) fine is seen (inl (same, where_to, after, g)) =
    let o = insn_at r.subject.program r.pc in
    let a = environment w run r in
    let does = g.does in
    let there : where_to ≡ to = cc in
    let its : same ≡ act_seen act = cc in
    let asked = asked_goes o r.pc a r.frame act to frame is in (
      own_act w run r answer act (there_goes o r.pc a r.frame act to frame is) (subst (λ (asking : Asking). answer_fault w asking answer ≡ None) asked fine),
      (subst (λ (k : ℕ). r.pc < k) there g.forward, plain_goes o r.pc a r.frame act to frame is),
      subst (HasRoom (view_of w run r)) its g.room,
    )

-- ---- what it is served

served_alike : (w : World) (act : Act Name) (answer : Answer) → served_in w (asked_by act) answer ≡ served_act w act answer
served_alike w Nothing answer = refl
served_alike w (Write name at bytes) answer = refl
served_alike w (Ask kind) answer = refl
served_alike w (Free name) answer = refl
served_alike w (Exchange shelf given) answer = refl

served_fits : (w : World) (run : ℕ) (r : Running) (e : Effect Name) (answer : Answer) → effect_of_run w run r ≡ e
    → IsOwnEffect w run answer e → served_to w r answer ≡ served_effect w e answer
served_fits w run r (Goes act to frame) answer is own =
    ap (λ (asked : Asking). served_in w asked answer) (asked_goes (insn_at r.subject.program r.pc) r.pc (environment w run r) r.frame act to frame is)
    ∙ served_alike w act answer
served_fits w run r (Ends n) answer is own =
    ap (λ (asked : Asking). served_in w asked answer) (asked_ends (insn_at r.subject.program r.pc) r.pc (environment w run r) r.frame n is)
served_fits w run r (Traps trap) answer is own = absurd own

-- ---- the next world

pub next_world : (w : World) (run : ℕ) (r : Running) (answer : Answer) → IsOwned w → slice_get w.runs run ≡ Some r
    → IsSound (view_of w run r) → r.status ≡ Going → answer_fault w (asking_of w r) answer ≡ None
    → (after : World) × IsNextWorld w run r answer after
next_world w run r answer owned there sound going fine =
    let v = view_of w run r in
    let e = effect_of_run w run r in
    let seen = seen_effect w run r owned there in
    let own = own_next w run r answer e fine refl seen (next_of v sound (sized_in w run r owned there) going) in
    let steady = steady_done w run r e answer in
    let served = served_fits w run r e answer refl own.0 in
    let shelves = shelves_done w run r e answer owned own.0 own.2 in (
      done_by e answer w run r,
      record {
        legal = rw (there, going, fine) refl;
        owned = owned_done run r e answer owned there own.0 own.1;
        as_many = steady.as_many;
        seen = own_view run r e answer owned there own.0 ∙ rw (seen, going, served) refl;
        slots = own_slots run r e answer owned there own.0 ∙ rw (seen, served) refl;
        others = λ other ne. others_view run other r e answer owned own.0 ne;
        others_slots = λ other ne. others_slots run other r e answer owned own.0 ne;
        shelves = shelves;
        shelves_seen = λ shelf. shelves shelf ∙ standing_alike w run e answer owned own.0 shelf
            ∙ ap (λ (does : Effect ℕ). standing_seen w (slots_in w run) does shelf) seen;
        kinds = steady.kinds;
        ledgers = steady.ledgers;
      },
    )

-- ---- one step is one event

-- an event leads to one world
pub ok_same : (a b : World) (the : Result World Illegal) → the ≡ Ok a → the ≡ Ok b → a ≡ b
ok_same a b the e f = cc

-- the run of a world that is seen so
pub shown_run : (w : World) (run : ℕ) (v : RunView) → view_in w run ≡ Some v → (r : Running) × (slice_get w.runs run ≡ Some r) × (view_of w run r ≡ v)
shown_run w run v e = of_run (slice_get w.runs run) refl where
  of_run : (o : Option Running) → slice_get w.runs run ≡ o → (r : Running) × (slice_get w.runs run ≡ Some r) × (view_of w run r ≡ v)
  of_run None there = let none : view_in w run ≡ None = rw there refl in absurd (cc)
  of_run (Some r) there = let some : view_in w run ≡ Some (view_of w run r) = rw there refl in (r, there, cc)

-- the answer to a legal event has no fault
legal_answer : (w after : World) (run : ℕ) (r : Running) (answer : Answer) → slice_get w.runs run ≡ Some r → r.status ≡ Going
    → exec w run answer ≡ Ok after → answer_fault w (asking_of w r) answer ≡ None
legal_answer w after run r answer there going does = by (answer_fault w (asking_of w r) answer) refl where
  by : (o : Option Illegal) → answer_fault w (asking_of w r) answer ≡ o → o ≡ None
  by None fault = refl
  by (Some why) fault = let illegal : exec w run answer ≡ Err why = rw (there, going, fault) refl in absurd (cc)

pub step_event : (v : RunView) (served : Served) (held : List Name) → IsSound v → v.status ≡ Going
    → IsEvent served v (stepped (result_of served) v) held (slots_after (effect_of_view v) served v.subject.decl.held v.pc held)
step_event v served held sound going w after run owned shows slots serves does =
    let r = shown_run w run v shows in
    let goes : r.0.status ≡ Going = ap (λ (u : RunView). u.status) r.2 ∙ going in
    let next = next_world w run r.0 (answer_for served) owned r.1 (subst IsSound (sym r.2) sound) goes
    (legal_answer w after run r.0 (answer_for served) r.1 goes does) in
    let same : next.0 ≡ after = ok_same next.0 after (exec w run (answer_for served)) next.1.legal does in
    let asked : asking_of w r.0 ≡ asking_in v = asking_seen w run r.0 owned r.1 ∙ ap asking_in r.2 in
    let is : served_to w r.0 (answer_for served) ≡ served = ap (λ (a : Asking). served_in w a (answer_for served)) asked ∙ serves in
    let seen : view_in next.0 run ≡ Some (stepped (result_of served) v) =
    next.1.seen ∙ ap (λ (s : Served). Some (stepped (result_of s) (view_of w run r.0))) is ∙ ap (λ (u : RunView). Some (stepped (result_of served) u)) r.2 in
    let now : slots_in next.0 run ≡ slots_after (effect_of_view v) served v.subject.decl.held v.pc held =
    next.1.slots
    ∙ ap (λ (s : Served). slots_after (effect_of_view (view_of w run r.0)) s r.0.subject.decl.held r.0.pc (slots_in w run)) is
    ∙ ap (λ (u : RunView). slots_after (effect_of_view u) served u.subject.decl.held u.pc (slots_in w run)) r.2
    ∙ ap (slots_after (effect_of_view v) served v.subject.decl.held v.pc) slots in
    let shelves : (shelf : ℕ) → shelved_in next.0 shelf ≡ standing_seen w held (effect_of_view v) shelf = λ shelf.
    next.1.shelves_seen shelf
    ∙ ap (λ (u : RunView). standing_seen w (slots_in w run) (effect_of_view u) shelf) r.2
    ∙ ap (λ (names : List Name). standing_seen w names (effect_of_view v) shelf) slots in
    subst (λ (u : World). (view_in u run ≡ Some (stepped (result_of served) v)) × (slots_in u run
    ≡ slots_after (effect_of_view v) served v.subject.decl.held v.pc held) × ((shelf : ℕ)
    → shelved_in u shelf ≡ standing_seen w held (effect_of_view v) shelf)) same (seen, now, shelves)

-- where a store may answer so, the event with this answer serves so, if what is on the shelf is what the store says
pub may_serve : (w : World) (may : Offers) (at : ℕ) (asked : Asking) (served : Served) → MayAnswer may at asked served
    → ((shelf : ℕ) → asked ≡ AtShelf shelf → served_from w (standing w shelf) ≡ served)
    → served_in w asked (answer_for served) ≡ served
may_serve w may at Unasked served can stands = ap (λ (s : Served). served_by (answer_for s)) can ∙ sym can
may_serve w may at OfNoKind served can stands = absurd can
may_serve w may at (AtShelf shelf) served can stands = stands shelf refl
may_serve w may at (OfKind kind) Idle can stands = absurd can
may_serve w may at (OfKind kind) Refused can stands = refl
may_serve w may at (OfKind kind) (Granted slot) can stands = refl
may_serve w may at (OfKind kind) Empty can stands = absurd can
may_serve w may at (OfKind kind) (Fetched slot bytes) can stands = absurd can
