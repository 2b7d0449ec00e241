-- What a legal event leaves: the world still fits together, and a run that the event isn't of sees what it saw.
use Rattle.std.proofs.Common.{◌≡◌, ◌≢◌, ℕ, Bool, true, false, cond, not, eqb, List, length, Option, Some, None, Ok, Err, refl, sym, ap, ◌∙◌, subst}
use Rattle.std.specs.Prelude.{slice_get, option_map, nat_lt, ◌&&◌}
use Rattle.std.proofs.lemmas.Bool.{ltb-true, eqb-true, and_parts}
use Rattle.ebpf_verify.specs.Subject.{Subject}
use Rattle.ebpf_machine.specs.World.{World, Running, Owner, Holder, Run, Going, Exited, Trapped, Status, kinds_of, first_run, held_by, is_home}
use Rattle.ebpf_machine.specs.World.{is_in, is_in_ledger, ledger_of}
use Rattle.ebpf_machine.specs.Kinds.{known_kinds}
use Rattle.ebpf_machine.specs.Events.{Illegal, SlotInLedger, SlotNotReapable, NoSuchProgramOrKind, WrongContext, answer_fault, asking_of, started}
use Rattle.ebpf_machine.specs.Events.{starting, exec_going, exec_by, exec, with_slot_joined, growing, with_slot_left, reaping}
use Rattle.ebpf_machine.specs.View.{view_of, view_in, slots_in}
use Rattle.ebpf_machine.specs.Sound.{IsSound, IsOwned}
use Rattle.ebpf_machine.proofs.World.Owned.{owned_started}
use Rattle.ebpf_machine.proofs.World.NewSlots.{IsNew, owned_joined, view_joined}
use Rattle.ebpf_machine.proofs.World.PartedSlots.{IsReapable, owned_parted, view_parted}
use Rattle.ebpf_machine.proofs.World.Execs.{IsNextWorld, next_world, ok_same}
use Rattle.ebpf_machine.specs.declared.answer.Answer.{Answer}
use Rattle.ebpf_core.specs.declared.event.Event.{Event}
use Rattle.ebpf_core.specs.declared.event.Event.TheVariants.{Start, Exec, Grow, Reap}
use Rattle.ebpf_core.specs.Events.{happened}
use Rattle.ebpf_machine.specs.Kinds.{AreKnown}
use Rattle.ebpf_core.proofs.Runs.{at_number, get_past}

-- the run that an event is of; one that starts is the next by number
abbrev pub own_run : World → Event → Option ℕ
own_run w (Start program context) = Some (length w.runs)
own_run w (Exec run answer) = Some run
own_run w (Grow kind slot) = None
own_run w (Reap kind slot) = None

-- a run sees what it saw, in the slots that it had
pub record IsLeft (w after : World) (k : ℕ) : Type 0 where
  pub view : view_in after k ≡ view_in w k
  pub slots : slots_in after k ≡ slots_in w k

pub record IsEventOf (w after : World) (own : Option ℕ) : Type 0 where
  pub owned : IsOwned after
  pub kinds : after.kinds ≡ w.kinds
  pub left : (k : ℕ) → own ≢ Some k → IsLeft w after k

-- each run of a world is sound
abbrev pub AreSound : World → Type 0
AreSound w = (k : ℕ) (r : Running) → slice_get w.runs k ≡ Some r → IsSound (view_of w k r)

-- ---- a run starts

equal_lengths : (a b : ℕ) → eqb a b ≡ true → a ≡ b
equal_lengths a b e = eqb-true a b e

-- the program of a run that starts, and the length of its context
pub record IsStart (programs : List Subject) (program : ℕ) (context : List ℕ) (w after : World) : Type 0 where
  pub subject : Subject
  pub there : slice_get programs program ≡ Some subject
  pub long : length context ≡ subject.decl.context
  pub is : started subject context w ≡ after

pub start_next : (programs : List Subject) (program : ℕ) (context : List ℕ) (w after : World)
    → starting (slice_get programs program) context w ≡ Ok after → IsStart programs program context w after
start_next programs program context w after e = by_program (slice_get programs program) refl e where
  by_program : (o : Option Subject) → slice_get programs program ≡ o → starting o context w ≡ Ok after → IsStart programs program context w after
  by_program None there e = absurd (cc)
  by_program (Some s) there e = fits (eqb (length context) s.decl.context) refl e where
    fits : (t : Bool) → eqb (length context) s.decl.context ≡ t → cond t (Ok (started s context w)) (Err WrongContext) ≡ Ok after
        → IsStart programs program context w after
    fits true long e = record { subject = s; there = there; long = equal_lengths (length context) s.decl.context long; is = cc }
    fits false long e = absurd (cc)

start_left : (w : World) (s : Subject) (context : List ℕ) (k : ℕ) → Some (length w.runs) ≢ Some k → IsLeft w (started s context w) k
start_left w s context k ne = record {
  view = ap (option_map (view_of w k)) (get_past w.runs (first_run s context) k (λ e. ne (ap Some (sym e))));
  slots = refl;
}

-- ---- a run does an instruction

pub record IsExec (w : World) (run : ℕ) (answer : Answer) (after : World) : Type 0 where
  pub r : Running
  pub there : slice_get w.runs run ≡ Some r
  pub going : r.status ≡ Going
  pub fine : answer_fault w (asking_of w r) answer ≡ None
  pub next : IsNextWorld w run r answer after

pub exec_next : (w after : World) (run : ℕ) (answer : Answer) → IsOwned w → AreSound w → exec w run answer ≡ Ok after → IsExec w run answer after
exec_next w after run answer owned sound e = by_run (slice_get w.runs run) refl e where
  by_fault : (r : Running) → slice_get w.runs run ≡ Some r → r.status ≡ Going → (o : Option Illegal)
      → answer_fault w (asking_of w r) answer ≡ o → IsExec w run answer after
  by_fault r there going (Some why) fault = let illegal : exec w run answer ≡ Err why = rw (there, going, fault) refl in absurd (cc)
  by_fault r there going None fine =
      let next = next_world w run r answer owned there (sound run r there) going fine in
      let same : next.0 ≡ after = ok_same next.0 after (exec w run answer) next.1.legal e in
      record { r = r; there = there; going = going; fine = fine; next = subst (IsNextWorld w run r answer) same next.1 }

  by_status : (r : Running) → slice_get w.runs run ≡ Some r → (s : Status) → r.status ≡ s → exec_going s w run answer r ≡ Ok after → IsExec w run answer after
  by_status r there Going is e = by_fault r there is (answer_fault w (asking_of w r) answer) refl
  by_status r there (Exited n) is e = absurd (cc)
  by_status r there (Trapped trap) is e = absurd (cc)

  by_run : (o : Option Running) → slice_get w.runs run ≡ o → exec_by o w run answer ≡ Ok after → IsExec w run answer after
  by_run None there e = absurd (cc)
  by_run (Some r) there e = by_status r there r.status refl e

-- ---- a slot joins a ledger, or leaves it

-- the kind is one that there is
known_or : (t u : Bool) (x : World) (why : Illegal) (after : World)
    → cond (not t) (Err NoSuchProgramOrKind) (cond u (Err why) (Ok x)) ≡ Ok after → (t ≡ true) × (u ≡ false) × (x ≡ after)
known_or false u x why after e = absurd (cc)
known_or true true x why after e = absurd (cc)
known_or true false x why after e = (refl, refl, cc)

pub grow_next : (w after : World) (kind slot : ℕ) → growing kind slot w ≡ Ok after → IsNew w kind slot × (with_slot_joined kind slot w ≡ after)
grow_next w after kind slot e =
    let parts = known_or (nat_lt kind (length w.kinds)) (is_in_ledger w slot) (with_slot_joined kind slot w) SlotInLedger after e in
    (record { kind_is = ltb-true kind (length w.kinds) parts.0; fresh = parts.1 }, parts.2)

reapable_or : (t u : Bool) (x : World) (after : World)
    → cond (not t) (Err NoSuchProgramOrKind) (cond u (Ok x) (Err SlotNotReapable)) ≡ Ok after
    → (t ≡ true) × (u ≡ true) × (x ≡ after)
reapable_or false u x after e = absurd (cc)
reapable_or true true x after e = (refl, refl, cc)
reapable_or true false x after e = absurd (cc)

pub reap_next : (w after : World) (kind slot : ℕ) → reaping kind slot w ≡ Ok after → IsReapable w kind slot × (with_slot_left kind slot w ≡ after)
reap_next w after kind slot e =
    let parts = reapable_or (nat_lt kind (length w.kinds)) (is_home w slot && is_in slot (ledger_of w kind)) (with_slot_left kind slot w) after e in
    let both = and_parts (is_home w slot) (is_in slot (ledger_of w kind)) parts.1 in
    (record { home = both.0; its = both.1 }, parts.2)

-- each run sees what it saw where the runs and the owners stay
all_left : (w after : World) (k : ℕ) → after.runs ≡ w.runs → after.owners ≡ w.owners → ((r : Running) → view_of after k r ≡ view_of w k r) → IsLeft w after k
all_left w after k runs owners same = record { view = by_run (slice_get w.runs k); slots = rw owners refl } where
  by_run : (o : Option Running) → view_in after k ≡ view_in w k
  by_run o = ap (λ (rs : List Running). option_map (view_of after k) (slice_get rs k)) runs ∙ alike (slice_get w.runs k) where
    alike : (o : Option Running) → option_map (view_of after k) o ≡ option_map (view_of w k) o
    alike None = refl
    alike (Some r) = ap Some (same r)

-- and the event of a slot leaves each
slot_next : (w next after : World) → next ≡ after → next.runs ≡ w.runs → next.owners ≡ w.owners → next.kinds ≡ w.kinds → IsOwned next
    → ((k : ℕ) (r : Running) → view_of next k r ≡ view_of w k r) → IsEventOf w after None
slot_next w next after is runs owners kinds owned same =
    subst (λ (v : World). IsEventOf w v None) is (record { owned = owned; kinds = kinds; left = λ k ne. all_left w next k runs owners (same k) })

-- ---- every event

pub event_next : (programs : List Subject) (e : Event) (w after : World) → AreKnown programs → IsOwned w → w.kinds ≡ known_kinds
    → AreSound w → happened programs e w ≡ Ok after → IsEventOf w after (own_run w e)
event_next programs (Start program context) w after known owned kinds sound is =
    let start = start_next programs program context w after is in
    let rows = at_number (λ (s : Subject). kinds_of s.rows ≡ known_kinds) programs program start.subject known start.there in
    subst (λ (v : World). IsEventOf w v (Some (length w.runs))) start.is (record {
      owned = owned_started w start.subject context owned (rows ∙ sym kinds);
      kinds = refl;
      left = λ k ne. start_left w start.subject context k ne;
    })
event_next programs (Exec run answer) w after known owned kinds sound is =
    let next = (exec_next w after run answer owned sound is).next in
    record {
      owned = next.owned;
      kinds = next.kinds;
      left = λ k ne. record { view = next.others k (λ e. ne (ap Some (sym e))); slots = next.others_slots k (λ e. ne (ap Some (sym e))) };
    }
event_next programs (Grow kind slot) w after known owned kinds sound is =
    let grown = grow_next w after kind slot is in
    slot_next w _ after grown.1 refl refl refl (owned_joined w kind slot owned grown.0) (λ k r. view_joined w k kind slot r owned grown.0)
event_next programs (Reap kind slot) w after known owned kinds sound is =
    let reaped = reap_next w after kind slot is in
    slot_next w _ after reaped.1 refl refl refl (owned_parted w kind slot owned reaped.0) (λ k r. view_parted w k kind slot r owned reaped.0)
