-- What an event leaves of the views of the runs of a world, by cases of what its instruction asks.
use Rattle.std.proofs.Common.{◌≡◌, ◌≢◌, ℕ, ◌+◌, ◌<◌, ◌≤◌, pos, Bool, true, false, cond, not, List, [], ◌∷◌, ◌++◌, length, map, Option, Some, None}
use Rattle.std.proofs.Common.{option_map, refl, sym, ap, ◌∙◌}
use Rattle.std.specs.Prelude.{Contains, slice_get, slice_set, ◌==◌, nat_le}
use Rattle.std.proofs.lemmas.List.{length-map, map_push, map-set}
use Rattle.ebpf_insn.specs.declared.register.Reg.TheVariants.{R0}
use Rattle.ebpf_machine.specs.declared.value.Value.{Value}
use Rattle.ebpf_machine.specs.declared.value.Value.TheVariants.{Number, Pointer}
use Rattle.ebpf_machine.specs.declared.value.Base.TheVariants.{Object}
use Rattle.ebpf_machine.specs.declared.report.Reply.TheVariants as reply
use Rattle.ebpf_machine.specs.Bytes.{patched}
use Rattle.ebpf_machine.specs.Values.{TooManyObjects, Frame}
use Rattle.ebpf_machine.specs.Effect.{Act, Nothing, Write, Ask, Free, Exchange, Effect, Goes, Ends, Traps, with_value}
use Rattle.ebpf_machine.specs.declared.answer.Answer.{Answer}
use Rattle.ebpf_machine.specs.declared.answer.Answer.TheVariants.{Absent, Null, Slot}
use Rattle.ebpf_machine.specs.World.{Name, World, Running, Owner, Run, AnsweredCall, is_in, is_home, is_shelf, standing, held_by, holds_of}
use Rattle.ebpf_machine.specs.World.{ledger_of, kinds_of, image_at, kind_in, name_of}
use Rattle.ebpf_machine.specs.Events.{under_way, with_run, with_bytes, with_owner, put_on, fetched, shelf_told, exchanged, moved_to, ended, trapped}
use Rattle.ebpf_machine.specs.Events.{replied, granted, done_by}
use Rattle.ebpf_machine.specs.Renaming.{value_renamed, register_renamed}
use Rattle.ebpf_machine.specs.View.{RunView, ObjectView, frame_seen, object_in, view_of, view_in, slots_in, new_object, shelved_object}
use Rattle.ebpf_machine.specs.View.{without_given, CallResult, reply_in}
use Rattle.ebpf_machine.specs.View as view
use Rattle.ebpf_machine.specs.Step.{Served, Granted, served_by, served_from, result_of}
use Rattle.ebpf_machine.specs.Advance.{slots_without, slots_exchanged, slots_acted, slots_after}
use Rattle.ebpf_machine.specs.Sound.{IsOwned}
use Rattle.ebpf_machine.proofs.Lists.ListLemmas.{IsFound, get_set_same, get_set_other, filter-map}
use Rattle.ebpf_machine.proofs.World.Owners.{slot_of_call, held_given, held_granted, others_given, others_granted}
use Rattle.ebpf_machine.proofs.World.OwnedParts.{nothing_yet}
use Rattle.ebpf_machine.proofs.World.Exchanges.{IsOwnGiven, IsNotGiven, stands, standing_there, kind_on_shelf, given_slot, call_given, slot_held}
use Rattle.ebpf_machine.proofs.World.Exchanges.{held_without, held_put, held_exchanged, others_put, others_fetched, objects_left, slots_left}
use Rattle.ebpf_machine.proofs.World.ObjectsSeen.{objects_of, objects_written, others_written, objects_given, others_given_back, objects_granted}
use Rattle.ebpf_machine.proofs.World.ObjectsSeen.{others_unchanged}
use Rattle.ebpf_machine.proofs.World.Telling.{by_call, act_told, effect_told}
pub use Rattle.ebpf_machine.proofs.World.Owners.{owner_of}

-- what a run sees of what its instruction asks, and of an effect
abbrev pub act_seen : Act Name → Act ℕ
act_seen act = act_told by_call act

abbrev pub effect_seen : Effect Name → Effect ℕ
effect_seen e = effect_told by_call e

-- the slot that is answered is home, and of the kind
abbrev pub IsGrantable : World → ℕ → Answer → Type 0
IsGrantable w kind (Slot slot) = (is_home w slot ≡ true) × (is_in slot (ledger_of w kind) ≡ true)
IsGrantable w kind _ = Unit {0}

-- what is written, freed or given is the run's, and what is asked for is of a kind that there is
abbrev pub IsOwnAct : World → ℕ → Answer → Act Name → Type 0
IsOwnAct w run answer Nothing = Unit {0}
IsOwnAct w run answer (Write name at bytes) = Contains w.owners (owner_of run name) × (at + length bytes ≤ length (w.bytes name.slot))
IsOwnAct w run answer (Ask kind) = (kind < length w.kinds) × IsGrantable w kind answer
IsOwnAct w run answer (Free name) = Contains w.owners (owner_of run name)
IsOwnAct w run answer (Exchange shelf given) = (shelf < length w.kinds) × IsOwnGiven w run shelf given

-- and it does not trap
abbrev pub IsOwnEffect : World → ℕ → Answer → Effect Name → Type 0
IsOwnEffect w run answer (Goes act to frame) = IsOwnAct w run answer act
IsOwnEffect w run answer (Ends n) = Unit {0}
IsOwnEffect w run answer (Traps trap) = ⊥

-- what an act is served: a call of swap by its shelf
abbrev pub served_act : World → Act Name → Answer → Served
served_act w Nothing answer = served_by answer
served_act w (Write name at bytes) answer = served_by answer
served_act w (Ask kind) answer = served_by answer
served_act w (Free name) answer = served_by answer
served_act w (Exchange shelf given) answer = served_from w (standing w shelf)

abbrev pub served_effect : World → Effect Name → Answer → Served
served_effect w (Goes act to frame) answer = served_act w act answer
served_effect w (Ends n) answer = served_by answer
served_effect w (Traps trap) answer = served_by answer

-- ---- a world in which one run was written

own_seen : (v : World) (run : ℕ) (runs : List Running) (r now : Running) → slice_get runs run ≡ Some r
    → v.runs ≡ slice_set runs run now → view_in v run ≡ Some (view_of v run now)
own_seen v run runs r now there written =
    ap (λ (rs : List Running). option_map (view_of v run) (slice_get rs run)) written ∙ ap (option_map (view_of v run)) (get_set_same runs run r now there)

other_seen : (v w : World) (run other : ℕ) (now : Running) → other ≢ run → v.runs ≡ slice_set w.runs run now
    → objects_of v other ≡ objects_of w other → view_in v other ≡ view_in w other
other_seen v w run other now ne written same =
    let there : slice_get v.runs other ≡ slice_get w.runs other =
    ap (λ (rs : List Running). slice_get rs other) written ∙ get_set_other w.runs run other now ne in
    ap (option_map (view_of v other)) there
    ∙ ap (λ (objects : List ObjectView). option_map (λ (r : Running). record (view_of w other r) { objects = objects }) (slice_get w.runs other)) same

-- ---- a reply

frame_replied : (frame : Frame Name) (v : Value Name) → frame_seen (with_value frame R0 v) ≡ with_value (frame_seen frame) R0 (value_renamed by_call.name v)
frame_replied frame v =
    ap (λ (registers : List (Option (Value ℕ))). record (frame_seen frame) { registers = registers })
    (map-set (register_renamed by_call.name) frame.registers 0 (Some v))

-- the view of a run that goes on with a reply, and with these objects
reply_seen : (w v : World) (run : ℕ) (r : Running) (kind to : ℕ) (told : CallResult) (x : Value Name) (frame : Frame Name) (objects : List ObjectView)
    → objects_of v run ≡ objects
    → view_of v run (replied kind (reply_in told) x to frame r)
    ≡ record (view.replied told (value_renamed by_call.name x) to (frame_seen frame) (view_of w run r)) { objects = objects }
reply_seen w v run r kind to told x frame objects same =
    let now : RunView = record (view.replied told (value_renamed by_call.name x) to (frame_seen frame) (view_of w run r)) { objects = objects } in
    let frames = frame_replied frame x in
    let replies = map_push (λ (t : AnsweredCall). t.reply) r.calls (record { at = r.pc; kind = kind; reply = reply_in told }) in
    λ i. record now { frame = frames i; objects = same i; replies = replies i }

null_seen : (w : World) (run : ℕ) (r : Running) (to kind : ℕ) (frame : Frame Name) → slice_get w.runs run ≡ Some r
    → view_in (with_run w run (replied kind reply.Null (Number 0) to frame r)) run
    ≡ Some (view.answered view.Null to (frame_seen frame) kind (view_of w run r))
null_seen w run r to kind frame there =
    let now = replied kind reply.Null (Number 0) to frame r in
    own_seen (with_run w run now) run w.runs r now there refl
    ∙ ap Some (reply_seen w (with_run w run now) run r kind to view.Null (Number 0) frame (objects_of w run) refl)

granted_seen : {w : World} (run : ℕ) (r : Running) (slot to kind : ℕ) (frame : Frame Name) → IsOwned w
    → slice_get w.runs run ≡ Some r → is_home w slot ≡ true → is_in slot (ledger_of w kind) ≡ true
    → view_in (granted slot w (under_way run r to frame) kind) run ≡ Some (view.answered view.Granted to (frame_seen frame) kind (view_of w run r))
granted_seen {w} run r slot to kind frame owned there home kind_is =
    by (nat_le r.subject.decl.held (holds_of w run))
    ∙ ap (λ (n : ℕ). Some (seen_by (nat_le r.subject.decl.held n))) (sym (length-map (held_by w run) (object_in w)))
  where
    now : Running
    now = replied kind reply.Granted (Pointer (Object (name_of slot r.pc)) (pos 0)) to frame r

    after : World
    after = with_owner slot (Run run r.pc) (with_bytes slot (image_at w.kinds kind) (with_run w run now))

    seen_now : RunView
    seen_now =
        record (view.replied view.Granted (Pointer (Object r.pc) (pos 0)) to (frame_seen frame)
        (view_of w run r)) { objects = objects_of w run ++ new_object (view_of w run r) kind ∷ [] }

    seen_by : Bool → RunView
    seen_by t = cond t (view.trapped TooManyObjects (view_of w run r)) seen_now

    by : (t : Bool) → view_in (cond t (with_run w run (trapped TooManyObjects r)) after) run ≡ Some (seen_by t)
    by true = own_seen (with_run w run (trapped TooManyObjects r)) run w.runs r (trapped TooManyObjects r) there refl
    by false =
        let kinds : kinds_of r.subject.rows ≡ w.kinds = owned.runs.kinds_are run r there in
        let objects = objects_granted w run r.pc slot kind owned home kind_is
        ∙ ap (λ (bytes : List ℕ). let o : ObjectView = record { call = r.pc; kind = kind; bytes = bytes } in objects_of w run ++ o ∷ [])
        (ap (λ ks. image_at ks kind) (sym kinds)) in
        own_seen after run w.runs r now there refl
        ∙ ap Some (reply_seen w after run r kind to view.Granted (Pointer (Object (name_of slot r.pc)) (pos 0)) frame
        (objects_of w run ++ new_object (view_of w run r) kind ∷ []) objects)

-- ---- an exchange

runs_put : (given : Option Name) (shelf run : ℕ) (w : World) → (put_on given shelf run w).runs ≡ w.runs
runs_put None shelf run w = refl
runs_put (Some name) shelf run w = refl

-- what a run sees of the owners that it has
objects_put : (w v : World) (run shelf : ℕ) (given : Option Name) → v.ledgers ≡ w.ledgers → v.bytes ≡ w.bytes
    → objects_of (put_on given shelf run v) run ≡ map (object_in w) (held_by (put_on given shelf run v) run)
objects_put w v run shelf None ledgers bytes = rw (ledgers, bytes) refl
objects_put w v run shelf (Some name) ledgers bytes = rw (ledgers, bytes) refl

others_objects : (w v : World) (run other shelf : ℕ) (given : Option Name) → other ≢ run → v.ledgers ≡ w.ledgers → v.bytes ≡ w.bytes
    → held_by v other ≡ held_by w other → objects_of (put_on given shelf run v) other ≡ objects_of w other
others_objects w v run other shelf None ne ledgers bytes held = rw (ledgers, bytes) (ap (map (object_in w)) held)
others_objects w v run other shelf (Some name) ne ledgers bytes held =
    rw (ledgers, bytes) (ap (map (object_in w)) (others_put v run other shelf (Some name) ne ∙ held))

-- a call that is given away is not the one at which the run is
not_now : {w : World} (run shelf : ℕ) (r : Running) (given : Option Name) → IsOwned w → slice_get w.runs run ≡ Some r
    → IsOwnGiven w run shelf given → IsNotGiven given r.pc
not_now run shelf r None owned there own = tt
not_now {w} run shelf r (Some name) owned there own = λ e. nothing_yet w run r (owner_of run name) owned there own.0 (ap (λ (n : ℕ). Run run n) e)

exchanged_seen : {w : World} (run : ℕ) (r : Running) (to shelf : ℕ) (frame : Frame Name) (given : Option Name) → IsOwned w
    → slice_get w.runs run ≡ Some r → IsOwnGiven w run shelf given
    → view_in (exchanged (standing w shelf) w (under_way run r to frame) shelf given) run
    ≡ Some (view.exchanged (result_of (served_from w (standing w shelf))) to (frame_seen frame) shelf (call_given given) (view_of w run r))
exchanged_seen {w} run r to shelf frame given owned there own = by (standing w shelf) (stands w shelf) where
  left : List ObjectView
  left = without_given (call_given given) (objects_of w run)

  left_is : map (object_in w) (held_without given (held_by w run)) ≡ left
  left_is = objects_left w given (held_by w run)

  by : (o : Option Owner) → IsFound (λ (p : Owner). is_shelf shelf p.holder) w.owners o
      → view_in (exchanged o w (under_way run r to frame) shelf given) run
      ≡ Some (view.exchanged (result_of (served_from w o)) to (frame_seen frame) shelf (call_given given) (view_of w run r))
  by None none =
      let now = replied shelf reply.Empty (Number 0) to frame r in
      let v = put_on given shelf run (with_run w run now) in
      let objects : objects_of v run ≡ left =
      objects_put w (with_run w run now) run shelf given refl refl
      ∙ ap (map (object_in w)) (held_put (with_run w run now) run shelf given (given_slot w run shelf given owned own)) ∙ left_is in
      own_seen v run w.runs r now there (runs_put given shelf run (with_run w run now))
      ∙ ap Some (reply_seen w v run r shelf to view.Empty (Number 0) frame left objects)
  by (Some o) found =
      by_room (nat_le r.subject.decl.held (holds_of (put_on given shelf run w) run))
      ∙ ap (λ (n : ℕ). Some (seen_by (nat_le r.subject.decl.held n)))
      (ap (λ (os : List Owner). length os) (held_put w run shelf given (given_slot w run shelf given owned own))
      ∙ sym (length-map (held_without given (held_by w run)) (object_in w)) ∙ ap (λ (os : List ObjectView). length os) left_is)
    where
      now : Running
      now = shelf_told o.slot (w.bytes o.slot) shelf to frame r

      got : World
      got = fetched o shelf run r.pc (with_run w run now)

      after : World
      after = put_on given shelf run got

      objects_now : List ObjectView
      objects_now = left ++ shelved_object (view_of w run r) shelf (w.bytes o.slot) ∷ []

      seen_now : RunView
      seen_now =
          record (view.replied (view.Shelved (w.bytes o.slot)) (Pointer (Object r.pc) (pos 0)) to (frame_seen frame)
          (view_of w run r)) { objects = objects_now; taken = r.taken ++ w.bytes o.slot }

      seen_by : Bool → RunView
      seen_by t = cond t (view.trapped TooManyObjects (view_of w run r)) seen_now

      new_is : object_in w (owner_of run (name_of o.slot r.pc)) ≡ shelved_object (view_of w run r) shelf (w.bytes o.slot)
      new_is =
          ap (λ (kind : ℕ). let v : ObjectView = record { call = r.pc; kind = kind; bytes = w.bytes o.slot } in v)
          (sym (kind_on_shelf w shelf o owned (standing_there w shelf o found)))

      objects : objects_of after run ≡ objects_now
      objects =
          objects_put w got run shelf given refl refl
          ∙ ap (map (object_in w)) (held_exchanged w run r.pc shelf o given now owned own (not_now run shelf r given owned there own))
          ∙ map_push (object_in w) (held_without given (held_by w run)) (owner_of run (name_of o.slot r.pc))
          ∙ ap (λ (os : List ObjectView). os ++ object_in w (owner_of run (name_of o.slot r.pc)) ∷ []) left_is
          ∙ ap (λ (v : ObjectView). left ++ v ∷ []) new_is

      by_room : (t : Bool) → view_in (cond t (with_run w run (trapped TooManyObjects r)) after) run ≡ Some (seen_by t)
      by_room true = own_seen (with_run w run (trapped TooManyObjects r)) run w.runs r (trapped TooManyObjects r) there refl
      by_room false =
          own_seen after run w.runs r now there (runs_put given shelf run got)
          ∙ ap (λ (v : RunView). Some (record v { taken = r.taken ++ w.bytes o.slot }))
          (reply_seen w after run r shelf to (view.Shelved (w.bytes o.slot)) (Pointer (Object (name_of o.slot r.pc)) (pos 0)) frame objects_now objects)

-- ---- the run that does the instruction

with_objects : (w : World) (run : ℕ) (r : Running) (to : ℕ) (frame : Frame Name) (objects now : List ObjectView) → objects ≡ now
    → Some (record (view.moved_to to (frame_seen frame) (view_of w run r)) { objects = objects })
    ≡ Some (record (view.moved_to to (frame_seen frame) (view_of w run r)) { objects = now })
with_objects w run r to frame objects now same =
    ap (λ (os : List ObjectView). Some (record (view.moved_to to (frame_seen frame) (view_of w run r)) { objects = os })) same

-- it sees what it does to it as a run that sees itself
pub own_view : {w : World} (run : ℕ) (r : Running) (e : Effect Name) (answer : Answer) → IsOwned w → slice_get w.runs run ≡ Some r
    → IsOwnEffect w run answer e
    → view_in (done_by e answer w run r) run ≡ Some (view.done_by (effect_seen e) (result_of (served_effect w e answer)) (view_of w run r))
own_view {w} run r (Ends n) answer owned there own = own_seen (with_run w run (ended n r)) run w.runs r (ended n r) there refl
own_view run r (Traps trap) answer owned there own = absurd own
own_view {w} run r (Goes Nothing to frame) answer owned there own =
    own_seen (with_run w run (moved_to to frame r)) run w.runs r (moved_to to frame r) there refl
own_view {w} run r (Goes (Write name at bytes) to frame) answer owned there own =
    own_seen (done_by (Goes (Write name at bytes) to frame) answer w run r) run w.runs r (moved_to to frame r) there refl
    ∙ with_objects w run r to frame _ _ (objects_written w run name at bytes owned own.0)
own_view {w} run r (Goes (Free name) to frame) answer owned there own =
    own_seen (done_by (Goes (Free name) to frame) answer w run r) run w.runs r (moved_to to frame r) there refl
    ∙ with_objects w run r to frame _ _ (objects_given w run name (image_at w.kinds (kind_in w name.slot)) owned own)
own_view run r (Goes (Exchange shelf given) to frame) answer owned there own = exchanged_seen run r to shelf frame given owned there own.1
own_view {w} run r (Goes (Ask kind) to frame) Absent owned there own = null_seen w run r to kind frame there
own_view {w} run r (Goes (Ask kind) to frame) Null owned there own = null_seen w run r to kind frame there
own_view run r (Goes (Ask kind) to frame) (Slot slot) owned there own = granted_seen run r slot to kind frame owned there own.1.0 own.1.1

-- ---- the other runs

others_taken : (w : World) (run other : ℕ) (r : Running) (slot to kind : ℕ) (frame : Frame Name) → is_home w slot ≡ true
    → other ≢ run → view_in (granted slot w (under_way run r to frame) kind) other ≡ view_in w other
others_taken w run other r slot to kind frame home ne = by (nat_le r.subject.decl.held (holds_of w run)) where
  now : Running
  now = replied kind reply.Granted (Pointer (Object (name_of slot r.pc)) (pos 0)) to frame r

  after : World
  after = with_owner slot (Run run r.pc) (with_bytes slot (image_at w.kinds kind) (with_run w run now))

  by : (t : Bool) → view_in (cond t (with_run w run (trapped TooManyObjects r)) after) other ≡ view_in w other
  by true = other_seen (with_run w run (trapped TooManyObjects r)) w run other (trapped TooManyObjects r) ne refl refl
  by false = other_seen after w run other now ne refl (others_unchanged w run other r.pc slot (image_at w.kinds kind) home ne)

others_exchanged : (w : World) (run other : ℕ) (r : Running) (to shelf : ℕ) (frame : Frame Name) (given : Option Name) → other ≢ run
    → view_in (exchanged (standing w shelf) w (under_way run r to frame) shelf given) other ≡ view_in w other
others_exchanged w run other r to shelf frame given ne = by (standing w shelf) where
  by : (o : Option Owner) → view_in (exchanged o w (under_way run r to frame) shelf given) other ≡ view_in w other
  by None =
      let now = replied shelf reply.Empty (Number 0) to frame r in
      other_seen (put_on given shelf run (with_run w run now)) w run other now ne (runs_put given shelf run (with_run w run now))
      (others_objects w (with_run w run now) run other shelf given ne refl refl refl)
  by (Some o) = by_room (nat_le r.subject.decl.held (holds_of (put_on given shelf run w) run)) where
    now : Running
    now = shelf_told o.slot (w.bytes o.slot) shelf to frame r

    got : World
    got = fetched o shelf run r.pc (with_run w run now)

    by_room : (t : Bool) → view_in (cond t (with_run w run (trapped TooManyObjects r)) (put_on given shelf run got)) other ≡ view_in w other
    by_room true = other_seen (with_run w run (trapped TooManyObjects r)) w run other (trapped TooManyObjects r) ne refl refl
    by_room false =
        other_seen (put_on given shelf run got) w run other now ne (runs_put given shelf run got)
        (others_objects w got run other shelf given ne refl refl (others_fetched w run other r.pc shelf o ne))

-- every other run's view is as it was
pub others_view : {w : World} (run other : ℕ) (r : Running) (e : Effect Name) (answer : Answer) → IsOwned w → IsOwnEffect w run answer e → other ≢ run
    → view_in (done_by e answer w run r) other ≡ view_in w other
others_view {w} run other r (Ends n) answer owned own ne = other_seen (with_run w run (ended n r)) w run other (ended n r) ne refl refl
others_view run other r (Traps trap) answer owned own ne = absurd own
others_view {w} run other r (Goes Nothing to frame) answer owned own ne =
    other_seen (with_run w run (moved_to to frame r)) w run other (moved_to to frame r) ne refl refl
others_view {w} run other r (Goes (Write name at bytes) to frame) answer owned own ne =
    other_seen (done_by (Goes (Write name at bytes) to frame) answer w run r) w run other (moved_to to frame r) ne refl
    (others_written w run other name (patched (w.bytes name.slot) at bytes) owned own.0 ne)
others_view {w} run other r (Goes (Free name) to frame) answer owned own ne =
    other_seen (done_by (Goes (Free name) to frame) answer w run r) w run other (moved_to to frame r) ne refl
    (others_given_back w run other name (image_at w.kinds (kind_in w name.slot)) owned own ne)
others_view {w} run other r (Goes (Exchange shelf given) to frame) answer owned own ne = others_exchanged w run other r to shelf frame given ne
others_view {w} run other r (Goes (Ask kind) to frame) Absent owned own ne =
    let now = replied kind reply.Null (Number 0) to frame r in other_seen (with_run w run now) w run other now ne refl refl
others_view {w} run other r (Goes (Ask kind) to frame) Null owned own ne =
    let now = replied kind reply.Null (Number 0) to frame r in other_seen (with_run w run now) w run other now ne refl refl
others_view {w} run other r (Goes (Ask kind) to frame) (Slot slot) owned own ne = others_taken w run other r slot to kind frame own.1.0 ne

-- ---- the slots that a run holds

others_held : (w : World) (run other : ℕ) (r : Running) (slot to kind : ℕ) (frame : Frame Name) → other ≢ run
    → held_by (granted slot w (under_way run r to frame) kind) other ≡ held_by w other
others_held w run other r slot to kind frame ne = by (nat_le r.subject.decl.held (holds_of w run)) where
  now : Running
  now = replied kind reply.Granted (Pointer (Object (name_of slot r.pc)) (pos 0)) to frame r

  by : (t : Bool)
      → held_by (cond t (with_run w run (trapped TooManyObjects r))
      (with_owner slot (Run run r.pc) (with_bytes slot (image_at w.kinds kind) (with_run w run now)))) other ≡ held_by w other
  by true = refl
  by false = others_granted w run other r.pc slot ne

others_hold : (w : World) (run other : ℕ) (r : Running) (to shelf : ℕ) (frame : Frame Name) (given : Option Name) → other ≢ run
    → held_by (exchanged (standing w shelf) w (under_way run r to frame) shelf given) other ≡ held_by w other
others_hold w run other r to shelf frame given ne = by (standing w shelf) where
  by : (o : Option Owner) → held_by (exchanged o w (under_way run r to frame) shelf given) other ≡ held_by w other
  by None = others_put (with_run w run (replied shelf reply.Empty (Number 0) to frame r)) run other shelf given ne
  by (Some o) = by_room (nat_le r.subject.decl.held (holds_of (put_on given shelf run w) run)) where
    got : World
    got = fetched o shelf run r.pc (with_run w run (shelf_told o.slot (w.bytes o.slot) shelf to frame r))

    by_room : (t : Bool) → held_by (cond t (with_run w run (trapped TooManyObjects r)) (put_on given shelf run got)) other ≡ held_by w other
    by_room true = refl
    by_room false = others_put got run other shelf given ne ∙ others_fetched w run other r.pc shelf o ne

-- those of every other run are as they were
pub others_slots : {w : World} (run other : ℕ) (r : Running) (e : Effect Name) (answer : Answer) → IsOwned w → IsOwnEffect w run answer e → other ≢ run
    → slots_in (done_by e answer w run r) other ≡ slots_in w other
others_slots run other r (Ends n) answer owned own ne = refl
others_slots run other r (Traps trap) answer owned own ne = absurd own
others_slots run other r (Goes Nothing to frame) answer owned own ne = refl
others_slots run other r (Goes (Write name at bytes) to frame) answer owned own ne = refl
others_slots {w} run other r (Goes (Free name) to frame) answer owned own ne = ap (map slot_held) (others_given w run other name ne)
others_slots {w} run other r (Goes (Exchange shelf given) to frame) answer owned own ne =
    ap (map slot_held) (others_hold w run other r to shelf frame given ne)
others_slots run other r (Goes (Ask kind) to frame) Absent owned own ne = refl
others_slots run other r (Goes (Ask kind) to frame) Null owned own ne = refl
others_slots {w} run other r (Goes (Ask kind) to frame) (Slot slot) owned own ne = ap (map slot_held) (others_held w run other r slot to kind frame ne)

slots_granted : (w : World) (run : ℕ) (r : Running) (slot to kind : ℕ) (frame : Frame Name)
    → slots_in (granted slot w (under_way run r to frame) kind) run ≡ slots_acted (Ask kind) (Granted slot) r.subject.decl.held r.pc (slots_in w run)
slots_granted w run r slot to kind frame =
    by (nat_le r.subject.decl.held (holds_of w run))
    ∙ ap (λ (n : ℕ). slots_by (nat_le r.subject.decl.held n)) (sym (length-map (held_by w run) slot_held)) where
      now : Running
      now = replied kind reply.Granted (Pointer (Object (name_of slot r.pc)) (pos 0)) to frame r

      slots_by : Bool → List Name
      slots_by t = cond t (slots_in w run) (slots_in w run ++ name_of slot r.pc ∷ [])

      by : (t : Bool)
          → slots_in (cond t (with_run w run (trapped TooManyObjects r))
          (with_owner slot (Run run r.pc) (with_bytes slot (image_at w.kinds kind) (with_run w run now)))) run ≡ slots_by t
      by true = refl
      by false = ap (map slot_held) (held_granted w run r.pc slot) ∙ map_push slot_held (held_by w run) (owner_of run (name_of slot r.pc))

slots_after_exchange : {w : World} (run : ℕ) (r : Running) (to shelf : ℕ) (frame : Frame Name) (given : Option Name) → IsOwned w
    → slice_get w.runs run ≡ Some r → IsOwnGiven w run shelf given
    → slots_in (exchanged (standing w shelf) w (under_way run r to frame) shelf given) run
    ≡ slots_exchanged (served_from w (standing w shelf)) r.subject.decl.held r.pc (call_given given) (slots_in w run)
slots_after_exchange {w} run r to shelf frame given owned there own = by (standing w shelf) where
  left : List Name
  left = slots_without (call_given given) (slots_in w run)

  left_is : map slot_held (held_without given (held_by w run)) ≡ left
  left_is = slots_left given (held_by w run)

  by : (o : Option Owner)
      → slots_in (exchanged o w (under_way run r to frame) shelf given) run
      ≡ slots_exchanged (served_from w o) r.subject.decl.held r.pc (call_given given) (slots_in w run)
  by None =
      ap (map slot_held) (held_put (with_run w run (replied shelf reply.Empty (Number 0) to frame r)) run shelf given
      (given_slot w run shelf given owned own)) ∙ left_is
  by (Some o) =
      by_room (nat_le r.subject.decl.held (holds_of (put_on given shelf run w) run))
      ∙ ap (λ (n : ℕ). slots_by (nat_le r.subject.decl.held n))
      (ap (λ (os : List Owner). length os) (held_put w run shelf given (given_slot w run shelf given owned own))
      ∙ sym (length-map (held_without given (held_by w run)) slot_held) ∙ ap (λ (ns : List Name). length ns) left_is)
    where
      now : Running
      now = shelf_told o.slot (w.bytes o.slot) shelf to frame r

      slots_by : Bool → List Name
      slots_by t = cond t (slots_in w run) (left ++ name_of o.slot r.pc ∷ [])

      by_room : (t : Bool)
          → slots_in (cond t (with_run w run (trapped TooManyObjects r)) (put_on given shelf run (fetched o shelf run r.pc (with_run w run now)))) run
          ≡ slots_by t
      by_room true = refl
      by_room false =
          ap (map slot_held) (held_exchanged w run r.pc shelf o given now owned own (not_now run shelf r given owned there own))
          ∙ map_push slot_held (held_without given (held_by w run)) (owner_of run (name_of o.slot r.pc))
          ∙ ap (λ (ns : List Name). ns ++ name_of o.slot r.pc ∷ []) left_is

pub own_slots : {w : World} (run : ℕ) (r : Running) (e : Effect Name) (answer : Answer) → IsOwned w → slice_get w.runs run ≡ Some r
    → IsOwnEffect w run answer e
    → slots_in (done_by e answer w run r) run ≡ slots_after (effect_seen e) (served_effect w e answer) r.subject.decl.held r.pc (slots_in w run)
own_slots run r (Ends n) answer owned there own = refl
own_slots run r (Traps trap) answer owned there own = absurd own
own_slots run r (Goes Nothing to frame) answer owned there own = refl
own_slots run r (Goes (Write name at bytes) to frame) answer owned there own = refl
own_slots {w} run r (Goes (Free name) to frame) answer owned there own =
    ap (map slot_held) (held_given w run name (λ o among e. slot_of_call w run name o owned own among e))
    ∙ sym (filter-map (λ (n : Name). not (n.call == name.call)) slot_held (held_by w run))
own_slots run r (Goes (Exchange shelf given) to frame) answer owned there own = slots_after_exchange run r to shelf frame given owned there own.1
own_slots run r (Goes (Ask kind) to frame) Absent owned there own = refl
own_slots run r (Goes (Ask kind) to frame) Null owned there own = refl
own_slots {w} run r (Goes (Ask kind) to frame) (Slot slot) owned there own = slots_granted w run r slot to kind frame
