-- What is on the shelves of a world after an event: what a run gave, on the shelf of its exchange, and what was there, on the
-- others.
use Rattle.std.proofs.Common.{◌≡◌, ◌≢◌, ◌⊎◌, inl, inr, ℕ, Bool, true, false, cond, not, ◌&&◌, List, [], ◌∷◌, ◌++◌, length, filter, Option, Some}
use Rattle.std.proofs.Common.{None, option_map, refl, sym, ap, ◌∙◌, arith, pos}
use Rattle.std.specs.Prelude.{Contains, ◌==◌, nat_le}
use Rattle.std.specs.List.{find}
use Rattle.std.proofs.lemmas.Bool.{cases_eq, eqb-true, eq-eqb, ne_eqb, false_from_ne_true}
use Rattle.std.proofs.lemmas.Bool.Decides.{nat_tests}
use Rattle.std.proofs.lemmas.List.{length-map}
use Rattle.ebpf_machine.specs.declared.value.Value.TheVariants.{Number, Pointer}
use Rattle.ebpf_machine.specs.declared.value.Base.TheVariants.{Object}
use Rattle.ebpf_machine.specs.declared.report.Reply.TheVariants as reply
use Rattle.ebpf_machine.specs.Bytes.{patched}
use Rattle.ebpf_machine.specs.Values.{TooManyObjects, Frame}
use Rattle.ebpf_machine.specs.Effect.{Nothing, Write, Ask, Free, Exchange, Effect, Goes, Ends, Traps}
use Rattle.ebpf_machine.specs.declared.answer.Answer.{Answer}
use Rattle.ebpf_machine.specs.declared.answer.Answer.TheVariants.{Absent, Null, Slot}
use Rattle.ebpf_machine.specs.World.{Name, World, Running, Owner, Holder, Run, Shelf, Shelved, is_home, is_run, is_call, is_shelf, standing}
use Rattle.ebpf_machine.specs.World.{shelved_at, shelved_in, held_by, holds_of, image_at, kind_in, name_of}
use Rattle.ebpf_machine.specs.Events.{under_way, with_run, with_bytes, with_owner, without_owner, without_shelved, put_on, fetched, shelf_told}
use Rattle.ebpf_machine.specs.Events.{exchanged, moved_to, trapped, replied, granted, done_by}
use Rattle.ebpf_machine.specs.View.{ObjectView, call_of, object_in, view_of, slots_in, without_given}
use Rattle.ebpf_machine.specs.Step.{shelved_given, standing_then, name_given, standing_seen}
use Rattle.ebpf_machine.specs.Sound.{IsOwned}
use Rattle.ebpf_machine.proofs.Lists.ListLemmas.{IsFound, Contains-filter, Contains-kept, find_is, find-map}
use Rattle.ebpf_machine.proofs.Rules.Next.{HasRoom}
use Rattle.ebpf_machine.proofs.World.Owners.{owner_of, is_shelf-own, held_owner, slot_of_call, holder_of_slot, not_home}
use Rattle.ebpf_machine.proofs.World.Moves.{owned_by}
use Rattle.ebpf_machine.proofs.World.Exchanges.{and_false, stays_off, IsOwnGiven, stands, standing_there, off_shelf, shelf_is_no_run, fetched_off}
use Rattle.ebpf_machine.proofs.World.Exchanges.{call_given, given_slot, slot_held, held_without, held_put, objects_left}
use Rattle.ebpf_machine.proofs.World.ObjectsSeen.{objects_of}
use Rattle.ebpf_machine.proofs.World.Shelving.{none_found, find_last}
use Rattle.ebpf_machine.proofs.World.Acts.{act_seen, effect_seen, IsOwnEffect}

-- ---- a search, where the list changes elsewhere

find_pushed : {X : Type 0} (p : X → Bool) (xs : List X) (y : X) → p y ≡ false → find p (xs ++ y ∷ []) ≡ find p xs
find_pushed p [] y fails = rw fails refl
find_pushed p (x ∷ xs) y fails = ap (λ (rest : Option _). cond (p x) (Some x) rest) (find_pushed p xs y fails)

find_filtered : {X : Type 0} (p q : X → Bool) (xs : List X) → ((x : X) → p x ≡ true → q x ≡ true) → find p (filter q xs) ≡ find p xs
find_filtered p q [] stays = refl
find_filtered {X} p q (x ∷ xs) stays = by (p x) (q x) refl refl (stays x) (find_filtered p q xs stays) where
  by : (s t : Bool) → p x ≡ s → q x ≡ t → (p x ≡ true → q x ≡ true) → find p (filter q xs) ≡ find p xs
      → find p (cond t (x ∷ filter q xs) (filter q xs)) ≡ cond s (Some x) (find p xs)
  by s true here kept stays rest = ap (λ (u : Bool). cond u (Some x) (find p (filter q xs))) here ∙ ap (λ (o : Option X). cond s (Some x) o) rest
  by true false here kept stays rest = let yes = stays here in absurd (cc)
  by false false here kept stays rest = rest

-- ---- what is on a shelf, where owners change elsewhere

standing_granted : (w : World) (run at slot shelf : ℕ) → standing (with_owner slot (Run run at) w) shelf ≡ standing w shelf
standing_granted w run at slot shelf = find_pushed (λ (o : Owner). is_shelf shelf o.holder) w.owners (owned_by slot (Run run at)) refl

standing_given : (w : World) (run : ℕ) (name : Name) (shelf : ℕ) → standing (without_owner run name w) shelf ≡ standing w shelf
standing_given w run name shelf =
    find_filtered (λ (o : Owner). is_shelf shelf o.holder) (λ (o : Owner). not ((o.slot == name.slot) && is_call run name.call o.holder)) w.owners
    (λ o on. stays o.slot o.holder on) where
      stays : (slot : ℕ) (h : Holder) → is_shelf shelf h ≡ true → not ((slot == name.slot) && is_call run name.call h) ≡ true
      stays slot (Run r at) on = absurd (cc)
      stays slot (Shelf s) on = ap not (and_false (slot == name.slot))

-- what is on another shelf stays
another_shelf : (shelf k : ℕ) (h : Holder) → shelf ≢ k → is_shelf shelf h ≡ true → is_shelf k h ≡ false
another_shelf shelf k h ne on = false_from_ne_true (is_shelf k h) (λ there. ne (same h on there)) where
  same : (h : Holder) → is_shelf shelf h ≡ true → is_shelf k h ≡ true → shelf ≡ k
  same (Run r at) on there = absurd (cc)
  same (Shelf s) on there = sym (eqb-true s shelf on) ∙ eqb-true s k there

standing_unshelved : (w : World) (slot k shelf : ℕ) → shelf ≢ k → standing (without_shelved slot k w) shelf ≡ standing w shelf
standing_unshelved w slot k shelf ne = find_filtered (λ (o : Owner). is_shelf shelf o.holder) (stays_off slot k) w.owners (λ o on. stays o on) where
  stays : (o : Owner) → is_shelf shelf o.holder ≡ true → stays_off slot k o ≡ true
  stays o on = ap (λ (t : Bool). not ((o.slot == slot) && t)) (another_shelf shelf k o.holder ne on) ∙ ap not (and_false (o.slot == slot))

standing_fetched : (w : World) (o : Owner) (run at k shelf : ℕ) → shelf ≢ k → standing (fetched o k run at w) shelf ≡ standing w shelf
standing_fetched w o run at k shelf ne = standing_granted (without_shelved o.slot k w) run at o.slot shelf ∙ standing_unshelved w o.slot k shelf ne

standing_elsewhere : (w : World) (slot k shelf : ℕ) → shelf ≢ k → standing (with_owner slot (Shelf k) w) shelf ≡ standing w shelf
standing_elsewhere w slot k shelf ne =
    find_pushed (λ (o : Owner). is_shelf shelf o.holder) w.owners (owned_by slot (Shelf k)) (ne_eqb k shelf (λ e. ne (sym e)))

-- where nothing is on a shelf, what is put there is
standing_put : (w : World) (slot k : ℕ) → ((p : Owner) → Contains w.owners p → is_shelf k p.holder ≡ false)
    → standing (with_owner slot (Shelf k) w) k ≡ Some (owned_by slot (Shelf k))
standing_put w slot k off = find_last (λ (o : Owner). is_shelf k o.holder) w.owners (owned_by slot (Shelf k)) off (eq-eqb k k refl)

-- ---- and its bytes

-- the same slot with the same bytes
shelf_stays : (w v : World) (shelf : ℕ) → standing v shelf ≡ standing w shelf
    → ((o : Owner) → Contains w.owners o → o.holder ≡ Shelf shelf → v.bytes o.slot ≡ w.bytes o.slot)
    → shelved_in v shelf ≡ shelved_in w shelf
shelf_stays w v shelf same kept = ap (option_map (λ (o : Owner). shelved_at v o.slot)) same ∙ by (standing w shelf) (stands w shelf) where
  by : (o : Option Owner) → IsFound (λ (p : Owner). is_shelf shelf p.holder) w.owners o
      → option_map (λ (p : Owner). shelved_at v p.slot) o ≡ option_map (λ (p : Owner). shelved_at w p.slot) o
  by None none = refl
  by (Some o) found =
      let on = standing_there w shelf o found in
      ap (λ (bytes : List ℕ). Some (record { slot = o.slot; bytes = bytes })) (kept o on.among on.holder)

-- what a run has is in another slot than what is on a shelf
apart_from_shelf : (w : World) (run : ℕ) (name : Name) (shelf : ℕ) (o : Owner) → IsOwned w → Contains w.owners (owner_of run name)
    → Contains w.owners o → o.holder ≡ Shelf shelf → o.slot ≢ name.slot
apart_from_shelf w run name shelf o owned own among on e = shelf_is_no_run shelf run name.call (sym on ∙ holder_of_slot w run name o owned own among e)

bytes_elsewhere : (w : World) (slot : ℕ) (bytes : List ℕ) (s : ℕ) → s ≢ slot → (with_bytes slot bytes w).bytes s ≡ w.bytes s
bytes_elsewhere w slot bytes s ne = let apart = ne_eqb s slot ne in rw apart refl

-- ---- an act

shelf_written : (w v : World) (run : ℕ) (name : Name) (bytes : List ℕ) (shelf : ℕ) → IsOwned w
    → Contains w.owners (owner_of run name) → standing v shelf ≡ standing w shelf → v.bytes ≡ w.bytes
    → shelved_in (with_bytes name.slot bytes v) shelf ≡ shelved_in w shelf
shelf_written w v run name bytes shelf owned own same old =
    shelf_stays w (with_bytes name.slot bytes v) shelf same
    (λ o among on. bytes_elsewhere v name.slot bytes o.slot (apart_from_shelf w run name shelf o owned own among on) ∙ ap (λ (f : ℕ → List ℕ). f o.slot) old)

shelf_granted : (w : World) (run : ℕ) (r : Running) (slot to kind : ℕ) (frame : Frame Name) (shelf : ℕ) → is_home w slot ≡ true
    → shelved_in (granted slot w (under_way run r to frame) kind) shelf ≡ shelved_in w shelf
shelf_granted w run r slot to kind frame shelf home = by (nat_le r.subject.decl.held (holds_of w run)) where
  by : (t : Bool)
      → shelved_in (cond t (with_run w run (trapped TooManyObjects r))
      (with_owner slot (Run run r.pc)
      (with_bytes slot (image_at w.kinds kind)
      (with_run w run (replied kind reply.Granted (Pointer (Object (name_of slot r.pc)) (pos 0)) to frame r))))) shelf ≡ shelved_in w shelf
  by true = refl
  by false =
      let after = with_owner slot (Run run r.pc) (with_bytes slot (image_at w.kinds kind) w) in
      shelf_stays w after shelf (standing_granted w run r.pc slot shelf)
      (λ o among on. bytes_elsewhere w slot (image_at w.kinds kind) o.slot (not_home w o slot home among))

-- ---- an exchange

-- what is given is on the shelf, where nothing was there; other shelves are as they were
shelf_put : (w v : World) (run k : ℕ) (given : Option Name) → ((p : Owner) → Contains v.owners p → p.holder ≢ Shelf k)
    → ((shelf : ℕ) → shelf ≢ k → standing v shelf ≡ standing w shelf) → v.bytes ≡ w.bytes
    → (shelf : ℕ) → shelved_in (put_on given k run v) shelf ≡ cond (shelf == k) (shelved_given w given) (shelved_in w shelf)
shelf_put w v run k given nobody elsewhere bytes shelf = by (cases_eq shelf k) where
  off : (p : Owner) → Contains v.owners p → is_shelf k p.holder ≡ false
  off p among = false_from_ne_true (is_shelf k p.holder) (λ on. nobody p among (is_shelf-own k p.holder on))

  here : (given : Option Name) → shelved_in (put_on given k run v) k ≡ shelved_given w given
  here None = ap (option_map (λ (o : Owner). shelved_at v o.slot)) (none_found (λ (o : Owner). is_shelf k o.holder) v.owners off)
  here (Some name) =
      let left = without_owner run name v in
      let stays : Owner → Bool = λ o. not ((o.slot == name.slot) && is_call run name.call o.holder) in
      ap (option_map (λ (o : Owner). shelved_at v o.slot)) (standing_put left name.slot k (λ p among. off p (Contains-filter stays v.owners p among).0))
      ∙ ap (λ (f : ℕ → List ℕ). Some (record { slot = name.slot; bytes = f name.slot })) bytes

  away : (given : Option Name) → shelf ≢ k → shelved_in (put_on given k run v) shelf ≡ shelved_in w shelf
  away None ne = shelf_stays w v shelf (elsewhere shelf ne) (λ o among on. ap (λ (f : ℕ → List ℕ). f o.slot) bytes)
  away (Some name) ne =
      shelf_stays w (put_on (Some name) k run v) shelf
      (standing_elsewhere (without_owner run name v) name.slot k shelf ne ∙ standing_given v run name shelf ∙ elsewhere shelf ne)
      (λ o among on. ap (λ (f : ℕ → List ℕ). f o.slot) bytes)

  by : (shelf ≡ k) ⊎ (shelf ≢ k) → shelved_in (put_on given k run v) shelf ≡ cond (shelf == k) (shelved_given w given) (shelved_in w shelf)
  by (inl e) = let same = eq-eqb shelf k e in rw same (ap (shelved_in (put_on given k run v)) e ∙ here given)
  by (inr ne) = let apart = ne_eqb shelf k ne in rw apart (away given ne)

-- an exchange of a run that has room does not trap
has_room : (w : World) (run : ℕ) (r : Running) (k : ℕ) (given : Option Name) → IsOwned w → IsOwnGiven w run k given
    → HasRoom (view_of w run r) (Exchange k (call_given given))
    → nat_le r.subject.decl.held (holds_of (put_on given k run w) run) ≡ false
has_room w run r k given owned own room =
    let many : holds_of (put_on given k run w) run ≡ length (without_given (call_given given) (objects_of w run)) =
    ap (λ (os : List Owner). length os) (held_put w run k given (given_slot w run k given owned own))
    ∙ sym (length-map (held_without given (held_by w run)) (object_in w)) ∙ ap (λ (os : List ObjectView). length os) (objects_left w given (held_by w run)) in
    let few = room.1 in
    grind (arith, nat_tests)

shelf_exchanged : (w : World) (run : ℕ) (r : Running) (to k : ℕ) (frame : Frame Name) (given : Option Name) → IsOwned w
    → IsOwnGiven w run k given → HasRoom (view_of w run r) (Exchange k (call_given given))
    → (shelf : ℕ) → shelved_in (exchanged (standing w k) w (under_way run r to frame) k given) shelf
    ≡ cond (shelf == k) (shelved_given w given) (shelved_in w shelf)
shelf_exchanged w run r to k frame given owned own room shelf = by (standing w k) (stands w k) where
  by : (o : Option Owner) → IsFound (λ (p : Owner). is_shelf k p.holder) w.owners o
      → shelved_in (exchanged o w (under_way run r to frame) k given) shelf ≡ cond (shelf == k) (shelved_given w given) (shelved_in w shelf)
  by None none =
      shelf_put w (with_run w run (replied k reply.Empty (Number 0) to frame r)) run k given (λ p among. off_shelf k p (none p among))
      (λ s ne. refl) refl shelf
  by (Some o) found =
      let on = standing_there w k o found in
      let fits = has_room w run r k given owned own room in
      let got = fetched o k run r.pc (with_run w run (shelf_told o.slot (w.bytes o.slot) k to frame r)) in
      rw fits (shelf_put w got run k given (λ p among. fetched_off w run r.pc k o p owned on among) (λ s ne. standing_fetched w o run r.pc k s ne) refl shelf)

-- ---- an effect

-- what a run asks for has room
abbrev pub HasRoomFor : World → ℕ → Running → Effect Name → Type 0
HasRoomFor w run r (Goes act to frame) = HasRoom (view_of w run r) (act_seen act)
HasRoomFor w run r (Ends n) = Unit {0}
HasRoomFor w run r (Traps trap) = Unit {0}

pub shelves_done : (w : World) (run : ℕ) (r : Running) (e : Effect Name) (answer : Answer) → IsOwned w → IsOwnEffect w run answer e → HasRoomFor w run r e
    → (shelf : ℕ) → shelved_in (done_by e answer w run r) shelf ≡ standing_then w e shelf
shelves_done w run r (Ends n) answer owned own room shelf = refl
shelves_done w run r (Traps trap) answer owned own room shelf = refl
shelves_done w run r (Goes Nothing to frame) answer owned own room shelf = refl
shelves_done w run r (Goes (Write name at bytes) to frame) answer owned own room shelf =
    shelf_written w (with_run w run (moved_to to frame r)) run name (patched (w.bytes name.slot) at bytes) shelf owned own.0 refl refl
shelves_done w run r (Goes (Free name) to frame) answer owned own room shelf =
    shelf_written w (without_owner run name (with_run w run (moved_to to frame r))) run name (image_at w.kinds (kind_in w name.slot)) shelf owned own
    (standing_given w run name shelf) refl
shelves_done w run r (Goes (Exchange k given) to frame) answer owned own room shelf = shelf_exchanged w run r to k frame given owned own.1 room shelf
shelves_done w run r (Goes (Ask kind) to frame) Absent owned own room shelf = refl
shelves_done w run r (Goes (Ask kind) to frame) Null owned own room shelf = refl
shelves_done w run r (Goes (Ask kind) to frame) (Slot slot) owned own room shelf = shelf_granted w run r slot to kind frame shelf own.1.0

-- ---- as the run sees it

-- the run finds what it gives by its call
given_found : (w : World) (run k : ℕ) (given : Option Name) → IsOwned w → IsOwnGiven w run k given
    → shelved_given w (name_given (slots_in w run) (call_given given)) ≡ shelved_given w given
given_found w run k None owned own = refl
given_found w run k (Some name) owned own =
    ap (shelved_given w) (find-map (λ (n : Name). n.call == name.call) slot_held (held_by w run))
    ∙ by (find named (held_by w run)) (find_is named (held_by w run))
  where
    named : Owner → Bool
    named o = call_of o.holder == name.call

    by : (o : Option Owner) → IsFound named (held_by w run) o → shelved_given w (option_map slot_held o) ≡ Some (shelved_at w name.slot)
    by (Some o) found =
        let held = held_owner w run o found.0 in
        let slot = slot_of_call w run name o owned own.0 held.0 (held.1 ∙ ap (λ (n : ℕ). Run run n) (eqb-true (call_of o.holder) name.call found.1)) in
        ap (λ (s : ℕ). Some (shelved_at w s)) slot
    by None none =
        let there = none (owner_of run name) (Contains-kept (λ (o : Owner). is_run run o.holder) w.owners (owner_of run name) own.0 (eq-eqb run run refl)) in
        let its = eq-eqb name.call name.call refl in
        absurd (cc)

pub standing_alike : (w : World) (run : ℕ) (e : Effect Name) (answer : Answer) → IsOwned w → IsOwnEffect w run answer e
    → (shelf : ℕ) → standing_then w e shelf ≡ standing_seen w (slots_in w run) (effect_seen e) shelf
standing_alike w run (Ends n) answer owned own shelf = refl
standing_alike w run (Traps trap) answer owned own shelf = refl
standing_alike w run (Goes Nothing to frame) answer owned own shelf = refl
standing_alike w run (Goes (Write name at bytes) to frame) answer owned own shelf = refl
standing_alike w run (Goes (Ask kind) to frame) answer owned own shelf = refl
standing_alike w run (Goes (Free name) to frame) answer owned own shelf = refl
standing_alike w run (Goes (Exchange k given) to frame) answer owned own shelf =
    ap (λ (what : Option Shelved). cond (shelf == k) what (shelved_in w shelf)) (sym (given_found w run k given owned own.1))
