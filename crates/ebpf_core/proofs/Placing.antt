-- What the world that is kept has of a slot is what the world that it shows has of it.
use Rattle.std.proofs.Common.{◌≡◌, ◌≢◌, ◌⊎◌, inl, inr, ℕ, zero, suc, Bool, true, false, not, List, [], ◌∷◌, Option, Some, None, refl, sym, ap, ◌∙◌, subst}
use Rattle.std.specs.Prelude.{slice_get, Contains, ◌==◌, ◌&&◌, ◌||◌, map, option_map, slice_index_or}
use Rattle.std.specs.List.{list_any}
use Rattle.std.proofs.lemmas.Bool.{eqb-true, eq-eqb, false_from_ne_true, and_from, not_from_false}
use Rattle.ebpf_machine.specs.declared.holding.Holding.{Holding}
use Rattle.ebpf_machine.specs.World.{Name, World, Running, Owner, Holder, Run, Shelf, held_by, is_by_run, is_home, is_in, is_in_ledger, is_owned}
use Rattle.ebpf_machine.specs.World.{is_shelf, ledger_of, name_of, shelved_at, standing}
use Rattle.ebpf_machine.specs.World as world
use Rattle.ebpf_machine.specs.Sound.{IsOwned}
use Rattle.ebpf_machine.specs.View.{ObjectView, RunView, call_of, object_in, view_of, view_in}
use Rattle.ebpf_machine.specs.RunState.{RunState, object_seen}
use Rattle.ebpf_machine.proofs.Lists.ListLemmas.{IsFound, any_from, any_one, find_is}
use Rattle.ebpf_machine.proofs.Lists.Mapped.{Contains-mapped, Contains-unmapped}
use Rattle.ebpf_machine.proofs.World.Owners.{owner_of, is_shelf-own, held_owner}
use Rattle.ebpf_machine.specs.declared.answer.Answer.{Answer}
use Rattle.ebpf_machine.specs.declared.answer.Answer.TheVariants.{Absent, Null, Slot}
use Rattle.ebpf_shelves.specs.declared.object.Object.{Object}
use Rattle.ebpf_core.specs.declared.place.Place.{Place}
use Rattle.ebpf_core.specs.declared.place.Place.TheVariants.{Home, Held, Shelved}
use Rattle.ebpf_shelves.specs.Shelves.{as_shelved, on_shelf, slot_on}
use Rattle.ebpf_core.specs.Places.{place_at}
use Rattle.ebpf_core.specs.Shown.{WorldState, Shows, ArePlaced, IsPlaced, slots_of, run_seen}
use Rattle.ebpf_core.proofs.LegalAnswers.{IsKeptIn, AnswersFrom}
use Rattle.ebpf_core.proofs.OwnedSlots.{held_owns, owns_held, owner_runs}
use Rattle.ebpf_core.proofs.Runs.{run_shown}

-- a run of the world is kept
pub run_kept : (w : World) (kept : WorldState) (k : ℕ) (run : Running) → Shows w kept → slice_get w.runs k ≡ Some run
    → (r : RunState Object) × (slice_get kept.runs k ≡ Some r)
run_kept w kept k run h there = by (slice_get kept.runs k) refl where
  by : (o : Option (RunState Object)) → slice_get kept.runs k ≡ o → (r : RunState Object) × (slice_get kept.runs k ≡ Some r)
  by (Some r) at = (r, at)
  by None at =
      let seen : view_in w k ≡ Some (view_of w k run) = rw there refl in
      let none : view_in w k ≡ None = h.views k ∙ ap (option_map run_seen) at in
      absurd (cc)

-- an owned slot is kept as held, or as standing on a shelf
abbrev pub IsKeptOwner : WorldState → Owner → Type 0
IsKeptOwner kept o =
    ((run at : ℕ) × (place_at kept.places o.slot ≡ Some (Held run at)) × (o ≡ owner_of run (name_of o.slot at)))
    ⊎ ((shelf : ℕ) × (place_at kept.places o.slot ≡ Some (Shelved shelf)) × (o.holder ≡ Shelf shelf))

-- what has a slot by a shelf is what is there
standing_own : (w : World) (o : Owner) (shelf : ℕ) → IsOwned w → Contains w.owners o → o.holder ≡ Shelf shelf → standing w shelf ≡ Some o
standing_own w o shelf owned among is = by (standing w shelf) (find_is (λ (p : Owner). is_shelf shelf p.holder) w.owners) where
  by : (f : Option Owner) → IsFound (λ (p : Owner). is_shelf shelf p.holder) w.owners f → f ≡ Some o
  by None none = let away = none o among in let here = ap (is_shelf shelf) is ∙ eq-eqb shelf shelf refl in absurd (cc)
  by (Some p) found = ap Some (owned.holders.one_a_call p o found.0 among (is_shelf-own shelf p.holder found.1 ∙ sym is))

-- the slot of what is on a shelf of the world is there as it is kept
pub shelf_slot : (w : World) (kept : WorldState) (shelf : ℕ) → Shows w kept → option_map (λ (o : Owner). o.slot) (standing w shelf) ≡ slot_on kept.shelves shelf
shelf_slot w kept shelf h = by (standing w shelf) ∙ ap (option_map (λ (x : world.Shelved). x.slot)) (h.shelves shelf) ∙ on (on_shelf kept.shelves shelf) where
  by : (o : Option Owner)
      → option_map (λ (x : Owner). x.slot) o ≡ option_map (λ (x : world.Shelved). x.slot) (option_map (λ (x : Owner). shelved_at w x.slot) o)
  by None = refl
  by (Some o) = refl

  on : (o : Option Object) → option_map (λ (x : world.Shelved). x.slot) (option_map as_shelved o) ≡ option_map (λ (x : Object). x.slot) o
  on None = refl
  on (Some o) = refl

-- what is there is an owner
pub record IsStanding (w : World) (shelf slot : ℕ) : Type 0 where
  pub owner : Owner
  pub is : standing w shelf ≡ Some owner
  pub among : Contains w.owners owner
  pub slot_is : owner.slot ≡ slot
  pub holder : owner.holder ≡ Shelf shelf

pub stands_there : (w : World) (kept : WorldState) (shelf slot : ℕ) → Shows w kept → slot_on kept.shelves shelf ≡ Some slot → IsStanding w shelf slot
stands_there w kept shelf slot h stands = by (standing w shelf) refl (find_is (λ (p : Owner). is_shelf shelf p.holder) w.owners) where
  by : (f : Option Owner) → standing w shelf ≡ f → IsFound (λ (p : Owner). is_shelf shelf p.holder) w.owners f → IsStanding w shelf slot
  by None is none = let nothing = ap (option_map (λ (o : Owner). o.slot)) (sym is) ∙ shelf_slot w kept shelf h ∙ stands in absurd (cc)
  by (Some o) is found = record {
    owner = o;
    is = is;
    among = found.0;
    slot_is = some_same (ap (option_map (λ (x : Owner). x.slot)) (sym is) ∙ shelf_slot w kept shelf h ∙ stands);
    holder = is_shelf-own shelf o.holder found.1;
  }
    where
      some_same : {a b : ℕ} → Some a ≡ Some b → a ≡ b
      some_same e = cc

pub owner_kept : (w : World) (kept : WorldState) (o : Owner) → Shows w kept → ArePlaced kept → Contains w.owners o → IsKeptOwner kept o
owner_kept w kept o h placed among = by o.holder refl where
  by : (holder : Holder) → o.holder ≡ holder → IsKeptOwner kept o
  by (Run run_ at_) e =
      let (run, at, r, there, is) = owner_runs w o h.owned (ap is_by_run e) among in
      let kept_run = run_kept w kept run r h there in
      let held = owns_held w run (name_of o.slot at) (subst (λ (p : Owner). Contains w.owners p) is among) in
      let here : Contains (slots_of kept_run.0) (name_of o.slot at) =
      subst (λ (ns : List Name). Contains ns (name_of o.slot at)) (h.slots run kept_run.0 kept_run.1) held in
      inl (run, at, placed.held run kept_run.0 kept_run.1 (name_of o.slot at) here, is)
  by (Shelf shelf) e = inr (
    shelf,
    placed.shelved shelf o.slot
        (sym (shelf_slot w kept shelf h) ∙ ap (option_map (λ (p : Owner). p.slot)) (standing_own w o shelf h.owned among e)),
    e,
  )

-- and one that is kept as held is owned
pub held_kept : (w : World) (kept : WorldState) (slot run at : ℕ) → Shows w kept → ArePlaced kept
    → place_at kept.places slot ≡ Some (Held run at) → Contains w.owners (owner_of run (name_of slot at))
held_kept w kept slot run at h placed is =
    let held = subst (IsPlaced kept slot) is (placed.each slot) in
    held_owns w run (name_of slot at) (subst (λ (ns : List Name). Contains ns (name_of slot at)) (sym (h.slots run held.0 held.1)) held.2)

-- an object that a run holds is the one that the world has in its slot
pub object_kept : (w : World) (kept : WorldState) (k : ℕ) (r : RunState Object) (h : Holding Object) → Shows w kept
    → slice_get kept.runs k ≡ Some r → Contains r.held h
    → Contains w.owners (owner_of k (name_of h.object.slot h.call))
    × (object_in w (owner_of k (name_of h.object.slot h.call)) ≡ object_seen (λ o. o.bytes.items) h)
object_kept w kept k r h shows at among =
    let run = run_shown w kept k r shows at in
    let objects : map (object_in w) (held_by w k) ≡ map (object_seen (λ (o : Object). o.bytes.items)) r.held = ap (λ (v : RunView). v.objects) run.2 in
    let seen = Contains-mapped (object_seen (λ (o : Object). o.bytes.items)) r.held h among in
    let one = Contains-unmapped (object_in w) (held_by w k) (object_seen (λ (o : Object). o.bytes.items) h)
    (subst (λ (os : List ObjectView). Contains os (object_seen (λ (o : Object). o.bytes.items) h)) (sym objects) seen) in
    let its = held_owner w k one.0 one.1 in
    let call : call_of one.0.holder ≡ h.call = ap (λ (v : ObjectView). v.call) one.2 in
    let slots = Contains-mapped {Y = Name} (λ (x : Holding Object). name_of x.object.slot x.call) r.held h among in
    let owns = held_owns w k (name_of h.object.slot h.call)
    (subst (λ (ns : List Name). Contains ns (name_of h.object.slot h.call)) (sym (shows.slots k r at)) slots) in
    let same = shows.owned.holders.one_a_call one.0 (owner_of k (name_of h.object.slot h.call)) its.0 owns (its.1 ∙ ap (λ (c : ℕ). Run k c) call) in
    (owns, ap (object_in w) (sym same) ∙ one.2)

-- what is kept neither as held nor as standing on a shelf is not owned
unowned_kept : (w : World) (kept : WorldState) (slot : ℕ) → Shows w kept → ArePlaced kept
    → ((run at : ℕ) → place_at kept.places slot ≢ Some (Held run at))
    → ((shelf : ℕ) → place_at kept.places slot ≢ Some (Shelved shelf)) → is_owned w slot ≡ false
unowned_kept w kept slot h placed free off = false_from_ne_true (is_owned w slot) somebodys where
  somebodys : is_owned w slot ≡ true → ⊥
  somebodys owns = by (owner_kept w kept one.0 h placed one.1) where
    one : (o : Owner) × Contains w.owners o × ((o.slot == slot) ≡ true)
    one = any_one (λ (o : Owner). o.slot == slot) w.owners owns

    same : place_at kept.places slot ≡ place_at kept.places one.0.slot
    same = ap (place_at kept.places) (sym (eqb-true one.0.slot slot one.2))

    by : IsKeptOwner kept one.0 → ⊥
    by (inl (run, at, held, is)) = free run at (same ∙ held)
    by (inr (shelf, stands, is)) = off shelf (same ∙ stands)

in_some : (ledgers : List (List ℕ)) (kind slot : ℕ) → is_in slot (slice_index_or ledgers kind []) ≡ true → list_any (is_in slot) ledgers ≡ true
in_some [] kind slot its = absurd (cc)
in_some (slots ∷ ledgers) zero slot its = rw its refl
in_some (slots ∷ ledgers) (suc kind) slot its = or_true (is_in slot slots) (in_some ledgers kind slot its) where
  or_true : (a : Bool) {b : Bool} → b ≡ true → (a || b) ≡ true
  or_true true e = refl
  or_true false e = e

pub kept_in : (w : World) (kept : WorldState) (slot : ℕ) → Shows w kept → ArePlaced kept → IsKeptIn w slot (place_at kept.places slot)
kept_in w kept slot h placed = by (place_at kept.places slot) refl (placed.each slot) where
  ledger : (kind : ℕ) → is_in slot (slice_index_or kept.ledgers kind []) ≡ true → is_in slot (ledger_of w kind) ≡ true
  ledger kind its = ap (λ (ls : List (List ℕ)). is_in slot (slice_index_or ls kind [])) h.ledgers ∙ its

  not_home : (a b : Bool) → b ≡ true → (a && not b) ≡ false
  not_home true b e = ap not e
  not_home false b e = refl

  -- an owned slot is not at home
  owned_away : (o : Owner) → Contains w.owners o → o.slot ≡ slot → is_home w slot ≡ false
  owned_away o among same =
      not_home (is_in_ledger w slot) (is_owned w slot) (any_from (λ (p : Owner). p.slot == slot) w.owners o among (eq-eqb o.slot slot same))

  by : (p : Option Place) → place_at kept.places slot ≡ p → IsPlaced kept slot p → IsKeptIn w slot p
  by None is away = let none : is_in_ledger w slot ≡ false = ap (list_any (is_in slot)) h.ledgers ∙ away in rw none refl
  by (Some (Home o)) is home =
      let free = unowned_kept w kept slot h placed (λ run at e. absurd (cc)) (λ shelf e. absurd (cc)) in
      let its = ledger o.kind home.its in
      (and_from (is_in_ledger w slot) (not (is_owned w slot)) (in_some w.ledgers o.kind slot its) (not_from_false (is_owned w slot) free), its)
  by (Some (Held run at)) is held = owned_away (owner_of run (name_of slot at)) (held_kept w kept slot run at h placed is) refl
  by (Some (Shelved shelf)) is stands = let it = stands_there w kept shelf slot h stands in owned_away it.owner it.among it.slot_is

pub answers_from : (w : World) (kept : WorldState) (answer : Answer) → Shows w kept → ArePlaced kept → AnswersFrom w kept.places answer
answers_from w kept Absent h placed = tt
answers_from w kept Null h placed = tt
answers_from w kept (Slot slot) h placed = kept_in w kept slot h placed
