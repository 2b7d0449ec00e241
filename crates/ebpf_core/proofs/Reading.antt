-- What is read of the world that is kept is read of the one that is shown: of its runs, and of its slots.
use Rattle.std.proofs.Common.{◌≡◌, ◌≢◌, inl, inr, ℕ, true, not, List, Option, Some, None, refl, sym, ap, ◌∙◌, subst}
use Rattle.std.specs.Prelude.{Contains, ◌==◌, option_map, slice_get, slice_index_or}
use Rattle.std.specs.List.{find}
use Rattle.std.specs.Option.{option_and_then}
use Rattle.std.proofs.lemmas.Bool.{eqb-true, eq-eqb, and_parts}
use Rattle.std.proofs.lemmas.Option.{get_or_from_slice_get}
use Rattle.ebpf_machine.specs.declared.holding.Holding.{Holding}
use Rattle.ebpf_machine.specs.World.{Name, Kind, World, Owner, Run, Going, Exited, is_in_ledger, is_owned, image_at, kind_in, name_of, shelved_at}
use Rattle.ebpf_machine.specs.World as world
use Rattle.ebpf_machine.specs.Kinds.{known_kinds}
use Rattle.ebpf_machine.specs.View.{ObjectView, RunView}
use Rattle.ebpf_machine.specs.RunState.{RunState, status_of}
use Rattle.ebpf_machine.proofs.Lists.ListLemmas.{IsFound, find_is}
use Rattle.ebpf_machine.proofs.Lists.Mapped.{Contains-unmapped}
use Rattle.ebpf_machine.proofs.World.Owners.{owner_of, kind_in-ledger, owned_there}
use Rattle.ebpf_shelves.specs.declared.object.Object.{Object}
use Rattle.ebpf_core.specs.declared.place.Place.TheVariants.{Home, Held, Shelved}
use Rattle.ebpf_core.specs.declared.world.Status.TheVariants as status
use Rattle.ebpf_shelves.specs.Shelves.{as_shelved, on_shelf, slot_on}
use Rattle.ebpf_core.specs.Places.{place_at}
use Rattle.ebpf_core.specs.Shown.{WorldState, Shows, ArePlaced, IsAtHome, IsPlaced, slots_of}
use Rattle.ebpf_core.specs.Readers.{run_of, status_in, output_in, executed_in, owner_in, shelf_in, bytes_in}
use Rattle.ebpf_core.proofs.Runs.{run_shown, none_shown}
use Rattle.ebpf_core.proofs.LegalAnswers.{IsKeptIn}
use Rattle.ebpf_core.proofs.OwnedSlots.{owner_found, owns_held}
use Rattle.ebpf_core.proofs.Placing.{IsKeptOwner, kept_in, owner_kept, held_kept, object_kept, shelf_slot, stands_there}

-- ---- of a run

pub status_none : (w : World) (kept : WorldState) (k : ℕ) → Shows w kept → slice_get kept.runs k ≡ None → None ≡ status_in w k
status_none w kept k h at = rw (none_shown w kept k h at) refl

pub status_exited : (w : World) (kept : WorldState) (k n : ℕ) (r : RunState Object) → Shows w kept → slice_get kept.runs k ≡ Some r
    → r.exit ≡ Some n → Some (status.Exited n) ≡ status_in w k
status_exited w kept k n r h at ended =
    let run = run_shown w kept k r h at in
    let exited : run.0.status ≡ Exited n = ap (λ (v : RunView). v.status) run.2 ∙ ap status_of ended in
    rw (run.1, exited) refl

pub status_going : (w : World) (kept : WorldState) (k : ℕ) (r : RunState Object) → Shows w kept → slice_get kept.runs k ≡ Some r
    → r.exit ≡ None → Some (status.Going r.pc) ≡ status_in w k
status_going w kept k r h at going =
    let run = run_shown w kept k r h at in
    let goes : run.0.status ≡ Going = ap (λ (v : RunView). v.status) run.2 ∙ ap status_of going in
    let pc : run.0.pc ≡ r.pc = ap (λ (v : RunView). v.pc) run.2 in
    rw (run.1, goes, pc) refl

pub output_none : (w : World) (kept : WorldState) (k : ℕ) → Shows w kept → slice_get kept.runs k ≡ None → None ≡ output_in w k
output_none w kept k h at = rw (none_shown w kept k h at) refl

pub output_some : (w : World) (kept : WorldState) (k : ℕ) (r : RunState Object) → Shows w kept → slice_get kept.runs k ≡ Some r → Some r.output ≡ output_in w k
output_some w kept k r h at =
    let run = run_shown w kept k r h at in
    let same : run.0.frame.output ≡ r.output = ap (λ (v : RunView). v.frame.output) run.2 in
    rw (run.1, same) refl

pub executed_none : (w : World) (kept : WorldState) (k : ℕ) → Shows w kept → slice_get kept.runs k ≡ None → None ≡ executed_in w k
executed_none w kept k h at = rw (none_shown w kept k h at) refl

pub executed_some : (w : World) (kept : WorldState) (k : ℕ) (r : RunState Object) → Shows w kept → slice_get kept.runs k ≡ Some r
    → Some r.executed ≡ executed_in w k
executed_some w kept k r h at =
    let run = run_shown w kept k r h at in
    let same : run.0.executed ≡ r.executed = ap (λ (v : RunView). v.executed) run.2 in
    rw (run.1, same) refl

-- ---- of a slot

-- whoever has it
pub owner_some : (w : World) (kept : WorldState) (slot run at : ℕ) → Shows w kept → ArePlaced kept
    → place_at kept.places slot ≡ Some (Held run at) → Some (run, at) ≡ owner_in w slot
owner_some w kept slot run at h placed is =
    sym (ap (option_and_then (λ (o : Owner). run_of o.holder)) (owner_found w run at slot h.owned (held_kept w kept slot run at h placed is)))

pub owner_none : (w : World) (kept : WorldState) (slot : ℕ) → Shows w kept → ArePlaced kept
    → ((run at : ℕ) → place_at kept.places slot ≢ Some (Held run at)) → None ≡ owner_in w slot
owner_none w kept slot h placed free = by (find (λ (o : Owner). o.slot == slot) w.owners) (find_is (λ (o : Owner). o.slot == slot) w.owners) where
  by : (f : Option Owner) → IsFound (λ (o : Owner). o.slot == slot) w.owners f → None ≡ option_and_then (λ (o : Owner). run_of o.holder) f
  by None none = refl
  by (Some o) found = of_owner (owner_kept w kept o h placed found.0) where
    of_owner : IsKeptOwner kept o → None ≡ run_of o.holder
    of_owner (inl (run, at, held, is)) = absurd (free run at (ap (place_at kept.places) (sym (eqb-true o.slot slot found.1)) ∙ held))
    of_owner (inr (shelf, stands, is)) = sym (ap run_of is)

-- the slot on a shelf
pub shelf_is : (w : World) (kept : WorldState) (shelf : ℕ) → Shows w kept → slot_on kept.shelves shelf ≡ shelf_in w shelf
shelf_is w kept shelf h = sym (shelf_slot w kept shelf h)

-- its bytes: at home it has its kind's image
there_bytes : (w : World) (slot : ℕ) (bytes : List ℕ) → is_in_ledger w slot ≡ true → bytes ≡ w.bytes slot → Some bytes ≡ bytes_in w slot
there_bytes w slot bytes there same = rw there (ap Some same)

pub bytes_home : (w : World) (kept : WorldState) (slot : ℕ) (o : Object) → Shows w kept → ArePlaced kept
    → place_at kept.places slot ≡ Some (Home o) → Some o.bytes.items ≡ bytes_in w slot
bytes_home w kept slot o h placed is =
    let at : IsAtHome kept slot o = subst (IsPlaced kept slot) is (placed.each slot) in
    let home = subst (IsKeptIn w slot) is (kept_in w kept slot h placed) in
    let there = (and_parts (is_in_ledger w slot) (not (is_owned w slot)) home.0).0 in
    let kind : o.kind ≡ kind_in w slot = sym (kind_in-ledger w o.kind slot h.owned home.1) in
    there_bytes w slot o.bytes.items there
    (at.image ∙ ap (image_at known_kinds) kind ∙ ap (λ (kinds : List Kind). image_at kinds (kind_in w slot)) (sym h.kinds)
    ∙ sym (h.owned.ledgers.imaged slot home.0))

-- on a shelf it has those of what is there
bytes_shelved : (w : World) (kept : WorldState) (slot shelf : ℕ) (o : Object) → Shows w kept → ArePlaced kept
    → place_at kept.places slot ≡ Some (Shelved shelf) → on_shelf kept.shelves shelf ≡ Some o → Some o.bytes.items ≡ bytes_in w slot
bytes_shelved w kept slot shelf o h placed is on =
    let it = stands_there w kept shelf slot h (subst (IsPlaced kept slot) is (placed.each slot)) in
    let there : is_in_ledger w slot ≡ true = ap (is_in_ledger w) (sym it.slot_is) ∙ owned_there w it.owner h.owned it.among in
    let same : Some (shelved_at w it.owner.slot) ≡ Some (as_shelved o) =
    ap (option_map (λ (p : Owner). shelved_at w p.slot)) (sym it.is) ∙ h.shelves shelf ∙ ap (option_map as_shelved) on in
    there_bytes w slot o.bytes.items there (sym (bytes_same same) ∙ ap w.bytes it.slot_is)
  where
    bytes_same : {a b : world.Shelved} → Some a ≡ Some b → a.bytes ≡ b.bytes
    bytes_same {a} {b} e = ap (λ (x : world.Shelved). x.bytes) same where
      same : a ≡ b
      same = cc

pub bytes_on_shelf : (w : World) (kept : WorldState) (slot shelf : ℕ) → Shows w kept → ArePlaced kept
    → place_at kept.places slot ≡ Some (Shelved shelf)
    → option_map (λ (o : Object). o.bytes.items) (on_shelf kept.shelves shelf) ≡ bytes_in w slot
bytes_on_shelf w kept slot shelf h placed is = by (on_shelf kept.shelves shelf) refl where
  by : (o : Option Object) → on_shelf kept.shelves shelf ≡ o → option_map (λ (x : Object). x.bytes.items) o ≡ bytes_in w slot
  by None none = let stands = sym (ap (option_map (λ (x : Object). x.slot)) none) ∙ subst (IsPlaced kept slot) is (placed.each slot) in absurd (cc)
  by (Some o) on = bytes_shelved w kept slot shelf o h placed is on

-- and with a run those of the object that was granted to its call
call_held : (r : RunState Object) (slot at : ℕ) → Contains (slots_of r) (name_of slot at) → (held : Holding Object) × Contains r.held held × (held.call ≡ at)
call_held r slot at among =
    let one = Contains-unmapped (λ (held : Holding Object). name_of held.object.slot held.call) r.held (name_of slot at) among in
    (one.0, one.1, ap (λ (n : Name). n.call) one.2)

bytes_held : (w : World) (kept : WorldState) (slot run at : ℕ) (r : RunState Object) (held : Holding Object) → Shows w kept
    → Contains w.owners (owner_of run (name_of slot at)) → slice_get kept.runs run ≡ Some r → Contains r.held held → held.call ≡ at
    → Some held.object.bytes.items ≡ bytes_in w slot
bytes_held w kept slot run at r held h owns there among call =
    let its = object_kept w kept run r held h there among in
    let same = h.owned.holders.one_a_call (owner_of run (name_of held.object.slot held.call)) (owner_of run (name_of slot at)) its.0 owns (ap (Run run) call) in
    let bytes : w.bytes held.object.slot ≡ held.object.bytes.items = ap (λ (v : ObjectView). v.bytes) its.1 in
    there_bytes w slot held.object.bytes.items (owned_there w (owner_of run (name_of slot at)) h.owned owns)
    (sym bytes ∙ ap (λ (o : Owner). w.bytes o.slot) same)

object_held : (w : World) (kept : WorldState) (slot run at : ℕ) (r : RunState Object) → Shows w kept → ArePlaced kept
    → place_at kept.places slot ≡ Some (Held run at) → slice_get kept.runs run ≡ Some r
    → (held : Holding Object) × (find (λ (held : Holding Object). held.call == at) r.held ≡ Some held) × (Some held.object.bytes.items ≡ bytes_in w slot)
object_held w kept slot run at r h placed is there =
    by (find (λ (held : Holding Object). held.call == at) r.held) refl (find_is (λ (held : Holding Object). held.call == at) r.held) where
      owns : Contains w.owners (owner_of run (name_of slot at))
      owns = held_kept w kept slot run at h placed is

      among : Contains (slots_of r) (name_of slot at)
      among = subst (λ (ns : List Name). Contains ns (name_of slot at)) (h.slots run r there) (owns_held w run (name_of slot at) owns)

      by : (f : Option (Holding Object)) → find (λ (held : Holding Object). held.call == at) r.held ≡ f
          → IsFound (λ (held : Holding Object). held.call == at) r.held f
          → (held : Holding Object) × (find (λ (held : Holding Object). held.call == at) r.held ≡ Some held) × (Some held.object.bytes.items ≡ bytes_in w slot)
      by None e none =
          let one = call_held r slot at among in
          let away = none one.0 one.1 in
          let here = eq-eqb one.0.call at one.2 in
          absurd (cc)
      by (Some held) e found = (held, e, bytes_held w kept slot run at r held h owns there found.0 (eqb-true held.call at found.1))

-- o is what the run of this number has for that call
pub bytes_with : (w : World) (kept : WorldState) (slot run at : ℕ) (r : RunState Object) (o : Option Object) → Shows w kept
    → ArePlaced kept → place_at kept.places slot ≡ Some (Held run at) → r ≡ slice_index_or kept.runs run r
    → o ≡ option_map (λ (held : Holding Object). held.object) (find (λ (held : Holding Object). held.call == at) r.held)
    → option_map (λ (b : Object). b.bytes.items) o ≡ bytes_in w slot
bytes_with w kept slot run at r o h placed is read found =
    let held = subst (IsPlaced kept slot) is (placed.each slot) in
    let same : held.0 ≡ r = sym (get_or_from_slice_get kept.runs run held.0 r held.1) ∙ sym read in
    let one = object_held w kept slot run at r h placed is (held.1 ∙ ap Some same) in
    ap (option_map (λ (b : Object). b.bytes.items)) (found ∙ ap (option_map (λ (held : Holding Object). held.object)) one.1) ∙ one.2
