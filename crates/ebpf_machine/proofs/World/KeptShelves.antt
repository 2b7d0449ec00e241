-- What a run that is kept gives to a shelf is what the world that shows it has in that slot, and what is on shelves is there where a
-- slot joins a ledger.
use Rattle.std.proofs.Common.{◌≡◌, ◌≢◌, ℕ, Bool, true, false, cond, List, [], ◌∷◌, map, Option, Some, None, option_map, refl, sym, ap, ◌∙◌}
use Rattle.std.specs.Prelude.{◌==◌}
use Rattle.std.proofs.lemmas.Bool.{ne_eqb}
use Rattle.std.specs.List.{find}
use Rattle.ebpf_machine.specs.declared.holding.Holding.{Holding}
use Rattle.ebpf_machine.specs.Effect.{Act, Nothing, Write, Ask, Free, Exchange, Effect, Goes, Ends, Traps}
use Rattle.ebpf_machine.specs.World.{Name, World, Owner, Shelved, standing, shelved_at, shelved_in, held_by, image_at, is_in_ledger, is_shelf, name_of}
use Rattle.ebpf_machine.specs.Events.{with_slot_joined}
use Rattle.ebpf_machine.specs.View.{ObjectView, RunView, object_in, view_in, slots_in}
use Rattle.ebpf_machine.specs.RunState.{RunState, object_seen, seen, slots_kept}
use Rattle.ebpf_machine.specs.Step.{shelved_given, name_given, standing_seen}
use Rattle.ebpf_machine.specs.Shelves.{shelf_acted, shelf_done, shelved_from}
use Rattle.ebpf_machine.specs.Sound.{IsOwned}
use Rattle.ebpf_machine.proofs.Lists.ListLemmas.{IsFound, find-map}
use Rattle.ebpf_machine.proofs.World.Exchanges.{slot_held, stands}
use Rattle.ebpf_machine.proofs.World.NewSlots.{IsNew}
use Rattle.ebpf_machine.proofs.World.Owners.{owned_there}
use Rattle.ebpf_machine.proofs.World.Execs.{shown_run}

module _ {H : Type 0} (bytes : H → List ℕ) (slot_of : H → ℕ) (w : World) where
  -- an object as it is kept
  abbrev pub as_kept : H → Shelved
  as_kept h = record { slot = slot_of h; bytes = bytes h }

  abbrev name_kept : Holding H → Name
  name_kept h = name_of (slot_of h.object) h.call

  -- the objects of the world are those that are kept, in the same slots
  found_kept : (owners : List Owner) (held : List (Holding H)) (call : ℕ) → map (object_in w) owners ≡ map (object_seen bytes) held
      → map slot_held owners ≡ map name_kept held
      → shelved_given w (option_map name_kept (find (λ h. h.call == call) held)) ≡ option_map (λ h. as_kept h.object) (find (λ h. h.call == call) held)
  found_kept [] [] call objects slots = refl
  found_kept [] (h ∷ held) call objects slots = absurd (cc)
  found_kept (o ∷ owners) [] call objects slots = absurd (cc)
  found_kept (o ∷ owners) (h ∷ held) call objects slots =
      let objects_left : map (object_in w) owners ≡ map (object_seen bytes) held = cc in
      let slots_left : map slot_held owners ≡ map name_kept held = cc in
      by (h.call == call) (found_kept owners held call objects_left slots_left)
    where
      first : object_in w o ≡ object_seen bytes h
      first = cc

      name : slot_held o ≡ name_kept h
      name = cc

      same : w.bytes (slot_of h.object) ≡ bytes h.object
      same = ap (λ (n : Name). w.bytes n.slot) (sym name) ∙ ap (λ (v : ObjectView). v.bytes) first

      by : (t : Bool)
          → shelved_given w (option_map name_kept (find (λ x. x.call == call) held)) ≡ option_map (λ x. as_kept x.object) (find (λ x. x.call == call) held)
          → shelved_given w (option_map name_kept (cond t (Some h) (find (λ x. x.call == call) held)))
          ≡ option_map (λ x. as_kept x.object) (cond t (Some h) (find (λ x. x.call == call) held))
      by true rest = ap (λ (b : List ℕ). Some (record { slot = slot_of h.object; bytes = b })) same
      by false rest = rest

  module _ (run : ℕ) (r : RunState H) (shows : view_in w run ≡ Some (seen bytes r)) (slots : slots_in w run ≡ slots_kept slot_of r.held) where
    given_kept : (given : Option ℕ) → shelved_given w (name_given (slots_kept slot_of r.held) given) ≡ shelved_from as_kept r.held given
    given_kept None = refl
    given_kept (Some call) =
        let objects : map (object_in w) (held_by w run) ≡ map (object_seen bytes) r.held =
        ap (λ (v : RunView). v.objects) (shown_run w run (seen bytes r) shows).2 in
        ap (shelved_given w) (find-map (λ (n : Name). n.call == call) name_kept r.held) ∙ found_kept (held_by w run) r.held call objects slots

    acted_kept : (act : Act ℕ) (shelf : ℕ) (what : Option Shelved)
        → shelf_acted (λ given. shelved_given w (name_given (slots_kept slot_of r.held) given)) act shelf what
        ≡ shelf_acted (shelved_from as_kept r.held) act shelf what
    acted_kept Nothing shelf what = refl
    acted_kept (Write name at now) shelf what = refl
    acted_kept (Ask kind) shelf what = refl
    acted_kept (Free name) shelf what = refl
    acted_kept (Exchange k given) shelf what = ap (λ (it : Option Shelved). cond (shelf == k) it what) (given_kept given)

    pub standing_kept : (e : Effect ℕ) (shelf : ℕ)
        → standing_seen w (slots_kept slot_of r.held) e shelf ≡ shelf_done (shelved_from as_kept r.held) e shelf (shelved_in w shelf)
    standing_kept (Goes act to frame) shelf = acted_kept act shelf (shelved_in w shelf)
    standing_kept (Ends n) shelf = refl
    standing_kept (Traps trap) shelf = refl

-- ---- a slot joins a ledger

-- it is none that is on a shelf
pub shelved_joined : (w : World) (kind slot shelf : ℕ) → IsOwned w → IsNew w kind slot → shelved_in (with_slot_joined kind slot w) shelf ≡ shelved_in w shelf
shelved_joined w kind slot shelf owned new = by (standing w shelf) (stands w shelf) where
  by : (f : Option Owner) → IsFound (λ (o : Owner). is_shelf shelf o.holder) w.owners f
      → option_map (λ (o : Owner). shelved_at (with_slot_joined kind slot w) o.slot) f ≡ option_map (λ (o : Owner). shelved_at w o.slot) f
  by None none = refl
  by (Some o) found =
      ap (λ (t : Bool). Some (record { slot = o.slot; bytes = cond t (image_at w.kinds kind) (w.bytes o.slot) })) (ne_eqb o.slot slot other) where
        other : o.slot ≢ slot
        other same = let there = ap (is_in_ledger w) (sym same) ∙ owned_there w o owned found.0 in let fresh = new.fresh in absurd (cc)
