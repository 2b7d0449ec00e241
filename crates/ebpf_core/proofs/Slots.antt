-- A slot joins a ledger or leaves it: the world that is kept then shows the one after the event, and what always holds of a world
-- holds of it.
use Rattle.std.proofs.Common.{◌≡◌, ◌≢◌, ◌⊎◌, inl, inr, ℕ, zero, suc, ◌<◌, ◌≤◌, Bool, true, false, cond, not, List, [], ◌∷◌, length, get_or, set}
use Rattle.std.proofs.Common.{Option, Some, None, Result, Ok, Err, refl, sym, ap, ◌∙◌, subst, arith}
use Rattle.std.specs.Prelude.{Contains, nat_lt, option_map, slice_get, slice_index_or, slice_set, ◌==◌, ◌&&◌, if◌then◌else◌}
use Rattle.std.specs.List.{list_any}
use Rattle.std.specs.Option.{is_some}
use Rattle.std.specs.Result.{OnOk, OnErr, is_err}
use Rattle.std.proofs.lemmas.Bool.{cases_eq, eqb-true, eq-eqb, ne_eqb, lt-ltb, or_parts, and_parts, and_from, false_from_ne_true}
use Rattle.std.proofs.lemmas.Bool.Decides.{nat_tests}
use Rattle.ebpf_machine.specs.World.{Name, World, is_in, is_in_ledger, is_owned, is_home, ledger_of, image_at, name_of}
use Rattle.ebpf_machine.specs.Kinds.{known_kinds}
use Rattle.ebpf_machine.specs.Events.{SlotInLedger, SlotNotReapable, NoSuchProgramOrKind, with_slot, with_slot_joined, growing, without_slot}
use Rattle.ebpf_machine.specs.Events.{with_slot_left, reaping}
use Rattle.ebpf_machine.specs.RunState.{RunState}
use Rattle.ebpf_machine.proofs.World.LedgerChanges.{any-set}
use Rattle.ebpf_machine.proofs.World.KeptShelves.{shelved_joined}
use Rattle.ebpf_machine.proofs.World.NewSlots.{IsNew, joined_in, owned_joined, view_joined}
use Rattle.ebpf_machine.proofs.World.NewSlots as new_slots
use Rattle.ebpf_machine.proofs.World.Owners.{owner_of, kind_in-ledger, owned_there}
use Rattle.ebpf_machine.proofs.World.PartedSlots.{IsReapable, owned_parted, parted_away, view_parted}
use Rattle.ebpf_machine.proofs.World.PartedSlots as parted_slots
use Rattle.ebpf_shelves.specs.declared.object.Object.{Object}
use Rattle.ebpf_core.specs.declared.place.Place.{Place}
use Rattle.ebpf_core.specs.declared.place.Place.TheVariants.{Home, Held, Shelved}
use Rattle.ebpf_shelves.specs.Shelves.{slot_on}
use Rattle.ebpf_core.specs.Places.{Places, place_at, is_home_of}
use Rattle.ebpf_core.specs.Shown.{WorldState, Shows, ArePlaced, IsPlaced, IsTendedWorld, slots_of}
use Rattle.ebpf_core.proofs.Ledgers.{parted_joined}
use Rattle.ebpf_core.proofs.LegalAnswers.{IsKeptIn}
use Rattle.ebpf_core.proofs.Placing.{kept_in, held_kept, stands_there}

-- ---- what is said on one of two answers

pub on_ok : {T E P : Type 0} (r : Result T E) → false ≡ is_err r → OnOk r P → P
on_ok (Ok x) e p = p
on_ok (Err x) e p = absurd (cc)

pub on_err : {T E P : Type 0} (r : Result T E) → true ≡ is_err r → OnErr r P → P
on_err (Ok x) e p = absurd (cc)
on_err (Err x) e p = p

-- ---- the ledger of one kind changes at one slot, and so does the place of this slot

-- the slots of a kind as they are kept
abbrev kept_of : WorldState → ℕ → List ℕ
kept_of kept kind = slice_index_or kept.ledgers kind []

-- the kind has these slots, and all are in these places
abbrev with_slots : WorldState → ℕ → List ℕ → Places → WorldState
with_slots kept kind slots places = record kept { ledgers = slice_set kept.ledgers kind slots; places = places }

-- of every other slot ledger and places say what they said; this one, which no run holds and no shelf has, has a place that fits
record IsMoved (kept : WorldState) (kind slot : ℕ) (slots : List ℕ) (place : Option Place) (places : Places) : Type 0 where
  pub others : (s : ℕ) → s ≢ slot → is_in s slots ≡ is_in s (kept_of kept kind)
  pub unheld : (run at : ℕ) → place_at kept.places slot ≢ Some (Held run at)
  pub unshelved : (shelf : ℕ) → place_at kept.places slot ≢ Some (Shelved shelf)
  pub places_are : (s : ℕ) → place_at places s ≡ (if s == slot then place else place_at kept.places s)
  pub fits : IsPlaced (with_slots kept kind slots places) slot place

-- each element answers as before where the one that comes in answers as the one that it replaces
answers-set : {X : Type 0} (p : X → Bool) (xs : List X) (k j : ℕ) (y d : X) → p y ≡ p (get_or xs k d) → p (get_or (set xs k y) j d) ≡ p (get_or xs j d)
answers-set p [] k j y d e = refl
answers-set p (x ∷ xs) zero zero y d e = e
answers-set p (x ∷ xs) zero (suc j) y d e = refl
answers-set p (x ∷ xs) (suc k) zero y d e = refl
answers-set p (x ∷ xs) (suc k) (suc j) y d e = answers-set p xs k j y d e

placed_moved : (kept : WorldState) (kind slot : ℕ) (slots : List ℕ) (place : Option Place) (places : Places) → ArePlaced kept
    → IsMoved kept kind slot slots place places → ArePlaced (with_slots kept kind slots places)
placed_moved kept kind slot slots place places placed moved =
    record {
      each = λ s. each s (cases_eq s slot);
      held = λ run r there n among. held run r there n among (cases_eq n.slot slot);
      shelved = λ shelf s stands.
          shelved shelf s stands (cases_eq s slot);
    } where
      after : WorldState
      after = with_slots kept kind slots places

      there : (s : ℕ) → s ≢ slot → place_at places s ≡ place_at kept.places s
      there s ne = moved.places_are s ∙ ap (λ (t : Bool). cond t place (place_at kept.places s)) (ne_eqb s slot ne)

      here : place_at places slot ≡ place
      here = moved.places_are slot ∙ ap (λ (t : Bool). cond t place (place_at kept.places slot)) (eq-eqb slot slot refl)

      other : (s : ℕ) (p : Option Place) → s ≢ slot → IsPlaced kept s p → IsPlaced (with_slots kept kind slots places) s p
      other s None ne is = any-set (is_in s) kept.ledgers kind slots [] (moved.others s ne) ∙ is
      other s (Some (Home o)) ne is = record
          { same = is.same; its = answers-set (is_in s) kept.ledgers kind o.kind slots [] (moved.others s ne) ∙ is.its; known = is.known; image = is.image }
      other s (Some (Held run at)) ne is = is
      other s (Some (Shelved shelf)) ne is = is

      each : (s : ℕ) → (s ≡ slot) ⊎ (s ≢ slot) → IsPlaced (with_slots kept kind slots places) s (place_at places s)
      each s (inl e) = subst (λ (k : ℕ). IsPlaced (with_slots kept kind slots places) k (place_at places k)) (sym e)
          (subst (IsPlaced (with_slots kept kind slots places) slot) (sym here) moved.fits)
      each s (inr ne) = subst (IsPlaced (with_slots kept kind slots places) s) (sym (there s ne)) (other s (place_at kept.places s) ne (placed.each s))

      held : (run : ℕ) (r : RunState Object) → slice_get kept.runs run ≡ Some r → (n : Name) → Contains (slots_of r) n
          → (n.slot ≡ slot) ⊎ (n.slot ≢ slot) → place_at places n.slot ≡ Some (Held run n.call)
      held run r at n among (inl e) = absurd (moved.unheld run n.call (ap (place_at kept.places) (sym e) ∙ placed.held run r at n among))
      held run r at n among (inr ne) = there n.slot ne ∙ placed.held run r at n among

      shelved : (shelf s : ℕ) → slot_on kept.shelves shelf ≡ Some s → (s ≡ slot) ⊎ (s ≢ slot) → place_at places s ≡ Some (Shelved shelf)
      shelved shelf s stands (inl e) = absurd (moved.unshelved shelf (ap (place_at kept.places) (sym e) ∙ placed.shelved shelf s stands))
      shelved shelf s stands (inr ne) = there s ne ∙ placed.shelved shelf s stands

-- ---- a kind that there isn't

unknown : (w : World) (kept : WorldState) (kind : ℕ) → Shows w kept → length known_kinds ≤ kind → nat_lt kind (length w.kinds) ≡ false
unknown w kept kind h le = let many = ap length h.kinds in not_below kind (length w.kinds) (omega (arith, le, many)) where
  not_below : (a b : ℕ) → b ≤ a → nat_lt a b ≡ false
  not_below a b le = grind (arith, nat_tests)

known : (w : World) (kept : WorldState) (kind : ℕ) → Shows w kept → kind < length known_kinds → kind < length w.kinds
known w kept kind h lt = let many = ap length h.kinds in omega (arith, lt, many)

pub grow_unknown : (w : World) (kept : WorldState) (kind slot : ℕ) → Shows w kept → length known_kinds ≤ kind → growing kind slot w ≡ Err NoSuchProgramOrKind
grow_unknown w kept kind slot h le = let none = unknown w kept kind h le in rw none refl

pub reap_unknown : (w : World) (kept : WorldState) (kind slot : ℕ) → Shows w kept → length known_kinds ≤ kind → reaping kind slot w ≡ Err NoSuchProgramOrKind
reap_unknown w kept kind slot h le = let none = unknown w kept kind h le in rw none refl

-- ---- a slot joins

-- a slot that has a place is in a ledger already
pub grow_there : (w : World) (kept : WorldState) (kind slot : ℕ) → Shows w kept → ArePlaced kept → kind < length known_kinds
    → is_some (place_at kept.places slot) ≡ true → growing kind slot w ≡ Err SlotInLedger
grow_there w kept kind slot h placed lt some =
    let is_known = lt-ltb kind (length w.kinds) (known w kept kind h lt) in
    let there = by (place_at kept.places slot) refl some in
    rw (is_known, there) refl
  where
    by : (p : Option Place) → place_at kept.places slot ≡ p → is_some p ≡ true → is_in_ledger w slot ≡ true
    by None is some = absurd (cc)
    by (Some (Home o)) is some = (and_parts (is_in_ledger w slot) (not (is_owned w slot)) (subst (IsKeptIn w slot) is (kept_in w kept slot h placed)).0).0
    by (Some (Held run at)) is some = owned_there w (owner_of run (name_of slot at)) h.owned (held_kept w kept slot run at h placed is)
    by (Some (Shelved shelf)) is some =
        let it = stands_there w kept shelf slot h (subst (IsPlaced kept slot) is (placed.each slot)) in
        ap (is_in_ledger w) (sym it.slot_is) ∙ owned_there w it.owner h.owned it.among

-- it had no place, and is at home in the ledger of this kind
pub record IsGrown (kept : WorldState) (kind slot : ℕ) (o : Object) (ledgers : List (List ℕ)) (places : Places) : Type 0 where
  pub known : kind < length known_kinds
  pub free : is_some (place_at kept.places slot) ≡ false
  pub new : (o.slot ≡ slot) × (o.kind ≡ kind) × (o.bytes.items ≡ image_at known_kinds kind)
  pub ledgers_are : ledgers ≡ slice_set kept.ledgers kind (with_slot slot (kept_of kept kind))
  pub places_are : (s : ℕ) → place_at places s ≡ (if s == slot then Some (Home o) else place_at kept.places s)

nowhere : (kept : WorldState) (slot : ℕ) → ArePlaced kept → is_some (place_at kept.places slot) ≡ false → list_any (is_in slot) kept.ledgers ≡ false
nowhere kept slot placed free = by (place_at kept.places slot) free (placed.each slot) where
  by : (p : Option Place) → is_some p ≡ false → IsPlaced kept slot p → list_any (is_in slot) kept.ledgers ≡ false
  by None free is = is
  by (Some p) free is = absurd (cc)

is_new : (w : World) (kept : WorldState) (kind slot : ℕ) → Shows w kept → ArePlaced kept → kind < length known_kinds
    → is_some (place_at kept.places slot) ≡ false → IsNew w kind slot
is_new w kept kind slot h placed lt free =
    record { kind_is = known w kept kind h lt; fresh = ap (list_any (is_in slot)) h.ledgers ∙ nowhere kept slot placed free }

joined_shows : (w : World) (kept : WorldState) (kind slot : ℕ) (places : Places) → Shows w kept → IsNew w kind slot
    → Shows (with_slot_joined kind slot w) (with_slots kept kind (with_slot slot (kept_of kept kind)) places)
joined_shows w kept kind slot places h new = record {
  views = λ k. (λ i. option_map (λ r. view_joined w k kind slot r h.owned new i) (slice_get w.runs k)) ∙ h.views k;
  slots = h.slots;
  as_many = h.as_many;
  kinds = h.kinds;
  ledgers = ap (λ (ls : List (List ℕ)). slice_set ls kind (with_slot slot (slice_index_or ls kind []))) h.ledgers;
  owned = owned_joined w kind slot h.owned new;
  shelves = λ shelf. shelved_joined w kind slot shelf h.owned new ∙ h.shelves shelf;
}

-- so the event is legal
pub grow_legal : (w : World) (kept : WorldState) (kind slot : ℕ) → Shows w kept → ArePlaced kept → kind < length known_kinds
    → is_some (place_at kept.places slot) ≡ false → (after : World) × (growing kind slot w ≡ Ok after)
grow_legal w kept kind slot h placed lt free =
    let new = is_new w kept kind slot h placed lt free in
    let is_known = lt-ltb kind (length w.kinds) new.kind_is in
    let fresh = new.fresh in
    (with_slot_joined kind slot w, rw (is_known, fresh) refl)

pub grow_done : (w : World) (kept : WorldState) (kind slot : ℕ) (o : Object) (ledgers : List (List ℕ)) (places : Places)
    → Shows w kept → ArePlaced kept → IsGrown kept kind slot o ledgers places
    → (after : World) × (growing kind slot w ≡ Ok after) × Shows after (record kept { ledgers = ledgers; places = places })
grow_done w kept kind slot o ledgers places h placed grown =
    let new = is_new w kept kind slot h placed grown.known grown.free in
    let is_known = lt-ltb kind (length w.kinds) new.kind_is in
    let fresh = new.fresh in (
      with_slot_joined kind slot w,
      rw (is_known, fresh) refl,
      subst
          (λ (ls : List (List ℕ)). Shows (with_slot_joined kind slot w) (record kept { ledgers = ls; places = places })) (sym grown.ledgers_are)
          (joined_shows w kept kind slot places h new),
    )

grown_moved : (w : World) (kept : WorldState) (kind slot : ℕ) (o : Object) (ledgers : List (List ℕ)) (places : Places)
    → Shows w kept → ArePlaced kept → IsGrown kept kind slot o ledgers places
    → IsMoved kept kind slot (with_slot slot (kept_of kept kind)) (Some (Home o)) places
grown_moved w kept kind slot o ledgers places h placed grown = record {
  others = λ s ne. new_slots.others_in s slot (kept_of kept kind) ne;
  unheld = λ run at e. let free = grown.free in let some = ap is_some e in absurd (cc);
  unshelved = λ shelf e. let free = grown.free in let some = ap is_some e in absurd (cc);
  places_are = grown.places_are;
  fits = record {
    same = same;
    its = its;
    known = subst (λ (k : ℕ). k < length known_kinds) (sym of_kind) grown.known;
    image =
        image ∙ ap (image_at known_kinds) (sym of_kind);
  };
}
  where
    same : o.slot ≡ slot
    same = let (slot_is, kind_is, bytes_are) = grown.new in slot_is

    of_kind : o.kind ≡ kind
    of_kind = let (slot_is, kind_is, bytes_are) = grown.new in kind_is

    image : o.bytes.items ≡ image_at known_kinds kind
    image = let (slot_is, kind_is, bytes_are) = grown.new in bytes_are

    its : is_in slot (slice_index_or (slice_set kept.ledgers kind (with_slot slot (kept_of kept kind))) o.kind []) ≡ true
    its =
        let there = joined_in w kind slot h.owned (is_new w kept kind slot h placed grown.known grown.free) in
        ap (λ (k : ℕ). is_in slot (slice_index_or (slice_set kept.ledgers kind (with_slot slot (kept_of kept kind))) k [])) of_kind
        ∙ sym (ap (λ (ls : List (List ℕ)). is_in slot (slice_index_or (slice_set ls kind (with_slot slot (slice_index_or ls kind []))) kind [])) h.ledgers)
        ∙ there

pub grow_tended : (kept : WorldState) (kind slot : ℕ) (o : Object) (ledgers : List (List ℕ)) (places : Places) → IsTendedWorld kept
    → IsGrown kept kind slot o ledgers places → IsTendedWorld (record kept { ledgers = ledgers; places = places })
grow_tended kept kind slot o ledgers places tended grown =
    let w = tended.shown.0 in
    let h = tended.shown.1 in
    let next = grow_done w kept kind slot o ledgers places h tended.placed grown in
    let moved = placed_moved kept kind slot (with_slot slot (kept_of kept kind)) (Some (Home o)) places tended.placed
    (grown_moved w kept kind slot o ledgers places h tended.placed grown) in
    record {
      known = tended.known;
      runs = tended.runs;
      placed = subst (λ (ls : List (List ℕ)). ArePlaced (record kept { ledgers = ls; places = places })) (sym grown.ledgers_are) moved;
      shown = (next.0, next.2);
    }

-- where the slot's place takes no memory, its ledger is as it was again
not_in_one : (ledgers : List (List ℕ)) (kind slot : ℕ) → list_any (is_in slot) ledgers ≡ false → is_in slot (slice_index_or ledgers kind []) ≡ false
not_in_one [] kind slot none = refl
not_in_one (slots ∷ ledgers) zero slot none = (or_parts (is_in slot slots) (list_any (is_in slot) ledgers) none).0
not_in_one (slots ∷ ledgers) (suc kind) slot none = not_in_one ledgers kind slot (or_parts (is_in slot slots) (list_any (is_in slot) ledgers) none).1

parted_again : (ledgers : List (List ℕ)) (kind slot : ℕ) → is_in slot (slice_index_or ledgers kind []) ≡ false
    → slice_set (slice_set ledgers kind (with_slot slot (slice_index_or ledgers kind []))) kind
    (without_slot slot (slice_index_or (slice_set ledgers kind (with_slot slot (slice_index_or ledgers kind []))) kind [])) ≡ ledgers
parted_again [] kind slot new = refl
parted_again (slots ∷ ledgers) zero slot new = ap (λ (l : List ℕ). l ∷ ledgers) (parted_joined slot slots new)
parted_again (slots ∷ ledgers) (suc kind) slot new = ap (λ (ls : List (List ℕ)). slots ∷ ls) (parted_again ledgers kind slot new)

pub grow_undone : (kept : WorldState) (kind slot : ℕ) (with_it ledgers : List (List ℕ)) (places : Places) → ArePlaced kept
    → is_some (place_at kept.places slot) ≡ false → with_it ≡ slice_set kept.ledgers kind (with_slot slot (kept_of kept kind))
    → ledgers ≡ slice_set with_it kind (without_slot slot (slice_index_or with_it kind [])) → places ≡ kept.places
    → record kept { ledgers = ledgers; places = places } ≡ kept
grow_undone kept kind slot with_it ledgers places placed free joins parts same = λ i. record kept { ledgers = again i; places = same i } where
  again : ledgers ≡ kept.ledgers
  again =
      parts
      ∙ ap (λ (ls : List (List ℕ)). slice_set ls kind (without_slot slot (slice_index_or ls kind []))) joins
      ∙ parted_again kept.ledgers kind slot (not_in_one kept.ledgers kind slot (nowhere kept slot placed free))

-- ---- a slot leaves

-- a slot that isn't home in the ledger of this kind
pub reap_away : (w : World) (kept : WorldState) (kind slot : ℕ) → Shows w kept → ArePlaced kept → kind < length known_kinds
    → is_home_of (place_at kept.places slot) kind ≡ false → reaping kind slot w ≡ Err SlotNotReapable
reap_away w kept kind slot h placed lt away =
    let is_known = lt-ltb kind (length w.kinds) (known w kept kind h lt) in
    let not_there = by (place_at kept.places slot) (kept_in w kept slot h placed) away in
    rw (is_known, not_there) refl
  where
    not_its : (o : Object) → is_in slot (ledger_of w o.kind) ≡ true → (o.kind == kind) ≡ false → is_in slot (ledger_of w kind) ≡ true → ⊥
    not_its o its other too =
        let same = sym (kind_in-ledger w o.kind slot h.owned its) ∙ kind_in-ledger w kind slot h.owned too in
        let equal = eq-eqb o.kind kind same in
        absurd (cc)

    by : (p : Option Place) → IsKeptIn w slot p → is_home_of p kind ≡ false → (is_home w slot && is_in slot (ledger_of w kind)) ≡ false
    by None is away = ap (λ (t : Bool). t && is_in slot (ledger_of w kind)) is
    by (Some (Held run at)) is away = ap (λ (t : Bool). t && is_in slot (ledger_of w kind)) is
    by (Some (Shelved shelf)) is away = ap (λ (t : Bool). t && is_in slot (ledger_of w kind)) is
    by (Some (Home o)) is away =
        let none = false_from_ne_true (is_in slot (ledger_of w kind)) (not_its o is.1 away) in
        ap (λ (t : Bool). t && is_in slot (ledger_of w kind)) is.0 ∙ none

-- it was at home in the ledger of this kind, and has no place
pub record IsReaped (kept : WorldState) (kind slot : ℕ) (ledgers : List (List ℕ)) (places : Places) : Type 0 where
  pub known : kind < length known_kinds
  pub home : is_home_of (place_at kept.places slot) kind ≡ true
  pub ledgers_are : ledgers ≡ slice_set kept.ledgers kind (without_slot slot (kept_of kept kind))
  pub places_are : (s : ℕ) → place_at places s ≡ (if s == slot then None else place_at kept.places s)

is_reapable : (w : World) (kept : WorldState) (kind slot : ℕ) → Shows w kept → ArePlaced kept
    → is_home_of (place_at kept.places slot) kind ≡ true → IsReapable w kind slot
is_reapable w kept kind slot h placed home = by (place_at kept.places slot) (kept_in w kept slot h placed) home where
  by : (p : Option Place) → IsKeptIn w slot p → is_home_of p kind ≡ true → IsReapable w kind slot
  by None is home = absurd (cc)
  by (Some (Held run at)) is home = absurd (cc)
  by (Some (Shelved shelf)) is home = absurd (cc)
  by (Some (Home o)) is home = record { home = is.0; its = subst (λ (k : ℕ). is_in slot (ledger_of w k) ≡ true) (eqb-true o.kind kind home) is.1 }

parted_shows : (w : World) (kept : WorldState) (kind slot : ℕ) (places : Places) → Shows w kept → IsReapable w kind slot
    → Shows (with_slot_left kind slot w) (with_slots kept kind (without_slot slot (kept_of kept kind)) places)
parted_shows w kept kind slot places h reapable = record {
  views = λ k. (λ i. option_map (λ r. view_parted w k kind slot r h.owned reapable i) (slice_get w.runs k)) ∙ h.views k;
  slots = h.slots;
  as_many = h.as_many;
  kinds = h.kinds;
  ledgers = ap (λ (ls : List (List ℕ)). slice_set ls kind (without_slot slot (slice_index_or ls kind []))) h.ledgers;
  owned = owned_parted w kind slot h.owned reapable;
  shelves = h.shelves;
}

pub reap_done : (w : World) (kept : WorldState) (kind slot : ℕ) (ledgers : List (List ℕ)) (places : Places) → Shows w kept
    → ArePlaced kept → IsReaped kept kind slot ledgers places
    → (after : World) × (reaping kind slot w ≡ Ok after) × Shows after (record kept { ledgers = ledgers; places = places })
reap_done w kept kind slot ledgers places h placed reaped =
    let reapable = is_reapable w kept kind slot h placed reaped.home in
    let is_known = lt-ltb kind (length w.kinds) (known w kept kind h reaped.known) in
    let its = and_from (is_home w slot) (is_in slot (ledger_of w kind)) reapable.home reapable.its in (
      with_slot_left kind slot w,
      rw (is_known, its) refl,
      subst
          (λ (ls : List (List ℕ)). Shows (with_slot_left kind slot w) (record kept { ledgers = ls; places = places })) (sym reaped.ledgers_are)
          (parted_shows w kept kind slot places h reapable),
    )

reaped_moved : (w : World) (kept : WorldState) (kind slot : ℕ) (ledgers : List (List ℕ)) (places : Places) → Shows w kept
    → ArePlaced kept → IsReaped kept kind slot ledgers places
    → IsMoved kept kind slot (without_slot slot (kept_of kept kind)) None places
reaped_moved w kept kind slot ledgers places h placed reaped = record {
  others = λ s ne. parted_slots.others_in s slot (kept_of kept kind) ne;
  unheld = λ run at e. let home = sym (ap (λ (p : Option Place). is_home_of p kind) e) ∙ reaped.home in absurd (cc);
  unshelved = λ shelf e. let home = sym (ap (λ (p : Option Place). is_home_of p kind) e) ∙ reaped.home in absurd (cc);
  places_are = reaped.places_are;
  fits = sym (ap (λ (ls : List (List ℕ)). list_any (is_in slot) (slice_set ls kind (without_slot slot (slice_index_or ls kind [])))) h.ledgers)
      ∙ parted_away w kind slot h.owned (is_reapable w kept kind slot h placed reaped.home);
}

pub reap_tended : (kept : WorldState) (kind slot : ℕ) (ledgers : List (List ℕ)) (places : Places) → IsTendedWorld kept
    → IsReaped kept kind slot ledgers places → IsTendedWorld (record kept { ledgers = ledgers; places = places })
reap_tended kept kind slot ledgers places tended reaped =
    let w = tended.shown.0 in
    let h = tended.shown.1 in
    let next = reap_done w kept kind slot ledgers places h tended.placed reaped in
    let moved = placed_moved kept kind slot (without_slot slot (kept_of kept kind)) None places tended.placed
    (reaped_moved w kept kind slot ledgers places h tended.placed reaped) in
    record {
      known = tended.known;
      runs = tended.runs;
      placed = subst (λ (ls : List (List ℕ)). ArePlaced (record kept { ledgers = ls; places = places })) (sym reaped.ledgers_are) moved;
      shown = (next.0, next.2);
    }
