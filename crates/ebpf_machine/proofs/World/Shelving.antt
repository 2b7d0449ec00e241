-- Before an exchange of the run alone its shelf is cleared, and has what the run is to get: owners, ledgers and pointers still fit
-- together, and the run sees what it saw.
use Rattle.std.proofs.Common.{◌≡◌, ◌≢◌, ◌⊎◌, inl, inr, ℕ, Bool, true, false, not, List, [], ◌∷◌, ◌++◌, length, map, filter, Option, Some, None}
use Rattle.std.proofs.Common.{refl, sym, ap, ◌∙◌, arith}
use Rattle.std.specs.Prelude.{Contains, ◌==◌, ◌&&◌}
use Rattle.std.specs.List.{find}
use Rattle.std.proofs.lemmas.Bool.{cases_eq, eqb-true, eq-eqb, and_from, not_from_false, false_from_ne_true}
use Rattle.std.proofs.lemmas.List.{length-append, length-take}
use Rattle.ebpf_machine.specs.World.{World, Running, Kind, Owner, Holder, Shelf, is_in, is_in_ledger, is_owned, is_shelf, standing, held_by}
use Rattle.ebpf_machine.specs.World.{ledger_of, kind_in, image_at}
use Rattle.ebpf_machine.specs.Events.{with_bytes, without_shelved, without_slot, with_slot_joined}
use Rattle.ebpf_machine.specs.Alone.{cleared_of, cleared, bytes_for, shelved}
use Rattle.ebpf_machine.specs.View.{ObjectView, object_in, view_of}
use Rattle.ebpf_machine.specs.Sound.{IsOwned}
use Rattle.ebpf_machine.proofs.Lists.ListLemmas.{IsFound, Contains-head, Contains-tail, Contains-filter, map_agree, any_one, find_is}
use Rattle.ebpf_machine.proofs.World.Owners.{is_shelf-own, held_owner, same_slot, kind_there, owned_there}
use Rattle.ebpf_machine.proofs.World.ObjectsSeen.{objects_of, object_kept, objects_kept}
use Rattle.ebpf_machine.proofs.World.Moves.{owned_by}
use Rattle.ebpf_machine.proofs.World.Exchanges.{and_false, stays_off, nothing_else, StandsOn, stands, standing_there, off_shelf, shelf_is_no_run}
use Rattle.ebpf_machine.proofs.World.Exchanges.{kind_on_shelf, shelf_dropped, held_shelved, held_unshelved}
use Rattle.ebpf_machine.proofs.World.OwnedParts.{owned_freed, owned_granted}
use Rattle.ebpf_machine.proofs.World.LedgerChanges.{other_ledger}
use Rattle.ebpf_machine.proofs.World.NewSlots.{IsNew, joined_home, joined_in, joined_kind, owned_joined, view_joined}
use Rattle.ebpf_machine.proofs.World.PartedSlots.{IsReapable, others_in, owned_parted, view_parted}

-- ---- a shelf is cleared

-- what was there is nobody's, with its image
abbrev emptied : World → ℕ → Owner → World
emptied w shelf o = with_bytes o.slot (image_at w.kinds (kind_in w o.slot)) (without_shelved o.slot shelf w)

owned_emptied : (w : World) (shelf : ℕ) (o : Owner) → IsOwned w → StandsOn w shelf o → IsOwned (emptied w shelf o)
owned_emptied w shelf o owned on = owned_freed w o (stays_off o.slot shelf) owned (shelf_dropped w shelf o owned on)

-- another owner has another slot
apart_from_it : (w : World) (shelf : ℕ) (o p : Owner) → IsOwned w → StandsOn w shelf o → Contains w.owners p → stays_off o.slot shelf p ≡ true
    → p.slot ≢ o.slot
apart_from_it w shelf o p owned on among stays e =
    let same = ap (stays_off o.slot shelf) (same_slot w p o owned among on.among e) in
    let gone = (shelf_dropped w shelf o owned on).drops in
    absurd (cc)

-- and home
emptied_home : (w : World) (shelf : ℕ) (o : Owner) → IsOwned w → StandsOn w shelf o → IsReapable (emptied w shelf o) shelf o.slot
emptied_home w shelf o owned on = record {
  home = and_from (is_in_ledger w o.slot) (not (is_owned (emptied w shelf o) o.slot)) (owned_there w o owned on.among)
      (not_from_false (is_owned (emptied w shelf o) o.slot) nobodys);
  its = ap (λ (k : ℕ). is_in o.slot (ledger_of w k)) (kind_on_shelf w shelf o owned on) ∙ kind_there w o.slot (owned_there w o owned on.among);
}
  where
    nobodys : is_owned (emptied w shelf o) o.slot ≡ false
    nobodys =
        false_from_ne_true (is_owned (emptied w shelf o) o.slot)
        (λ owns. somebodys (any_one (λ (p : Owner). p.slot == o.slot) (filter (stays_off o.slot shelf) w.owners) owns)) where
          somebodys : (p : Owner) × Contains (filter (stays_off o.slot shelf) w.owners) p × ((p.slot == o.slot) ≡ true) → ⊥
          somebodys (p, among, its) =
              let parts = Contains-filter (stays_off o.slot shelf) w.owners p among in
              apart_from_it w shelf o p owned on parts.0 parts.1 (eqb-true p.slot o.slot its)

pub owned_cleared : (w : World) (shelf : ℕ) → IsOwned w → IsOwned (cleared shelf w)
owned_cleared w shelf owned = by (standing w shelf) (stands w shelf) where
  by : (o : Option Owner) → IsFound (λ (p : Owner). is_shelf shelf p.holder) w.owners o → IsOwned (cleared_of o shelf w)
  by None none = owned
  by (Some o) found =
      let on = standing_there w shelf o found in
      owned_parted (emptied w shelf o) shelf o.slot (owned_emptied w shelf o owned on) (emptied_home w shelf o owned on)

-- no run sees it
view_emptied : (w : World) (shelf : ℕ) (o : Owner) (run : ℕ) (r : Running) → IsOwned w → StandsOn w shelf o
    → view_of (emptied w shelf o) run r ≡ view_of w run r
view_emptied w shelf o run r owned on = ap (λ (objects : List ObjectView). record (view_of w run r) { objects = objects }) same where
  apart : (p : Owner) → Contains (held_by w run) p → p.slot ≢ o.slot
  apart p among =
      let held = held_owner w run p among in
      apart_from_it w shelf o p owned on held.0
      (ap (λ (h : Holder). not ((p.slot == o.slot) && is_shelf shelf h)) held.1 ∙ ap not (and_false (p.slot == o.slot)))

  same : objects_of (emptied w shelf o) run ≡ objects_of w run
  same =
      ap (λ (os : List Owner). map (object_in (emptied w shelf o)) os) (held_unshelved w run o.slot shelf)
      ∙ map_agree (object_in (emptied w shelf o)) (object_in w) (held_by w run)
      (λ p among. object_kept w o.slot (image_at w.kinds (kind_in w o.slot)) p (apart p among))

pub view_cleared : (w : World) (shelf run : ℕ) (r : Running) → IsOwned w → view_of (cleared shelf w) run r ≡ view_of w run r
view_cleared w shelf run r owned = by (standing w shelf) (stands w shelf) where
  by : (o : Option Owner) → IsFound (λ (p : Owner). is_shelf shelf p.holder) w.owners o → view_of (cleared_of o shelf w) run r ≡ view_of w run r
  by None none = refl
  by (Some o) found =
      let on = standing_there w shelf o found in
      view_parted (emptied w shelf o) run shelf o.slot r (owned_emptied w shelf o owned on) (emptied_home w shelf o owned on)
      ∙ view_emptied w shelf o run r owned on

-- nothing is on it
pub none_found : {X : Type 0} (p : X → Bool) (xs : List X) → ((x : X) → Contains xs x → p x ≡ false) → find p xs ≡ None
none_found p xs none = by (find p xs) (find_is p xs) where
  by : (o : Option _) → IsFound p xs o → o ≡ None
  by None h = refl
  by (Some x) h = let no = none x h.0 in let yes = h.1 in absurd (cc)

pub cleared_off : (w : World) (shelf : ℕ) (p : Owner) → IsOwned w → Contains (cleared shelf w).owners p → is_shelf shelf p.holder ≡ false
cleared_off w shelf p owned = by (standing w shelf) (stands w shelf) where
  by : (o : Option Owner) → IsFound (λ (q : Owner). is_shelf shelf q.holder) w.owners o → Contains (cleared_of o shelf w).owners p
      → is_shelf shelf p.holder ≡ false
  by None none among = none p among
  by (Some o) found among =
      false_from_ne_true (is_shelf shelf p.holder)
      (λ e. nothing_else w shelf o p owned (standing_there w shelf o found) among (is_shelf-own shelf p.holder e))

pub nothing_standing : (w : World) (shelf : ℕ) → IsOwned w → standing (cleared shelf w) shelf ≡ None
nothing_standing w shelf owned = none_found (λ (p : Owner). is_shelf shelf p.holder) (cleared shelf w).owners (λ p among. cleared_off w shelf p owned among)

-- and no slot joined a ledger by it
pub cleared_ledgers : (w : World) (shelf s : ℕ) → IsOwned w → is_in_ledger (cleared shelf w) s ≡ true → is_in_ledger w s ≡ true
cleared_ledgers w shelf s owned = by (standing w shelf) (stands w shelf) where
  by : (o : Option Owner) → IsFound (λ (p : Owner). is_shelf shelf p.holder) w.owners o → is_in_ledger (cleared_of o shelf w) s ≡ true
      → is_in_ledger w s ≡ true
  by None none there = there
  by (Some o) found there = was (cases_eq s o.slot) where
    was : (s ≡ o.slot) ⊎ (s ≢ o.slot) → is_in_ledger w s ≡ true
    was (inl e) = ap (is_in_ledger w) e ∙ owned_there w o owned found.0
    was (inr ne) =
        sym (other_ledger (emptied w shelf o) shelf (without_slot o.slot (ledger_of w shelf)) s (others_in s o.slot (ledger_of w shelf) ne)) ∙ there

-- ---- a new object is on it

pub bytes_long : (kinds : List Kind) (shelf : ℕ) (bytes : List ℕ) → length (bytes_for kinds shelf bytes) ≡ length (image_at kinds shelf)
bytes_long kinds shelf bytes = rw (length-take, length-append) (omega arith)

-- a shelf on which nothing is, and a slot that is in no ledger
pub record IsRoom (w : World) (shelf slot : ℕ) : Type 0 where
  pub owned : IsOwned w
  pub off : (p : Owner) → Contains w.owners p → is_shelf shelf p.holder ≡ false
  pub new : IsNew w shelf slot

pub owned_shelved : (w : World) (shelf slot : ℕ) (bytes : List ℕ) → IsRoom w shelf slot
    → length bytes ≡ length (image_at w.kinds shelf) → IsOwned (shelved shelf slot bytes w)
owned_shelved w shelf slot bytes room long =
    owned_granted (with_slot_joined shelf slot w) slot shelf (Shelf shelf) bytes (owned_joined w shelf slot room.owned room.new)
    (joined_home w shelf slot room.owned room.new) (joined_in w shelf slot room.owned room.new) long (record {
      nothing = λ p among. off_shelf shelf p (room.off p among);
      asked = sym (joined_kind w shelf slot room.owned room.new);
      points = λ k x n at has e. absurd (shelf_is_no_run shelf k n.call e);
    })

pub view_shelved : (w : World) (shelf slot run : ℕ) (bytes : List ℕ) (r : Running) → IsRoom w shelf slot
    → view_of (shelved shelf slot bytes w) run r ≡ view_of w run r
view_shelved w shelf slot run bytes r room =
    ap (λ (objects : List ObjectView). record (view_of (with_slot_joined shelf slot w) run r) { objects = objects }) same
    ∙ view_joined w run shelf slot r room.owned room.new
  where
    joined : World
    joined = with_slot_joined shelf slot w

    same : objects_of (shelved shelf slot bytes w) run ≡ objects_of joined run
    same =
        ap (map (object_in (with_bytes slot bytes joined))) (held_shelved joined run slot shelf)
        ∙ objects_kept joined run slot bytes (joined_home w shelf slot room.owned room.new)

pub find_last : {X : Type 0} (p : X → Bool) (xs : List X) (y : X) → ((x : X) → Contains xs x → p x ≡ false) → p y ≡ true → find p (xs ++ y ∷ []) ≡ Some y
find_last p [] y none passes = rw passes refl
find_last {X} p (x ∷ xs) y none passes =
    let away = none x (Contains-head x xs) in
    rw away (find_last p xs y (λ z among. none z (Contains-tail x z xs among)) passes)

pub standing_new : (w : World) (shelf slot : ℕ) (bytes : List ℕ) → IsRoom w shelf slot
    → standing (shelved shelf slot bytes w) shelf ≡ Some (owned_by slot (Shelf shelf))
standing_new w shelf slot bytes room =
    find_last (λ (p : Owner). is_shelf shelf p.holder) w.owners (owned_by slot (Shelf shelf)) room.off (eq-eqb shelf shelf refl)

pub bytes_new : (w : World) (shelf slot : ℕ) (bytes : List ℕ) → (shelved shelf slot bytes w).bytes slot ≡ bytes
bytes_new w shelf slot bytes = let here = eq-eqb slot slot refl in rw here refl
