-- What runs see of the objects that they hold, where one is written to, given back or granted.
use Rattle.std.proofs.Common.{◌≡◌, ◌≢◌, ◌⊎◌, inl, inr, ℕ, Bool, true, not, List, [], ◌∷◌, ◌++◌, map, filter, refl, sym, ap, ◌∙◌}
use Rattle.std.specs.Prelude.{Contains, ◌==◌}
use Rattle.std.proofs.lemmas.Bool.{cases_eq, eq-eqb, ne_eqb}
use Rattle.std.proofs.lemmas.List.{map_push}
use Rattle.std.proofs.lemmas.Simd.{map-map}
use Rattle.ebpf_machine.specs.Bytes.{patched}
use Rattle.ebpf_machine.specs.World.{Name, World, Owner, Run, is_in, is_home, held_by, ledger_of, image_at, name_of}
use Rattle.ebpf_machine.specs.Events.{with_bytes, with_owner, without_owner}
use Rattle.ebpf_machine.specs.View.{ObjectView, call_of, object_in, patched_at}
use Rattle.ebpf_machine.specs.Sound.{IsOwned}
use Rattle.ebpf_machine.proofs.Lists.ListLemmas.{Contains-filter, map_agree, filter-map}
use Rattle.ebpf_machine.proofs.World.Owners.{owner_of, held_owner, slot_of_call, slot_of_another_call, slot_of_another_run, not_home}
use Rattle.ebpf_machine.proofs.World.Owners.{kind_in-ledger, held_given, held_granted, others_given, others_granted}

-- the objects of a run, as it sees them
abbrev pub objects_of : World → ℕ → List ObjectView
objects_of w run = map (object_in w) (held_by w run)

-- ---- a write

-- an object in another slot
pub object_kept : (w : World) (slot : ℕ) (bytes : List ℕ) (o : Owner) → o.slot ≢ slot → object_in (with_bytes slot bytes w) o ≡ object_in w o
object_kept w slot bytes o ne = let apart = ne_eqb o.slot slot ne in rw apart refl

-- an object of the run, where the bytes of one are patched
object_written : (w : World) (run : ℕ) (name : Name) (at : ℕ) (bytes : List ℕ) (o : Owner) → IsOwned w
    → Contains w.owners (owner_of run name) → Contains (held_by w run) o
    → object_in (with_bytes name.slot (patched (w.bytes name.slot) at bytes) w) o ≡ patched_at name.call at bytes (object_in w o)
object_written w run name at bytes o owned own among = by (cases_eq (call_of o.holder) name.call) where
  by : (call_of o.holder ≡ name.call) ⊎ (call_of o.holder ≢ name.call)
      → object_in (with_bytes name.slot (patched (w.bytes name.slot) at bytes) w) o ≡ patched_at name.call at bytes (object_in w o)
  by (inl e) =
      let held = held_owner w run o among in
      let slot = slot_of_call w run name o owned own held.0 (held.1 ∙ ap (λ (n : ℕ). Run run n) e) in
      let here = eq-eqb o.slot name.slot slot in
      let named = eq-eqb (call_of o.holder) name.call e in
      rw (here, named, slot) refl
  by (inr ne) =
      let held = held_owner w run o among in
      let apart = ne_eqb o.slot name.slot (slot_of_another_call w run name o owned own held.0 ne) in
      let unnamed = ne_eqb (call_of o.holder) name.call ne in
      rw (apart, unnamed) refl

pub objects_written : (w : World) (run : ℕ) (name : Name) (at : ℕ) (bytes : List ℕ) → IsOwned w → Contains w.owners (owner_of run name)
    → objects_of (with_bytes name.slot (patched (w.bytes name.slot) at bytes) w) run ≡ map (patched_at name.call at bytes) (objects_of w run)
objects_written w run name at bytes owned own =
    map_agree (object_in (with_bytes name.slot (patched (w.bytes name.slot) at bytes) w)) (λ (o : Owner). patched_at name.call at bytes (object_in w o))
    (held_by w run) (λ o among. object_written w run name at bytes o owned own among)
    ∙ sym (map-map (patched_at name.call at bytes) (object_in w) (held_by w run))

pub others_written : (w : World) (run other : ℕ) (name : Name) (bytes : List ℕ) → IsOwned w → Contains w.owners (owner_of run name) → other ≢ run
    → objects_of (with_bytes name.slot bytes w) other ≡ objects_of w other
others_written w run other name bytes owned own ne =
    map_agree (object_in (with_bytes name.slot bytes w)) (object_in w) (held_by w other)
    (λ o among. object_kept w name.slot bytes o (slot_of_another_run w run other name o owned own ne among))

-- ---- an object is given back

-- its bytes are nobody's then
pub objects_given : (w : World) (run : ℕ) (name : Name) (bytes : List ℕ) → IsOwned w → Contains w.owners (owner_of run name)
    → objects_of (with_bytes name.slot bytes (without_owner run name w)) run ≡ filter (λ (o : ObjectView). not (o.call == name.call)) (objects_of w run)
objects_given w run name bytes owned own =
    ap (map (object_in (with_bytes name.slot bytes w))) (held_given w run name (λ o among e. slot_of_call w run name o owned own among e))
    ∙ map_agree (object_in (with_bytes name.slot bytes w)) (object_in w) (filter stays (held_by w run)) (λ o among. kept o among)
    ∙ sym (filter-map (λ (o : ObjectView). not (o.call == name.call)) (object_in w) (held_by w run))
  where
    stays : Owner → Bool
    stays o = not (call_of o.holder == name.call)

    kept : (o : Owner) → Contains (filter stays (held_by w run)) o → object_in (with_bytes name.slot bytes w) o ≡ object_in w o
    kept o among =
        let parts = Contains-filter stays (held_by w run) o among in
        let held = held_owner w run o parts.0 in
        object_kept w name.slot bytes o
        (slot_of_another_call w run name o owned own held.0 (λ e. let named = eq-eqb (call_of o.holder) name.call e in let gone = parts.1 in absurd (cc)))

pub others_given_back : (w : World) (run other : ℕ) (name : Name) (bytes : List ℕ) → IsOwned w → Contains w.owners (owner_of run name) → other ≢ run
    → objects_of (with_bytes name.slot bytes (without_owner run name w)) other ≡ objects_of w other
others_given_back w run other name bytes owned own ne =
    ap (map (object_in (with_bytes name.slot bytes w))) (others_given w run other name ne) ∙ others_written w run other name bytes owned own ne

-- ---- an object is granted

pub objects_kept : (w : World) (run slot : ℕ) (bytes : List ℕ) → is_home w slot ≡ true → objects_of (with_bytes slot bytes w) run ≡ objects_of w run
objects_kept w run slot bytes home =
    map_agree (object_in (with_bytes slot bytes w)) (object_in w) (held_by w run)
    (λ o among. object_kept w slot bytes o (not_home w o slot home (held_owner w run o among).0))

pub objects_granted : (w : World) (run at slot kind : ℕ) → IsOwned w → is_home w slot ≡ true → is_in slot (ledger_of w kind) ≡ true
    → objects_of (with_owner slot (Run run at) (with_bytes slot (image_at w.kinds kind) w)) run
    ≡ objects_of w run ++ record { call = at; kind = kind; bytes = image_at w.kinds kind } ∷ []
objects_granted w run at slot kind owned home there =
    let v = with_bytes slot (image_at w.kinds kind) w in
    let new : ObjectView = record { call = at; kind = kind; bytes = image_at w.kinds kind } in
    ap (map (object_in v)) (held_granted w run at slot)
    ∙ map_push (object_in v) (held_by w run) (owner_of run (name_of slot at))
    ∙ ap (λ (objects : List ObjectView). objects ++ object_in v (owner_of run (name_of slot at)) ∷ []) (objects_kept w run slot (image_at w.kinds kind) home)
    ∙ ap (λ (o : ObjectView). objects_of w run ++ o ∷ []) is_new
  where
    is_new : object_in (with_bytes slot (image_at w.kinds kind) w) (owner_of run (name_of slot at))
        ≡ record { call = at; kind = kind; bytes = image_at w.kinds kind }
    is_new =
        let of_kind = kind_in-ledger w kind slot owned there in
        let here = eq-eqb slot slot refl in
        rw (of_kind, here) refl

pub others_unchanged : (w : World) (run other at slot : ℕ) (bytes : List ℕ) → is_home w slot ≡ true → other ≢ run
    → objects_of (with_owner slot (Run run at) (with_bytes slot bytes w)) other ≡ objects_of w other
others_unchanged w run other at slot bytes home ne =
    ap (map (object_in (with_bytes slot bytes w))) (others_granted w run other at slot ne) ∙ objects_kept w other slot bytes home
