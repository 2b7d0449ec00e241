-- Owners of a world in which owners, ledgers and pointers fit together: each is known by its slot, and by its call.
use Rattle.std.proofs.Common.{◌≡◌, ◌≢◌, ℕ, zero, suc, ◌+◌, ◌≤◌, Bool, true, false, cond, not, ◌&&◌, List, [], ◌∷◌, ◌++◌, filter, count_by, get_or}
use Rattle.std.proofs.Common.{refl, sym, ap, ◌∙◌, subst, arith}
use Rattle.std.specs.Prelude.{Contains, ◌==◌}
use Rattle.std.specs.List.{list_any}
use Rattle.std.proofs.lemmas.Bool.{eqb-true, eq-eqb, ne_eqb, not-true, and_parts, false_from_ne_true}
use Rattle.std.proofs.lemmas.List.{append-nil}
use Rattle.std.proofs.lemmas.List.Elements.{filter-append}
use Rattle.std.proofs.lemmas.List.Folds.{list_any_at}
use Rattle.ebpf_machine.specs.World.{Name, World, Owner, Holder, Run, Shelf, is_in, is_in_ledger, is_owned, is_home, is_run, is_call, is_shelf}
use Rattle.ebpf_machine.specs.World.{held_by, ledger_of, kind_from, kind_in, name_of}
use Rattle.ebpf_machine.specs.Events.{with_owner, without_owner}
use Rattle.ebpf_machine.specs.View.{call_of}
use Rattle.ebpf_machine.specs.Sound.{IsOwned}
use Rattle.ebpf_machine.proofs.Lists.ListLemmas.{Contains-head, Contains-tail, Contains-filter, any_from, any_one, none_from_count, none_counted}
use Rattle.ebpf_machine.proofs.Lists.ListLemmas.{counted_not, counted_at, counted_less, counted_once, only_one, filter_same, filter-filter}

-- the owner of the object of a name
abbrev pub owner_of : ℕ → Name → Owner
owner_of run name = record { slot = name.slot; holder = Run run name.call }

-- ---- holders

abbrev pub run_of : Holder → ℕ
run_of (Run run at) = run
run_of (Shelf s) = 0

is_run-own : (run : ℕ) (h : Holder) → is_run run h ≡ true → h ≡ Run run (call_of h)
is_run-own run (Run r at) e = ap (λ (n : ℕ). Run n at) (eqb-true r run e)
is_run-own run (Shelf s) e = absurd (cc)

is_run-other : (run other : ℕ) (h : Holder) → other ≢ run → is_run other h ≡ true → is_run run h ≡ false
is_run-other run other (Run r at) ne e = ne_eqb r run (λ same. ne (sym (eqb-true r other e) ∙ same))
is_run-other run other (Shelf s) ne e = refl

pub is_shelf-own : (shelf : ℕ) (h : Holder) → is_shelf shelf h ≡ true → h ≡ Shelf shelf
is_shelf-own shelf (Run r at) e = absurd (cc)
is_shelf-own shelf (Shelf s) e = ap Shelf (eqb-true s shelf e)

is_call-parts : (run at : ℕ) (h : Holder) → is_call run at h ≡ (is_run run h && (call_of h == at))
is_call-parts run at (Run r a) = refl
is_call-parts run at (Shelf s) = refl

-- who holds an object of a run is an owner
pub held_owner : (w : World) (run : ℕ) (o : Owner) → Contains (held_by w run) o → Contains w.owners o × (o.holder ≡ Run run (call_of o.holder))
held_owner w run o among =
    let parts = Contains-filter (λ (q : Owner). is_run run q.holder) w.owners o among in
    (parts.0, is_run-own run o.holder parts.1)

-- ---- who owns a slot

pub same_slot : (w : World) (o p : Owner) → IsOwned w → Contains w.owners o → Contains w.owners p → o.slot ≡ p.slot → o ≡ p
same_slot w o p owned (i, li, ei) (j, lj, ej) e =
    only_one (λ (q : Owner). q.slot == p.slot) w.owners i j o p li lj ei ej (eq-eqb o.slot p.slot e) (eq-eqb p.slot p.slot refl) (owned.holders.once p.slot)

-- a slot that is home is nobody's
pub not_home : (w : World) (o : Owner) (slot : ℕ) → is_home w slot ≡ true → Contains w.owners o → o.slot ≢ slot
not_home w o slot home (i, li, ei) e =
    let nobody = not-true (is_owned w slot) (and_parts (is_in_ledger w slot) (not (is_owned w slot)) home).1 in
    let here : (get_or w.owners i o).slot ≡ slot = ap (λ (q : Owner). q.slot) ei ∙ e in
    let somebody : is_owned w slot ≡ true = list_any_at (λ (q : Owner). q.slot == slot) w.owners i o li (eq-eqb (get_or w.owners i o).slot slot here) in
    absurd (cc)

-- the object of a name is owned by one call of one run
pub slot_of_call : (w : World) (run : ℕ) (name : Name) (o : Owner) → IsOwned w → Contains w.owners (owner_of run name)
    → Contains w.owners o → o.holder ≡ Run run name.call → o.slot ≡ name.slot
slot_of_call w run name o owned own among e = ap (λ (q : Owner). q.slot) (owned.holders.one_a_call o (owner_of run name) among own e)

pub holder_of_slot : (w : World) (run : ℕ) (name : Name) (o : Owner) → IsOwned w → Contains w.owners (owner_of run name)
    → Contains w.owners o → o.slot ≡ name.slot → o.holder ≡ Run run name.call
holder_of_slot w run name o owned own among e = ap (λ (q : Owner). q.holder) (same_slot w o (owner_of run name) owned among own e)

-- an object of another call is in another slot, and one of another run
pub slot_of_another_call : (w : World) (run : ℕ) (name : Name) (o : Owner) → IsOwned w → Contains w.owners (owner_of run name)
    → Contains w.owners o → call_of o.holder ≢ name.call → o.slot ≢ name.slot
slot_of_another_call w run name o owned own among ne e = ne (ap call_of (holder_of_slot w run name o owned own among e))

pub slot_of_another_run : (w : World) (run other : ℕ) (name : Name) (o : Owner) → IsOwned w → Contains w.owners (owner_of run name)
    → other ≢ run → Contains (held_by w other) o → o.slot ≢ name.slot
slot_of_another_run w run other name o owned own ne among e =
    let held = held_owner w other o among in
    ne (ap run_of (sym held.1 ∙ holder_of_slot w run name o owned own held.0 e))

-- ---- what runs hold where one gives an object back

kept_bits : (s r c : Bool) → (r ≡ true → c ≡ true → s ≡ true) → (not (s && (r && c)) && r) ≡ (r && not c)
kept_bits true true true h = refl
kept_bits true true false h = refl
kept_bits true false c h = refl
kept_bits false true true h = let e = h refl refl in absurd (cc)
kept_bits false true false h = refl
kept_bits false false c h = refl

others_bits : (s r c t : Bool) → (t ≡ true → r ≡ false) → (not (s && (r && c)) && t) ≡ t
others_bits true true true true h = let e = h refl in absurd (cc)
others_bits true true true false h = refl
others_bits true true false t h = refl
others_bits true false c t h = refl
others_bits false r c t h = refl

-- what the run has by the call of the name is in the slot of the name
abbrev pub IsInItsSlot : World → ℕ → Name → Type 0
IsInItsSlot w run name = (o : Owner) → Contains w.owners o → o.holder ≡ Run run name.call → o.slot ≡ name.slot

pub held_given : (w : World) (run : ℕ) (name : Name) → IsInItsSlot w run name
    → held_by (without_owner run name w) run ≡ filter (λ (o : Owner). not (call_of o.holder == name.call)) (held_by w run)
held_given w run name its =
    filter-filter (λ (o : Owner). is_run run o.holder) (λ (o : Owner). not ((o.slot == name.slot) && is_call run name.call o.holder)) w.owners
    ∙ filter_same _ _ w.owners (λ o among. alike o among)
    ∙ sym (filter-filter (λ (o : Owner). not (call_of o.holder == name.call)) (λ (o : Owner). is_run run o.holder) w.owners)
  where
    is_its : (o : Owner) → Contains w.owners o → is_run run o.holder ≡ true → (call_of o.holder == name.call) ≡ true → (o.slot == name.slot) ≡ true
    is_its o among mine named =
        eq-eqb o.slot name.slot (its o among (is_run-own run o.holder mine ∙ ap (λ (n : ℕ). Run run n) (eqb-true (call_of o.holder) name.call named)))

    alike : (o : Owner) → Contains w.owners o
        → (not ((o.slot == name.slot) && is_call run name.call o.holder) && is_run run o.holder)
        ≡ (is_run run o.holder && not (call_of o.holder == name.call))
    alike o among =
        ap (λ (t : Bool). not ((o.slot == name.slot) && t) && is_run run o.holder) (is_call-parts run name.call o.holder)
        ∙ kept_bits (o.slot == name.slot) (is_run run o.holder) (call_of o.holder == name.call) (is_its o among)

pub others_given : (w : World) (run other : ℕ) (name : Name) → other ≢ run → held_by (without_owner run name w) other ≡ held_by w other
others_given w run other name ne =
    filter-filter (λ (o : Owner). is_run other o.holder) (λ (o : Owner). not ((o.slot == name.slot) && is_call run name.call o.holder)) w.owners
    ∙ filter_same _ _ w.owners (λ o among. alike o)
  where
    alike : (o : Owner) → (not ((o.slot == name.slot) && is_call run name.call o.holder) && is_run other o.holder) ≡ is_run other o.holder
    alike o =
        ap (λ (t : Bool). not ((o.slot == name.slot) && t) && is_run other o.holder) (is_call-parts run name.call o.holder)
        ∙ others_bits (o.slot == name.slot) (is_run run o.holder) (call_of o.holder == name.call) (is_run other o.holder) (is_run-other run other o.holder ne)

-- ---- and where one is granted a slot

pub held_granted : (w : World) (run at slot : ℕ) → held_by (with_owner slot (Run run at) w) run ≡ held_by w run ++ owner_of run (name_of slot at) ∷ []
held_granted w run at slot =
    filter-append (λ (o : Owner). is_run run o.holder) w.owners (owner_of run (name_of slot at) ∷ [])
    ∙ ap (λ (t : Bool). held_by w run ++ cond t (owner_of run (name_of slot at) ∷ []) []) (eq-eqb run run refl)

pub others_granted : (w : World) (run other at slot : ℕ) → other ≢ run → held_by (with_owner slot (Run run at) w) other ≡ held_by w other
others_granted w run other at slot ne =
    filter-append (λ (o : Owner). is_run other o.holder) w.owners (owner_of run (name_of slot at) ∷ [])
    ∙ ap (λ (t : Bool). held_by w other ++ cond t (owner_of run (name_of slot at) ∷ []) []) (ne_eqb run other (λ same. ne (sym same)))
    ∙ append-nil (held_by w other)

-- ---- the kind of a slot

-- a slot of one ledger, in no other, is of that ledger's kind
pub kind_from-ledger : (base : ℕ) (ledgers : List (List ℕ)) (kind slot : ℕ) → is_in slot (get_or ledgers kind []) ≡ true
    → count_by (is_in slot) ledgers ≤ 1 → kind_from base ledgers slot ≡ base + kind
unfolding kind_from
kind_from-ledger base [] kind slot there most = absurd (cc)
kind_from-ledger base (slots ∷ ledgers) zero slot there most = rw there (omega arith)
kind_from-ledger base (slots ∷ ledgers) (suc kind) slot there most =
    rw elsewhere (kind_from-ledger (suc base) ledgers kind slot there (omega (arith, counted_less (is_in slot) slots ledgers)) ∙ omega arith)
  where
    elsewhere : is_in slot slots ≡ false
    elsewhere =
        false_from_ne_true (is_in slot slots)
        (λ here. absurd (omega (arith, counted_once (is_in slot) slots ledgers here, counted_at (is_in slot) ledgers kind [] refl there)))

pub kind_in-ledger : (w : World) (kind slot : ℕ) → IsOwned w → is_in slot (ledger_of w kind) ≡ true → kind_in w slot ≡ kind
kind_in-ledger w kind slot owned there = kind_from-ledger 0 w.ledgers kind slot there (owned.ledgers.apart slot) ∙ omega arith

pub in_one_ledger : (w : World) (kind slot : ℕ) → IsOwned w → is_in slot (ledger_of w kind) ≡ true → count_by (is_in slot) w.ledgers ≡ 1
in_one_ledger w kind slot owned there = omega (arith, owned.ledgers.apart slot, counted_at (is_in slot) w.ledgers kind [] refl there)

-- a slot of some ledger is in that of its kind
in_its_ledger : (base : ℕ) (ledgers : List (List ℕ)) (slot : ℕ) → list_any (is_in slot) ledgers ≡ true
    → (k : ℕ) × (kind_from base ledgers slot ≡ base + k) × (is_in slot (get_or ledgers k []) ≡ true)
unfolding kind_from
in_its_ledger base [] slot there = absurd (cc)
in_its_ledger base (slots ∷ ledgers) slot there = by (is_in slot slots) refl (in_its_ledger (suc base) ledgers slot) where
  by : (t : Bool) → is_in slot slots ≡ t
      → (list_any (is_in slot) ledgers ≡ true → (k : ℕ) × (kind_from (suc base) ledgers slot ≡ suc base + k) × (is_in slot (get_or ledgers k []) ≡ true))
      → (k : ℕ) × (cond t base (kind_from (suc base) ledgers slot) ≡ base + k) × (is_in slot (get_or (slots ∷ ledgers) k []) ≡ true)
  by true here later = (0, omega arith, here)
  by false away later =
      let rest = later (sym (rw away refl) ∙ there) in
      (suc rest.0, rest.1 ∙ omega arith, rest.2)

pub kind_there : (w : World) (slot : ℕ) → is_in_ledger w slot ≡ true → is_in slot (ledger_of w (kind_in w slot)) ≡ true
kind_there w slot there =
    let at = in_its_ledger 0 w.ledgers slot there in subst (λ (k : ℕ). is_in slot (ledger_of w k) ≡ true) (sym (at.1 ∙ omega arith)) at.2

-- an owned slot is in a ledger
pub owned_there : (w : World) (o : Owner) → IsOwned w → Contains w.owners o → is_in_ledger w o.slot ≡ true
owned_there w o owned among = by (is_in_ledger w o.slot) refl where
  by : (t : Bool) → is_in_ledger w o.slot ≡ t → t ≡ true
  by true e = refl
  by false e = let none = none_counted (is_in o.slot) w.ledgers e in let one = owned.holders.in_ledger o among in absurd (omega (arith, none, one))

-- ---- no shelf has two slots

-- owners that answer alike are one, and it is in the list once
once_by : (p : Owner → Bool) (owners : List Owner)
    → ((o q : Owner) → Contains owners o → Contains owners q → p o ≡ true → p q ≡ true → o ≡ q)
    → ((slot : ℕ) → count_by (λ (o : Owner). o.slot == slot) owners ≤ 1) → count_by p owners ≤ 1
once_by p [] one once = omega arith
once_by p (o ∷ owners) one once =
    by (p o) refl (once_by p owners (λ a b here there. one a b (Contains-tail o a owners here) (Contains-tail o b owners there))
    (λ slot. omega (arith, once slot, counted_less (λ (q : Owner). q.slot == slot) o owners)))
  where
    none_later : p o ≡ true → list_any p owners ≡ false
    none_later passes = false_from_ne_true (list_any p owners) (λ some. twice (any_one p owners some)) where
      twice : (q : Owner) × Contains owners q × (p q ≡ true) → ⊥
      twice (q, among, too) =
          let same = one o q (Contains-head o owners) (Contains-tail o q owners among) passes too in
          let here = counted_once (λ (x : Owner). x.slot == o.slot) o owners (eq-eqb o.slot o.slot refl) in
          let there : list_any (λ (x : Owner). x.slot == o.slot) owners ≡ true =
          any_from (λ (x : Owner). x.slot == o.slot) owners q among (eq-eqb q.slot o.slot (ap (λ (x : Owner). x.slot) (sym same))) in
          more (count_by (λ (x : Owner). x.slot == o.slot) owners) refl here there
        where
          more : (n : ℕ) → count_by (λ (x : Owner). x.slot == o.slot) owners ≡ n
              → count_by (λ (x : Owner). x.slot == o.slot) (o ∷ owners) ≡ 1 + count_by (λ (x : Owner). x.slot == o.slot) owners
              → list_any (λ (x : Owner). x.slot == o.slot) owners ≡ true → ⊥
          more zero e here there = let no = none_from_count (λ (x : Owner). x.slot == o.slot) owners e in absurd (cc)
          more (suc n) e here there = omega (arith, e, here, once o.slot)

    by : (t : Bool) → p o ≡ t → count_by p owners ≤ 1 → count_by p (o ∷ owners) ≤ 1
    by true e later = omega (arith, counted_once p o owners e, none_counted p owners (none_later e))
    by false e later = omega (arith, later, counted_not p o owners e)

pub shelf_once : (w : World) (shelf : ℕ) → IsOwned w → count_by (λ (o : Owner). is_shelf shelf o.holder) w.owners ≤ 1
shelf_once w shelf owned =
    once_by (λ (o : Owner). is_shelf shelf o.holder) w.owners
    (λ o q here there a b. owned.holders.one_a_call o q here there (is_shelf-own shelf o.holder a ∙ sym (is_shelf-own shelf q.holder b))) owned.holders.once
