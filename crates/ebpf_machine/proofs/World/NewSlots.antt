-- A new slot joins a ledger: owners, ledgers and pointers still fit together, and runs see what they saw.
use Rattle.std.proofs.Common.{◌≡◌, ◌≢◌, ◌⊎◌, inl, inr, ℕ, ◌<◌, ◌≤◌, Bool, true, false, cond, not, ◌||◌, List, [], ◌∷◌, length, count_by, length-set}
use Rattle.std.proofs.Common.{refl, sym, ap, ◌∙◌, arith}
use Rattle.std.specs.Prelude.{Contains, nat_lt, ◌==◌}
use Rattle.std.proofs.lemmas.Bool.{cases_eq, eqb-true, eq-eqb, ne_eqb, and_from, false_from_ne_true, not_from_false}
use Rattle.std.proofs.lemmas.List.{get_or-set_same}
use Rattle.std.proofs.lemmas.List.Folds.{list_any_at}
use Rattle.std.proofs.lemmas.List.Sums.{sum_by-set}
use Rattle.ebpf_machine.specs.World.{World, Running, Owner, is_in, is_in_ledger, is_owned, is_home, ledger_of, kind_in, image_at}
use Rattle.ebpf_machine.specs.Events.{with_slot, with_slot_joined}
use Rattle.ebpf_machine.specs.View.{view_of}
use Rattle.ebpf_machine.specs.Sound.{IsOwned}
use Rattle.ebpf_machine.proofs.Lists.ListLemmas.{any_one, none_counted}
use Rattle.ebpf_machine.proofs.World.Owners.{kind_from-ledger}
use Rattle.ebpf_machine.proofs.World.LedgerChanges.{IsChange, other_ledger, owned_changed, view_changed}

-- ---- a slot in its place in a ledger

or_swap : (a b c : Bool) → (a || (b || c)) ≡ (b || (a || c))
or_swap true true c = refl
or_swap true false c = refl
or_swap false b c = refl

is_in-with_slot : (s slot : ℕ) (slots : List ℕ) → is_in s (with_slot slot slots) ≡ ((slot == s) || is_in s slots)
unfolding with_slot
is_in-with_slot s slot [] = refl
is_in-with_slot s slot (x ∷ slots) = by (nat_lt x slot) (is_in-with_slot s slot slots) where
  by : (t : Bool) → is_in s (with_slot slot slots) ≡ ((slot == s) || is_in s slots)
      → is_in s (cond t (x ∷ with_slot slot slots) (slot ∷ x ∷ slots)) ≡ ((slot == s) || ((x == s) || is_in s slots))
  by true rest = ap (λ (b : Bool). (x == s) || b) rest ∙ or_swap (x == s) (slot == s) (is_in s slots)
  by false rest = refl

-- the ledger answers as before of every other slot
pub others_in : (s slot : ℕ) (slots : List ℕ) → s ≢ slot → is_in s (with_slot slot slots) ≡ is_in s slots
others_in s slot slots ne = is_in-with_slot s slot slots ∙ ap (λ (b : Bool). b || is_in s slots) (ne_eqb slot s (λ e. ne (sym e)))

itself_in : (slot : ℕ) (slots : List ℕ) → is_in slot (with_slot slot slots) ≡ true
itself_in slot slots = is_in-with_slot slot slot slots ∙ ap (λ (b : Bool). b || is_in slot slots) (eq-eqb slot slot refl)

-- ---- a slot that is in no ledger joins one

-- there is the kind, and the slot is in no ledger
pub record IsNew (w : World) (kind slot : ℕ) : Type 0 where
  pub kind_is : kind < length w.kinds
  pub fresh : is_in_ledger w slot ≡ false

room : (w : World) (kind slot : ℕ) → IsOwned w → IsNew w kind slot → kind < length w.ledgers
room w kind slot owned new = omega (arith, owned.ledgers.as_many, new.kind_is)

nobodys : (w : World) (kind slot : ℕ) → IsOwned w → IsNew w kind slot → is_owned w slot ≡ false
nobodys w kind slot owned new = false_from_ne_true (is_owned w slot) (λ owns. somebodys (any_one (λ (o : Owner). o.slot == slot) w.owners owns)) where
  somebodys : (o : Owner) × Contains w.owners o × ((o.slot == slot) ≡ true) → ⊥
  somebodys (o, among, its) =
      let none = none_counted (is_in slot) w.ledgers new.fresh in
      let one = owned.holders.in_ledger o among in
      let same = ap (λ (s : ℕ). count_by (is_in s) w.ledgers) (eqb-true o.slot slot its) in
      absurd (omega (arith, none, one, same))

-- what the ledgers say of it
pub joined_in : (w : World) (kind slot : ℕ) → IsOwned w → IsNew w kind slot → is_in slot (ledger_of (with_slot_joined kind slot w) kind) ≡ true
joined_in w kind slot owned new =
    ap (is_in slot) (get_or-set_same w.ledgers kind (with_slot slot (ledger_of w kind)) [] (room w kind slot owned new)) ∙ itself_in slot (ledger_of w kind)

joined_once : (w : World) (kind slot : ℕ) → IsOwned w → IsNew w kind slot → count_by (is_in slot) (with_slot_joined kind slot w).ledgers ≤ 1
joined_once w kind slot owned new =
    let none = none_counted (is_in slot) w.ledgers new.fresh in
    let one = ap (λ (b : Bool). cond {A = ℕ} b 1 0) (itself_in slot (ledger_of w kind)) in
    omega (
      arith,
      none,
      one,
      sum_by-set (λ slots. cond (is_in slot slots) 1 0) w.ledgers kind (with_slot slot (ledger_of w kind)) []
          (room w kind slot owned new),
    )

pub joined_kind : (w : World) (kind slot : ℕ) → IsOwned w → IsNew w kind slot → kind_in (with_slot_joined kind slot w) slot ≡ kind
joined_kind w kind slot owned new =
    kind_from-ledger 0 (with_slot_joined kind slot w).ledgers kind slot (joined_in w kind slot owned new) (joined_once w kind slot owned new) ∙ omega arith

pub joined_home : (w : World) (kind slot : ℕ) → IsOwned w → IsNew w kind slot → is_home (with_slot_joined kind slot w) slot ≡ true
joined_home w kind slot owned new =
    let inside : kind < length (with_slot_joined kind slot w).ledgers =
    omega (arith, room w kind slot owned new, length-set w.ledgers kind (with_slot slot (ledger_of w kind))) in
    let there = list_any_at (is_in slot) (with_slot_joined kind slot w).ledgers kind [] inside (joined_in w kind slot owned new) in
    and_from (is_in_ledger (with_slot_joined kind slot w) slot) (not (is_owned w slot)) there
    (not_from_false (is_owned w slot) (nobodys w kind slot owned new))

-- and of another slot
pub joined_others : (w : World) (kind slot s : ℕ) → s ≢ slot → is_in_ledger (with_slot_joined kind slot w) s ≡ is_in_ledger w s
joined_others w kind slot s ne = other_ledger w kind (with_slot slot (ledger_of w kind)) s (others_in s slot (ledger_of w kind) ne)

-- a slot of a ledger is the new one, or was there
pub joined_cases : (w : World) (kind slot s : ℕ) → is_in_ledger (with_slot_joined kind slot w) s ≡ true → (s ≡ slot) ⊎ (is_in_ledger w s ≡ true)
joined_cases w kind slot s there = by (cases_eq s slot) where
  by : (s ≡ slot) ⊎ (s ≢ slot) → (s ≡ slot) ⊎ (is_in_ledger w s ≡ true)
  by (inl e) = inl e
  by (inr ne) = inr (sym (joined_others w kind slot s ne) ∙ there)

joined_change : (w : World) (kind slot : ℕ) → IsOwned w → IsNew w kind slot
    → IsChange w kind slot (with_slot slot (ledger_of w kind)) (with_slot_joined kind slot w).bytes
joined_change w kind slot owned new = record {
  nobodys = nobodys w kind slot owned new;
  others = λ s ne. others_in s slot (ledger_of w kind) ne;
  others_bytes = λ s ne. let apart = ne_eqb s slot ne in rw apart refl;
  once = joined_once w kind slot owned new;
  imaged = λ home. let here = eq-eqb slot slot refl in rw here (ap (image_at w.kinds) (sym (joined_kind w kind slot owned new)));
}

pub owned_joined : (w : World) (kind slot : ℕ) → IsOwned w → IsNew w kind slot → IsOwned (with_slot_joined kind slot w)
owned_joined w kind slot owned new = owned_changed w kind slot _ _ owned (joined_change w kind slot owned new)

pub view_joined : (w : World) (run kind slot : ℕ) (r : Running) → IsOwned w → IsNew w kind slot
    → view_of (with_slot_joined kind slot w) run r ≡ view_of w run r
view_joined w run kind slot r owned new = view_changed w run kind slot _ _ r (joined_change w kind slot owned new)
