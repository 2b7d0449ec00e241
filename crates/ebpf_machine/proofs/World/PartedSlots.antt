-- A slot that is home leaves its ledger: owners, ledgers and pointers still fit together, and runs see what they saw.
use Rattle.std.proofs.Common.{◌≡◌, ◌≢◌, ℕ, zero, suc, ◌<◌, Bool, true, false, cond, not, List, [], ◌∷◌, length, count_by, get_or, refl, sym, ap, ◌∙◌, arith}
use Rattle.std.specs.Prelude.{◌==◌}
use Rattle.std.proofs.lemmas.Bool.{eqb-true, ne_eqb, and_parts, not-true, not_from_false}
use Rattle.std.proofs.lemmas.List.Sums.{sum_by-set}
use Rattle.std.proofs.lemmas.Map.Views.{any-filter_same}
use Rattle.ebpf_machine.specs.World.{World, Running, is_in, is_in_ledger, is_owned, is_home, ledger_of}
use Rattle.ebpf_machine.specs.Events.{without_slot, with_slot_left}
use Rattle.ebpf_machine.specs.View.{view_of}
use Rattle.ebpf_machine.specs.Sound.{IsOwned}
use Rattle.ebpf_machine.proofs.Lists.ListLemmas.{none_from_count}
use Rattle.ebpf_machine.proofs.World.LedgerChanges.{IsChange, owned_changed, view_changed}

-- ---- a ledger without a slot

pub others_in : (s slot : ℕ) (slots : List ℕ) → s ≢ slot → is_in s (without_slot slot slots) ≡ is_in s slots
others_in s slot slots ne =
    any-filter_same (λ (x : ℕ). x == s) (λ (x : ℕ). not (x == slot)) true
    (λ x e. not_from_false (x == slot) (ne_eqb x slot (λ same. ne (sym (eqb-true x s e) ∙ same)))) slots

itself_out : (slot : ℕ) (slots : List ℕ) → is_in slot (without_slot slot slots) ≡ false
itself_out slot slots = any-filter_same (λ (x : ℕ). x == slot) (λ (x : ℕ). not (x == slot)) false (λ x e. ap not e) slots

-- ---- a slot that is home leaves its ledger

-- the slot is home, in the ledger of this kind
pub record IsReapable (w : World) (kind slot : ℕ) : Type 0 where
  pub home : is_home w slot ≡ true
  pub its : is_in slot (ledger_of w kind) ≡ true

has_ledger : (ledgers : List (List ℕ)) (kind slot : ℕ) → is_in slot (get_or ledgers kind []) ≡ true → kind < length ledgers
has_ledger [] kind slot its = absurd (cc)
has_ledger (slots ∷ ledgers) zero slot its = omega arith
has_ledger (slots ∷ ledgers) (suc kind) slot its = omega (arith, has_ledger ledgers kind slot its)

-- it was in one ledger, and is in none
parted_count : (w : World) (kind slot : ℕ) → IsOwned w → IsReapable w kind slot → count_by (is_in slot) (with_slot_left kind slot w).ledgers ≡ 0
parted_count w kind slot owned reapable =
    let was = ap (λ (b : Bool). cond {A = ℕ} b 1 0) reapable.its in
    let is = ap (λ (b : Bool). cond {A = ℕ} b 1 0) (itself_out slot (ledger_of w kind)) in
    omega (
      arith,
      was,
      is,
      owned.ledgers.apart slot,
      sum_by-set (λ slots. cond (is_in slot slots) 1 0) w.ledgers kind
          (without_slot slot (ledger_of w kind)) [] (has_ledger w.ledgers kind slot reapable.its),
    )

pub parted_away : (w : World) (kind slot : ℕ) → IsOwned w → IsReapable w kind slot → is_in_ledger (with_slot_left kind slot w) slot ≡ false
parted_away w kind slot owned reapable = none_from_count (is_in slot) (with_slot_left kind slot w).ledgers (parted_count w kind slot owned reapable)

parted_change : (w : World) (kind slot : ℕ) → IsOwned w → IsReapable w kind slot → IsChange w kind slot (without_slot slot (ledger_of w kind)) w.bytes
parted_change w kind slot owned reapable = record {
  nobodys = not-true (is_owned w slot) (and_parts (is_in_ledger w slot) (not (is_owned w slot)) reapable.home).1;
  others = λ s ne. others_in s slot (ledger_of w kind) ne;
  others_bytes = λ s ne. refl;
  once = omega (arith, parted_count w kind slot owned reapable);
  imaged = λ home. absurd (not_home home);
}
  where
    not_home : is_home (with_slot_left kind slot w) slot ≡ true → ⊥
    not_home home =
        let there = (and_parts (is_in_ledger (with_slot_left kind slot w) slot) (not (is_owned w slot)) home).0 in
        let none = parted_away w kind slot owned reapable in
        cc

pub owned_parted : (w : World) (kind slot : ℕ) → IsOwned w → IsReapable w kind slot → IsOwned (with_slot_left kind slot w)
owned_parted w kind slot owned reapable = owned_changed w kind slot _ _ owned (parted_change w kind slot owned reapable)

pub view_parted : (w : World) (run kind slot : ℕ) (r : Running) → IsOwned w → IsReapable w kind slot
    → view_of (with_slot_left kind slot w) run r ≡ view_of w run r
view_parted w run kind slot r owned reapable = view_changed w run kind slot _ _ r (parted_change w kind slot owned reapable)
