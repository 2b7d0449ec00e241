-- A ledger: where a search finds a slot, and what the ledger is after a slot joins it or leaves it.
use Rattle.std.proofs.Common.{◌≡◌, ◌≢◌, inl, inr, ℕ, zero, suc, ◌<◌, ◌≤◌, ◌==◌, Bool, true, false, cond, List, [], ◌∷◌, length, get_or, Result, Ok}
use Rattle.std.proofs.Common.{Err, refl, sym, ap, arith}
use Rattle.std.specs.Prelude.{nat_lt}
use Rattle.std.specs.List.{insert, remove}
use Rattle.std.specs.List.Sorted.{IsBinarySearchResult}
use Rattle.std.specs.Ordering.{nat_cmp}
use Rattle.std.proofs.lemmas.Bool.{eq-eqb, ne_eqb, or_parts, lt-ltb, ltb-true, cases_lt}
use Rattle.std.proofs.lemmas.Bool.Decides.{nat_tests}
use Rattle.std.proofs.lemmas.List.{get_or_default}
use Rattle.std.proofs.lemmas.List.Folds.{list_any_at, list_any_none}
use Rattle.std.proofs.lemmas.List.Sorted.{searched}
use Rattle.ebpf_state.specs.Ascending.{IsAscending}
use Rattle.ebpf_state.proofs.HeldLists.{IsBelowFirst, ascending-cons, tail_ascends, first_below}
use Rattle.ebpf_machine.specs.World.{is_in}
use Rattle.ebpf_machine.specs.Events.{with_slot, without_slot}
use Rattle.ebpf_verify.proofs.Ascents.{all_above}

-- a list of slots does not fall
pub rises : (slots : List ℕ) → IsAscending slots → (i j : ℕ) → i ≤ j → j < length slots → get_or slots i 0 ≤ get_or slots j 0
rises [] up i j le inside = absurd (omega (arith, inside))
rises (s ∷ slots) up zero zero le inside = omega arith
rises (s ∷ slots) up zero (suc j) le inside = let above = all_above s slots up j 0 (omega (arith, inside)) in omega (arith, above)
rises (s ∷ slots) up (suc i) zero le inside = absurd (omega (arith, le))
rises (s ∷ slots) up (suc i) (suc j) le inside = rises slots (tail_ascends s slots up) i j (omega (arith, le)) (omega (arith, inside))

-- ---- a slot joins

-- the slots before a place are lower, and those from there on are higher
pub record IsGap (slot : ℕ) (slots : List ℕ) (place : ℕ) : Type 0 where
  pub lower : (k : ℕ) → k < place → get_or slots k 0 < slot
  pub higher : (k : ℕ) → place ≤ k → k < length slots → slot < get_or slots k 0

gap_later : (slot s : ℕ) (slots : List ℕ) (place : ℕ) → IsGap slot (s ∷ slots) (suc place) → IsGap slot slots place
gap_later slot s slots place gap = record {
  lower = λ k lt. gap.lower (suc k) (omega (arith, lt));
  higher = λ k le inside. gap.higher (suc k) (omega (arith, le)) (omega (arith, inside));
}

not_below : (a b : ℕ) → b ≤ a → nat_lt a b ≡ false
not_below a b le = grind (arith, nat_tests)

-- put there, it is in its place
pub joined_at : (slot : ℕ) (slots : List ℕ) (place : ℕ) → IsGap slot slots place → insert slots place slot ≡ with_slot slot slots
unfolding with_slot
joined_at slot [] zero gap = refl
joined_at slot [] (suc place) gap = refl
joined_at slot (s ∷ slots) zero gap =
    let above = gap.higher 0 (omega arith) (omega arith) in
    sym (rw (not_below s slot (omega (arith, above))) refl)
joined_at slot (s ∷ slots) (suc place) gap =
    let below = gap.lower 0 (omega arith) in
    let rest = joined_at slot slots place (gap_later slot s slots place gap) in
    sym (rw (lt-ltb s slot below) (ap (λ (l : List ℕ). s ∷ l) (sym rest)))

below_joined : (n slot : ℕ) (slots : List ℕ) → n < slot → IsBelowFirst n slots → IsBelowFirst n (with_slot slot slots)
unfolding with_slot
below_joined n slot [] lt below = lt
below_joined n slot (s ∷ slots) lt below = by (nat_lt s slot) where
  by : (t : Bool) → IsBelowFirst n (cond t (s ∷ with_slot slot slots) (slot ∷ s ∷ slots))
  by true = below
  by false = lt

pub ascending_joined : (slot : ℕ) (slots : List ℕ) → is_in slot slots ≡ false → IsAscending slots → IsAscending (with_slot slot slots)
unfolding with_slot
ascending_joined slot [] new up = tt
ascending_joined slot (s ∷ slots) new up =
    let parts = or_parts (s == slot) (is_in slot slots) new in
    by (nat_lt s slot) refl parts.0 (ascending_joined slot slots parts.1 (tail_ascends s slots up))
  where
    by : (t : Bool) → nat_lt s slot ≡ t → (s == slot) ≡ false → IsAscending (with_slot slot slots)
        → IsAscending (cond t (s ∷ with_slot slot slots) (slot ∷ s ∷ slots))
    by true e ne rest = ascending-cons s (with_slot slot slots) (below_joined s slot slots (ltb-true s slot e) (first_below s slots up)) rest
    by false e ne rest = (grind (arith, nat_tests), up)

-- ---- a slot leaves

-- one that is not there leaves all as it is
pub parted_none : (slot : ℕ) (slots : List ℕ) → is_in slot slots ≡ false → without_slot slot slots ≡ slots
parted_none slot [] none = refl
parted_none slot (s ∷ slots) none =
    let parts = or_parts (s == slot) (is_in slot slots) none in
    rw parts.0 (ap (λ (l : List ℕ). s ∷ l) (parted_none slot slots parts.1))

pub parted_joined : (slot : ℕ) (slots : List ℕ) → is_in slot slots ≡ false → without_slot slot (with_slot slot slots) ≡ slots
unfolding with_slot
parted_joined slot [] new = rw (eq-eqb slot slot refl) refl
parted_joined slot (s ∷ slots) new =
    let parts = or_parts (s == slot) (is_in slot slots) new in
    by (nat_lt s slot) parts.0 (parted_joined slot slots parts.1)
  where
    by : (t : Bool) → (s == slot) ≡ false → without_slot slot (with_slot slot slots) ≡ slots
        → without_slot slot (cond t (s ∷ with_slot slot slots) (slot ∷ s ∷ slots)) ≡ s ∷ slots
    by true ne rest = rw ne (ap (λ (l : List ℕ). s ∷ l) rest)
    by false ne rest = rw (eq-eqb slot slot refl) (parted_none slot (s ∷ slots) new)

differs : (slot : ℕ) (slots : List ℕ) → ((k : ℕ) → k < length slots → get_or slots k 0 ≢ slot) → is_in slot slots ≡ false
differs slot slots ne =
    list_any_none (λ (s : ℕ). s == slot) slots (λ k d inside. rw (get_or_default slots k d 0 inside) (ne_eqb (get_or slots k 0) slot (ne k inside)))

-- a slot that there is a gap for is not there
pub absent : (slot : ℕ) (slots : List ℕ) (place : ℕ) → IsGap slot slots place → is_in slot slots ≡ false
absent slot slots place gap = differs slot slots (λ k inside e. elim (cases_lt k place) [
  | inl before ↦ let below = gap.lower k before in omega (arith, below, e)
  | inr behind ↦ let above = gap.higher k behind inside in omega (arith, above, e)
])

-- taken out where it is, it is no longer there
pub parted_at : (slot : ℕ) (slots : List ℕ) (place : ℕ) → IsAscending slots → place < length slots → get_or slots place 0 ≡ slot
    → remove slots place ≡ without_slot slot slots
parted_at slot [] place up inside is = absurd (omega (arith, inside))
parted_at slot (s ∷ slots) zero up inside is =
    let none = differs slot slots (λ k within e. let above = all_above s slots up k 0 within in omega (arith, above, is, e)) in
    sym (rw (eq-eqb s slot is) (parted_none slot slots none))
parted_at slot (s ∷ slots) (suc place) up inside is =
    let below = all_above s slots up place 0 (omega (arith, inside)) in
    let rest = parted_at slot slots place (tail_ascends s slots up) (omega (arith, inside)) is in
    sym (rw (ne_eqb s slot (λ e. omega (arith, below, is, e))) (ap (λ (l : List ℕ). s ∷ l) (sym rest)))

-- ---- what a search gives

-- a slot that is found can be taken out there; one that isn't is not there, and has its place there
abbrev pub IsPlace : ℕ → List ℕ → Result ℕ ℕ → Type 0
IsPlace slot slots (Ok place) = (is_in slot slots ≡ true) × (remove slots place ≡ without_slot slot slots)
IsPlace slot slots (Err place) = (is_in slot slots ≡ false) × (insert slots place slot ≡ with_slot slot slots)

-- xs is the list that was searched
pub place_found : (slot : ℕ) (slots xs : List ℕ) (found : Result ℕ ℕ) → IsAscending slots → xs ≡ slots
    → IsBinarySearchResult (λ s. nat_cmp s slot) xs found → IsPlace slot slots found
place_found slot slots xs found up same is = by found (rw same at is) where
  by : (r : Result ℕ ℕ) → IsBinarySearchResult (λ s. nat_cmp s slot) slots r → IsPlace slot slots r
  by (Ok place) searching =
      let here = searched slots slot (Ok place) searching (rises slots up) in
      (list_any_at (λ (s : ℕ). s == slot) slots place 0 here.0 (eq-eqb (get_or slots place 0) slot here.1), parted_at slot slots place up here.0 here.1)
  by (Err place) searching =
      let between = searched slots slot (Err place) searching (rises slots up) in
      let gap : IsGap slot slots place = record { lower = between.1; higher = between.2 } in
      (absent slot slots place gap, joined_at slot slots place gap)
