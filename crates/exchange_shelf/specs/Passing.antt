-- What is on a shelf, and what hands do with it. Assumes nothing: these are definitions.
use Rattle.std.specs.Prelude.{◌≡◌, ◌≢◌, ℕ, zero, suc, ◌+◌, ◌-◌, ◌<◌, ◌≤◌, ◌==◌, if◌then◌else◌, List, [], ◌∷◌, ◌++◌, take, drop, length, slice_index, sum_by, Option, Some, None}
use mathlib.Core.Option.{some}
use lib.ListN.{get_elem?}
use Rattle.atomic_table.specs.Table.{State, Me, Step}
use Rattle.shared_row.specs.Spread.{spot}
use Rattle.exchange_shelf.specs.declared.passing.Sheet.{Sheet}

-- a value counts one, and nothing none
abbrev pub one_if : {T : Type 0} → Option T → ℕ
one_if None = 0
one_if (Some x) = 1

-- the slots of this many hands, after as many others; at the start spot 0 is the shelf's own
abbrev pub spots_of : ℕ → ℕ → List ℕ
spots_of zero before = []
spots_of (suc n) before = spot (before + 1) ∷ spots_of n (before + 1)

-- a sheet that is no hand
abbrev pub blank : Sheet
blank = record { parts = 0; swaps = 0; puts = 0; gets = 0; held = []; due = [] }

-- a sheet of this many hands with which nothing was done, after as many as were dealt
abbrev pub first_sheet : ℕ → ℕ → Sheet
first_sheet n dealt = record { parts = n; swaps = 0; puts = 0; gets = 0; held = []; due = spots_of n dealt }

abbrev pub one_less : Sheet → Sheet
one_less v = record { parts = v.parts - 1; swaps = v.swaps; puts = v.puts; gets = v.gets; held = v.held; due = drop 1 v.due }

abbrev pub first_of : Sheet → Sheet
first_of v = record { parts = 1; swaps = 0; puts = 0; gets = 0; held = []; due = take 1 v.due }

abbrev pub added : Sheet → Sheet → Sheet
added v w = record {
  parts = v.parts + w.parts;
  swaps = v.swaps + w.swaps;
  puts = v.puts + w.puts;
  gets = v.gets + w.gets;
  held = v.held ++ w.held;
  due = v.due ++ w.due;
}

-- the sheet with these slots
abbrev pub with_slots : Sheet → List ℕ → List ℕ → Sheet
with_slots v held due = record { parts = v.parts; swaps = v.swaps; puts = v.puts; gets = v.gets; held = held; due = due }

-- the sheet after an exchange that put and got this many, and gave this slot
abbrev pub after_swap : Sheet → ℕ → ℕ → ℕ → Sheet
after_swap v put got slot = record { parts = v.parts; swaps = v.swaps + 1; puts = v.puts + put; gets = v.gets + got; held = slot ∷ []; due = v.due }

-- the sheet counts nothing, and has no slot
abbrev pub CountsNothing : Sheet → Type 0
CountsNothing v = (v.puts ≡ 0) × (v.gets ≡ 0) × (v.held ≡ [])

-- how often a slot is in the list
abbrev pub times : ℕ → List ℕ → ℕ
times k ks = sum_by (λ j. if j == k then 1 else 0) ks

-- how often a slot is the word's
abbrev pub same_as : ℕ → ℕ → ℕ
same_as word k = if word == k then 1 else 0

-- in how many hands a slot is, or is still to be
abbrev pub holders : ℕ → List Sheet → ℕ
holders k views = sum_by (λ v. times k v.held) views

abbrev pub takers : ℕ → List Sheet → ℕ
takers k views = sum_by (λ v. times k v.due) views

-- The rule. The word's slot is at home, and what was put is what was got and what is there. Each slot is the word's, one hand's, or to be one hand's.
-- A slot that is neither the word's nor a hand's is at home and empty. A sheet that is no hand has nothing.
pub record IsShelf {T : Type 0} (slots hands : ℕ) (s : State (Option T) Sheet) : Type 0 where
  pub wide : (length s.words ≡ 32) × (length s.homes ≡ slots)
  pub there : (y : Option T) × (get_elem? s.homes (slice_index s.words 16) ≡ some (some y))
      × (sum_by (λ v. v.puts) s.views ≡ sum_by (λ v. v.gets) s.views + one_if y)
  pub one : (k : ℕ) → holders k s.views + takers k s.views + same_as (slice_index s.words 16) k ≤ 1
  pub inside : (k : ℕ) → 0 < holders k s.views + takers k s.views → k < slots
  pub bare : (k : ℕ) → k < slots → holders k s.views ≡ 0 → slice_index s.words 16 ≢ k → get_elem? s.homes k ≡ some (some None)
  pub parts : sum_by (λ v. v.parts) s.views ≡ hands
  pub idle : (id : ℕ) (v : Sheet) → get_elem? s.views id ≡ some v → v.parts ≡ 0 → CountsNothing v

-- what an exchange shows: the hand has the slot that was found, with what is there, for the one that it had
abbrev pub exchanged : {T : Type 0} → Step (Option T) → Me (Option T) Sheet → ℕ → Me (Option T) Sheet → Type 0
exchanged {T} st m found m' = (v : Option T) → m.1 ≡ (st.first, v) ∷ [] → m.0.held ≡ st.first ∷ []
    → (y : Option T) × (m' ≡ (after_swap m.0 (one_if v) (one_if y) found, (found, y) ∷ []))

-- what drawing shows: the hand has the slot that it was to take, which is empty
abbrev pub drew : {T : Type 0} → Step (Option T) → Me (Option T) Sheet → ℕ → Me (Option T) Sheet → Type 0
drew {T} st m found m' = (k : ℕ) → m.1 ≡ [] → m.0.held ≡ [] → m.0.due ≡ k ∷ [] → m' ≡ (with_slots m.0 (k ∷ []) [], (k, None) ∷ [])

-- what giving an empty slot back shows: the hand has none
abbrev pub returned : {T : Type 0} → Step (Option T) → Me (Option T) Sheet → ℕ → Me (Option T) Sheet → Type 0
returned {T} st m found m' = (k : ℕ) → m.1 ≡ (k, None) ∷ [] → m.0.held ≡ k ∷ [] → m' ≡ (with_slots m.0 [] m.0.due, [])

-- a sheet of one hand that is still to take this slot
abbrev pub of_slot : ℕ → Sheet
of_slot slot = record { parts = 1; swaps = 0; puts = 0; gets = 0; held = []; due = slot ∷ [] }

-- the word names a slot, and all other slots are empty
pub record AreBare {T : Type 0} (words : List ℕ) (slots : List (Option T)) : Type 0 where
  pub word : 16 < length words
  pub inside : slice_index words 16 < length slots
  pub others : (k : ℕ) → k < length slots → slice_index words 16 ≢ k → get_elem? slots k ≡ some None
