-- What values and passes weigh, and the rule of a row. Assumes nothing: these are definitions.
use Rattle.std.specs.Prelude.{◌≡◌, ◌≢◌, ℕ, ◌+◌, ◌-◌, ◌<◌, ◌==◌, if◌then◌else◌, List, [], ◌∷◌, ◌++◌}
use Rattle.std.specs.Prelude.{length, slice_index, sum_by, Option, Some, None}
use mathlib.Core.Option.{Option as Maybe, none, some}
use lib.ListN.{get_elem?}
use Rattle.atomic_table.specs.Table.{State, Me, Step, rest}
use Rattle.shared_row.specs.declared.weighing.Sheet.{Sheet}
use Rattle.shared_row.specs.Spread.{spot}

-- a sheet of n passes with which nothing was done
abbrev pub first_sheet : ℕ → Sheet
first_sheet n = record { parts = n; left = 0; right = 0; held = []; notes = [] }

abbrev pub one_less : Sheet → Sheet
one_less v = record { parts = v.parts - 1; left = v.left; right = v.right; held = v.held; notes = v.notes }

abbrev pub added : Sheet → Sheet → Sheet
added v w = record { parts = v.parts + w.parts; left = v.left + w.left; right = v.right + w.right; held = v.held ++ w.held; notes = v.notes ++ w.notes }

-- the sheet that weighs this much more on each side, and has the values of these places
abbrev pub with_more : Sheet → ℕ → ℕ → List ℕ → Sheet
with_more v l r ks = record { parts = v.parts; left = v.left + l; right = v.right + r; held = ks; notes = v.notes }

-- the sheet that notes besides that this word was found at the place
abbrev pub with_note : Sheet → ℕ → ℕ → Sheet
with_note v place found = record { parts = v.parts; left = v.left; right = v.right; held = v.held; notes = v.notes ++ (place, found) ∷ [] }

-- the sheet weighs nothing, and has no value
abbrev pub CountsNothing : Sheet → Type 0
CountsNothing v = (v.left ≡ 0) × (v.right ≡ 0) × (v.held ≡ [])

-- how often a place with this word is in the list
abbrev pub times : ℕ → List ℕ → ℕ
times word places = sum_by (λ k. if spot k == word then 1 else 0) places

-- how many passes have the value of a place whose word is this
abbrev pub holders : ℕ → ℕ
holders n = if n == 0 then 0 else 1

module _ {T : Type 0} where
  -- what is at home in a slot weighs, and nothing weighs nothing
  abbrev pub weight : (T → ℕ) → Maybe (Option T) → ℕ
  weight f none = 0
  weight f (some None) = 0
  weight f (some (Some x)) = f x

  -- the same of what may be in a slot
  abbrev pub in_option : (T → ℕ) → Option T → ℕ
  in_option f None = 0
  in_option f (Some x) = f x

  -- the slot is at home
  abbrev pub IsHome : List (Maybe (Option T)) → ℕ → Type 0
  IsHome homes j = (o : Option T) × (get_elem? homes j ≡ some (some o))

  -- and has a value
  abbrev pub IsThere : List (Maybe (Option T)) → ℕ → Type 0
  IsThere homes j = (x : T) × (get_elem? homes j ≡ some (some (Some x)))

  -- The rule. A slot is at home where its word is 0, and else with one pass; if it is a place's, its value is there then. There are as many values
  -- as places. What is at home and what passes count weighs as much on the one side as on the other. A pass that is no part of those that were
  -- made counts nothing.
  pub record IsEven (left right : T → ℕ) (places passes : ℕ) (s : State (Option T) Sheet) : Type 0 where
    pub wide : (length s.words ≡ spot places) × (length s.homes ≡ spot places)
    pub home : (j : ℕ) → j < spot places → slice_index s.words j ≡ 0 → IsHome s.homes j
    pub out : (j : ℕ) → j < spot places → slice_index s.words j ≢ 0 → get_elem? s.homes j ≡ some none
    pub there : (k : ℕ) → k < places → slice_index s.words (spot k) ≡ 0 → IsThere s.homes (spot k)
    pub held : (j : ℕ) → j < spot places → sum_by (λ v. times j v.held) s.views ≡ holders (slice_index s.words j)
    pub count : sum_by (weight (λ x. 1)) s.homes + sum_by (λ v. length v.held) s.views ≡ places
    pub parts : sum_by (λ v. v.parts) s.views ≡ passes
    pub idle : (id : ℕ) (v : Sheet) → get_elem? s.views id ≡ some v → v.parts ≡ 0 → CountsNothing v
    pub even : sum_by (weight left) s.homes + sum_by (λ v. v.left) s.views ≡ sum_by (weight right) s.homes + sum_by (λ v. v.right) s.views

  -- what taking from a place shows: the word that was found, and where that is 0 the value that was there, which weighs on both sides
  abbrev pub took : (T → ℕ) → (T → ℕ) → Step (Option T) → Me (Option T) Sheet → ℕ → Me (Option T) Sheet → Type 0
  took left right st m found m' = (k : ℕ) → st.word ≡ spot k
      → (found ≡ 0 → (x : T) × (m' ≡ (with_more (with_note m.0 k 0) (left x) (right x) (k ∷ m.0.held), (st.word, Some x) ∷ m.1)))
      × (found ≢ 0 → m' ≡ (with_note m.0 k found, m.1))

  -- what putting into the place that was taken last shows: what was put weighs on the other sides
  abbrev pub put : (T → ℕ) → (T → ℕ) → Step (Option T) → Me (Option T) Sheet → ℕ → Me (Option T) Sheet → Type 0
  put left right st m found m' = (x : T) (k : ℕ) (ks : List ℕ) → st.word ≡ spot k → m.1 ≡ (st.word, Some x) ∷ rest m.1 → m.0.held ≡ k ∷ ks
      → m' ≡ (with_more m.0 (right x) (left x) ks, rest m.1)
