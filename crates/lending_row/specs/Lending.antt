-- The rule of a row, and what its steps show. Assumes nothing: these are definitions.
use Rattle.std.specs.Prelude.{◌≡◌, ◌≢◌, ℕ, ◌<◌, ◌==◌, if◌then◌else◌, true, false, List, [], ◌∷◌, length, slice_index, sum_by, Option, Some}
use mathlib.Core.Option.{Option as Maybe, some}
use lib.ListN.{get_elem?}
use Rattle.atomic_table.specs.Table.{State, Me, Step}
use Rattle.lending_row.specs.declared.lending.Entry.{Entry}

module _ {K : Type 0} where
  -- a seat that neither took a value nor found one lent
  abbrev pub first_entry : K → Entry K
  first_entry key = record { key = key; place = 0; took = false; out = 0; met = false }

  -- a seat that took the value of the place
  abbrev pub taker : K → ℕ → Entry K
  taker key place = record { key = key; place = place; took = true; out = 1; met = false }

  -- a seat that put it back
  abbrev pub returner : K → ℕ → Entry K
  returner key place = record { key = key; place = place; took = true; out = 0; met = false }

  -- a seat that found that the value of the place is lent
  abbrev pub comer : K → ℕ → Entry K
  comer key place = record { key = key; place = place; took = false; out = 0; met = true }

  -- some seat took the value of the place
  abbrev pub WasTaken : List (Entry K) → ℕ → Type 0
  WasTaken views place = (id : ℕ) × (v : Entry K) × (get_elem? views id ≡ some v) × (v.took ≡ true) × (v.place ≡ place)

  -- 1 if the seat has the value of the place
  abbrev pub has : ℕ → Entry K → ℕ
  has place v = if v.place == place then v.out else 0

  -- how many seats have it
  abbrev pub holders : ℕ → List (Entry K) → ℕ
  holders place views = sum_by (has place) views

-- how many seats have the value of a place with this word
abbrev pub lent : ℕ → ℕ
lent word = if word == 0 then 0 else 1

module _ {T K : Type 0} (fits : K → T → Type 0) where
  -- the slot is at home, and has a value that fits
  abbrev pub IsThere : K → List (Maybe (Option T)) → ℕ → Type 0
  IsThere key homes j = (x : T) × (get_elem? homes j ≡ some (some (Some x))) × fits key x

  -- The rule. There is a slot for each word. If a word is 0, its slot is at home, and has a value that fits what the row was told. If it is not 0,
  -- one seat has the value. If some seat has it or found that it is lent, then some seat took it.
  pub record IsLending (key : K) (s : State (Option T) (Entry K)) : Type 0 where
    pub wide : length s.homes ≡ length s.words
    pub there : (j : ℕ) → j < length s.words → slice_index s.words j ≡ 0 → IsThere key s.homes j
    pub held : (j : ℕ) → j < length s.words → holders j s.views ≡ lent (slice_index s.words j)
    pub taken : (j : ℕ) → j < length s.words → slice_index s.words j ≢ 0 → WasTaken s.views j
    pub met : (id : ℕ) (v : Entry K) → get_elem? s.views id ≡ some v → v.met ≡ true → WasTaken s.views v.place

  -- what taking shows: if the word was 0, the seat has what was there, which fits; else it knows that the value is lent
  abbrev pub took : Step (Option T) → Me (Option T) (Entry K) → ℕ → Me (Option T) (Entry K) → Type 0
  took st m found m' = (found ≡ 0 → (x : T) × (m' ≡ (taker m.0.key st.word, (st.word, Some x) ∷ [])) × fits m.0.key x)
      × (found ≢ 0 → m' ≡ (comer m.0.key st.word, []))

-- what putting shows: the seat that took the value has it no longer
abbrev pub put : {T K : Type 0} → Step (Option T) → Me (Option T) (Entry K) → ℕ → Me (Option T) (Entry K) → Type 0
put {T} st m found m' = (x : T) → m.1 ≡ (st.word, Some x) ∷ [] → m.0 ≡ taker m.0.key st.word → m' ≡ (returner m.0.key st.word, [])
