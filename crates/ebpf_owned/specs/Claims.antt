-- What claims, fetches and releases do to a seat.
use Rattle.std.specs.Prelude.{◌≡◌, ◌≢◌, ◌⊎◌, ℕ, ◌+◌, ◌≤◌, ◌==◌, not, List, [], ◌∷◌, ◌++◌, length, count_by, Option, Some}
use Rattle.owners_table.specs.Owning.{Holds, SeatView, without}

-- how many claims found an owner, where each is noted with the word that it found
abbrev pub lost : List (ℕ × ℕ) → ℕ
lost notes = count_by (λ n. not (n.1 == 0)) notes

-- how many entries are of the slot
abbrev pub count_of : ℕ → List (ℕ × ℕ) → ℕ
count_of slot es = count_by (λ e. e.0 == slot) es

-- each slot is there once at most
abbrev pub Once : List (ℕ × ℕ) → Type 0
Once es = (slot : ℕ) → count_of slot es ≤ 1

-- the slot is claimed with this word, and was not before
abbrev pub IsClaimed : (slot word : ℕ) (held held' : List (ℕ × ℕ)) → Type 0
IsClaimed slot word held held' = (held' ≡ (slot, word) ∷ held) × (Holds slot held → ⊥)

-- a claim of the slot is noted, which found an owner
abbrev pub HasFound : (slot : ℕ) (notes notes' : List (ℕ × ℕ)) → Type 0
HasFound slot notes notes' = (found : ℕ) × (found ≢ 0) × (notes' ≡ notes ++ (slot, found) ∷ [])

-- the seat after it passed the slot to the shelf of this number
abbrev pub shelved_by : SeatView → (slot shelf : ℕ) → SeatView
shelved_by s slot shelf = record s { held = without slot s.held; shelved = s.shelved ++ (slot, shelf + 1) ∷ [] }

-- a fetch is noted of a stray: its slot was found to be another's than the shelf's, or what was left on the shelf was in this slot too
abbrev pub IsStray : (shelf : ℕ) (left : Option ℕ) (slot : ℕ) (fetches fetches' : List (ℕ × ℕ)) → Type 0
IsStray shelf left slot fetches fetches' =
    (found : ℕ) × (fetches' ≡ fetches ++ (slot, found) ∷ []) × ((found ≢ shelf + 1) ⊎ (left ≡ Some slot))

-- the seat made that many fetches more, and holds what it held
pub record HasFetched (count : ℕ) (s s' : SeatView) : Type 0 where
  pub table : s'.table ≡ s.table
  pub held : s'.held ≡ s.held
  pub tries : s'.tries ≡ s.tries + count
  pub notes : s'.notes ≡ s.notes
  pub fetches : length s'.fetches ≡ length s.fetches + count
  pub shelved : s'.shelved ≡ s.shelved
