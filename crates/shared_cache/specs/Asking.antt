-- What a pass noted of the places that it asked, and what became of it.
use Rattle.std.specs.Prelude.{◌≡◌, ◌≢◌, ◌⊎◌, ℕ, ◌+◌, ◌<◌, List, [], ◌∷◌, ◌++◌}
use Rattle.shared_row.specs.Views.{PassView}

-- the notes of before, and perhaps more
abbrev pub Begins : List (ℕ × ℕ) → List (ℕ × ℕ) → Type 0
Begins old new = (more : List (ℕ × ℕ)) × (new ≡ old ++ more)

-- since then the place was asked last, and this word was found
abbrev pub Found : List (ℕ × ℕ) → List (ℕ × ℕ) → ℕ → ℕ → Type 0
Found old new place word = (before : List (ℕ × ℕ)) × Begins old before × (new ≡ before ++ (place, word) ∷ [])

-- and it was with another pass
abbrev pub FoundBusy : List (ℕ × ℕ) → List (ℕ × ℕ) → ℕ → Type 0
FoundBusy old new place = (word : ℕ) × (word ≢ 0) × Found old new place word

-- since then the place was asked
pub record WasAsked (old new : List (ℕ × ℕ)) (place : ℕ) : Type 0 where
  pub word : ℕ
  pub before : List (ℕ × ℕ)
  pub begins : Begins old before
  pub after : List (ℕ × ℕ)
  pub is : new ≡ before ++ (place, word) ∷ after

-- and it was with another pass
abbrev pub WasBusy : List (ℕ × ℕ) → List (ℕ × ℕ) → ℕ → Type 0
WasBusy old new place = (a : WasAsked old new place) × (a.word ≢ 0)

-- each place below a number was asked
abbrev pub AllAsked : List (ℕ × ℕ) → List (ℕ × ℕ) → ℕ → Type 0
AllAsked old new places = (k : ℕ) → k < places → WasAsked old new k

-- since then one of the places below a number was asked last, and was free
abbrev pub FoundFree : List (ℕ × ℕ) → List (ℕ × ℕ) → ℕ → Type 0
FoundFree old new places = (k : ℕ) × (k < places) × Found old new k 0

-- the place is asked in this step, of so many places, from a first one on
abbrev pub IsTurn : ℕ → ℕ → ℕ → ℕ → Type 0
IsTurn first places step place = (place < places) × ((place ≡ first + step) ⊎ (place + places ≡ first + step))

-- the pass took the value of a place, which weighs this much on each side
pub record Takes (old new : PassView) (place l r : ℕ) : Type 0 where
  pub table : new.table ≡ old.table
  pub parts : new.parts ≡ old.parts
  pub left : new.left ≡ old.left + l
  pub right : new.right ≡ old.right + r
  pub out : new.out ≡ place ∷ old.out
  pub notes : Found old.notes new.notes place 0

-- another pass had it
pub record Misses (old new : PassView) (place : ℕ) : Type 0 where
  pub table : new.table ≡ old.table
  pub parts : new.parts ≡ old.parts
  pub left : new.left ≡ old.left
  pub right : new.right ≡ old.right
  pub out : new.out ≡ old.out
  pub notes : FoundBusy old.notes new.notes place

-- the pass has no value, as before, and this much more on the right than on the left, where it gained more than it lost
pub record Moves (old new : PassView) (gained lost : ℕ) : Type 0 where
  pub table : new.table ≡ old.table
  pub parts : new.parts ≡ old.parts
  pub idle : new.out ≡ []
  pub even : new.right + old.left + lost ≡ new.left + old.right + gained
  pub notes : Begins old.notes new.notes
