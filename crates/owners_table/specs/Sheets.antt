-- A seat has a sheet, which has what was done with it. What a seat knows is a list of sheets, one for each seat that was
-- joined into it.
use Rattle.std.specs.Prelude.{◌≡◌, ℕ, List, [], ◌∷◌, sum_by, length}
use Rattle.atomic_table.specs.declared.shared.Seat.{Seat}

-- f of each sheet of each seat, added up
abbrev pub tally : {T : Type 0} → (T → ℕ) → List (List T) → ℕ
tally f views = sum_by (sum_by f) views

-- how many sheets all seats have together
abbrev pub sheet_count : {T : Type 0} → List (List T) → ℕ
sheet_count views = sum_by length views

-- the first sheet, or a blank one where there is none
abbrev pub first_or : {T : Type 0} → T → List T → T
first_or blank [] = blank
first_or blank (sheet ∷ sheets) = sheet

-- the first sheet of a seat
abbrev pub sheet_of : {T : Type 0} → T → Seat (Unit {0}) (List T) → T
sheet_of blank p = first_or blank p.me.0

-- the seat has one sheet
abbrev pub IsSingle : {T : Type 0} → T → Seat (Unit {0}) (List T) → Type 0
IsSingle blank p = (p.me.0 ≡ sheet_of blank p ∷ []) × (p.me.1 ≡ [])
