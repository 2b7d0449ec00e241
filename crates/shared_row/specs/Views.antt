-- What contracts see of a row and of a pass.
use Rattle.std.specs.Prelude.{◌≡◌, ℕ, ◌+◌, List, [], ◌∷◌, ◌++◌, map, Option, None}
use Rattle.atomic_table.specs.Seated.{TableId}
use Rattle.atomic_table.specs.declared.shared.Seat.{Seat}
use Rattle.shared_row.specs.declared.weighing.Sheet.{Sheet}
use Rattle.shared_row.specs.Spread.{spot}

-- A row: which one it is, its places, and how many passes were made
pub record RowView : Type 0 where
  pub table : TableId
  pub places : ℕ
  pub passes : ℕ

-- A pass: its row, how many of the passes that were made it is, what it weighs, the places whose values it has, the last one first, and each place
-- that it tried to take from, with the word that it found
pub record PassView : Type 0 where
  pub table : TableId
  pub parts : ℕ
  pub left : ℕ
  pub right : ℕ
  pub out : List ℕ
  pub notes : List (ℕ × ℕ)

abbrev pub pass_view : {T : Type 0} → Seat (Option T) Sheet → PassView
pass_view p = record { table = p.table_id; parts = p.me.0.parts; left = p.me.0.left; right = p.me.0.right; out = p.me.0.held; notes = p.me.0.notes }

-- nothing is left in the slots from which the pass took
abbrev pub all_none : {T : Type 0} → List ℕ → List (ℕ × Option T)
all_none places = map (λ k. (spot k, None)) places

-- the pass weighs this much more on each side, and has the values of these places
abbrev pub opened : PassView → ℕ → ℕ → List ℕ → PassView
opened v l r places = record v { left = v.left + l; right = v.right + r; out = places }

-- the pass notes besides that this word was found at the place
abbrev pub noted : PassView → ℕ → ℕ → PassView
noted v place found = record v { notes = v.notes ++ (place, found) ∷ [] }

-- a pass with which nothing was done
abbrev pub fresh_pass : TableId → PassView
fresh_pass z = record { table = z; parts = 1; left = 0; right = 0; out = []; notes = [] }

-- a pass of this row that has no value
abbrev pub IsIdleAt : TableId → PassView → Type 0
IsIdleAt z p = (p.table ≡ z) × (p.out ≡ [])
