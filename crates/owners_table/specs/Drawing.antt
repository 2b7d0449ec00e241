-- Numbers that seats draw, each once. A number that is not below the limit is late.
use Rattle.std.specs.Prelude.{◌≡◌, ℕ, ◌+◌, ◌-◌, ◌^◌, ◌<◌, ◌≤◌, ◌==◌, nat_lt, nat_le, Bool, true, false, if◌then◌else◌, List, [], ◌∷◌, ◌++◌, length}
use Rattle.std.specs.Prelude.{slice_index, count_by, sum_by}
use Rattle.atomic_table.specs.Table.{State, Me, Step}
use Rattle.atomic_table.specs.Seated.{TableId}
use Rattle.atomic_table.specs.declared.shared.Seat.{Seat}
use Rattle.owners_table.specs.declared.drawing.TicketSheet.{TicketSheet}
use Rattle.owners_table.specs.Sheets.{tally, sheet_count, sheet_of}

-- how often x is in the list
abbrev pub times : ℕ → List ℕ → ℕ
times x xs = count_by (λ y. y == x) xs

-- how many of the numbers are not below the limit
abbrev pub late : ℕ → List ℕ → ℕ
late limit xs = count_by (λ x. nat_le limit x) xs

-- 1 where the sheet passed the limit
abbrev pub passes : TicketSheet → ℕ
passes t = if t.passed then 1 else 0

-- 0 where the sheet knows the limit, and has one late number if it passed the limit and else none
abbrev pub faults : ℕ → TicketSheet → ℕ
faults limit t = (if t.limit == limit then 0 else 1) + ((late limit t.drawn - passes t) + (passes t - late limit t.drawn))

-- the word never wraps: each seat draws one late number at most
abbrev pub NeverWraps : ℕ → ℕ → Type 0
NeverWraps limit seats = limit + seats < 2 ^ 64

-- The rule of the tickets. There is a sheet for each seat made, and none is at fault. Each number below the word is once on
-- one sheet, and no other does. The word is at the limit until a sheet passes it, and each that does adds one
pub record Drawn (limit seats : ℕ) (s : State (Unit {0}) (List TicketSheet)) : Type 0 where
  pub wide : length s.words ≡ 1
  pub sheets : sheet_count s.views ≡ seats
  pub sound : tally (faults limit) s.views ≡ 0
  pub once : NeverWraps limit seats → (x : ℕ) → tally (λ t. times x t.drawn) s.views ≡ (if nat_lt x (slice_index s.words 0) then 1 else 0)
  pub bound : NeverWraps limit seats → slice_index s.words 0 ≤ limit + tally passes s.views
  pub passed : NeverWraps limit seats → 0 < tally passes s.views → limit < slice_index s.words 0

abbrev pub blank : ℕ → TicketSheet
blank limit = record { limit = limit; drawn = []; passed = false }

-- the sheet after a draw of the number
abbrev pub after_draw : ℕ → TicketSheet → TicketSheet
after_draw n t = record { limit = t.limit; drawn = t.drawn ++ n ∷ []; passed = if nat_lt n t.limit then t.passed else true }

-- what a draw shows a seat of one sheet
abbrev pub drew : Step (Unit {0}) → Me (Unit {0}) (List TicketSheet) → ℕ → Me (Unit {0}) (List TicketSheet) → Type 0
drew st m n m' = (m'.1 ≡ m.1) × ((t : TicketSheet) → m.0 ≡ t ∷ [] → m'.0 ≡ after_draw n t ∷ [])

-- What contracts see of a seat: its tickets, their limit, the numbers that it drew, and whether one of them was late
pub record TicketView : Type 0 where
  pub table : TableId
  pub limit : ℕ
  pub drawn : List ℕ
  pub passed : Bool

-- a seat that was just made
abbrev pub fresh : TableId → ℕ → TicketView
fresh table limit = record { table = table; limit = limit; drawn = []; passed = false }

abbrev pub ticket_view : Seat (Unit {0}) (List TicketSheet) → TicketView
ticket_view p =
    let s = sheet_of (blank 0) p in
    record { table = p.table_id; limit = s.limit; drawn = s.drawn; passed = s.passed }

-- What contracts see of tickets: which they are, the limit, and how many seats were made
pub record TicketsView : Type 0 where
  pub table : TableId
  pub limit : ℕ
  pub seats : ℕ

-- the seat was made with these tickets
abbrev pub IsOf : TicketsView → TicketView → Type 0
IsOf tickets seat = (seat.table ≡ tickets.table) × (seat.limit ≡ tickets.limit)

-- what was done with a seat
abbrev pub sheet : TicketView → TicketSheet
sheet s = record { limit = s.limit; drawn = s.drawn; passed = s.passed }

-- how often x was drawn with these seats
abbrev pub times_drawn : ℕ → List TicketView → ℕ
times_drawn x seats = sum_by (λ s. times x s.drawn) seats
