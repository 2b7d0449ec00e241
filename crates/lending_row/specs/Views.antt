-- What contracts see of a row, and of a seat of a row.
use Rattle.std.specs.Prelude.{◌≡◌, ℕ, ◌<◌, [], ◌∷◌, Option, None}
use Rattle.atomic_table.specs.Seated.{TableId}
use Rattle.atomic_table.specs.declared.shared.Seat.{Seat}
use Rattle.lending_row.specs.declared.lending.Entry.{Entry}
use Rattle.lending_row.specs.Lending.{taker}

-- A row: which one it is, its places, and what it was told when it was made
pub record RowView (K : Type 0) : Type 0 where
  pub table : TableId
  pub places : ℕ
  pub key : K

-- A seat that takes a value, finds it lent, or put it back: its row, the place, and its number
pub record SeatView : Type 0 where
  pub table : TableId
  pub place : ℕ
  pub seat : ℕ

-- the seat has the slot of the place, which is empty, and took its value
pub record IsLoan {T K : Type 0} (p : Seat (Option T) (Entry K)) (place : ℕ) : Type 0 where
  pub empty : p.me.1 ≡ (place, None) ∷ []
  pub inside : place < p.table_id.words
  pub out : p.me.0 ≡ taker p.me.0.key place
