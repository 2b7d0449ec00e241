-- What contracts see of a shelf and of its hands.
use Rattle.std.specs.Prelude.{◌≡◌, ℕ, ◌+◌, ◌%◌, ◌^◌, ◌<◌, [], ◌∷◌, Option, None}
use Rattle.atomic_table.specs.Seated.{TableId}
use Rattle.atomic_table.specs.declared.shared.Seat.{Seat}
use Rattle.exchange_shelf.specs.declared.passing.Sheet.{Sheet}
pub use Rattle.exchange_shelf.specs.Passing.{one_if}

-- A shelf: which one it is, and how many hands were made
pub record ShelfView : Type 0 where
  pub table : TableId
  pub hands : ℕ

-- A hand: its shelf, how many of the hands that were made it is, how many exchanges it made, and how often it put a value there and got one
pub record HandView : Type 0 where
  pub table : TableId
  pub parts : ℕ
  pub swaps : ℕ
  pub puts : ℕ
  pub gets : ℕ

abbrev pub hand_view : {T : Type 0} → Seat (Option T) Sheet → HandView
hand_view p = record { table = p.table_id; parts = p.me.0.parts; swaps = p.me.0.swaps; puts = p.me.0.puts; gets = p.me.0.gets }

-- the hand has one slot, which is empty, and is to take no other; its numbers are the exact counts without what is past 2^64
pub record IsHand {T : Type 0} (p : Seat (Option T) Sheet) (mine put_count get_count : ℕ) : Type 0 where
  pub empty : p.me.1 ≡ (mine, None) ∷ []
  pub held : p.me.0.held ≡ mine ∷ []
  pub due : p.me.0.due ≡ []
  pub some : 0 < p.me.0.parts
  pub puts : put_count ≡ p.me.0.puts % 2 ^ 64
  pub gets : get_count ≡ p.me.0.gets % 2 ^ 64

-- a hand that was just made
abbrev pub fresh_hand : TableId → HandView
fresh_hand z = record { table = z; parts = 1; swaps = 0; puts = 0; gets = 0 }

-- the hand after one exchange, which put and got this many
abbrev pub swapped : HandView → ℕ → ℕ → HandView
swapped h put got = record h { swaps = h.swaps + 1; puts = h.puts + put; gets = h.gets + got }
