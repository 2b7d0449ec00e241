-- A depot as its callers see it, and what it keeps. A round is known by its slot.
use Rattle.std.specs.Prelude.{◌≡◌, ℕ, ◌+◌, ◌≤◌, List, [], length, All}

-- the rounds of the full magazines, in an order that says nothing, and how many magazines are empty
pub record DepotView : Type 0 where
  pub rounds : List ℕ
  pub empties : ℕ

-- the stack of the full magazines, which hold n rounds each, the stack of the empty ones, and for how
-- many magazines either has room
pub record IsDepot (rounds : ℕ) (full empty : List (List ℕ)) (full_room empty_room : ℕ) : Type 0 where
  pub filled : All (λ m. length m ≡ rounds) full
  pub emptied : All (λ m. m ≡ []) empty
  pub room_full : length full + length empty ≤ full_room
  pub room_empty : length full + length empty ≤ empty_room
