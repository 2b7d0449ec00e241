-- Where the word and the slot of a place are, and the values that slots have. Assumes nothing: these are definitions.
use Rattle.std.specs.Prelude.{◌≡◌, ℕ, ◌+◌, ◌*◌, List, Option, Some}
use Rattle.std.specs.List.{filter_map}

-- the word and the slot of a place; of the number of all places, how many words and slots there are
abbrev pub spot : ℕ → ℕ
spot place = place * 16 + 16

-- the values that lie in slots, in their order
abbrev pub values_in : {T : Type 0} → List (Option T) → List T
values_in slots = filter_map (λ o. o) slots

abbrev pub IsValue : {T : Type 0} → Option T → Type 0
IsValue {T} o = (x : T) × (o ≡ Some x)
