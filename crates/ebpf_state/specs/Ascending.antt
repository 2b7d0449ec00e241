-- Lists of numbers in order, each once.
use Rattle.std.specs.Prelude.{ℕ, ◌<◌, List, [], ◌∷◌}

-- each number is less than the one after it
abbrev pub IsAscending : List ℕ → Type 0
IsAscending [] = Unit {0}
IsAscending (a ∷ []) = Unit {0}
IsAscending (a ∷ b ∷ rest) = (a < b) × IsAscending (b ∷ rest)
