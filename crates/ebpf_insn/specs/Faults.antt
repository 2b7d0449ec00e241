-- How a fault is chosen: the first code that applies at a slot, and the lowest slot that has one.
use Rattle.std.specs.Prelude.{ℕ, zero, suc, Bool, List, [], ◌∷◌, Option, Some, None, if◌then◌else◌}

-- the first test that holds, by its code
abbrev pub first_of : {C : Type 0} → List (Bool × C) → Option C
first_of [] = None
first_of (test ∷ tests) = if test.0 then Some test.1 else first_of tests

abbrev pub lowest_with : {C : Type 0} → Option (ℕ × C) → ℕ → Option C → Option (ℕ × C)
lowest_with (Some found) slot code = Some found
lowest_with None slot None = None
lowest_with None slot (Some code) = Some (slot, code)

-- the lowest slot below a number that has a code, with that code
unfoldable pub lowest : {C : Type 0} → (ℕ → Option C) → ℕ → Option (ℕ × C)
lowest code_at zero = None
lowest code_at (suc slot) = lowest_with (lowest code_at slot) slot (code_at slot)
