-- Texts of numbers, one after another.
use Rattle.std.specs.Prelude.{ℕ, zero, suc, ◌++◌, List, []}

-- those of the numbers below a number, in order
unfoldable pub below : (ℕ → List ℕ) → ℕ → List ℕ
below text zero = []
below text (suc n) = below text n ++ text n
