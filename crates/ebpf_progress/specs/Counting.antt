-- The lines that end in some bytes.
use Rattle.std.specs.Prelude.{ℕ, List, ◌==◌, cond, sum_by}

-- a line ends in the byte 10
abbrev pub lines_in : List ℕ → ℕ
lines_in bytes = sum_by (λ (b : ℕ). cond (b == 10) 1 0) bytes
