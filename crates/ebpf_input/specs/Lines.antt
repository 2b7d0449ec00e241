-- The lines that are written, each as bytes, with numbers in decimal.
use Rattle.std.specs.Prelude.{ℕ, ◌++◌, List, codes, decimal}

-- the program is refused, at this slot
abbrev pub refused_line : List ℕ → ℕ → List ℕ
refused_line code slot = codes "refused " ++ (code ++ (codes " " ++ (decimal slot ++ codes "\n")))

-- the program is accepted, and has that many instructions
abbrev pub accepted_line : ℕ → List ℕ
accepted_line len = codes "accepted " ++ (decimal len ++ codes "\n")
