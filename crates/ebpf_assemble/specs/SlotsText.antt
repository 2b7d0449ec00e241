-- Bytes as hex, eight a line: those of a program are its slots.
use Rattle.std.specs.Prelude.{ℕ, ◌++◌, List, [], ◌∷◌, codes}
use Rattle.hex.specs.Hex.{encode_lower}

abbrev pub hex_line : List ℕ → List ℕ
hex_line bytes = encode_lower bytes ++ codes "\n"

-- a line for each eight bytes, and one for those that are left, if any are
unfoldable pub slot_lines : List ℕ → List ℕ
slot_lines [] = []
slot_lines (a ∷ b ∷ c ∷ d ∷ e ∷ f ∷ g ∷ h ∷ rest) = hex_line (a ∷ b ∷ c ∷ d ∷ e ∷ f ∷ g ∷ h ∷ []) ++ slot_lines rest
slot_lines rest = hex_line rest
