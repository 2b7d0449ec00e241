-- The words of a line.
use Rattle.std.specs.Prelude.{◌≡◌, ℕ, Bool, false, not, ◌==◌, ◌||◌, List, length, filter}
use Rattle.std.specs.List.{slice_split, All}

-- a tab, a carriage return or a space
abbrev pub is_gap : ℕ → Bool
is_gap c = c == 9 || c == 13 || c == 32

-- a byte that ends a word: a newline, or a gap
abbrev pub is_end : ℕ → Bool
is_end c = c == 10 || is_gap c

-- none of the bytes ends a word
abbrev pub IsUnbroken : List ℕ → Type 0
IsUnbroken bytes = All (λ c. is_end c ≡ false) bytes

-- what is between the gaps, where that is anything
unfoldable pub words : List ℕ → List (List ℕ)
words line = filter (λ word. not (length word == 0)) (slice_split is_gap line)
