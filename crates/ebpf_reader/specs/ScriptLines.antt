-- The lines of a script.
use Rattle.std.specs.Prelude.{◌≡◌, ◌≤◌, ◌<◌, ℕ, Bool, true, false, ◌==◌, ◌||◌, ◌&&◌, nat_le, List, length, take, get_or}
use Rattle.std.specs.List.{slice_split, list_all, All}

-- what is between the newlines; after a last newline that is a blank line more
abbrev pub script_lines : List ℕ → List (List ℕ)
script_lines text = slice_split (λ c. c == 10) text

-- the first line of a text, up to its newline or its end
pub record IsFirst (text line : List ℕ) : Type 0 where
  pub within : length line ≤ length text
  pub begins : line ≡ take (length line) text
  pub one : All (λ c. (c == 10) ≡ false) line
  pub ends : length line < length text → (get_or text (length line) 0 == 10) ≡ true

-- a tab, a carriage return, or 0x20 to 0x7e
abbrev pub is_text_byte : ℕ → Bool
is_text_byte c = c == 9 || c == 13 || (nat_le 32 c && nat_le c 126)

-- every byte is one of these
unfoldable pub is_text : List ℕ → Bool
is_text line = list_all is_text_byte line
