-- Bytes that are written as hex digits, in upper or lower case.
use Rattle.std.specs.Prelude.{ℕ, Bool, false, ◌==◌, if◌then◌else◌, List, [], ◌∷◌, Option, Some, None, Result, Ok, Err}
use Rattle.hex.specs.Hex.{decode_of}
use Rattle.hex.specs.declared.error.FromHexError.{FromHexError}

abbrev pub bytes_or_none : Result (List ℕ) FromHexError → Option (List ℕ)
bytes_or_none (Ok bytes) = Some bytes
bytes_or_none (Err why) = None

-- the bytes that a text of hex digits means
abbrev pub hex_bytes : List ℕ → Option (List ℕ)
hex_bytes text = bytes_or_none (decode_of text)

-- a lone `-`
abbrev pub is_dash : List ℕ → Bool
is_dash [] = false
is_dash (c ∷ []) = c == 45
is_dash (c ∷ d ∷ rest) = false

-- the same, where a lone `-` means no bytes
abbrev pub hex_or_dash : List ℕ → Option (List ℕ)
hex_or_dash text = if is_dash text then Some [] else hex_bytes text
