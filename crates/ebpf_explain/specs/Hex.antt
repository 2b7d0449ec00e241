-- Bytes in hexadecimal digits.
use Rattle.std.specs.Prelude.{ℕ, ◌+◌, ◌*◌, ◌/◌, ◌%◌, false, List, [], ◌∷◌, slice_index_or}
use Rattle.std.specs.Fmt.{digit_glyph}
use Rattle.ebpf_explain.specs.StackWords.{texts_below}

-- the two digits of a byte, in lower case
abbrev pub hex_digits : ℕ → List ℕ
hex_digits byte = digit_glyph false (byte / 16) ∷ digit_glyph false (byte % 16) ∷ []

-- a byte of a slot, or from its ninth on of the slot after it; one that isn't there counts as zero
abbrev pub slot_byte : List ℕ → ℕ → ℕ → ℕ
slot_byte bytes slot number = slice_index_or bytes (8 * slot + number) 0

abbrev pub byte_digits : List ℕ → ℕ → ℕ → List ℕ
byte_digits bytes slot number = hex_digits (slot_byte bytes slot number)

-- the digits of eight bytes, from one of these on
abbrev pub eight_digits : List ℕ → ℕ → ℕ → List ℕ
eight_digits bytes slot first = texts_below 8 (λ number. byte_digits bytes slot (first + number))
