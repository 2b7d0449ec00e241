-- Strings of a string table (ELF, "String Table"): the bytes from an offset up to a zero.
use Rattle.std.specs.Prelude.{ℕ, Bool, nat_eq, ◌≡◌, ◌≢◌, List, ◌∷◌, ◌++◌, take, drop, length, slice_index, ◌&&◌, ◌==◌, not, nat_lt, All, take_while}
use Rattle.std.specs.List.{starts_with}

-- the string at an offset, which a zero ends
abbrev pub IsText : List ℕ → ℕ → List ℕ → Type 0
IsText strings at text = (rest : List ℕ) × (drop at strings ≡ text ++ 0 ∷ rest) × All (λ byte. byte ≢ 0) text

-- The bytes of a name are at an offset, and a zero is after them. Where the name has no zero of its own, it is the string there.
abbrev pub is_named : List ℕ → ℕ → List ℕ → Bool
is_named strings at name =
    starts_with nat_eq (drop at strings) name && nat_lt (length name) (length (drop at strings))
    && slice_index (drop at strings) (length name) == 0

-- the bytes before the first zero, or all of them
abbrev pub whole_text : List ℕ → List ℕ
whole_text bytes = take_while (λ byte. not (byte == 0)) bytes

-- The string at an offset, cut after `most` bytes. Beyond the end of the strings it is empty.
abbrev pub text_at : List ℕ → ℕ → ℕ → List ℕ
text_at strings at most = whole_text (take most (drop at strings))
