-- Bytes of an object.
use Rattle.std.specs.Prelude.{ℕ, ◌+◌, ◌++◌, List, length, take, drop}

-- the bytes with those from a place on replaced
abbrev pub patched : List ℕ → ℕ → List ℕ → List ℕ
patched old place bytes = take place old ++ bytes ++ drop (place + length bytes) old
