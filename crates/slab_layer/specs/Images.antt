-- The bytes of an object.
use Rattle.std.specs.Prelude.{ℕ, ◌+◌, List, ◌++◌, length, take, drop}

-- the bytes with those from a place on replaced
abbrev pub patched : List ℕ → ℕ → List ℕ → List ℕ
patched old place with = take place old ++ with ++ drop (place + length with) old
