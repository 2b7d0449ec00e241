-- What is read of an input.
use Rattle.std.specs.Prelude.{ℕ, List, take}

-- all of it, or the first 1,048,577 bytes of a longer one
abbrev pub read_of : List ℕ → List ℕ
read_of input = take 1048577 input
