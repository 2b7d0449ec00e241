-- The object that no hand has when a cache is closed.
use Rattle.std.specs.Prelude.{ℕ, Option, Some, None}

-- an object counts one, and nothing none
abbrev pub one_if : {X : Type 0} → Option X → ℕ
one_if None = 0
one_if (Some x) = 1
