-- The kinds of object that the machine knows.
use Rattle.std.specs.Prelude.{◌≡◌, ℕ, List, [], ◌∷◌, All}
use Rattle.ebpf_state.specs.Kinds.{kind_sizes, kind_fills}
use Rattle.ebpf_verify.specs.Subject.{Subject}
use Rattle.ebpf_machine.specs.World.{Kind, kinds_of}

-- kinds of these sizes, with these fills
abbrev pub kinds_with : List ℕ → List ℕ → List Kind
kinds_with (size ∷ sizes) (fill ∷ fills) = record { size = size; fill = fill } ∷ kinds_with sizes fills
kinds_with _ _ = []

abbrev pub known_kinds : List Kind
known_kinds = kinds_with kind_sizes kind_fills

-- programs that were verified with the known kinds
abbrev pub AreKnown : List Subject → Type 0
AreKnown programs = All (λ s. kinds_of s.rows ≡ known_kinds) programs
