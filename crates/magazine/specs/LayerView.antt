-- A layer as its callers see it. A round is known by its slot.
use Rattle.std.specs.Prelude.{◌≡◌, ℕ, List, [], ◌∷◌, ◌++◌, length}

-- the rounds of the two magazines, each from the bottom to the top
pub record LayerView : Type 0 where
  pub loaded : List ℕ
  pub previous : List ℕ

-- all rounds; as a whole their order says nothing
abbrev pub rounds_of : LayerView → List ℕ
rounds_of l = l.loaded ++ l.previous

-- no round is here
abbrev pub IsEmpty : LayerView → Type 0
IsEmpty l = (l.loaded ≡ []) × (l.previous ≡ [])

-- both magazines have as many rounds as they hold
abbrev pub IsFull : ℕ → LayerView → Type 0
IsFull rounds l = (length l.loaded ≡ rounds) × (length l.previous ≡ rounds)

-- the two magazines exchanged
abbrev pub exchanged : LayerView → LayerView
exchanged l = record { loaded = l.previous; previous = l.loaded }

-- a round more on top of the loaded one
abbrev pub with_round : LayerView → ℕ → LayerView
with_round l slot = record { loaded = l.loaded ++ slot ∷ []; previous = l.previous }
