-- The object that is lent to an instruction, or that came back from it, and what is on the shelves.
use Rattle.std.specs.Prelude.{◌≡◌, ◌≢◌, ◌+◌, ℕ, ◌==◌, Bool, false, if◌then◌else◌, List, Option, Some, None}
use Rattle.ebpf_machine.specs.Step.{Offers}
use Rattle.ebpf_shelves.specs.declared.object.Object.{Object}
use Rattle.ebpf_shelves.specs.Shelves.{IsAway, IsOff, IsSized, StandsNone, StandsThere, on_shelf}

-- an object is out: it isn't the one here and on no shelf, and has its kind's size
pub record IsOut (here : Option Object) (shelves : List (Option Object)) (o : Object) : Type 0 where
  pub sized : IsSized o
  pub away : IsAway here o.slot
  pub off : IsOff shelves o.slot

-- none on the shelves is in the slot of the one here
abbrev pub AreAway : Option Object → List (Option Object) → Type 0
AreAway here shelves = (shelf : ℕ) (o p : Object) → on_shelf shelves shelf ≡ Some o → here ≡ Some p → o.slot ≢ p.slot

abbrev pub is_of_kind : Option Object → ℕ → Bool
is_of_kind None kind = false
is_of_kind (Some o) kind = o.kind == kind

-- what a call of new for a kind may be answered: the object here where it is of this kind, else null
abbrev pub Lends : Option Object → (kind at slot : ℕ) → Type 0
Lends None kind at slot = ⊥
Lends (Some o) kind at slot = (o.kind ≡ kind) × (o.slot ≡ slot)

abbrev pub LendsNone : Option Object → ℕ → Type 0
LendsNone here kind = is_of_kind here kind ≡ false

-- how many objects of a kind are out, beside those that this store never sees: one, but for the kind of the object that is here, and
-- one where none is on the shelf
abbrev pub one_away : Option Object → ℕ → ℕ
one_away None kind = 1
one_away (Some o) kind = if kind == o.kind then 0 else 1

abbrev pub is_bare : Option Object → ℕ
is_bare None = 1
is_bare (Some o) = 0

abbrev pub out_of_kind : Option Object → List (Option Object) → ℕ → ℕ
out_of_kind here shelves kind = one_away here kind + is_bare (on_shelf shelves kind)

-- all that an instruction may be answered
abbrev pub offers : Option Object → List (Option Object) → Offers
offers here shelves = record { grant = Lends here; refuse = LendsNone here; fetch = StandsThere shelves; miss = StandsNone shelves }
