-- What is on the shelves of a store.
use Rattle.std.specs.Prelude.{◌≡◌, ◌≢◌, ◌<◌, ℕ, List, [], ◌∷◌, length, slice_index_or, Option, Some, None, option_map, IfSome}
use Rattle.ebpf_machine.specs.World.{Shelved, image_at}
use Rattle.ebpf_machine.specs.Kinds.{known_kinds}
use Rattle.ebpf_shelves.specs.declared.object.Object.{Object}

-- the object on a shelf
abbrev pub on_shelf : List (Option Object) → ℕ → Option Object
on_shelf shelves shelf = slice_index_or shelves shelf None

-- its slot
abbrev pub slot_on : List (Option Object) → ℕ → Option ℕ
slot_on shelves shelf = option_map (λ o. o.slot) (on_shelf shelves shelf)

-- an object as it is to be on a shelf
abbrev pub as_shelved : Object → Shelved
as_shelved o = record { slot = o.slot; bytes = o.bytes.items }

abbrev pub standing_on : List (Option Object) → ℕ → Option Shelved
standing_on shelves shelf = option_map as_shelved (on_shelf shelves shelf)

-- shelves with nothing on them
abbrev pub bare : List (Option Object)
bare = None ∷ None ∷ None ∷ []

-- ---- what always holds of shelves

-- an object is of a kind that there is, and has its size
pub record IsSized (o : Object) : Type 0 where
  pub size : length o.bytes.items ≡ length (image_at known_kinds o.kind)
  pub known : o.kind < length known_kinds

-- and is of this shelf's kind
abbrev pub FitsOn : ℕ → Object → Type 0
FitsOn shelf o = IsSized o × (o.kind ≡ shelf)

-- an object, if it is one, is in another slot
abbrev pub IsAway : Option Object → ℕ → Type 0
IsAway None slot = Unit {0}
IsAway (Some o) slot = slot ≢ o.slot

-- no shelf has an object in this slot
abbrev pub IsOff : List (Option Object) → ℕ → Type 0
IsOff shelves slot = (shelf : ℕ) → IsAway (on_shelf shelves shelf) slot

-- a shelf for each kind; what is on one is of its kind, and no two are in one slot
pub record AreShelves (shelves : List (Option Object)) : Type 0 where
  pub long : length shelves ≡ length known_kinds
  pub fit : (shelf : ℕ) (o : Object) → on_shelf shelves shelf ≡ Some o → FitsOn shelf o
  pub apart : (shelf other : ℕ) (o p : Object) → on_shelf shelves shelf ≡ Some o → on_shelf shelves other ≡ Some p → o.slot ≡ p.slot → shelf ≡ other

-- ---- what a call of swap is answered

-- what is on the shelf, or that nothing is
abbrev pub StandsThere : List (Option Object) → (shelf slot : ℕ) (bytes : List ℕ) → Type 0
StandsThere shelves shelf slot bytes = standing_on shelves shelf ≡ Some (record { slot = slot; bytes = bytes })

abbrev pub StandsNone : List (Option Object) → ℕ → Type 0
StandsNone shelves shelf = standing_on shelves shelf ≡ None

-- what was on a shelf came off, for what is given; it is of the shelf's kind, and no shelf has its slot any longer; other shelves stay
pub record IsExchanged (shelf : ℕ) (given got : Option Object) (old new : List (Option Object)) : Type 0 where
  pub was : got ≡ on_shelf old shelf
  pub now : on_shelf new shelf ≡ given
  pub others : (other : ℕ) → other ≢ shelf → on_shelf new other ≡ on_shelf old other
  pub fits : IfSome got (FitsOn shelf)
  pub off : IfSome got (λ h. IsOff new h.slot)
