-- Where each slot of a ledger is, and how an object passes from there to a run or a shelf, and back.
use Rattle.std.specs.Prelude.{ℕ, ◌==◌, Bool, false, if◌then◌else◌, List, Option, Some, None}
use Rattle.std.specs.Ordering.{nat_cmp}
use Rattle.std.specs.Map.{lookup}
use Rattle.std.specs.BTreeMap.{is_at}
use Rattle.ebpf_machine.specs.declared.answer.Answer.{Answer}
use Rattle.ebpf_machine.specs.declared.answer.Answer.TheVariants.{Slot}
use Rattle.ebpf_shelves.specs.declared.object.Object.{Object}
use Rattle.ebpf_core.specs.declared.place.Place.{Place}
use Rattle.ebpf_core.specs.declared.place.Place.TheVariants.{Home, Held, Shelved}

-- the slots with their places, ascending
abbrev pub Places : Type 0
Places = List (ℕ × Place)

-- the place of a slot; none where it is in no ledger
abbrev pub place_at : Places → ℕ → Option Place
place_at places slot = lookup (is_at (nat_cmp slot)) places

-- its object, where it is nobody's
abbrev pub object_home : Option Place → Option Object
object_home (Some (Home o)) = Some o
object_home _ = None

-- it is nobody's, and of this kind
abbrev pub is_home_of : Option Place → ℕ → Bool
is_home_of (Some (Home o)) kind = o.kind == kind
is_home_of _ kind = false

-- ---- an answer lends the object of its slot

-- the slot that is answered is nobody's
abbrev pub IsHome : Option Place → Type 0
IsHome (Some (Home o)) = Unit {0}
IsHome _ = ⊥

abbrev pub IsLendable : Answer → Places → Type 0
IsLendable (Slot slot) places = IsHome (place_at places slot)
IsLendable _ places = Unit {0}

abbrev pub lent_by : Answer → Places → Option Object
lent_by (Slot slot) places = object_home (place_at places slot)
lent_by _ places = None

-- the slot is with the run then, by the call at this place of its program
abbrev pub place_lent : Answer → ℕ → ℕ → Places → ℕ → Option Place
place_lent (Slot slot) run at places q = if q == slot then Some (Held run at) else place_at places q
place_lent _ run at places q = place_at places q

-- ---- an object comes back from a run, and is at home

abbrev pub place_returned : Option Object → Places → ℕ → Option Place
place_returned (Some o) places q = if q == o.slot then Some (Home o) else place_at places q
place_returned None places q = place_at places q

-- ---- what was on a shelf passes to a run, and another slot onto the shelf

abbrev pub is_slot : Option ℕ → ℕ → Bool
is_slot None q = false
is_slot (Some slot) q = q == slot

-- the slot, if it is one, is at this place
abbrev pub place_set : Place → Option ℕ → Places → ℕ → Option Place
place_set place slot places q = if is_slot slot q then Some place else place_at places q

-- what was there is with the run, by the call at this place of its program
abbrev pub place_exchanged : Option ℕ → (stood stands : Option ℕ) → (run at : ℕ) → Places → ℕ → Option Place
place_exchanged None stood stands run at places q = place_at places q
place_exchanged (Some shelf) stood stands run at places q = if is_slot stands q then Some (Shelved shelf) else place_set (Held run at) stood places q
