-- The world that is kept, and the world that it shows.
use Rattle.std.specs.Prelude.{◌≡◌, ◌<◌, ℕ, false, true, All, Contains, List, [], length, Option, Some, None, Ok, option_map, slice_get, slice_index_or}
use Rattle.std.specs.List.{list_any}
use Rattle.ebpf_verify.specs.Subject.{Subject}
use Rattle.ebpf_machine.specs.World.{Name, World, kinds_of, image_at, is_in, name_of, shelved_in}
use Rattle.ebpf_machine.specs.Kinds.{known_kinds, AreKnown}
use Rattle.ebpf_machine.specs.View.{RunView, view_in, slots_in}
use Rattle.ebpf_machine.specs.RunState.{RunState, seen, slots_kept}
use Rattle.ebpf_machine.specs.Sound.{IsSound, IsAlone, IsOwned}
use Rattle.ebpf_machine.specs.Store.{AreOutBy}
use Rattle.ebpf_shelves.specs.declared.object.Object.{Object}
use Rattle.ebpf_shelves.specs.Shelves.{slot_on, standing_on}
use Rattle.ebpf_core.specs.declared.place.Place.{Place}
use Rattle.ebpf_core.specs.declared.place.Place.TheVariants.{Home, Held, Shelved}
use Rattle.ebpf_core.specs.declared.event.Event.{Event}
use Rattle.ebpf_core.specs.declared.fault.ApplyFault.{ApplyFault}
use Rattle.ebpf_core.specs.Events.{happened}
use Rattle.ebpf_core.specs.Faults.{IsApplyFault}
use Rattle.ebpf_core.specs.Passing.{IsOut}
use Rattle.ebpf_core.specs.Places.{Places, place_at}

-- the world as it is kept: the programs, the runs in the order of their starts, the slots of each kind, where each slot is, and the
-- object on each shelf
pub record WorldState : Type 0 where
  pub programs : List Subject
  pub runs : List (RunState Object)
  pub ledgers : List (List ℕ)
  pub places : Places
  pub shelves : List (Option Object)

-- what a run sees of itself
abbrev pub run_seen : RunState Object → RunView
run_seen r = seen (λ o. o.bytes.items) r

-- the slots that a run holds, and by which calls
abbrev pub slots_of : RunState Object → List Name
slots_of r = slots_kept (λ o. o.slot) r.held

-- ---- what always holds of the world that is kept

-- a run is sound and where the run alone is, and has its objects with it
pub record IsTended (r : RunState Object) : Type 0 where
  pub sound : IsSound (run_seen r)
  pub alone : IsAlone (run_seen r)
  pub out : AreOutBy (IsOut None []) (λ o. o.kind) (λ o. o.slot) r.held
  pub kinds : kinds_of r.subject.rows ≡ known_kinds

-- an object that is nobody's is of the kind in whose ledger its slot is, and has its image
pub record IsAtHome (kept : WorldState) (slot : ℕ) (o : Object) : Type 0 where
  pub same : o.slot ≡ slot
  pub its : is_in slot (slice_index_or kept.ledgers o.kind []) ≡ true
  pub known : o.kind < length known_kinds
  pub image : o.bytes.items ≡ image_at known_kinds o.kind

-- a slot is where the world that is kept has it: nowhere, and in no ledger; at home; with a run, which holds it by this call; or on a
-- shelf
abbrev pub IsPlaced : WorldState → ℕ → Option Place → Type 0
IsPlaced kept slot None = list_any (is_in slot) kept.ledgers ≡ false
IsPlaced kept slot (Some (Home o)) = IsAtHome kept slot o
IsPlaced kept slot (Some (Held run at)) = (r : RunState Object) × (slice_get kept.runs run ≡ Some r) × Contains (slots_of r) (name_of slot at)
IsPlaced kept slot (Some (Shelved shelf)) = slot_on kept.shelves shelf ≡ Some slot

-- each slot is where it is kept, each that a run holds is kept as held, and each on a shelf as standing there
pub record ArePlaced (kept : WorldState) : Type 0 where
  pub each : (slot : ℕ) → IsPlaced kept slot (place_at kept.places slot)
  pub held : (run : ℕ) (r : RunState Object) → slice_get kept.runs run ≡ Some r → (n : Name) → Contains (slots_of r) n → place_at kept.places n.slot ≡ Some (Held run n.call)
  pub shelved : (shelf slot : ℕ) → slot_on kept.shelves shelf ≡ Some slot → place_at kept.places slot ≡ Some (Shelved shelf)

-- the world that is kept shows this one: each run as it sees itself, in the slots that it holds, and what is on the shelves
pub record Shows (w : World) (kept : WorldState) : Type 0 where
  pub views : (run : ℕ) → view_in w run ≡ option_map run_seen (slice_get kept.runs run)
  pub slots : (run : ℕ) (r : RunState Object) → slice_get kept.runs run ≡ Some r → slots_in w run ≡ slots_of r
  pub as_many : length w.runs ≡ length kept.runs
  pub kinds : w.kinds ≡ known_kinds
  pub ledgers : w.ledgers ≡ kept.ledgers
  pub owned : IsOwned w
  pub shelves : (shelf : ℕ) → shelved_in w shelf ≡ standing_on kept.shelves shelf

pub record IsTendedWorld (kept : WorldState) : Type 0 where
  pub known : AreKnown kept.programs
  pub runs : All IsTended kept.runs
  pub placed : ArePlaced kept
  pub shown : (w : World) × Shows w kept

-- ---- what calls say of it

-- something holds of the world that is shown
abbrev pub OfWorld : WorldState → (World → Type 0) → Type 0
OfWorld kept says = (w : World) → Shows w kept → says w

-- an event took place: the world after it is shown now
abbrev pub IsDone : Event → WorldState → WorldState → Type 0
IsDone event old new = OfWorld old (λ w. (after : World) × (happened old.programs event w ≡ Ok after) × Shows after new)

-- an event is refused: it is not legal, for the cause of the code, or memory ran out
abbrev pub IsRefused : Event → WorldState → ApplyFault → Type 0
IsRefused event kept fault = OfWorld kept (λ w. IsApplyFault (happened kept.programs event w) fault)
