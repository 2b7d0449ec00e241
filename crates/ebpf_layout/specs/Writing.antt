-- What is written so far of the new program, from its last slot to its first.
use Rattle.std.specs.Prelude.{◌≡◌, ◌⊎◌, ◌<◌, ◌≤◌, ◌+◌, ◌*◌, ℕ, pos, List, [], ◌∷◌, ◌++◌, length, take, Option, Some, None, slice_get, reverse}
use Rattle.std.specs.Prelude.{if◌then◌else◌, ◌==◌}
use Rattle.std.specs.List.{flat_map, AllByRecursion}
use Rattle.ebpf_insn.specs.declared.insn.Insn.{Insn}
use Rattle.ebpf_insn.specs.declared.insn.Insn.TheVariants as insn
use Rattle.ebpf_insn.specs.Program.{insn_at, instructions, placed, slots_in}
use Rattle.ebpf_insn.specs.declared.program.TheConstants.{MAX_SLOTS}
use Rattle.ebpf_insn.specs.Encoding.{IsDefined}
use Rattle.ebpf_flow.specs.Edges.{displacement_of, jump_of, fall_of}
use Rattle.ebpf_layout.specs.declared.mark.Mark.{Mark}
use Rattle.ebpf_layout.specs.declared.mark.Mark.TheVariants.{Done}
use Rattle.ebpf_layout.specs.Layout.{moved, copied_in}
use Rattle.ebpf_layout.specs.Search.{if_there, mark_at, slots_of}

-- what was at this slot was written to this place
pub record StandsAt (order places : List ℕ) (slot place : ℕ) : Type 0 where
  pub number : ℕ
  pub ordered : slice_get order number ≡ Some slot
  pub placed : slice_get places number ≡ Some place

-- a place holds a jump to where what was at a slot is; places count from the end
pub record JumpsTo (order places : List ℕ) (code : List (Option Insn)) (place slot : ℕ) : Type 0 where
  pub to : ℕ
  pub there : StandsAt order places slot to
  pub way : ℕ
  pub here : slice_get code place ≡ Some (Some (insn.Jump (pos way)))
  pub way_is : to + way + 1 ≡ place

-- the place right after an instruction is where what it falls to is, or holds a jump there
abbrev pub FallsRight : List ℕ → List ℕ → List (Option Insn) → Insn → ℕ → ℕ → Type 0
FallsRight order places code i place slot = (behind : ℕ) × (behind + slots_in i ≡ place) × (StandsAt order places slot behind ⊎ JumpsTo order places code behind slot)

-- an instruction is at a place as it should
pub record IsWritten (order places : List ℕ) (code : List (Option Insn)) (i : Insn) (slot place : ℕ) : Type 0 where
  pub way : ℕ
  pub here : slice_get code place ≡ Some (Some (moved i (pos way)))
  pub jump : (to : ℕ) → jump_of i slot ≡ Some to → (t : ℕ) × StandsAt order places to t × (t + way + 1 ≡ place)
  pub fall : (to : ℕ) → fall_of i slot ≡ Some to → FallsRight order places code i place to

-- the jump at a place was added right after a branch, to where that one fell, and what the branch jumps to is between
pub record IsAddedAt (p : List (Option Insn)) (order places : List ℕ) (code : List (Option Insn)) (place : ℕ) : Type 0 where
  pub slot : ℕ
  pub of : ℕ
  pub insn : Insn
  pub owner : StandsAt order places slot of
  pub owned : insn_at p slot ≡ Some insn
  pub behind : place + slots_in insn ≡ of
  pub to : ℕ
  pub falls : fall_of insn slot ≡ Some to
  pub jumps : JumpsTo order places code place to
  pub over : ℕ
  pub leaps : jump_of insn slot ≡ Some over
  pub spot : ℕ
  pub between : StandsAt order places over spot
  pub above : jumps.to < spot
  pub below : spot < place

-- the second half of a wide instruction
abbrev pub half_of : Insn → List (Option Insn)
half_of (insn.Wide dst value) = None ∷ []
half_of i = []

-- the code, read from its end, is a program's, but that it may have no slot yet, or twice as many as a program has
pub record IsCode (code : List (Option Insn)) (count : ℕ) : Type 0 where
  pub few : length code ≤ 8192
  pub counted : count ≡ length (instructions (reverse code))
  pub defined : AllByRecursion IsDefined (instructions (reverse code))
  pub placed : reverse code ≡ flat_map placed (instructions (reverse code))

-- what is done is at a place of the code
pub record HasPlace (marks : List Mark) (places : List ℕ) (slot place : ℕ) : Type 0 where
  pub number : ℕ
  pub done : mark_at marks slot ≡ Done number
  pub placed : slice_get places number ≡ Some place

-- a slot has a place in the code
abbrev pub IsPlaced : List Mark → List ℕ → List (Option Insn) → ℕ → Type 0
IsPlaced marks places code slot = (place : ℕ) × HasPlace marks places slot place × (place < length code)

-- how many slots lie between the place of a slot and the end of the code
pub record IsWayTo (marks : List Mark) (places : List ℕ) (code : List (Option Insn)) (slot way : ℕ) : Type 0 where
  pub place : ℕ
  pub has : HasPlace marks places slot place
  pub way_is : place + way + 1 ≡ length code

-- a jump was written, unless no slot lies between
abbrev pub with_jump : List (Option Insn) → ℕ → List (Option Insn)
with_jump code way = if way == 0 then code else code ++ Some (insn.Jump (pos way)) ∷ []

-- a jump to a place was written, unless what is written next is right before it
abbrev pub WritesJump : List (Option Insn) → ℕ → List (Option Insn) → Type 0
WritesJump code place new = (way : ℕ) × (place + way + 1 ≡ length code) × (new ≡ with_jump code way)

-- the place of the last slot of the code was noted
abbrev pub NotesLast : List (Option Insn) → List ℕ → List ℕ → Type 0
NotesLast code old new = (place : ℕ) × (place + 1 ≡ length code) × (new ≡ old ++ place ∷ [])

-- what an instruction falls to comes right after what is written next
abbrev pub LeadsOn : List Mark → List ℕ → List (Option Insn) → Option ℕ → List (Option Insn) → Type 0
LeadsOn marks places code None new = new ≡ code
LeadsOn marks places code (Some to) new = (way : ℕ) × IsWayTo marks places code to way × (new ≡ with_jump code way)

-- an instruction with the way to what it jumps to, if it is written next
abbrev pub IsMovedTo : List Mark → List ℕ → List (Option Insn) → Insn → Option ℕ → Insn → Type 0
IsMovedTo marks places code i None new = (new ≡ i) × (displacement_of i ≡ None)
IsMovedTo marks places code i (Some to) new = (way : ℕ) × IsWayTo marks places code to way × (new ≡ moved i (pos way))

-- an instruction was written, and after it a jump to what it falls to if that is elsewhere
pub record Writes (marks : List Mark) (places : List ℕ) (code : List (Option Insn)) (i : Insn) (fall jump : Option ℕ) (new : List (Option Insn)) : Type 0 where
  pub behind : List (Option Insn)
  pub leads_on : LeadsOn marks places code fall behind
  pub moved : Insn
  pub moved_is : IsMovedTo marks places behind i jump moved
  pub written : new ≡ behind ++ half_of moved ++ Some moved ∷ []

-- the first of an order are written
pub record AreWritten (p : List (Option Insn)) (order places : List ℕ) (code : List (Option Insn)) : Type 0 where
  pub inside : (n place : ℕ) → slice_get places n ≡ Some place → place < length code
  pub rising : (m n a b : ℕ) → m < n → slice_get places m ≡ Some a → slice_get places n ≡ Some b → a < b
  pub last : (n : ℕ) → n + 1 ≡ length places → (place : ℕ) → slice_get places n ≡ Some place → place + 1 ≡ length code
  pub each : (slot place : ℕ) (i : Insn) → StandsAt order places slot place → insn_at p slot ≡ Some i → IsWritten order places code i slot place
  pub only : (place : ℕ) (i : Insn) → slice_get code place ≡ Some (Some i) → ((slot : ℕ) × StandsAt order places slot place) ⊎ IsAddedAt p order places code place

-- what was written of the order, of which a program is to be made
pub record IsWriting (p : List (Option Insn)) (order places : List ℕ) (code : List (Option Insn)) (count : ℕ) : Type 0 where
  pub coded : IsCode code count
  pub written : AreWritten p order places code
  pub short : length code ≤ 2 * slots_of p (take (length places) order)

-- ---- which slots are copied

-- the slots of an order have places in a code of some length, each further on than the one before
pub record HavePlaces (order places : List ℕ) (len : ℕ) : Type 0 where
  pub all : length places ≡ length order
  pub few : (n slot : ℕ) → slice_get order n ≡ Some slot → slot < MAX_SLOTS
  pub inside : (n place : ℕ) → slice_get places n ≡ Some place → place < len
  pub rising : (m n a b : ℕ) → m < n → slice_get places m ≡ Some a → slice_get places n ≡ Some b → a < b

-- the places of the first n of an order copy their slots, and nothing else is copied
pub record AreCopied (order places : List ℕ) (n : ℕ) (of : List (Option ℕ)) : Type 0 where
  pub only : (slot place : ℕ) → copied_in of place ≡ Some slot → StandsAt order places slot place
  pub each : (slot place : ℕ) → (s : StandsAt order places slot place) → s.number < n → copied_in of place ≡ Some slot

-- each slot where an instruction begins copies itself
abbrev pub AreOwn : List (Option Insn) → List (Option ℕ) → Type 0
AreOwn p of = (k : ℕ) → k < length of → copied_in of k ≡ if_there (insn_at p k) k
