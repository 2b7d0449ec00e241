-- What comes to each slot: the join of what the lower slots send to it.
use Rattle.std.specs.Prelude.{◌≡◌, ◌<◌, ℕ, zero, suc, List, length, slice_index_or, Bool, true, false, if◌then◌else◌, ◌==◌, Option, Some, None}
use Rattle.ebpf_insn.specs.declared.insn.Insn.{Insn}
use Rattle.ebpf_insn.specs.Program.{insn_at}
use Rattle.ebpf_flow.specs.declared.edges.Edges.{Edges}
use Rattle.ebpf_flow.specs.Edges.{edges_at, leads_to}
use Rattle.ebpf_state.specs.StateView.{StateView}
use Rattle.ebpf_state.specs.States.{first_state, joined_state}
use Rattle.ebpf_verify.specs.declared.entry.EntryState.{EntryState}
use Rattle.ebpf_verify.specs.declared.entry.EntryState.TheVariants.{Unreached, Known, Conflict}
use Rattle.ebpf_verify.specs.Rules.{after_fall, after_jump}

abbrev pub known_or_conflict : Option StateView → EntryState
known_or_conflict (Some s) = Known s
known_or_conflict None = Conflict

-- what comes to a slot, with one more state
abbrev pub with_state : EntryState → StateView → EntryState
with_state Unreached s = Known s
with_state (Known old) s = known_or_conflict (joined_state old s)
with_state Conflict s = Conflict

-- what comes to a slot, with what an edge carries, if it carries anything and leads there
abbrev pub with_edge : Option StateView → Bool → EntryState → EntryState
with_edge None leads old = old
with_edge (Some s) leads old = if leads then with_state old s else old

-- what comes to a slot, with what a lower slot sends there: first by its jump, then by its fall
abbrev pub with_sent : Option Insn → Edges → ℕ → ℕ → EntryState → EntryState → EntryState
with_sent (Some i) e from to (Known s) old = with_edge (after_fall from i s) (leads_to e.fall to) (with_edge (after_jump i s) (leads_to e.jump to) old)
with_sent _ e from to _ old = old

-- at first the first state comes to slot 0, and nothing to the others
abbrev pub first_entry : ℕ → EntryState
first_entry to = if to == 0 then Known first_state else Unreached

-- what the slots below m send to a slot, in ascending order
unfoldable pub arrived : List (Option Insn) → ℕ → ℕ → EntryState
arrived p zero to = first_entry to
arrived p (suc m) to = with_sent (insn_at p m) (edges_at p m) m to (arrived p m m) (arrived p m to)

-- the entry of a slot: only lower slots send to it
abbrev pub entry_of : List (Option Insn) → ℕ → EntryState
entry_of p slot = arrived p slot slot

-- ---- the entries of all slots, as a list

abbrev pub entry_in : List EntryState → ℕ → EntryState
entry_in entries slot = slice_index_or entries slot Unreached

-- what comes to each slot has changed so
abbrev pub ChangesEach : List EntryState → List EntryState → (ℕ → EntryState → EntryState) → Type 0
ChangesEach old new change = (t : ℕ) → t < length old → entry_in new t ≡ change t (entry_in old t)

-- this was sent along an edge
abbrev pub Sends : List EntryState → List EntryState → Option ℕ → Option StateView → Type 0
Sends old new edge state = ChangesEach old new (λ t. with_edge state (leads_to edge t))

-- this was sent along both edges of a branch, where it is taken and where it is not
abbrev pub SendsBoth : List EntryState → List EntryState → Edges → (Bool → Option StateView) → Type 0
SendsBoth old new e state = ChangesEach old new (λ t came. with_edge (state false) (leads_to e.fall t) (with_edge (state true) (leads_to e.jump t) came))

-- what comes to a slot once a lower one was visited
abbrev pub after_visit : List (Option Insn) → ℕ → List EntryState → ℕ → EntryState
after_visit p slot entries t = with_sent (insn_at p slot) (edges_at p slot) slot t (entry_in entries slot) (entry_in entries t)
