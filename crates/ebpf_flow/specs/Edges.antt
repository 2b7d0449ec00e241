-- The edges of a program, and which of its slots are refused for them (RFC 9669, section 4.3).
use Rattle.std.specs.Prelude.{◌+◌, ℕ, zero, suc, ℤ, pos, negsuc, ◌+ℤ◌, List, Bool, true, false, ◌&&◌, ◌||◌, if◌then◌else◌, ◌==◌, Option, Some, None}
use Rattle.ebpf_insn.specs.declared.insn.Insn.{Insn}
use Rattle.ebpf_insn.specs.declared.insn.Insn.TheVariants as insn
use Rattle.ebpf_insn.specs.Program.{insn_at, slots_in}
use Rattle.ebpf_flow.specs.declared.edges.Edges.{Edges}

-- the instruction goes on to the slot after it
abbrev pub falls : Insn → Bool
falls (insn.Jump offset) = false
falls (insn.JumpFar offset) = false
falls insn.Exit = false
falls _ = true

-- how many slots past the next one the instruction may jump
abbrev pub displacement_of : Insn → Option ℤ
displacement_of (insn.Jump offset) = Some offset
displacement_of (insn.JumpFar offset) = Some offset
displacement_of (insn.Branch width cond left right offset) = Some offset
displacement_of _ = None

-- a negative number is no slot
abbrev pub slot_of : ℤ → Option ℕ
slot_of (pos n) = Some n
slot_of (negsuc n) = None

abbrev pub fall_of : Insn → ℕ → Option ℕ
fall_of i slot = if falls i then Some (slot + slots_in i) else None

abbrev pub target_of : Option ℤ → ℕ → Option ℕ
target_of None slot = None
target_of (Some z) slot = slot_of (pos slot +ℤ pos 1 +ℤ z)

abbrev pub jump_of : Insn → ℕ → Option ℕ
jump_of i slot = target_of (displacement_of i) slot

-- the edges of the instruction that is at a slot; a second half has none
abbrev pub edges_of : Option Insn → ℕ → Edges
edges_of None slot = record { fall = None; jump = None }
edges_of (Some i) slot = record { fall = fall_of i slot; jump = jump_of i slot }

abbrev pub edges_at : List (Option Insn) → ℕ → Edges
edges_at p slot = edges_of (insn_at p slot) slot

-- an edge leads to this slot
abbrev pub leads_to : Option ℕ → ℕ → Bool
leads_to None to = false
leads_to (Some n) to = to == n

abbrev pub has_edge_to : Edges → ℕ → Bool
has_edge_to e to = leads_to e.fall to || leads_to e.jump to

-- a slot below m that is reached has an edge to a slot; slot 0 is reached
unfoldable pub reached_by : List (Option Insn) → ℕ → ℕ → Bool
reached_by p zero to = to == 0
reached_by p (suc m) to = (reached_by p m m && has_edge_to (edges_at p m) to) || reached_by p m to

-- only lower slots reach a slot
abbrev pub is_reached : List (Option Insn) → ℕ → Bool
is_reached p slot = reached_by p slot slot
