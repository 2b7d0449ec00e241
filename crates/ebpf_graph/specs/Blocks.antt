-- The basic blocks of a program: the slots that begin and end one.
use Rattle.std.specs.Prelude.{ℕ, zero, suc, List, length, Bool, true, not, ◌&&◌, ◌||◌, ◌==◌, cond, Option, Some, None, is_none}
use Rattle.ebpf_insn.specs.declared.insn.Insn.{Insn}
use Rattle.ebpf_flow.specs.declared.edges.Edges.{Edges}
use Rattle.ebpf_flow.specs.Edges.{edges_at, has_edge_to}

-- the edges of an instruction that jumps, or may, lead to the first slot of a block
abbrev pub begins_at : Edges → ℕ → Bool
begins_at e to = not (is_none e.jump) && has_edge_to e to

-- an instruction below slot m begins a block there, as slot 0 does
unfoldable pub begun_by : List (Option Insn) → ℕ → ℕ → Bool
begun_by p zero to = to == 0
begun_by p (suc m) to = begins_at (edges_at p m) to || begun_by p m to

abbrev pub begins_block : List (Option Insn) → ℕ → Bool
begins_block p slot = begun_by p (length p) slot

-- the last slot below slot m that begins a block
unfoldable pub last_begun : List (Option Insn) → ℕ → ℕ
last_begun p zero = zero
last_begun p (suc m) = cond (begins_block p m) m (last_begun p m)

-- the first slot of the block that a slot is in
abbrev pub first_of_block : List (Option Insn) → ℕ → ℕ
first_of_block p slot = last_begun p (suc slot)

-- a block ends with an instruction that doesn't go on to the next slot, or goes on to the first slot of another block
abbrev pub ends_before : List (Option Insn) → Option ℕ → Bool
ends_before p None = true
ends_before p (Some next) = begins_block p next

abbrev pub ends_block : List (Option Insn) → ℕ → Bool
ends_block p slot = ends_before p (edges_at p slot).fall
