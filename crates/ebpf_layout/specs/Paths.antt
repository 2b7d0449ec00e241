-- The paths that a program's edges make, and the slots that are reached.
use Rattle.std.specs.Prelude.{◌≡◌, ℕ, List, [], ◌∷◌, Option, true}
use Rattle.ebpf_insn.specs.declared.insn.Insn.{Insn}
use Rattle.ebpf_flow.specs.Edges.{has_edge_to, edges_at}

-- an edge leads from one slot to another, forward or back
abbrev pub IsEdge : List (Option Insn) → ℕ → ℕ → Type 0
IsEdge p from to = has_edge_to (edges_at p from) to ≡ true

-- edges lead from one slot to another, each to the next of these slots
abbrev pub LeadBy : List (Option Insn) → ℕ → List ℕ → ℕ → Type 0
LeadBy p from [] to = from ≡ to
LeadBy p from (next ∷ rest) to = IsEdge p from next × LeadBy p next rest to

-- edges lead from one slot to another, some or none
pub record IsPath (p : List (Option Insn)) (from to : ℕ) : Type 0 where
  pub steps : List ℕ
  pub lead : LeadBy p from steps to

-- slot 0, and whatever an edge of a reached slot leads to
abbrev pub IsReached : List (Option Insn) → ℕ → Type 0
IsReached p slot = IsPath p 0 slot
