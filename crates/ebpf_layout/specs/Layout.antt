-- What it means that a program is another one laid out anew.
use Rattle.std.specs.Prelude.{◌≡◌, ◌⊎◌, ◌<◌, ℕ, ℤ, false, List, Option, Some, None, is_none, slice_index_or}
use Rattle.ebpf_insn.specs.declared.insn.Insn.{Insn}
use Rattle.ebpf_insn.specs.declared.insn.Insn.TheVariants as insn
use Rattle.ebpf_insn.specs.Program.{insn_at}
use Rattle.ebpf_flow.specs.Edges.{edges_at}
use Rattle.ebpf_layout.specs.EdgeFaults.{edge_fault_at}
use Rattle.ebpf_layout.specs.Paths.{IsReached}

-- an instruction with another displacement; one that doesn't jump has none and stays
abbrev pub moved : Insn → ℤ → Insn
moved (insn.Jump offset) z = insn.Jump z
moved (insn.JumpFar offset) z = insn.JumpFar z
moved (insn.Branch width condition left right offset) z = insn.Branch width condition left right z
moved i z = i

-- this instruction is at a slot of the new program, but for its displacement
abbrev pub IsMoved : List (Option Insn) → ℕ → Insn → Type 0
IsMoved q at i = (z : ℤ) × (insn_at q at ≡ Some (moved i z))

-- a jump whose only edge leads to a slot is at a slot of the new program
abbrev pub IsJumpTo : List (Option Insn) → ℕ → ℕ → Type 0
IsJumpTo q at to = (z : ℤ) × (insn_at q at ≡ Some (insn.Jump z)) × ((edges_at q at).jump ≡ Some to)

-- what is at a slot falls to another, or to a jump that leads there
abbrev pub FallsTo : List (Option Insn) → ℕ → ℕ → Type 0
FallsTo q from to = (next : ℕ) × ((edges_at q from).fall ≡ Some next) × ((next ≡ to) ⊎ IsJumpTo q next to)

-- what was reached at some slot of the old one is at a slot of the new program
abbrev pub IsKept : List (Option Insn) → (ℕ → ℕ) → ℕ → Type 0
IsKept p place at = (slot : ℕ) × IsReached p slot × (place slot ≡ at)

-- what an instruction jumps to comes after one slot and before another
abbrev pub JumpsBetween : List (Option Insn) → (ℕ → ℕ) → ℕ → ℕ → ℕ → Type 0
JumpsBetween p place slot from to = (over : ℕ) × ((edges_at p slot).jump ≡ Some over) × (from < place over) × (place over < to)

-- a jump was added right after a reached branch, to where that one fell, and what the branch jumps to is between them
abbrev pub IsAdded : List (Option Insn) → List (Option Insn) → (ℕ → ℕ) → ℕ → Type 0
IsAdded p q place at = (slot : ℕ) × (to : ℕ) × IsReached p slot × ((edges_at p slot).fall ≡ Some to)
    × ((edges_at q (place slot)).fall ≡ Some at) × IsJumpTo q at (place to) × JumpsBetween p place slot at (place to)

-- q is p laid out anew
pub record IsLaidOut (p q : List (Option Insn)) : Type 0 where
  -- where what was at a slot is now; what was not reached has a place of its own, where nothing is
  pub place : ℕ → ℕ
  pub first : place 0 ≡ 0
  pub apart : (a b : ℕ) → place a ≡ place b → a ≡ b
  pub there : (slot : ℕ) → IsReached p slot → is_none (insn_at p slot) ≡ false
  pub led : (slot : ℕ) → IsReached p slot → edge_fault_at p slot ≡ None
  pub same : (slot : ℕ) (i : Insn) → IsReached p slot → insn_at p slot ≡ Some i → IsMoved q (place slot) i
  pub jumps : (slot to : ℕ) → IsReached p slot → (edges_at p slot).jump ≡ Some to → (edges_at q (place slot)).jump ≡ Some (place to)
  pub falls : (slot to : ℕ) → IsReached p slot → (edges_at p slot).fall ≡ Some to → FallsTo q (place slot) (place to)
  pub only : (at : ℕ) (i : Insn) → insn_at q at ≡ Some i → IsKept p place at ⊎ IsAdded p q place at

-- q is p laid out anew, and `of` says which slot of p each slot of q copies: an added jump and a second half copy none
pub record IsLaidAs (p q : List (Option Insn)) (of : ℕ → Option ℕ) : Type 0 where
  pub laid_out : IsLaidOut p q
  pub copied : (at slot : ℕ) → of at ≡ Some slot → IsReached p slot × (laid_out.place slot ≡ at)
  pub all : (slot : ℕ) → IsReached p slot → of (laid_out.place slot) ≡ Some slot

-- the slots that are copied, as a list has them
abbrev pub copied_in : List (Option ℕ) → ℕ → Option ℕ
copied_in slots at = slice_index_or slots at None
