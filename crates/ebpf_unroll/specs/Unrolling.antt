-- What it means that a program is another one unrolled: it is made of copies of that one's instructions.
use Rattle.std.specs.Prelude.{◌≡◌, ◌⊎◌, ℕ, ℤ, true, false, List, Option, Some, None, is_none}
use Rattle.ebpf_insn.specs.declared.insn.Insn.{Insn}
use Rattle.ebpf_insn.specs.declared.insn.Insn.TheVariants as insn
use Rattle.ebpf_insn.specs.Program.{insn_at}
use Rattle.ebpf_flow.specs.Edges.{falls, displacement_of, jump_of, fall_of, edges_at}
use Rattle.ebpf_operation.specs.Helpers.{helper_of}
use Rattle.ebpf_layout.specs.Layout.{IsMoved}

-- a stub is a call of no helper: a program is refused where a run could come to one
abbrev pub IsStub : List (Option Insn) → ℕ → Type 0
IsStub q at = (number : ℤ) × (insn_at q at ≡ Some (insn.Call number)) × (helper_of number ≡ None)

-- at a slot of the new program is a copy of what is at a slot of the old one, or a stub
abbrev pub IsCopyOrStub : List (Option Insn) → (ℕ → Option ℕ) → ℕ → ℕ → Type 0
IsCopyOrStub q of at slot = (of at ≡ Some slot) ⊎ IsStub q at

-- or a jump to one of these
abbrev pub IsWayTo : List (Option Insn) → (ℕ → Option ℕ) → ℕ → ℕ → Type 0
IsWayTo q of at slot =
    IsCopyOrStub q of at slot
    ⊎ ((z : ℤ) × (on : ℕ) × (insn_at q at ≡ Some (insn.Jump z)) × ((edges_at q at).jump ≡ Some on) × IsCopyOrStub q of on slot)

-- what is at a slot of q leads to copies of what the instruction at a slot of p leads to, each of its edges to one, whichever, or to a stub
pub record LeadsAs (p q : List (Option Insn)) (of : ℕ → Option ℕ) (at slot : ℕ) : Type 0 where
  pub there : is_none (insn_at p slot) ≡ false
  -- what jumps does so to a slot, and not before slot 0
  pub led : (i : Insn) (z : ℤ) → insn_at p slot ≡ Some i → displacement_of i ≡ Some z → (to : ℕ) × (jump_of i slot ≡ Some to)
  pub jumps : (to : ℕ) → (edges_at p slot).jump ≡ Some to → (next : ℕ) × ((edges_at q at).jump ≡ Some next) × IsWayTo q of next to
  pub falls : (to : ℕ) → (edges_at p slot).fall ≡ Some to → (next : ℕ) × ((edges_at q at).fall ≡ Some next) × IsWayTo q of next to

-- a slot of q that copies one of p has the instruction of that one, but for its displacement
abbrev pub AreCopies : List (Option Insn) → List (Option Insn) → (ℕ → Option ℕ) → Type 0
AreCopies p q of = (at slot : ℕ) (i : Insn) → of at ≡ Some slot → insn_at p slot ≡ Some i → IsMoved q at i

-- q is p unrolled, and `of` says which slot of p each slot of q copies; an added jump, a stub and what follows it copy none
pub record IsUnrolled (p q : List (Option Insn)) (of : ℕ → Option ℕ) : Type 0 where
  pub first : of 0 ≡ Some 0
  pub same : AreCopies p q of
  pub leads : (at slot : ℕ) → of at ≡ Some slot → LeadsAs p q of at slot

-- ---- an edge at a time

-- where an instruction jumps, if it does, its copy at a slot leads there
abbrev pub JumpsAs : List (Option Insn) → (ℕ → Option ℕ) → Insn → ℕ → Insn → ℕ → Type 0
JumpsAs q of copy at i slot = (z : ℤ) → displacement_of i ≡ Some z
    → (n : ℕ) × (t : ℕ) × (jump_of copy at ≡ Some n) × (jump_of i slot ≡ Some t) × IsWayTo q of n t

-- and where it falls
abbrev pub FallsAs : List (Option Insn) → (ℕ → Option ℕ) → Insn → ℕ → Insn → ℕ → Type 0
FallsAs q of copy at i slot = falls i ≡ true → (n : ℕ) × (t : ℕ) × (fall_of copy at ≡ Some n) × (fall_of i slot ≡ Some t) × IsWayTo q of n t
