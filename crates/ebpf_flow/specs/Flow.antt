-- The flow fault of a program, and the programs that have none.
use Rattle.std.specs.Prelude.{◌≡◌, ◌<◌, ◌+◌, ℕ, ℤ, List, [], ◌∷◌, length, Bool, true, false, not, ◌&&◌, nat_le, Option, Some, None, is_none, slice_get, IfSome}
use Rattle.ebpf_insn.specs.declared.insn.Insn.{Insn}
use Rattle.ebpf_insn.specs.Program.{insn_at, slots_in}
use Rattle.ebpf_insn.specs.Faults.{first_of, lowest}
use Rattle.ebpf_flow.specs.declared.fault.FlowCode.{FlowCode}
use Rattle.ebpf_flow.specs.declared.fault.FlowCode.TheVariants.{JumpOutside, JumpIntoWide, JumpBackward, FallsOffEnd, Unreachable}
use Rattle.ebpf_flow.specs.declared.fault.FlowFault.{FlowFault}
use Rattle.ebpf_flow.specs.declared.fault.FlowFault.TheVariants.{Bad, NoMemory}
use Rattle.ebpf_flow.specs.declared.edges.Edges.{Edges}
use Rattle.ebpf_flow.specs.Edges.{falls, displacement_of, jump_of, is_reached, edges_at}

-- the tests of a jump
abbrev pub is_outside : List (Option Insn) → Option ℕ → Bool
is_outside p None = true
is_outside p (Some to) = nat_le (length p) to

abbrev pub is_second_half : List (Option Insn) → Option ℕ → Bool
is_second_half p None = false
is_second_half p (Some to) = is_none (insn_at p to)

abbrev pub is_backward : ℕ → Option ℕ → Bool
is_backward slot None = false
is_backward slot (Some to) = nat_le to slot

abbrev pub jump_fault : List (Option Insn) → ℕ → Option ℤ → Option ℕ → Option FlowCode
jump_fault p slot None to = None
jump_fault p slot (Some z) to = first_of ((is_outside p to, JumpOutside) ∷ (is_second_half p to, JumpIntoWide) ∷ (is_backward slot to, JumpBackward) ∷ [])

abbrev pub fall_fault : List (Option Insn) → ℕ → Insn → Option FlowCode
fall_fault p slot i = first_of ((falls i && nat_le (length p) (slot + slots_in i), FallsOffEnd) ∷ (not (is_reached p slot), Unreachable) ∷ [])

-- the first of two that is there
abbrev pub or_else : {C : Type 0} → Option C → Option C → Option C
or_else (Some code) other = Some code
or_else None other = other

abbrev pub insn_fault : List (Option Insn) → ℕ → Option Insn → Option FlowCode
insn_fault p slot None = None
insn_fault p slot (Some i) = or_else (jump_fault p slot (displacement_of i) (jump_of i slot)) (fall_fault p slot i)

-- the first code that refuses a slot for its edges
abbrev pub flow_fault_at : List (Option Insn) → ℕ → Option FlowCode
flow_fault_at p slot = insn_fault p slot (insn_at p slot)

-- the lowest slot that is refused, with its code
abbrev pub flow_fault : List (Option Insn) → Option (ℕ × FlowCode)
flow_fault p = lowest (flow_fault_at p) (length p)

-- a fault is the defined one, or memory ran out
abbrev pub IsFlowFault : List (Option Insn) → FlowFault → Type 0
IsFlowFault p NoMemory = Unit {0}
IsFlowFault p (Bad slot code) = flow_fault p ≡ Some (slot, code)

-- an edge leads forward to an instruction
abbrev pub LeadsForward : List (Option Insn) → ℕ → Option ℕ → Type 0
LeadsForward p from edge = IfSome edge (λ to. (from < to) × (to < length p) × (is_none (insn_at p to) ≡ false))

abbrev pub AreForward : List (Option Insn) → Type 0
AreForward p = (slot : ℕ) → slot < length p → LeadsForward p slot (edges_at p slot).fall × LeadsForward p slot (edges_at p slot).jump

-- the edges are those of the program, whose flow has no fault
pub record IsFlowed (p : List (Option Insn)) (edges : List Edges) : Type 0 where
  pub fine : flow_fault p ≡ None
  pub forward : AreForward p
  pub each : (slot : ℕ) → slot < length p → slice_get edges slot ≡ Some (edges_at p slot)
  pub all : length edges ≡ length p
