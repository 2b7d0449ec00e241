-- Which edges lead to no instruction, and the code of each.
use Rattle.std.specs.Prelude.{◌+◌, ℕ, ℤ, List, [], ◌∷◌, length, ◌&&◌, nat_le, Option, Some, None}
use Rattle.ebpf_insn.specs.declared.insn.Insn.{Insn}
use Rattle.ebpf_insn.specs.Program.{insn_at, slots_in}
use Rattle.ebpf_insn.specs.Faults.{first_of}
use Rattle.ebpf_flow.specs.declared.fault.FlowCode.{FlowCode}
use Rattle.ebpf_flow.specs.declared.fault.FlowCode.TheVariants.{JumpOutside, JumpIntoWide, FallsOffEnd}
use Rattle.ebpf_flow.specs.Edges.{falls, displacement_of, target_of}
use Rattle.ebpf_flow.specs.Flow.{is_outside, is_second_half, or_else}

-- the jump leads to no instruction
abbrev pub target_fault : List (Option Insn) → Option ℕ → Option FlowCode
target_fault p to = first_of ((is_outside p to, JumpOutside) ∷ (is_second_half p to, JumpIntoWide) ∷ [])

abbrev pub jump_fault : List (Option Insn) → ℕ → Option ℤ → Option FlowCode
jump_fault p slot None = None
jump_fault p slot (Some z) = target_fault p (target_of (Some z) slot)

-- the instruction goes on past the last slot
abbrev pub fall_fault : List (Option Insn) → ℕ → Insn → Option FlowCode
fall_fault p slot i = first_of ((falls i && nat_le (length p) (slot + slots_in i), FallsOffEnd) ∷ [])

-- the first code of an edge that leads to no instruction
abbrev pub edge_fault : List (Option Insn) → ℕ → Option Insn → Option FlowCode
edge_fault p slot None = None
edge_fault p slot (Some i) = or_else (jump_fault p slot (displacement_of i)) (fall_fault p slot i)

abbrev pub edge_fault_at : List (Option Insn) → ℕ → Option FlowCode
edge_fault_at p slot = edge_fault p slot (insn_at p slot)
