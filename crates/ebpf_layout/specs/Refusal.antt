-- Why a program can't be laid out.
use Rattle.std.specs.Prelude.{◌≡◌, ◌<◌, ℕ, List, length, Option, Some, None}
use Rattle.ebpf_insn.specs.declared.insn.Insn.{Insn}
use Rattle.ebpf_insn.specs.declared.program.TheConstants.{MAX_SLOTS}
use Rattle.ebpf_flow.specs.declared.fault.FlowCode.{FlowCode}
use Rattle.ebpf_layout.specs.declared.fault.LayoutFault.{LayoutFault}
use Rattle.ebpf_layout.specs.declared.fault.LayoutFault.TheVariants.{Flow, Loop, Slots, NoMemory}
use Rattle.ebpf_layout.specs.EdgeFaults.{edge_fault_at}
use Rattle.ebpf_layout.specs.Layout.{IsLaidOut}
use Rattle.ebpf_layout.specs.Paths.{IsEdge, IsPath, IsReached}

-- the lowest reached slot of which an edge leads to no instruction, with the first code of it
pub record IsLowestFault (p : List (Option Insn)) (slot : ℕ) (code : FlowCode) : Type 0 where
  pub reached : IsReached p slot
  pub here : edge_fault_at p slot ≡ Some code
  pub before : (k : ℕ) → k < slot → IsReached p k → edge_fault_at p k ≡ None

-- an edge of what is reached that closes a loop: from where it leads to a path leads back to where it begins
pub record IsLoop (p : List (Option Insn)) (from to : ℕ) : Type 0 where
  pub reached : IsReached p from
  pub edge : IsEdge p from to
  pub back : IsPath p to from

abbrev pub IsLayoutFault : List (Option Insn) → LayoutFault → Type 0
IsLayoutFault p (Flow slot code) = IsLowestFault p slot code
IsLayoutFault p (Loop from to) = IsLoop p from to
-- laid out, it is too long
IsLayoutFault p Slots = (q : List (Option Insn)) × IsLaidOut p q × (MAX_SLOTS < length q)
IsLayoutFault p NoMemory = Unit {0}
