-- A program of which every jump leads forward, made of one whose jumps may lead back, or why there is none.
use Rattle.std.specs.Prelude.{◌≡◌, ◌<◌, ℕ, List, length, Option, Some, None}
use Rattle.ebpf_insn.specs.declared.insn.Insn.{Insn}
use Rattle.ebpf_flow.specs.Flow.{flow_fault}
use Rattle.ebpf_state.specs.declared.kinds.KindRow.{KindRow}
use Rattle.ebpf_verify.specs.declared.decl.Decl.{Decl}
use Rattle.ebpf_layout.specs.declared.fault.LayoutFault.TheVariants as layout
use Rattle.ebpf_layout.specs.EdgeFaults.{edge_fault_at}
use Rattle.ebpf_layout.specs.declared.layout.Laid.{Laid}
use Rattle.ebpf_layout.specs.Layout.{IsLaidAs, copied_in}
use Rattle.ebpf_layout.specs.Refusal.{IsLayoutFault, IsLoop}
use Rattle.ebpf_layout.specs.Running.{RunAlike}
use Rattle.ebpf_unroll.specs.declared.fault.UnrollFault.{UnrollFault}
use Rattle.ebpf_unroll.specs.declared.fault.UnrollFault.TheVariants as unroll
use Rattle.ebpf_unroll.specs.declared.unroll.Unrolled.{Unrolled}
use Rattle.ebpf_unroll.specs.Ending.{AlwaysEnds}
use Rattle.ebpf_unroll.specs.Refusal.{IsRefused}
use Rattle.ebpf_unroll.specs.Unrolling.{IsUnrolled}
use Rattle.ebpf_forward.specs.declared.fault.BackEdge.{BackEdge}
use Rattle.ebpf_forward.specs.declared.fault.ForwardFault.{ForwardFault}
use Rattle.ebpf_forward.specs.declared.fault.ForwardFault.TheVariants.{Flow, Slots, Refused, Long, Unconfirmed, NoMemory}
use Rattle.ebpf_forward.specs.declared.forward.Forward.{Forward}
use Rattle.ebpf_forward.specs.declared.forward.Forward.TheVariants as forward

-- laid out, it does what it did, and its flow is fine
pub record IsLaidFine (p : List (Option Insn)) (l : Laid) : Type 0 where
  pub laid_as : IsLaidAs p l.program (copied_in l.of.items)
  pub all : length l.of.items ≡ length l.program
  pub alike : RunAlike p l.program
  pub fine : flow_fault l.program ≡ None

-- every run of it ends, and does what the run of the copies does
pub record IsUnrolledAs (p : List (Option Insn)) (decl : Decl) (rows : List KindRow) (u : Unrolled) : Type 0 where
  pub ends : AlwaysEnds p u.verified
  pub copies : IsUnrolled p u.verified.program (copied_in u.of.items)
  pub all : length u.of.items ≡ length u.verified.program
  pub declared : u.verified.decl ≡ decl
  pub kinds : u.verified.rows ≡ rows

abbrev pub IsForward : List (Option Insn) → Decl → List KindRow → Forward → Type 0
IsForward p decl rows (forward.LaidOut l) = IsLaidFine p l
IsForward p decl rows (forward.Unrolled u) = IsUnrolledAs p decl rows u

abbrev pub program_of : Forward → List (Option Insn)
program_of (forward.LaidOut l) = l.program
program_of (forward.Unrolled u) = u.verified.program

-- of each of its slots the slot of the old program that it copies
abbrev pub copies_of : Forward → List (Option ℕ)
copies_of (forward.LaidOut l) = l.of.items
copies_of (forward.Unrolled u) = u.of.items

-- what a fault says is so; of a loop that is too long, or whose turns aren't accepted, it is promised that the edge closes one
abbrev pub IsForwardFault : List (Option Insn) → Decl → List KindRow → ForwardFault → Type 0
IsForwardFault p decl rows (Flow slot code) = edge_fault_at p slot ≡ Some code
IsForwardFault p decl rows Slots = IsLayoutFault p layout.Slots
IsForwardFault p decl rows (Refused at) = IsRefused p decl rows at.slot at.code
IsForwardFault p decl rows (Long e) = IsLoop p e.from e.to
IsForwardFault p decl rows (Unconfirmed e) = IsLoop p e.from e.to
IsForwardFault p decl rows NoMemory = Unit {0}

-- the fault of a program with loops, of which an edge closes one
abbrev pub IsLoopFault : UnrollFault → BackEdge → ForwardFault → Type 0
IsLoopFault (unroll.Flow slot code) e f = f ≡ Flow slot code
IsLoopFault (unroll.Refused slot code visit) e f = f ≡ Refused (record { slot = slot; code = code; visit = visit })
IsLoopFault (unroll.Long slot visits) e f = f ≡ Long e
IsLoopFault unroll.Unconfirmed e f = f ≡ Unconfirmed e
IsLoopFault unroll.NoMemory e f = f ≡ NoMemory
