-- The verdict on a program.
use Rattle.std.specs.Prelude.{◌≡◌, ◌≤◌, ℕ, List, length, All, Option, Some, None}
use Rattle.ebpf_insn.specs.declared.insn.Insn.{Insn}
use Rattle.ebpf_insn.specs.Program.{insn_at}
use Rattle.ebpf_insn.specs.Encoding.{IsWellFormed}
use Rattle.ebpf_flow.specs.Flow.{AreForward, flow_fault}
use Rattle.ebpf_insn.specs.Faults.{lowest}
use Rattle.ebpf_state.specs.declared.kinds.KindRow.{KindRow}
use Rattle.ebpf_verify.specs.declared.decl.Decl.{Decl}
use Rattle.ebpf_verify.specs.declared.entry.EntryState.{EntryState}
use Rattle.ebpf_verify.specs.declared.entry.EntryState.TheVariants.{Known, Conflict}
use Rattle.ebpf_verify.specs.declared.fault.VerifyCode.{VerifyCode}
use Rattle.ebpf_verify.specs.declared.fault.VerifyCode.TheVariants.{PathsDiffer}
use Rattle.ebpf_verify.specs.declared.fault.VerifyFault.{VerifyFault}
use Rattle.ebpf_verify.specs.declared.fault.VerifyFault.TheVariants.{Refused, NoMemory}
use Rattle.ebpf_verify.specs.Subject.{Subject}
use Rattle.ebpf_verify.specs.Rules.{refusal}
use Rattle.ebpf_verify.specs.Entry.{entry_of}

-- a slot that is never entered refuses nothing
abbrev pub refusal_in : Decl → List KindRow → Option Insn → EntryState → Option VerifyCode
refusal_in decl rows i Conflict = Some PathsDiffer
refusal_in decl rows (Some i) (Known s) = refusal decl rows i s
refusal_in decl rows i _ = None

-- the first code that refuses a slot
abbrev pub refusal_at : Subject → ℕ → Option VerifyCode
refusal_at s slot = refusal_in s.decl s.rows (insn_at s.program slot) (entry_of s.program slot)

-- the lowest slot that is refused, with its code; none, and the program is accepted
abbrev pub verdict : Subject → Option (ℕ × VerifyCode)
verdict s = lowest (refusal_at s) (length s.program)

-- a fault is the verdict, or memory ran out
abbrev pub IsVerifyFault : Subject → VerifyFault → Type 0
IsVerifyFault s NoMemory = Unit {0}
IsVerifyFault s (Refused slot code) = verdict s ≡ Some (slot, code)

-- a fault of this slot, or memory ran out
abbrev pub IsSlotFault : ℕ → Option VerifyCode → VerifyFault → Type 0
IsSlotFault slot refusal NoMemory = Unit {0}
IsSlotFault slot refusal (Refused at code) = (at ≡ slot) × (refusal ≡ Some code)

-- the kinds that a program may be verified against: 1 to 8, each with a size of 1 to 4096 bytes
pub record AreRows (rows : List KindRow) : Type 0 where
  pub some : 1 ≤ length rows
  pub few : length rows ≤ 8
  pub sizes : All (λ row. (1 ≤ row.size) × (row.size ≤ 4096)) rows

-- what is known of a program that was accepted: its flow has no fault and is forward, no slot refuses, and there are few kinds
pub record IsAccepted (s : Subject) : Type 0 where
  pub formed : IsWellFormed s.program
  pub flow : flow_fault s.program ≡ None
  pub forward : AreForward s.program
  pub accepted : verdict s ≡ None
  pub rows : AreRows s.rows
