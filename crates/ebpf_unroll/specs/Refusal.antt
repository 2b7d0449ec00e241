-- Why a program can't be unrolled.
use Rattle.std.specs.Prelude.{◌≡◌, ℕ, List, Option, Some}
use Rattle.ebpf_insn.specs.declared.insn.Insn.{Insn}
use Rattle.ebpf_insn.specs.Program.{insn_at}
use Rattle.ebpf_state.specs.declared.kinds.KindRow.{KindRow}
use Rattle.ebpf_state.specs.StateView.{StateView}
use Rattle.ebpf_verify.specs.declared.decl.Decl.{Decl}
use Rattle.ebpf_verify.specs.declared.fault.VerifyCode.{VerifyCode}
use Rattle.ebpf_verify.specs.Rules.{refusal}
use Rattle.ebpf_layout.specs.EdgeFaults.{edge_fault_at}
use Rattle.ebpf_unroll.specs.declared.fault.UnrollFault.{UnrollFault}
use Rattle.ebpf_unroll.specs.declared.known.Known.{Known}
use Rattle.ebpf_unroll.specs.declared.fault.UnrollFault.TheVariants.{Flow, Refused, Long, Unconfirmed, NoMemory}

-- the rule of the instruction at a slot refuses something that the walk may know there
pub record IsRefused (p : List (Option Insn)) (decl : Decl) (rows : List KindRow) (slot : ℕ) (code : VerifyCode) : Type 0 where
  pub insn : Insn
  pub here : insn_at p slot ≡ Some insn
  pub known : StateView
  pub refused : refusal decl rows insn known ≡ Some code

-- what is known before a slot is refused there, with that code
abbrev pub IsKnownRefused : List (Option Insn) → Decl → List KindRow → Known → Type 0
IsKnownRefused p decl rows known = (i : Insn) × (insn_at p known.slot ≡ Some i) × (refusal decl rows i known.by_visits ≡ Some known.code)

-- what a fault says is so; of one that the copies are too many, or not accepted, nothing is said
abbrev pub IsUnrollFault : List (Option Insn) → Decl → List KindRow → UnrollFault → Type 0
IsUnrollFault p decl rows (Flow slot code) = edge_fault_at p slot ≡ Some code
IsUnrollFault p decl rows (Refused slot code visit) = IsRefused p decl rows slot code
IsUnrollFault p decl rows (Long slot visits) = Unit {0}
IsUnrollFault p decl rows Unconfirmed = Unit {0}
IsUnrollFault p decl rows NoMemory = Unit {0}
