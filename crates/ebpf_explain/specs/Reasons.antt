-- Why a slot of a program is refused, by what is there and what comes there.
use Rattle.std.specs.Prelude.{ℕ, List, [], length, Option, Some, None}
use Rattle.ebpf_insn.specs.declared.insn.Insn.{Insn}
use Rattle.ebpf_insn.specs.Program.{insn_at}
use Rattle.ebpf_flow.specs.declared.fault.FlowCode.{FlowCode}
use Rattle.ebpf_state.specs.declared.kinds.KindRow.{KindRow}
use Rattle.ebpf_verify.specs.declared.comers.Comer.{Comer}
use Rattle.ebpf_verify.specs.declared.decl.Decl.{Decl}
use Rattle.ebpf_verify.specs.declared.entry.EntryState.{EntryState}
use Rattle.ebpf_verify.specs.declared.entry.EntryState.TheVariants.{Known, Conflict}
use Rattle.ebpf_verify.specs.declared.fault.VerifyCode.{VerifyCode}
use Rattle.ebpf_verify.specs.Comers.{comers}
use Rattle.ebpf_verify.specs.Entry.{entry_in}
use Rattle.ebpf_verify.specs.Subject.{Subject}
use Rattle.ebpf_explain.specs.FlowSentences.{flow_sentence}
use Rattle.ebpf_explain.specs.Loops.{closes_loop}
use Rattle.ebpf_explain.specs.declared.loss.Loss.{Loss}
use Rattle.ebpf_explain.specs.Loss.{losing, loss_sentence}
use Rattle.ebpf_explain.specs.Meeting.{meeting_sentence}
use Rattle.ebpf_explain.specs.VerifySentences.{verify_sentence}

-- why the edges of an instruction are refused
abbrev pub misled_at : Option Insn → List (Option Insn) → ℕ → FlowCode → List ℕ
misled_at None p slot code = []
misled_at (Some i) p slot code = flow_sentence slot i (length p) (closes_loop p slot i) code

abbrev pub misled_in : List (Option Insn) → ℕ → FlowCode → List ℕ
misled_in p slot code = misled_at (insn_at p slot) p slot code

-- why an instruction is refused, by what comes to its slot, as a whole and state by state
abbrev pub reason : Option Insn → EntryState → List Comer → (slot : ℕ) → VerifyCode → Decl → List KindRow → List ℕ
reason (Some i) (Known s) cs slot code decl rows = verify_sentence slot i s code decl rows
reason (Some i) Conflict cs slot code decl rows = meeting_sentence slot cs rows
reason _ _ cs slot code decl rows = []

abbrev pub reason_by : Option Loss → Subject → List EntryState → ℕ → VerifyCode → List ℕ
reason_by None s entries slot code = reason (insn_at s.program slot) (entry_in entries slot) (comers s.program slot) slot code s.decl s.rows
reason_by (Some loss) s entries slot code = loss_sentence slot loss (comers s.program loss.at)

-- of a register that is read unset, where its values were lost, if it had any
abbrev pub reason_at : Subject → List EntryState → ℕ → VerifyCode → List ℕ
reason_at s entries slot code = reason_by (losing s.program entries slot code) s entries slot code
