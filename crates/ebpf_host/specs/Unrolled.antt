-- What becomes of bytes that are loaded as a program whose jumps may lead back: each jump is made to lead forward first.
use Rattle.std.specs.Prelude.{◌≡◌, ◌⊎◌, ℕ, List, Option, Some, None, string_bytes}
use Rattle.ebpf_insn.specs.declared.fault.DecodeCode.{DecodeCode}
use Rattle.ebpf_insn.specs.declared.insn.Insn.{Insn}
use Rattle.ebpf_insn.specs.Decoding.{decode_fault}
use Rattle.ebpf_insn.specs.Encoding.{IsProgram}
use Rattle.ebpf_flow.specs.declared.fault.FlowCode.TheVariants.{JumpBackward}
use Rattle.ebpf_state.specs.declared.kinds.KindRow.{KindRow}
use Rattle.ebpf_verify.specs.declared.decl.Decl.{Decl}
use Rattle.ebpf_verify.specs.Subject.{Subject}
use Rattle.ebpf_verify.specs.Verdict.{IsAccepted}
use Rattle.ebpf_explain.specs.DecodeSentences.{decode_sentence}
use Rattle.ebpf_layout.specs.declared.layout.Laid.{Laid}
use Rattle.ebpf_layout.specs.Layout.{copied_in}
use Rattle.ebpf_command.specs.declared.codes.RefusalCode.{RefusalCode}
use Rattle.ebpf_command.specs.declared.codes.RefusalCode.TheVariants.{Decode, Flow}
use Rattle.ebpf_forward.specs.declared.fault.ForwardFault.{ForwardFault}
use Rattle.ebpf_forward.specs.declared.forward.Forward.{Forward}
use Rattle.ebpf_forward.specs.declared.forward.Forward.TheVariants.{LaidOut, Unrolled}
use Rattle.ebpf_forward.specs.declared.why_not.WhyNot.{WhyNot}
use Rattle.ebpf_forward.specs.declared.why_not.WhyNot.TheVariants.{Slot, Loop}
use Rattle.ebpf_forward.specs.Forward.{IsForward, IsForwardFault}
use Rattle.ebpf_forward.specs.Lines.{lines_of}
use Rattle.ebpf_forward.specs.WhyNot.{SaysWhyNot, slot_of}
use Rattle.ebpf_host.specs.declared.refusal.Refusal.{Refusal}
use Rattle.ebpf_host.specs.declared.refusal.LoadFault.{LoadFault}
use Rattle.ebpf_host.specs.Loading.{AreDeclared, IsLoaded, IsRefusal, IsFaultBy}

-- ---- what is loaded

-- of a program that was laid out: its bytes are, for the same declaration; of one that was unrolled: what came of it, which was accepted
abbrev pub IsLoadedOf : Decl → Forward → Subject → Type 0
IsLoadedOf decl (LaidOut l) s = (bytes : List ℕ) × IsProgram bytes l.program × IsLoaded bytes decl.context decl.held s
IsLoadedOf decl (Unrolled u) s = (s ≡ u.verified) × IsAccepted s

-- each jump of a program is made to lead forward, as `lead_forward` promises, and what came of that is loaded
pub record IsMadeAs (p : List (Option Insn)) (decl : Decl) (rows : List KindRow) (s : Subject) : Type 0 where
  pub made : Forward
  pub is : IsForward p decl rows made
  pub loaded : IsLoadedOf decl made s

-- so is the program that bytes encode
pub record IsLoadedForward (bytes : List ℕ) (context held : ℕ) (s : Subject) : Type 0 where
  pub decl : Decl
  pub rows : List KindRow
  pub declared : AreDeclared context held decl rows
  pub program : List (Option Insn)
  pub is_program : IsProgram bytes program
  pub made_as : IsMadeAs program decl rows s

-- ---- why nothing is

-- a code, a slot, where that is in what was given, and a sentence
pub record IsRefusalOf (code : RefusalCode) (slot : ℕ) (given : Option ℕ) (sentence : List ℕ) (r : Refusal) : Type 0 where
  pub code_is : r.code ≡ code
  pub slot_is : r.slot ≡ slot
  pub given_is : r.given ≡ given
  pub sentence_is : string_bytes r.sentence ≡ sentence

-- a loop that is not unrolled is refused as a jump back, at the slot that closes it
abbrev pub code_of : WhyNot → RefusalCode
code_of (Slot r) = r.code
code_of (Loop l) = Flow JumpBackward

abbrev pub slot_named : WhyNot → ℕ
slot_named (Slot r) = r.slot
slot_named (Loop l) = l.edge.from

-- `lead_forward` made nothing of a program, and what `why_not` says of that is the sentence
pub record IsStopped (p : List (Option Insn)) (decl : Decl) (rows : List KindRow) (r : Refusal) : Type 0 where
  pub fault : ForwardFault
  pub is : IsForwardFault p decl rows fault
  pub why : WhyNot
  pub says : SaysWhyNot p decl rows fault why
  pub told : IsRefusalOf (code_of why) (slot_named why) (slot_of why) (lines_of why) r

-- the bytes of a program that was laid out are refused: the slot is one of those, and may copy one of what was given
pub record IsLaidRefusal (l : Laid) (decl : Decl) (r : Refusal) : Type 0 where
  pub bytes : List ℕ
  pub is_program : IsProgram bytes l.program
  pub refused : IsRefusal bytes decl.context decl.held r
  pub given_is : r.given ≡ copied_in l.of.items r.slot

abbrev pub IsProgramRefused : List (Option Insn) → Decl → List KindRow → Refusal → Type 0
IsProgramRefused p decl rows r = IsStopped p decl rows r ⊎ ((l : Laid) × IsForward p decl rows (LaidOut l) × IsLaidRefusal l decl r)

-- bytes are refused as no program, as they are without this, or as the program that they encode
abbrev pub IsDecodedRefused : Option (ℕ × DecodeCode) → List ℕ → Decl → List KindRow → Refusal → Type 0
IsDecodedRefused (Some refusal) bytes decl rows =
    IsRefusalOf (Decode refusal.1) refusal.0 (Some refusal.0) (decode_sentence bytes refusal.0 refusal.1)
IsDecodedRefused None bytes decl rows = λ r. (p : List (Option Insn)) × IsProgram bytes p × IsProgramRefused p decl rows r

pub record IsRefusedForward (bytes : List ℕ) (context held : ℕ) (r : Refusal) : Type 0 where
  pub decl : Decl
  pub rows : List KindRow
  pub declared : AreDeclared context held decl rows
  pub is : IsDecodedRefused (decode_fault bytes) bytes decl rows r

abbrev pub IsForwardLoadFault : List ℕ → (context held : ℕ) → LoadFault → Type 0
IsForwardLoadFault bytes context held = IsFaultBy (IsRefusedForward bytes context held) context held
