-- The response of `lay-out` to a function that reads data of its file: it is linked with that first. Below, a slot is that of which is spoken,
-- if it is one.
use Rattle.std.specs.Prelude.{◌≡◌, ◌⊎◌, ℕ, List, Option, Some, None}
use Rattle.ebpf_insn.specs.declared.fault.DecodeCode.{DecodeCode}
use Rattle.ebpf_insn.specs.declared.insn.Insn.{Insn}
use Rattle.ebpf_insn.specs.Decoding.{decode_fault}
use Rattle.ebpf_insn.specs.Encoding.{IsProgram}
use Rattle.ebpf_state.specs.declared.kinds.KindRow.{KindRow}
use Rattle.ebpf_verify.specs.declared.decl.Decl.{Decl}
use Rattle.ebpf_layout.specs.declared.fault.LayoutFault.{LayoutFault}
use Rattle.ebpf_layout.specs.declared.layout.Laid.{Laid}
use Rattle.ebpf_layout.specs.Refusal.{IsLayoutFault}
use Rattle.ebpf_forward.specs.declared.why_not.WhyNot.{WhyNot}
use Rattle.ebpf_forward.specs.Forward.{IsLaidFine}
use Rattle.ebpf_forward.specs.WhyNot.{SaysWhyNotLaid, slot_of}
use Rattle.ebpf_command.specs.declared.codes.RefusalCode.TheVariants.{Decode}
use Rattle.ebpf_command.specs.declared.format.Format.{Format}
use Rattle.ebpf_command.specs.Codes.{refusal_name}
use Rattle.ebpf_command.specs.Response.{Response, refused_response}
use Rattle.ebpf_command.specs.Writing.{Responding}
use Rattle.ebpf_input.specs.declared.ask.Ask.{Ask}
use Rattle.ebpf_input.specs.declared.data_request.DataRequest.{DataRequest}
use Rattle.ebpf_input.specs.DataRequest.{RespondsData}
use Rattle.ebpf_input.specs.Formats.{refused_why_in}
use Rattle.ebpf_input.specs.InputFaults.{undecoded_sentence}
use Rattle.ebpf_input.specs.NoRequest.{RespondsNoRequest}
use Rattle.ebpf_input.specs.ObjectText.{Refusing, RespondsInputOr}
use Rattle.ebpf_input.specs.WhyNot.{why_not_in}
use Rattle.ebpf_one.specs.declared.linked.Link.{Link}
use Rattle.ebpf_one.specs.LayOutText.{LaysOut}
use Rattle.ebpf_one.specs.LinkedText.{RespondsLinked, SendsLaid}

-- the linked program is laid out, and written with its data if the verifier accepts it and its word is right
pub record IsLinkedLaid (format : Format) (link : Link) (p : List (Option Insn)) (decl : Decl) (rows : List KindRow) (slot : Option ℕ) (response : Response) : Type 0 where
  pub laid : Laid
  pub is : IsLaidFine p laid
  pub sends : SendsLaid format None link (record { program = laid.program; decl = decl; rows = rows }) laid.of.items response
  pub unspoken : slot ≡ None

-- or it can't be, for this cause
pub record IsLinkedUnlaid (format : Format) (p : List (Option Insn)) (slot : Option ℕ) (response : Response) : Type 0 where
  pub fault : LayoutFault
  pub is : IsLayoutFault p fault
  pub why : WhyNot
  pub says : SaysWhyNotLaid p fault why
  pub of : slot ≡ slot_of why
  pub told : response ≡ refused_response (why_not_in format why)

abbrev pub LaysLinkedProgram : Format → Link → List (Option Insn) → Decl → List KindRow → Option ℕ → Response → Type 0
LaysLinkedProgram format link p decl rows slot response = IsLinkedLaid format link p decl rows slot response ⊎ IsLinkedUnlaid format p slot response

-- its bytes are refused as no program, or are the program that they encode
abbrev pub LaysLinkedDecoded : Format → Link → Option (ℕ × DecodeCode) → List ℕ → Decl → List KindRow → Option ℕ → Response → Type 0
LaysLinkedDecoded format link (Some refusal) bytes decl rows slot response =
    (slot ≡ Some refusal.0)
    × (response ≡ refused_response (refused_why_in format (refusal_name (Decode refusal.1)) refusal.0 (undecoded_sentence bytes refusal.0 refusal.1)))
LaysLinkedDecoded format link None bytes decl rows slot response =
    (p : List (Option Insn)) × IsProgram bytes p × LaysLinkedProgram format link p decl rows slot response

abbrev pub LaysRequest : Format → DataRequest → List KindRow → Link → Option ℕ → Response → Type 0
LaysRequest format r rows link slot said =
    LaysLinkedDecoded format link (decode_fault r.request.bytes.items) r.request.bytes.items r.request.decl rows slot said

abbrev pub LaysOutLinked : Format → List ℕ → DataRequest → Response → Type 0
LaysOutLinked format file r = RespondsLinked format file r (LaysRequest format r)

-- the response to such a function
abbrev pub LaysOutWithData : Ask → Refusing
LaysOutWithData ask name file = RespondsData ask (LaysOutLinked ask.format file) (RespondsNoRequest ask) name file

-- by what the input is
abbrev pub LaysOutInput : Ask → Responding
LaysOutInput ask = RespondsInputOr (LaysOutWithData ask) ask.input (LaysOut ask.format)
