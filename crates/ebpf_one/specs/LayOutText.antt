-- The response of `lay-out` to its input: the hex of the program laid out anew, or why it can't be.
use Rattle.std.specs.Prelude.{◌≡◌, ◌⊎◌, ℕ, ◌++◌, List, Option, Some, None, codes}
use Rattle.hex.specs.Hex.{encode_lower}
use Rattle.ebpf_insn.specs.declared.fault.DecodeCode.{DecodeCode}
use Rattle.ebpf_insn.specs.declared.insn.Insn.{Insn}
use Rattle.ebpf_insn.specs.Encoding.{IsProgram}
use Rattle.ebpf_insn.specs.Decoding.{decode_fault}
use Rattle.ebpf_flow.specs.Flow.{flow_fault}
use Rattle.ebpf_layout.specs.declared.fault.LayoutFault.{LayoutFault}
use Rattle.ebpf_layout.specs.Layout.{IsLaidOut}
use Rattle.ebpf_layout.specs.Refusal.{IsLayoutFault}
use Rattle.ebpf_forward.specs.declared.why_not.WhyNot.{WhyNot}
use Rattle.ebpf_forward.specs.WhyNot.{SaysWhyNotLaid}
use Rattle.ebpf_command.specs.declared.codes.RefusalCode.TheVariants.{Decode}
use Rattle.ebpf_command.specs.declared.done.FaultCode.{FaultCode}
use Rattle.ebpf_command.specs.declared.format.Format.{Format}
use Rattle.ebpf_command.specs.declared.format.Format.TheVariants.{Text, Json}
use Rattle.ebpf_command.specs.Codes.{refusal_name}
use Rattle.ebpf_command.specs.Json.{fault_in}
use Rattle.ebpf_command.specs.Response.{Response, refused_response, clean_response}
use Rattle.ebpf_command.specs.Writing.{Responding}
use Rattle.ebpf_input.specs.declared.form.Form.{Form}
use Rattle.ebpf_input.specs.Asked.{bytes_in, input_fault}
use Rattle.ebpf_input.specs.InputFaults.{undecoded_sentence}
use Rattle.ebpf_input.specs.Formats.{refused_why_in}
use Rattle.ebpf_input.specs.WhyNot.{why_not_in}

-- bytes as hex, on one line
abbrev pub hex_in : Format → List ℕ → List ℕ
hex_in Text bytes = encode_lower bytes ++ codes "\n"
hex_in Json bytes = codes "{\"hex\":\"" ++ (encode_lower bytes ++ codes "\"}\n")

-- the bytes of a program as hex
abbrev pub IsHexOf : Format → List (Option Insn) → Response → Type 0
IsHexOf format q response = (bytes : List ℕ) × IsProgram bytes q × (response ≡ clean_response (hex_in format bytes))

-- the program is laid out, and its flow is fine then
pub record IsLaidWell (format : Format) (p : List (Option Insn)) (response : Response) : Type 0 where
  pub program : List (Option Insn)
  pub laid_out : IsLaidOut p program
  pub fine : flow_fault program ≡ None
  pub told : IsHexOf format program response

-- or it can't be, for this cause
pub record IsNotLaid (format : Format) (p : List (Option Insn)) (response : Response) : Type 0 where
  pub fault : LayoutFault
  pub is : IsLayoutFault p fault
  pub why : WhyNot
  pub says : SaysWhyNotLaid p fault why
  pub told : response ≡ refused_response (why_not_in format why)

abbrev pub LaysOutProgram : Format → List (Option Insn) → Response → Type 0
LaysOutProgram format p response = IsLaidWell format p response ⊎ IsNotLaid format p response

-- bytes are refused as no program, or are the program that they encode
abbrev pub LaysOutDecoded : Format → Option (ℕ × DecodeCode) → List ℕ → Response → Type 0
LaysOutDecoded format (Some refusal) bytes response =
    response ≡ refused_response (refused_why_in format (refusal_name (Decode refusal.1)) refusal.0 (undecoded_sentence bytes refusal.0 refusal.1))
LaysOutDecoded format None bytes response = (p : List (Option Insn)) × IsProgram bytes p × LaysOutProgram format p response

-- the input can't be used, or gives bytes
abbrev pub LaysOutGiven : Format → Option FaultCode → List ℕ → Response → Type 0
LaysOutGiven format (Some code) bytes response = response ≡ refused_response (fault_in format code 0)
LaysOutGiven format None bytes response = LaysOutDecoded format (decode_fault bytes) bytes response

-- the response of `lay-out` in a format to an input of a form
abbrev pub LaysOut : Format → Form → Responding
LaysOut format form input response = LaysOutGiven format (input_fault form input) (bytes_in form input) response
