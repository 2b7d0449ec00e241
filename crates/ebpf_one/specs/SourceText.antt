-- The response of `list --source` to an object file: the instructions of the function that is asked for, with the lines of C between.
use Rattle.std.specs.Prelude.{◌≡◌, ◌≤◌, ◌<◌, ◌⊎◌, ℕ, zero, suc, ◌++◌, Bool, true, false, List, [], length, Option, Some, None, slice_index_or}
use Rattle.ebpf_insn.specs.declared.insn.Insn.{Insn}
use Rattle.ebpf_insn.specs.declared.fault.DecodeCode.{DecodeCode}
use Rattle.ebpf_insn.specs.Decoding.{decode_fault}
use Rattle.ebpf_insn.specs.Encoding.{IsProgram}
use Rattle.ebpf_insn.specs.Program.{insn_at}
use Rattle.ebpf_object_file.specs.declared.fault.FileFault.{FileFault}
use Rattle.ebpf_object_file.specs.declared.function.Function.{Function}
use Rattle.ebpf_object_file.specs.declared.lines.Line.{Line}
use Rattle.ebpf_object_file.specs.declared.lines.Lines.{Lines}
use Rattle.ebpf_object_file.specs.declared.object_fault.ObjectFault.{ObjectFault}
use Rattle.ebpf_object_file.specs.declared.object_fault.ObjectFault.TheVariants.{File}
use Rattle.ebpf_object_file.specs.Function.{IsWanted}
use Rattle.ebpf_object_file.specs.Shown.{AreHolding}
use Rattle.ebpf_object_file.specs.Source.{AreLinesOf, HasNoLinesOf, IsLinesOfFault}
use Rattle.ebpf_command.specs.Codes.{decode_name}
use Rattle.ebpf_command.specs.declared.format.Format.{Format}
use Rattle.ebpf_command.specs.Response.{Response, refused_response, clean_response}
use Rattle.ebpf_command.specs.Writing.{Responding}
use Rattle.ebpf_input.specs.declared.ask.Input.{Input}
use Rattle.ebpf_input.specs.declared.ask.Input.TheVariants.{Program, Object}
use Rattle.ebpf_input.specs.declared.form.Form.TheVariants.{Raw}
use Rattle.ebpf_input.specs.Formats.{refused_in}
use Rattle.ebpf_input.specs.ObjectText.{IsTakenFault, RespondsObjectOr, object_fault_lines}
use Rattle.ebpf_input.specs.SourceLine.{heading, held_before}
use Rattle.ebpf_one.specs.Formats.{insn_in}
use Rattle.ebpf_one.specs.DataListText.{ListsWithData}
use Rattle.ebpf_one.specs.ListText.{RespondsList}

abbrev pub slot_text : Format → Lines → List (Option Line) → List (Option Insn) → ℕ → List ℕ
slot_text format l holding p slot = heading format l (held_before holding slot) (slice_index_or holding slot None) ++ insn_in format slot (insn_at p slot)

-- the text of the slots below one
unfoldable pub sourced_below : Format → Lines → List (Option Line) → List (Option Insn) → ℕ → List ℕ
sourced_below format l holding p zero = []
sourced_below format l holding p (suc n) = sourced_below format l holding p n ++ slot_text format l holding p n

-- the program is written, with the line of C that holds at each slot, where the function begins at a byte of its section
pub record IsSourced (format : Format) (l : Lines) (from : ℕ) (p : List (Option Insn)) (response : Response) : Type 0 where
  pub holding : List (Option Line)
  pub whole : length holding ≡ length p
  pub are : AreHolding l from holding
  pub told : response ≡ clean_response (sourced_below format l holding p (length p))

-- bytes are refused as no program, or are the program that they encode
abbrev pub SourcesDecoded : Format → Option (ℕ × DecodeCode) → List ℕ → Lines → ℕ → Response → Type 0
SourcesDecoded format (Some refusal) bytes l from response = response ≡ refused_response (refused_in format (decode_name refusal.1) refusal.0)
SourcesDecoded format None bytes l from response = (p : List (Option Insn)) × IsProgram bytes p × IsSourced format l from p response

-- the file says nothing of the function's lines, or says what they are, or its lines can't be read
abbrev pub SourcesFunction : Format → List ℕ → Function → Response → Type 0
SourcesFunction format file f response =
    (HasNoLinesOf file f.place.section × RespondsList format Raw f.code.now response)
    ⊎ ((l : Lines) × AreLinesOf file f.place.section l × SourcesDecoded format (decode_fault f.code.now) f.code.now l f.place.from response)
    ⊎ ((e : FileFault) × IsLinesOfFault file f.place.section e × (response ≡ refused_response (object_fault_lines format (File e))))

-- the file is too long, which `list` says of it, or has the function that is asked for, or that one is no program by itself
abbrev pub RespondsSource : Format → List ℕ → Responding
RespondsSource format name file response =
    ((1048576 < length file) × RespondsList format Raw file response)
    ⊎ ((length file ≤ 1048576) × (f : Function) × IsWanted file name f × SourcesFunction format file f response)
    ⊎ ((e : ObjectFault) × IsTakenFault name file e × ListsWithData format true name file e response)

-- the response of `list` by what the input is, and whether the lines of C are listed
abbrev pub ListsInput : Format → Input → Bool → Responding
ListsInput format (Program form) lines = RespondsList format form
ListsInput format (Object name) true = RespondsSource format name.now
ListsInput format (Object name) false = RespondsObjectOr (ListsWithData format false) (RespondsList format Raw) name.now
