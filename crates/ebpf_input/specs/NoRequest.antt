-- The response to a function that reads data of its file, of which no request is made.
use Rattle.std.specs.Prelude.{◌≡◌, ℕ, ◌++◌, List, codes, Option, Some, None}
use Rattle.ebpf_insn.specs.declared.insn.Insn.{Insn}
use Rattle.ebpf_object_file.specs.declared.data_function.DataFunction.{DataFunction}
use Rattle.ebpf_link.specs.declared.fault.LinkFault.{LinkFault}
use Rattle.ebpf_link.specs.declared.fault.LinkFault.TheVariants as link
use Rattle.ebpf_loader.specs.declared.fault.LoadFault.{LoadFault}
use Rattle.ebpf_loader.specs.declared.fault.LoadFault.TheVariants as load
use Rattle.ebpf_loader.specs.Sentences.{HasNames, link_sentence, load_sentence}
use Rattle.ebpf_command.specs.declared.codes.RefusalCode.TheVariants.{Decode}
use Rattle.ebpf_command.specs.declared.format.Format.{Format}
use Rattle.ebpf_command.specs.Codes.{refusal_name}
use Rattle.ebpf_command.specs.Response.{Response, refused_response}
use Rattle.ebpf_input.specs.declared.ask.Ask.{Ask}
use Rattle.ebpf_input.specs.declared.data_request.NoRequest.{NoRequest}
use Rattle.ebpf_input.specs.declared.data_request.NoRequest.TheVariants as no
use Rattle.ebpf_input.specs.declared.form.Form.TheVariants.{Raw}
use Rattle.ebpf_input.specs.declared.under.InFile.{InFile}
use Rattle.ebpf_input.specs.Formats.{fault_why_in, misled_response, refused_why_in}
use Rattle.ebpf_input.specs.InputFaults.{fault_sentence, undecoded_sentence}
use Rattle.ebpf_input.specs.ObjectText.{RespondsFault, fault_lines}
use Rattle.ebpf_input.specs.Under.{IsOver}

-- the slot of which a fault speaks
abbrev pub link_slot : LinkFault → Option ℕ
link_slot (link.Flow slot code) = Some slot
link_slot (link.NotWide slot) = Some slot
link_slot (link.Far slot) = Some slot
link_slot _ = None

abbrev pub load_slot : LoadFault → Option ℕ
load_slot (load.Undecoded slot code) = Some slot
load_slot (load.Unlinked p e) = link_slot e
load_slot _ = None

-- its sentence, as a line
abbrev pub load_line : List ℕ → LoadFault → List ℕ
load_line file e = codes "  " ++ (load_sentence file e ++ codes "\n")

abbrev pub load_fault_lines : Format → List ℕ → LoadFault → List ℕ
load_fault_lines format file e = fault_lines format (codes "O5") (load_line file e)

-- a program that was laid out or unrolled after it was linked may have no word that is certain to keep the context's pointer
abbrev pub no_word_line : List ℕ
no_word_line = codes "  " ++ (link_sentence link.NoWord ++ codes "\n")

abbrev pub no_word_response : Format → Response
no_word_response format = refused_response (fault_lines format (codes "O5") no_word_line)

-- what is said of a function that isn't linked: its bytes, or its flow, may be refused by themselves
abbrev pub unlinked_response : Format → List ℕ → List (Option Insn) → LinkFault → Response
unlinked_response format file p (link.Flow slot code) = misled_response format p slot code
unlinked_response format file p e = refused_response (load_fault_lines format file (load.Unlinked p e))

abbrev pub unloaded_response : Format → (file code : List ℕ) → LoadFault → Response
unloaded_response format file code (load.Undecoded slot why) =
    refused_response (refused_why_in format (refusal_name (Decode why)) slot (undecoded_sentence code slot why))
unloaded_response format file code (load.Unlinked p e) = unlinked_response format file p e
unloaded_response format file code e = refused_response (load_fault_lines format file e)

-- with the line of C that holds at the slot
abbrev pub RespondsUnloaded : Format → List ℕ → DataFunction → LoadFault → Response → Type 0
RespondsUnloaded format file f e response =
    (function : InFile) × (function.file.now ≡ file) × (function.place ≡ f.function.place)
    × IsOver format (Some function) (load_slot e) (unloaded_response format file f.function.code.now e) response

abbrev pub RespondsNoRequest : Ask → List ℕ → NoRequest → Response → Type 0
RespondsNoRequest ask file (no.Object e) response = RespondsFault ask.format file e response
RespondsNoRequest ask file (no.Unused f code) response =
    response ≡ refused_response (fault_why_in ask.format code 0 (fault_sentence Raw f.function.code.now ask.context.now ask.held code))
RespondsNoRequest ask file (no.Unloaded f e) response = RespondsUnloaded ask.format file f e response
RespondsNoRequest ask file no.NoMemory response = ⊥

-- the sections of which it speaks are in the file
abbrev pub CanBeNamed : List ℕ → NoRequest → Type 0
CanBeNamed file (no.Unloaded f e) = HasNames file e
CanBeNamed file _ = Unit {0}
