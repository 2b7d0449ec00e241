-- The response of `list` to a function that reads data of its file: its slots, with the data whose addresses they load.
use Rattle.std.specs.Prelude.{◌≡◌, ◌⊎◌, ◌/◌, ℕ, ◌++◌, Bool, true, false, List, [], length, codes, decimal, Option, Some, None, slice_index_or}
use Rattle.ebpf_insn.specs.declared.fault.DecodeCode.{DecodeCode}
use Rattle.ebpf_insn.specs.declared.insn.Insn.{Insn}
use Rattle.ebpf_insn.specs.declared.insn.Insn.TheVariants as insn
use Rattle.ebpf_insn.specs.declared.register.Reg.{Reg}
use Rattle.ebpf_insn.specs.Decoding.{decode_fault}
use Rattle.ebpf_insn.specs.Encoding.{IsProgram}
use Rattle.ebpf_insn.specs.Program.{insn_at}
use Rattle.ebpf_insn.specs.Registers.{number_of}
use Rattle.ebpf_text.specs.Operands.{offset_text}
use Rattle.ebpf_explain.specs.StackWords.{texts_below}
use Rattle.ebpf_object_file.specs.declared.data_function.DataFunction.{DataFunction}
use Rattle.ebpf_object_file.specs.declared.data_use.DataUse.{DataUse}
use Rattle.ebpf_object_file.specs.declared.fault.FileFault.{FileFault}
use Rattle.ebpf_object_file.specs.declared.lines.Lines.{Lines}
use Rattle.ebpf_object_file.specs.declared.object_fault.ObjectFault.{ObjectFault}
use Rattle.ebpf_object_file.specs.declared.object_fault.ObjectFault.TheVariants.{File}
use Rattle.ebpf_object_file.specs.DataFunction.{IsDataFault, IsDataFunction}
use Rattle.ebpf_object_file.specs.Sentences.{shown_name}
use Rattle.ebpf_object_file.specs.Shown.{AreHolding}
use Rattle.ebpf_object_file.specs.Source.{AreLinesOf, HasNoLinesOf, IsLinesOfFault, section_name}
use Rattle.ebpf_command.specs.Codes.{decode_name}
use Rattle.ebpf_command.specs.declared.format.Format.{Format}
use Rattle.ebpf_command.specs.declared.format.Format.TheVariants.{Text, Json}
use Rattle.ebpf_command.specs.Json.{quoted}
use Rattle.ebpf_command.specs.Response.{Response, clean_response, refused_response}
use Rattle.ebpf_input.specs.Formats.{refused_in}
use Rattle.ebpf_input.specs.ObjectText.{Refusing, RespondsFault, object_fault_lines}
use Rattle.ebpf_input.specs.SourceLine.{heading, held_before}
use Rattle.ebpf_one.specs.declared.data_list.Beside.{Beside}
use Rattle.ebpf_one.specs.declared.headed.Headed.{Headed}
use Rattle.ebpf_one.specs.Formats.{insn_in}

-- which data is meant: the name of its section, and the offset in it
unfoldable pub section_text : List ℕ → ℕ → List ℕ
section_text file section = shown_name (section_name file section)

unfoldable pub use_text : List ℕ → DataUse → List ℕ
use_text file u = section_text file u.section ++ offset_text u.offset

-- the instruction that loads its address
abbrev pub address_text : List ℕ → Reg → DataUse → List ℕ
address_text file dst u = codes "lddw r" ++ (decimal (number_of dst) ++ (codes ", " ++ use_text file u))

abbrev pub address_object : ℕ → List ℕ → List ℕ
address_object slot address = codes "{\"slot\":" ++ (decimal slot ++ (codes ",\"instruction\":" ++ (quoted address ++ codes "}\n")))

abbrev pub address_in : Format → ℕ → List ℕ → List ℕ
address_in Text slot address = decimal slot ++ (codes ": " ++ (address ++ codes "\n"))
address_in Json slot address = address_object slot address

-- any other instruction is written as it is
abbrev pub used_in : Format → List ℕ → ℕ → Option Insn → Option DataUse → List ℕ
used_in format file slot (Some (insn.Wide dst value)) (Some u) = address_in format slot (address_text file dst u)
used_in format file slot i u = insn_in format slot i

-- the line of C before a slot, if the lines are known
abbrev pub heading_in : Format → Option Headed → ℕ → List ℕ
heading_in format None slot = []
heading_in format (Some h) slot = heading format h.lines (held_before h.holding.now slot) (slice_index_or h.holding.now slot None)

abbrev pub row_of : Format → Beside → List (Option Insn) → ℕ → List ℕ
row_of format b p slot = heading_in format b.headed slot ++ used_in format b.file.now slot (insn_at p slot) (slice_index_or b.uses.now slot None)

-- bytes are refused as no program, or are the program that they encode
abbrev pub ListsDataDecoded : Format → Beside → Option (ℕ × DecodeCode) → List ℕ → Response → Type 0
ListsDataDecoded format b (Some refusal) code response = response ≡ refused_response (refused_in format (decode_name refusal.1) refusal.0)
ListsDataDecoded format b None code response =
    (p : List (Option Insn)) × IsProgram code p × (response ≡ clean_response (texts_below (length p) (row_of format b p)))

-- beside the slots of a function are the data of its file that they load and, if they are known, its lines of C
pub record ListsDataLined (format : Format) (file : List ℕ) (f : DataFunction) (headed : Option Headed) (response : Response) : Type 0 where
  pub beside : Beside
  pub file_is : beside.file.now ≡ file
  pub uses_are : beside.uses.now ≡ f.uses.items
  pub headed_is : beside.headed ≡ headed
  pub told : ListsDataDecoded format beside (decode_fault f.function.code.now) f.function.code.now response

-- the line that holds at each slot
pub record ListsDataSourced (format : Format) (file : List ℕ) (f : DataFunction) (l : Lines) (response : Response) : Type 0 where
  pub headed : Headed
  pub same : headed.lines ≡ l
  pub whole : length headed.holding.now ≡ length f.function.code.now / 8
  pub are : AreHolding l f.function.place.from headed.holding.now
  pub told : ListsDataLined format file f (Some headed) response

-- the lines of C are not asked for; or the file says nothing of them, or says what they are, or they can't be read
abbrev pub ListsDataFunction : Format → Bool → List ℕ → DataFunction → Response → Type 0
ListsDataFunction format false file f response = ListsDataLined format file f None response
ListsDataFunction format true file f response =
    (HasNoLinesOf file f.function.place.section × ListsDataLined format file f None response)
    ⊎ ((l : Lines) × AreLinesOf file f.function.place.section l × ListsDataSourced format file f l response)
    ⊎ ((e : FileFault) × IsLinesOfFault file f.function.place.section e × (response ≡ refused_response (object_fault_lines format (File e))))

-- a function that is no program by itself reads only data of its file, or needs more of it
abbrev pub ListsWithData : Format → Bool → Refusing
ListsWithData format lines name file e response =
    ((f : DataFunction) × IsDataFunction file name f × ListsDataFunction format lines file f response)
    ⊎ ((fault : ObjectFault) × IsDataFault file name fault × RespondsFault format file fault response)
