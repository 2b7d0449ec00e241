-- The lines in a format: as text, or as objects of JSON.
use Rattle.std.specs.Prelude.{ℕ, ◌++◌, List, [], codes, decimal, Option}
use Rattle.ebpf_insn.specs.declared.insn.Insn.{Insn}
use Rattle.ebpf_flow.specs.declared.fault.FlowCode.{FlowCode}
use Rattle.ebpf_text.specs.Listing.{insn_text}
use Rattle.ebpf_explain.specs.Reasons.{misled_in}
use Rattle.ebpf_object_file.specs.declared.lines.Line.{Line}
use Rattle.ebpf_object_file.specs.declared.lines.Lines.{Lines}
use Rattle.ebpf_object_file.specs.Lines.{file_limit, text_limit, trimmed}
use Rattle.ebpf_object_file.specs.Shown.{shown_of, place_row}
use Rattle.ebpf_object_file.specs.Text.{text_at}
use Rattle.ebpf_command.specs.declared.codes.RefusalCode.TheVariants.{Flow}
use Rattle.ebpf_command.specs.declared.done.FaultCode.{FaultCode}
use Rattle.ebpf_command.specs.declared.format.Format.{Format}
use Rattle.ebpf_command.specs.declared.format.Format.TheVariants.{Text, Json}
use Rattle.ebpf_command.specs.Codes.{refusal_name}
use Rattle.ebpf_command.specs.Json.{quoted, fault_object, refused_object}
use Rattle.ebpf_command.specs.Lines.{fault_line}
use Rattle.ebpf_command.specs.Response.{Response, refused_response}
use Rattle.ebpf_input.specs.Lines.{refused_line, accepted_line}

abbrev pub accepted_object : ℕ → List ℕ
accepted_object len = codes "{\"accepted\":" ++ (decimal len ++ codes "}\n")

abbrev pub accepted_in : Format → ℕ → List ℕ
accepted_in Text len = accepted_line len
accepted_in Json len = accepted_object len

-- a program that is refused at a slot, without why
abbrev pub refused_in : Format → List ℕ → ℕ → List ℕ
refused_in Text code slot = refused_line code slot
refused_in Json code slot = refused_object code slot []

-- the same with the line that says why
abbrev pub refused_why_in : Format → List ℕ → ℕ → List ℕ → List ℕ
refused_why_in Text code slot why = refused_line code slot ++ why
refused_why_in Json code slot why = refused_object code slot why

-- an edge of a slot leads to no instruction
abbrev pub misled_response : Format → List (Option Insn) → ℕ → FlowCode → Response
misled_response format p slot code = refused_response (refused_why_in format (refusal_name (Flow code)) slot (misled_in p slot code))

-- a fault with the line that says why
abbrev pub fault_why_in : Format → FaultCode → ℕ → List ℕ → List ℕ
fault_why_in Text code line why = fault_line code line ++ why
fault_why_in Json code line why = fault_object code line why

-- ---- instructions

abbrev pub instruction_object : ℕ → Insn → List ℕ
instruction_object slot i = codes "{\"slot\":" ++ (decimal slot ++ (codes ",\"instruction\":\"" ++ (insn_text i ++ codes "\"}\n")))

-- ---- lines of C

abbrev pub source_head : Lines → Line → List ℕ
source_head l n = codes "{\"file\":" ++ (quoted (text_at l.strings.now n.file file_limit) ++ (codes ",\"line\":" ++ decimal n.line))

abbrev pub source_tail : Lines → Line → List ℕ
source_tail l n = codes ",\"source\":" ++ (quoted (trimmed (text_at l.strings.now n.text text_limit)) ++ codes "}\n")

abbrev pub source_row_in : Format → Lines → Line → List ℕ
source_row_in Text l n = codes "; " ++ (shown_of l n ++ codes "\n")
source_row_in Json l n = source_head l n ++ source_tail l n

abbrev pub column_member : ℕ → List ℕ
column_member column = codes ",\"column\":" ++ decimal column

-- the same with its column, which is 0 where the compiler names none
abbrev pub place_in : Format → Lines → Line → List ℕ
place_in Text l n = place_row l n
place_in Json l n = source_head l n ++ (column_member n.column ++ source_tail l n)
