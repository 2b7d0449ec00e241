-- Why a line can't be used: the first of its faults, in the order of their codes.
use Rattle.std.specs.Prelude.{ℕ, Bool, not, ◌==◌, if◌then◌else◌, List, [], ◌∷◌, length, Option, Some, None, is_none, is_some, unwrap_or}
use Rattle.ebpf_insn.specs.Faults.{first_of}
use Rattle.ebpf_command.specs.declared.done.FaultCode.{FaultCode}
use Rattle.ebpf_command.specs.declared.done.FaultCode.TheVariants.{UnprintableByte, UnknownLine, BadNumber, BadHex, BadName, UndefinedName}
use Rattle.ebpf_command.specs.declared.done.FaultCode.TheVariants.{SecondArena, WrongContextLength}
use Rattle.ebpf_command.specs.HexText.{hex_or_dash}
use Rattle.ebpf_reader.specs.declared.script.Dialect.{Dialect}
use Rattle.ebpf_reader.specs.Names.{is_name}
use Rattle.ebpf_reader.specs.Numbers.{context_of, held_of, run_of, kind_of, slot_of, pages_of}
use Rattle.ebpf_reader.specs.ParsedScript.{Named, ParsedScript, number_of, declared_by, answer_of}
use Rattle.ebpf_reader.specs.ScriptLines.{is_text}
use Rattle.ebpf_reader.specs.Shapes.{Shape, shape_of}
use Rattle.ebpf_reader.specs.Shapes.{Passed, Unknown, ProgramLine, StartLine, ExecLine, AnsweredLine, GrowLine, ReapLine, ArenaLine, JobLine, PassLine}
use Rattle.ebpf_reader.specs.Words.{words}

-- whether bytes are as many as the program of this name declares for its context
abbrev pub is_as_declared : List Named → List ℕ → List ℕ → Bool
is_as_declared programs name bytes = length bytes == unwrap_or (declared_by programs name) 0

-- a context that hasn't as many bytes as are declared
abbrev pub length_fault : ℕ → List ℕ → Option FaultCode
length_fault declared bytes = first_of ((not (length bytes == declared), WrongContextLength) ∷ [])

-- after what the lines before say
abbrev pub shape_fault : ParsedScript → Shape → Option FaultCode
shape_fault parsed Passed = None
shape_fault parsed Unknown = Some UnknownLine
shape_fault parsed (ProgramLine name context held hex) = first_of (
    (is_none (context_of context), BadNumber) ∷
    (is_none (held_of held), BadNumber) ∷
    (is_none (hex_or_dash hex), BadHex) ∷
    (not (is_name name), BadName) ∷
    (is_some (number_of parsed.programs name), BadName) ∷
    [])
shape_fault parsed (StartLine name hex) = first_of (
    (is_none (hex_or_dash hex), BadHex) ∷
    (not (is_name name), BadName) ∷
    (is_none (number_of parsed.programs name), UndefinedName) ∷
    [])
shape_fault parsed (ExecLine run) = first_of (
    (is_none (run_of run), BadNumber) ∷
    [])
shape_fault parsed (AnsweredLine run answer) = first_of (
    (is_none (run_of run), BadNumber) ∷
    (is_none (answer_of answer), BadNumber) ∷
    [])
shape_fault parsed (GrowLine kind slot) = first_of (
    (is_none (kind_of kind), BadNumber) ∷
    (is_none (slot_of slot), BadNumber) ∷
    [])
shape_fault parsed (ReapLine kind slot) = first_of (
    (is_none (kind_of kind), BadNumber) ∷
    (is_none (slot_of slot), BadNumber) ∷
    [])
shape_fault parsed (ArenaLine pages) = first_of (
    (is_none (pages_of pages), BadNumber) ∷
    (is_some parsed.pages, SecondArena) ∷
    [])
shape_fault parsed (JobLine name hex) = first_of (
    (is_none (hex_or_dash hex), BadHex) ∷
    (not (is_name name), BadName) ∷
    (is_none (number_of parsed.programs name), UndefinedName) ∷
    (not (is_as_declared parsed.programs name (unwrap_or (hex_or_dash hex) [])), WrongContextLength) ∷
    [])
shape_fault parsed PassLine = None

-- a line that is passed over too has text bytes alone
unfoldable pub line_fault : Dialect → ParsedScript → List ℕ → Option FaultCode
line_fault dialect parsed line = if is_text line then shape_fault parsed (shape_of dialect (words line)) else Some UnprintableByte
