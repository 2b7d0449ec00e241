-- The script that a text is parsed to, or its fault: the lowest line that has one, by its first code.
use Rattle.std.specs.Prelude.{ℕ, ◌+◌, nat_lt, if◌then◌else◌, List, [], ◌∷◌, length, Option, Some, None, Result, Ok, Err}
use Rattle.ebpf_command.specs.declared.done.FaultCode.{FaultCode}
use Rattle.ebpf_command.specs.declared.done.FaultCode.TheVariants.{InputTooLong}
use Rattle.ebpf_reader.specs.declared.script.Dialect.{Dialect}
use Rattle.ebpf_reader.specs.LineFaults.{line_fault}
use Rattle.ebpf_reader.specs.ParsedScript.{ParsedScript, empty_script, with_line}
use Rattle.ebpf_reader.specs.ScriptLines.{script_lines}
use Rattle.ebpf_reader.specs.Shapes.{shape_of}
use Rattle.ebpf_reader.specs.Words.{words}

-- a line's fault, or else what the lines after it give
abbrev pub unless_fault : ℕ → Option FaultCode → Result ParsedScript (ℕ × FaultCode) → Result ParsedScript (ℕ × FaultCode)
unless_fault number None behind = behind
unless_fault number (Some code) behind = Err (number, code)

-- the lines from this number on, after the script of the lines before them
abbrev pub parsed_lines : Dialect → ℕ → ParsedScript → List (List ℕ) → Result ParsedScript (ℕ × FaultCode)
parsed_lines dialect number parsed [] = Ok parsed
parsed_lines dialect number parsed (line ∷ lines) =
    unless_fault number (line_fault dialect parsed line) (parsed_lines dialect (number + 1) (with_line parsed (shape_of dialect (words line))) lines)

-- lines count from 1; a text that is too long is no line's fault
unfoldable pub parsed_text : Dialect → List ℕ → Result ParsedScript (ℕ × FaultCode)
parsed_text dialect text =
    if nat_lt 1048576 (length text) then Err (0, InputTooLong) else parsed_lines dialect 1 empty_script (script_lines text)
