-- Why a script can't be read, as the sentence of a line: the script's line as it is, and what is expected.
use Rattle.std.specs.Prelude.{ℕ, ◌-◌, ◌++◌, ◌&&◌, nat_le, nat_lt, if◌then◌else◌, List, [], length, map, take, codes, decimal, slice_index_or}
use Rattle.ebpf_command.specs.declared.done.FaultCode.{FaultCode}
use Rattle.ebpf_command.specs.declared.done.FaultCode.TheVariants.{InputTooLong, UnprintableByte, UnknownLine, BadNumber, BadHex, BadName}
use Rattle.ebpf_command.specs.declared.done.FaultCode.TheVariants.{UndefinedName, SecondArena, WrongContextLength}
use Rattle.ebpf_reader.specs.ScriptLines.{script_lines}

-- a byte that prints, or a space; a question mark for any other
abbrev pub shown_byte : ℕ → ℕ
shown_byte byte = if nat_le 32 byte && nat_le byte 126 then byte else 63

-- the first 60 bytes of a line, and three points where it has more
abbrev pub shown_line : List ℕ → List ℕ
shown_line line = map shown_byte (take 60 line) ++ (if nat_lt 60 (length line) then codes "..." else [])

-- a text that is too long is no line's fault
abbrev pub expected : FaultCode → List ℕ
expected InputTooLong = []
expected UnprintableByte = codes "a line may have only printable ASCII and tabs"
expected UnknownLine = codes "no line of this command has this first word and this many words"
expected BadNumber = codes "a number is out of range, or is not all digits"
expected BadHex = codes "hex must be an even number of digits, or -"
expected BadName = codes "a name must have 1 to 32 letters, digits, _ or -, and only one program line"
expected UndefinedName = codes "its program line must come before it"
expected SecondArena = codes "there may be only one arena line"
expected WrongContextLength = codes "the context must be as long as its program declares"

abbrev pub line_sentence : List ℕ → ℕ → FaultCode → List ℕ
line_sentence line number code = codes "  line " ++ (decimal number ++ (codes " is " ++ (shown_line line ++ (codes ": " ++ (expected code ++ codes "\n")))))

-- the line of a number; lines count from 1
abbrev pub numbered_line : List ℕ → ℕ → List ℕ
numbered_line text number = slice_index_or (script_lines text) (number - 1) []

abbrev pub script_fault_sentence : List ℕ → ℕ → FaultCode → List ℕ
script_fault_sentence text number InputTooLong = codes "  the script has more than 1048576 bytes\n"
script_fault_sentence text number code = line_sentence (numbered_line text number) number code
