-- The line of a fault, as bytes, with numbers in decimal.
use Rattle.std.specs.Prelude.{ℕ, ◌++◌, List, codes, decimal}
use Rattle.ebpf_command.specs.declared.done.FaultCode.{FaultCode}
use Rattle.ebpf_command.specs.declared.done.FaultCode.TheVariants.{InputTooLong, UnprintableByte, UnknownLine, BadNumber, BadHex, BadName}
use Rattle.ebpf_command.specs.declared.done.FaultCode.TheVariants.{UndefinedName, SecondArena, WrongContextLength}

abbrev pub fault_name : FaultCode → List ℕ
fault_name InputTooLong = codes "S1"
fault_name UnprintableByte = codes "S2"
fault_name UnknownLine = codes "S3"
fault_name BadNumber = codes "S4"
fault_name BadHex = codes "S5"
fault_name BadName = codes "S6"
fault_name UndefinedName = codes "S7"
fault_name SecondArena = codes "S8"
fault_name WrongContextLength = codes "S9"

-- the input or an option can't be used, for what is on this line
abbrev pub fault_line : FaultCode → ℕ → List ℕ
fault_line code line = codes "fault " ++ (fault_name code ++ (codes " line " ++ (decimal line ++ codes "\n")))
