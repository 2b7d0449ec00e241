-- Why something is not read.
use Rattle.std.specs.Prelude.{◌≡◌, Option, Some}
use Rattle.ebpf_command.specs.declared.done.FaultCode.{FaultCode}
use Rattle.ebpf_command.specs.declared.done.Stop.{Stop}
use Rattle.ebpf_command.specs.declared.done.Stop.TheVariants.{Fault, NoMemory}

-- a stop is the defined fault, or memory ran out
abbrev pub IsStop : Option FaultCode → Stop → Type 0
IsStop fault NoMemory = Unit {0}
IsStop fault (Fault code) = fault ≡ Some code
