-- Raw bytes are responded to as each of their hex texts is.
use Rattle.std.specs.Prelude.{◌≡◌, ◌≤◌, ℕ, List, length, Option, Some, Result}
use Rattle.ebpf_command.specs.declared.done.Done.{Done}
use Rattle.ebpf_command.specs.declared.done.EngineFault.{EngineFault}
use Rattle.ebpf_command.specs.Writing.{Responding, Writes}
use Rattle.ebpf_input.specs.declared.ask.Input.{Input}
use Rattle.ebpf_input.specs.declared.ask.Input.TheVariants.{Program, Object}
use Rattle.ebpf_input.specs.declared.form.Form.{Form}
use Rattle.ebpf_input.specs.declared.form.Form.TheVariants.{Hex, Raw}
use Rattle.ebpf_input.specs.ProgramText.{program_bytes}

-- a text of hex digits for these bytes, no longer than an input may be
pub record IsHexText (hex bytes : List ℕ) : Type 0 where
  pub digits : program_bytes hex ≡ Some bytes
  pub fits : length hex ≤ 1048576

-- where the input is raw bytes, the response to each hex text of them is written
abbrev pub WritesAsHex : (Form → Responding) → Form → (input old new : Option (List ℕ)) → Result Done EngineFault → Type 0
WritesAsHex Sends form input old new result =
    (hex bytes : List ℕ) → form ≡ Raw → input ≡ Some bytes → IsHexText hex bytes → Writes (Sends Hex) (Some hex) old new result

-- nothing is said of an object file
abbrev pub WritesInputAsHex : (Form → Responding) → Input → (input old new : Option (List ℕ)) → Result Done EngineFault → Type 0
WritesInputAsHex Sends (Program form) input old new result = WritesAsHex Sends form input old new result
WritesInputAsHex Sends (Object name) input old new result = Unit {0}
