-- The line of C under what is said of a slot of a function.
use Rattle.std.specs.Prelude.{◌≡◌, ◌+◌, ◌*◌, ℕ, ◌++◌, min, Option, Some, None}
use Rattle.ebpf_object_file.specs.declared.holding_line.HoldingLine.{HoldingLine}
use Rattle.ebpf_object_file.specs.HoldingLine.{IsHoldingLine}
use Rattle.ebpf_command.specs.declared.format.Format.{Format}
use Rattle.ebpf_command.specs.Response.{Response}
use Rattle.ebpf_input.specs.declared.under.InFile.{InFile}
use Rattle.ebpf_input.specs.Formats.{place_in}

-- the byte of a slot of a function, from the section's first
abbrev pub byte_of : InFile → ℕ → ℕ
byte_of function slot = min (function.place.from + 8 * slot) 18446744073709551615

-- what is said, with the line under it
abbrev pub over_line : Format → Option HoldingLine → Response → Response
over_line format None said = said
over_line format (Some h) said = record { text = said.text ++ place_in format h.lines h.line; done = said.done }

abbrev pub IsOver : Format → Option InFile → Option ℕ → Response → Response → Type 0
IsOver format None slot said response = response ≡ said
IsOver format (Some function) None said response = response ≡ said
IsOver format (Some function) (Some slot) said response =
    (holding : Option HoldingLine) × IsHoldingLine function.file.now function.place (byte_of function slot) holding × (response ≡ over_line format holding said)
