-- The program's bytes, from the input.
use Rattle.std.specs.Prelude.{ℕ, Bool, not, ◌==◌, ◌||◌, List, filter, Option, Some}
use Rattle.ebpf_command.specs.HexText.{hex_bytes}
use Rattle.ebpf_input.specs.declared.form.Form.{Form}
use Rattle.ebpf_input.specs.declared.form.Form.TheVariants.{Hex, Raw}

-- a tab, a newline, a carriage return or a space
abbrev pub is_blank : ℕ → Bool
is_blank c = c == 9 || c == 10 || c == 13 || c == 32

-- blanks may be anywhere between the digits
abbrev pub program_bytes : List ℕ → Option (List ℕ)
program_bytes input = hex_bytes (filter (λ c. not (is_blank c)) input)

-- as the form spells them: by hex digits, or as they are
abbrev pub spelled : Form → List ℕ → Option (List ℕ)
spelled Hex input = program_bytes input
spelled Raw input = Some input
