-- JSON Lines: strings, and the objects of faults and refusals, each on a line.
use Rattle.std.specs.Prelude.{ℕ, ◌-◌, ◌/◌, ◌%◌, ◌++◌, ◌==◌, false, if◌then◌else◌, List, [], ◌∷◌, length, take, drop, codes, decimal}
use Rattle.std.specs.Char.{is_ascii_graphic}
use Rattle.std.specs.Fmt.{digit_glyph}
use Rattle.std.specs.List.{flat_map}
use Rattle.ebpf_command.specs.declared.done.FaultCode.{FaultCode}
use Rattle.ebpf_command.specs.declared.format.Format.{Format}
use Rattle.ebpf_command.specs.declared.format.Format.TheVariants.{Text, Json}
use Rattle.ebpf_command.specs.Lines.{fault_line, fault_name}

-- the character of this number, in hex digits
abbrev pub by_number : ℕ → List ℕ
by_number byte = codes "\\u00" ++ (digit_glyph false (byte / 16) ∷ digit_glyph false (byte % 16) ∷ [])

-- what is in a string for a byte: a visible character of ASCII and a space are themselves, but for a quote and a backslash
abbrev pub escaped_byte : ℕ → List ℕ
escaped_byte byte =
    if byte == 34 then codes "\\\"" else if byte == 92 then codes "\\\\" else
    if byte == 32 then codes " " else if is_ascii_graphic byte then byte ∷ [] else by_number byte

abbrev pub quoted : List ℕ → List ℕ
quoted bytes = codes "\"" ++ (flat_map escaped_byte bytes ++ codes "\"")

-- a number after others
abbrev pub later_number : ℕ → List ℕ
later_number n = codes "," ++ decimal n

-- a list of numbers, without its brackets
abbrev pub number_list : List ℕ → List ℕ
number_list [] = []
number_list (n ∷ later) = decimal n ++ flat_map later_number later

-- a line without the two blanks before it and the newline after it
abbrev pub sentence_of : List ℕ → List ℕ
sentence_of line = take (length line - 3) (drop 2 line)

-- a member after others: why something is refused, by the line that says so, if there is one
abbrev pub why_member : List ℕ → List ℕ
why_member line = if length line == 0 then [] else codes ",\"why\":" ++ quoted (sentence_of line)

-- the members of a fault, before why it is one
abbrev pub fault_head : FaultCode → ℕ → List ℕ
fault_head code line = codes "{\"fault\":\"" ++ (fault_name code ++ (codes "\",\"line\":" ++ decimal line))

-- the input or an option can't be used, for what is on this line
abbrev pub fault_object : FaultCode → ℕ → List ℕ → List ℕ
fault_object code line why = fault_head code line ++ (why_member why ++ codes "}\n")

-- the members of a refusal, before why it is one
abbrev pub refused_head : List ℕ → ℕ → List ℕ
refused_head code slot = codes "{\"refused\":\"" ++ (code ++ (codes "\",\"slot\":" ++ decimal slot))

-- the program is refused, at this slot
abbrev pub refused_object : List ℕ → ℕ → List ℕ → List ℕ
refused_object code slot why = refused_head code slot ++ (why_member why ++ codes "}\n")

-- a fault of which nothing more is said, in a format
abbrev pub fault_in : Format → FaultCode → ℕ → List ℕ
fault_in Text code line = fault_line code line
fault_in Json code line = fault_object code line []
