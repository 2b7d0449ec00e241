-- Why an input or an option can't be used, as the sentence of a line: what it is, what is there, and what is expected.
use Rattle.std.specs.Prelude.{ℕ, ◌∷◌, ◌++◌, ◌||◌, Bool, nat_lt, if◌then◌else◌, List, [], length, filter, codes, decimal, Option, Some, None}
use Rattle.std.specs.Prelude.{is_none, unwrap_or, slice_get, nat_eq}
use Rattle.std.specs.Char.{is_ascii_graphic}
use Rattle.std.specs.List.{prefix_len, starts_with}
use Rattle.hex.specs.Hex.{is_hex_digit}
use Rattle.ebpf_insn.specs.declared.fault.DecodeCode.{DecodeCode}
use Rattle.ebpf_explain.specs.DecodeSentences.{decode_sentence}
use Rattle.ebpf_explain.specs.Hex.{hex_digits}
use Rattle.ebpf_command.specs.declared.done.FaultCode.{FaultCode}
use Rattle.ebpf_command.specs.declared.done.FaultCode.TheVariants.{InputTooLong, BadNumber, BadHex}
use Rattle.ebpf_command.specs.HexText.{hex_or_dash}
use Rattle.ebpf_input.specs.declared.input_faults.Part.{Part}
use Rattle.ebpf_input.specs.declared.input_faults.Part.TheVariants.{Input, Context}
use Rattle.ebpf_input.specs.declared.form.Form.{Form}
use Rattle.ebpf_input.specs.declared.form.Form.TheVariants.{Hex, Raw}
use Rattle.ebpf_input.specs.ProgramText.{is_blank, spelled}

abbrev pub part_name : Part → List ℕ
part_name Input = codes "input"
part_name Context = codes "context"

-- hex digits may be in either, and blanks in the input
abbrev pub may_stand : Part → ℕ → Bool
may_stand Input byte = is_hex_digit byte || is_blank byte
may_stand Context byte = is_hex_digit byte

-- where the first byte is that may not be there; the length, where each may
abbrev pub place_of_other : Part → List ℕ → ℕ
place_of_other part text = prefix_len (may_stand part) text

-- a byte that prints is written as itself, and any other by its hex digits
abbrev pub shown_byte : ℕ → List ℕ
shown_byte byte = if is_ascii_graphic byte then byte ∷ [] else codes "0x" ++ hex_digits byte

-- how it is mended: bytes that don't print are likely to be those of the program
abbrev pub mending_of : Part → ℕ → List ℕ
mending_of Context byte = codes "leave out 0x, commas and blanks"
mending_of Input byte = if is_ascii_graphic byte then codes "leave out 0x and commas" else codes "use --raw for raw bytes, or xxd -p to turn them into hex"

abbrev pub other_byte : Part → ℕ → ℕ → List ℕ
other_byte part place byte =
    codes "byte " ++ (decimal place ++ (codes " of the " ++ (part_name part ++ (codes " is "
    ++ (shown_byte byte ++ (codes ", not a hex digit: " ++ mending_of part byte))))))

abbrev pub odd_digits : Part → ℕ → List ℕ
odd_digits part digits = codes "the " ++ (part_name part ++ (codes " has an odd number of hex digits, " ++ (decimal digits ++ codes ": two make a byte")))

-- by the first byte that may not be there, if there is one
abbrev pub unread_by : Part → List ℕ → Option ℕ → List ℕ
unread_by part text (Some byte) = other_byte part (place_of_other part text) byte
unread_by part text None = odd_digits part (length (filter is_hex_digit text))

-- why a text is no hex
abbrev pub unread : Part → List ℕ → List ℕ
unread part text = unread_by part text (slice_get text (place_of_other part text))

abbrev pub too_many_held : ℕ → List ℕ
too_many_held held = decimal held ++ codes " objects are to be held: at most 64 can be declared"

abbrev pub long_context : ℕ → List ℕ
long_context len = codes "the context has " ++ (decimal len ++ codes " bytes: at most 4096 can be declared")

-- what is declared that is too much
abbrev pub too_much : (context : List ℕ) (held : ℕ) → List ℕ
too_much context held = if nat_lt 64 held then too_many_held held else long_context (length (unwrap_or (hex_or_dash context) []))

-- the bytes begin as an object file does: with 0x7f and ELF
abbrev pub is_object : List ℕ → Bool
is_object bytes = starts_with nat_eq bytes (127 ∷ 69 ∷ 76 ∷ 70 ∷ [])

abbrev pub object_words : List ℕ
object_words = codes "the input is an object file: --elf reads a function from it"

-- the input is an object file or no hex, or else the context is no hex
abbrev pub unread_of : Form → (input context : List ℕ) → List ℕ
unread_of form input context =
    if is_none (spelled form input) then if is_object input then object_words else unread Input input
    else unread Context context

-- why bytes are no program: they are an object file, or what is wrong with a slot
abbrev pub undecoded_sentence : List ℕ → ℕ → DecodeCode → List ℕ
undecoded_sentence bytes slot code = if is_object bytes then codes "  " ++ (object_words ++ codes "\n") else decode_sentence bytes slot code

-- what a slot takes of the input
abbrev pub slot_size : Form → List ℕ
slot_size Hex = codes "16 hex digits"
slot_size Raw = codes "8 bytes"

-- by the first code that applies; no other is given to an input and options
abbrev pub fault_words : Form → (input context : List ℕ) (held : ℕ) → FaultCode → List ℕ
fault_words form input context held InputTooLong = codes "the input has more than 1048576 bytes: a program has at most 4096 slots, each of " ++ slot_size form
fault_words form input context held BadNumber = too_much context held
fault_words form input context held BadHex = unread_of form input context
fault_words form input context held _ = []

abbrev pub fault_sentence : Form → (input context : List ℕ) (held : ℕ) → FaultCode → List ℕ
fault_sentence form input context held code = codes "  " ++ (fault_words form input context held code ++ codes "\n")
