-- A line of C as it is shown: its file, its number and its text.
use Rattle.std.specs.Prelude.{ℕ, Bool, ◌<◌, ◌+◌, ◌*◌, ◌/◌, ◌++◌, List, Option, None, length, map, codes, decimal, cond, if◌then◌else◌, ◌||◌, ◌&&◌}
use Rattle.std.specs.Prelude.{◌==◌, slice_index_or}
use Rattle.std.specs.Char.{is_ascii_graphic}
use Rattle.ebpf_object_file.specs.declared.lines.Line.{Line}
use Rattle.ebpf_object_file.specs.declared.lines.Lines.{Lines}
use Rattle.ebpf_object_file.specs.Lines.{Holds, file_limit, text_limit, trimmed}
use Rattle.ebpf_object_file.specs.Text.{text_at}

-- a byte of a text, and `?` for one that is no visible character of ASCII and no blank
abbrev pub visible_byte : ℕ → ℕ
visible_byte byte = cond (is_ascii_graphic byte || byte == 32) byte 63

abbrev pub shown_line : (file : List ℕ) (line : ℕ) (text : List ℕ) → List ℕ
shown_line file line text = map visible_byte file ++ (codes ":" ++ (decimal line ++ (codes ": " ++ map visible_byte text)))

-- a line of a section's lines, as it is shown
abbrev pub shown_of : Lines → Line → List ℕ
shown_of l n = shown_line (text_at l.strings.now n.file file_limit) n.line (trimmed (text_at l.strings.now n.text text_limit))

-- the same with its column, where the compiler names one
abbrev pub shown_place : (file : List ℕ) (line column : ℕ) (text : List ℕ) → List ℕ
shown_place file line column text =
    if column == 0 then shown_line file line text
    else map visible_byte file
    ++ (codes ":" ++ (decimal line ++ (codes ":" ++ (decimal column ++ (codes ": " ++ map visible_byte text)))))

abbrev pub place_of : Lines → Line → List ℕ
place_of l n = shown_place (text_at l.strings.now n.file file_limit) n.line n.column (trimmed (text_at l.strings.now n.text text_limit))

-- the same as a line of text under another, indented
abbrev pub place_row : Lines → Line → List ℕ
place_row l n = codes "  " ++ (place_of l n ++ codes "\n")

-- the line that holds at each slot of a function that begins at a byte of the section
abbrev pub AreHolding : Lines → ℕ → List (Option Line) → Type 0
AreHolding l from holding = (k : ℕ) → k < length holding
    → Holds l.size l.records.now from (from + 8 * k) (length l.records.now / l.size) (slice_index_or holding k None)

-- two lines are one of a file
abbrev pub is_one_line : Line → Line → Bool
is_one_line a b = a.file == b.file && a.line == b.line
