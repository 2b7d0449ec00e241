-- The lines of C of a program with their counts, in the form of gcov: the count, the number and the text. Files are in the order of the first
-- slots that come from them, and the lines of each in the order of their numbers.
use Rattle.std.specs.Prelude.{ℕ, zero, suc, ◌-◌, ◌^◌, ◌++◌, ◌==◌, if◌then◌else◌, List, [], length, map, codes, decimal, Option, Some, None}
use Rattle.std.specs.Fmt.{format_spec, styled_decimal}
use Rattle.ebpf_command.specs.declared.format.Format.{Format}
use Rattle.ebpf_command.specs.declared.format.Format.TheVariants.{Text, Json}
use Rattle.ebpf_command.specs.Json.{quoted}
use Rattle.ebpf_explain.specs.StackWords.{texts_below}
use Rattle.ebpf_object_file.specs.declared.lines.Line.{Line}
use Rattle.ebpf_object_file.specs.declared.lines.Lines.{Lines}
use Rattle.ebpf_object_file.specs.Lines.{file_limit, text_limit, trimmed}
use Rattle.ebpf_object_file.specs.Shown.{visible_byte}
use Rattle.ebpf_object_file.specs.Text.{text_at}
use Rattle.ebpf_lines.specs.LineCounts.{line_below, most_below, file_begun}

-- a number at the right of that many places, or wider if it is so
abbrev pub right_of : (places : ℕ) → ℕ → List ℕ
right_of places n = styled_decimal (format_spec 32 3 0 places (2 ^ 64 - 1)) n

abbrev pub count_column : ℕ → List ℕ
count_column count = if count == 0 then codes "    #####" else right_of 9 count

abbrev pub file_of : Lines → (file : ℕ) → List ℕ
file_of l file = text_at l.strings.now file file_limit

abbrev pub text_of : Lines → Line → List ℕ
text_of l n = trimmed (text_at l.strings.now n.text text_limit)

-- ---- a line

abbrev pub number_column : ℕ → List ℕ
number_column number = codes ":" ++ (right_of 5 number ++ codes ":")

abbrev pub line_row : Lines → (count : ℕ) → Line → List ℕ
line_row l count n = count_column count ++ (number_column n.line ++ (map visible_byte (text_of l n) ++ codes "\n"))

abbrev pub name_member : (name : List ℕ) → List ℕ
name_member name = codes "{\"covered\":\"" ++ (name ++ codes "\",\"file\":")

abbrev pub file_members : (name : List ℕ) → Lines → Line → List ℕ
file_members name l n = name_member name ++ quoted (file_of l n.file)

abbrev pub count_members : (number count : ℕ) → List ℕ
count_members number count = codes ",\"line\":" ++ (decimal number ++ (codes ",\"executed\":" ++ decimal count))

abbrev pub source_member : Lines → Line → List ℕ
source_member l n = codes ",\"source\":" ++ (quoted (text_of l n) ++ codes "}\n")

abbrev pub line_object : (name : List ℕ) → Lines → (count : ℕ) → Line → List ℕ
line_object name l count n = file_members name l n ++ (count_members n.line count ++ source_member l n)

abbrev pub line_in : Format → (name : List ℕ) → Lines → (count : ℕ) → Line → List ℕ
line_in Text name l count n = line_row l count n
line_in Json name l count n = line_object name l count n

-- ---- the lines of a file

abbrev pub line_if : Format → (name : List ℕ) → Lines → (count : ℕ) → Option Line → List ℕ
line_if format name l count None = []
line_if format name l count (Some n) = line_in format name l count n

-- what is written of a number: nothing of 0, and of one that is no slot's line
abbrev pub numbered : Format → (name : List ℕ) → Lines → List (Option Line) → (executed : ℕ → ℕ) → (file number : ℕ) → List ℕ
numbered format name l holding executed file zero = []
numbered format name l holding executed file (suc number) =
    line_if format name l (most_below executed holding file (suc number) (length holding)) (line_below holding file (suc number) (length holding))

abbrev pub file_row : Lines → (file : ℕ) → List ℕ
file_row l file = codes "        -:    0:Source:" ++ (map visible_byte (file_of l file) ++ codes "\n")

abbrev pub file_head : Format → Lines → (file : ℕ) → List ℕ
file_head Text l file = file_row l file
file_head Json l file = []

abbrev pub file_lines : Format → (name : List ℕ) → Lines → List (Option Line) → (executed : ℕ → ℕ) → (file : ℕ) → List ℕ
file_lines format name l holding executed file =
    file_head format l file ++ texts_below 4294967296 (numbered format name l holding executed file)

-- ---- the files of a program

abbrev pub file_if : Format → (name : List ℕ) → Lines → List (Option Line) → (executed : ℕ → ℕ) → Option Line → List ℕ
file_if format name l holding executed None = []
file_if format name l holding executed (Some n) = file_lines format name l holding executed n.file

abbrev pub program_head : Format → (name : List ℕ) → List ℕ
program_head Text name = codes "        -:    0:Program:" ++ (name ++ codes "\n")
program_head Json name = []

abbrev pub source_lines : Format → (name : List ℕ) → Lines → List (Option Line) → (executed : ℕ → ℕ) → List ℕ
source_lines format name l holding executed =
    program_head format name
    ++ texts_below (length holding) (λ slot. file_if format name l holding executed (file_begun holding slot))
