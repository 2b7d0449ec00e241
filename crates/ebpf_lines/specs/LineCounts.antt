-- The lines that hold at the slots of a program: which there are, and how often jobs came to each.
use Rattle.std.specs.Prelude.{ℕ, zero, suc, Bool, false, ◌==◌, ◌&&◌, ◌||◌, not, nat_lt, cond, if◌then◌else◌, List, Option, Some, None, slice_index_or}
use Rattle.ebpf_object_file.specs.declared.lines.Line.{Line}
use Rattle.ebpf_object_file.specs.Data.{any_below}

-- the line that holds at a slot
abbrev pub held : List (Option Line) → ℕ → Option Line
held holding slot = slice_index_or holding slot None

-- ---- one line: a number of a file

abbrev pub is_at : (file number : ℕ) → Option Line → Bool
is_at file number None = false
is_at file number (Some n) = n.file == file && n.line == number

abbrev pub or_this : (file number : ℕ) → Option Line → Option Line → Option Line
or_this file number (Some found) here = Some found
or_this file number None here = cond (is_at file number here) here None

-- the line of a number, as the first of the slots below n has it that has one
unfoldable pub line_below : List (Option Line) → (file number : ℕ) → ℕ → Option Line
line_below holding file number zero = None
line_below holding file number (suc n) = or_this file number (line_below holding file number n) (held holding n)

abbrev pub greater : ℕ → ℕ → ℕ
greater a b = if nat_lt a b then b else a

-- the most of the counts of the slots below n whose line it is
unfoldable pub most_below : (executed : ℕ → ℕ) → List (Option Line) → (file number : ℕ) → ℕ → ℕ
most_below executed holding file number zero = 0
most_below executed holding file number (suc n) =
    greater (most_below executed holding file number n) (cond (is_at file number (held holding n)) (executed n) 0)

-- ---- the files

-- a line of this file; a compiler gives the number 0 to what is of no line
abbrev pub is_of : (file : ℕ) → Option Line → Bool
is_of file None = false
is_of file (Some n) = n.file == file && not (n.line == 0)

abbrev pub begun_by : List (Option Line) → ℕ → Option Line → Option Line
begun_by holding slot None = None
begun_by holding slot (Some n) = if n.line == 0 || any_below (λ k. is_of n.file (held holding k)) slot then None else Some n

-- the line at a slot, if it is the first of its file
abbrev pub file_begun : List (Option Line) → ℕ → Option Line
file_begun holding slot = begun_by holding slot (held holding slot)
