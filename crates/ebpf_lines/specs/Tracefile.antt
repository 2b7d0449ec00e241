-- The lines of C of a program as a tracefile of lcov: a section for each file, with a record for each line and for each way of a branch.
use Rattle.std.specs.Prelude.{ℕ, zero, suc, ◌+◌, ◌-◌, ◌++◌, ◌==◌, ◌&&◌, not, Bool, true, false, cond, if◌then◌else◌, List, [], length, map, codes, decimal, Option, Some, None}
use Rattle.ebpf_insn.specs.declared.insn.Insn.{Insn}
use Rattle.ebpf_insn.specs.declared.insn.Insn.TheVariants as insn
use Rattle.ebpf_explain.specs.StackWords.{texts_below}
use Rattle.ebpf_object_file.specs.declared.lines.Line.{Line}
use Rattle.ebpf_object_file.specs.declared.lines.Lines.{Lines}
use Rattle.ebpf_object_file.specs.Data.{any_below}
use Rattle.ebpf_object_file.specs.Sentences.{shown_name}
use Rattle.ebpf_object_file.specs.Shown.{visible_byte}
use Rattle.ebpf_lines.specs.LineCounts.{held, is_at, line_below, most_below, file_begun}
use Rattle.ebpf_lines.specs.SourceText.{file_of}

-- the name of a function, the lines of its slots, how often jobs executed each and left it for another than the next one, and which are branches
pub record Trace : Type 0 where
  pub function : List ℕ
  pub lines : Lines
  pub holding : List (Option Line)
  pub executed : ℕ → ℕ
  pub taken : ℕ → ℕ
  pub branch : ℕ → Bool

abbrev pub is_branch : Option Insn → Bool
is_branch (Some (insn.Branch width cond left right offset)) = true
is_branch _ = false

abbrev pub slots_of : Trace → ℕ
slots_of t = length t.holding

-- the sum of a function over the numbers below n
unfoldable pub sum_below : ℕ → (ℕ → ℕ) → ℕ
sum_below zero f = 0
sum_below (suc n) f = sum_below n f + f n

-- 1 of what is not 0
abbrev pub positive : ℕ → ℕ
positive n = if n == 0 then 0 else 1

-- ---- the branches of a line

-- how often a branch led to the next slot
abbrev pub passed_on : Trace → ℕ → ℕ
passed_on t slot = t.executed slot - t.taken slot

-- there is no number if no job came to the line
abbrev pub way_words : (most way : ℕ) → List ℕ
way_words most way = if most == 0 then codes "-" else decimal way

abbrev pub way_head : (number slot : ℕ) → (which : List ℕ) → List ℕ
way_head number slot which = codes "BRDA:" ++ (decimal number ++ (codes "," ++ (decimal slot ++ which)))

abbrev pub way_row : (number slot : ℕ) → (which : List ℕ) → (most way : ℕ) → List ℕ
way_row number slot which most way = way_head number slot which ++ (way_words most way ++ codes "\n")

abbrev pub branch_rows : Trace → (number most slot : ℕ) → List ℕ
branch_rows t number most slot =
    way_row number slot (codes ",0,") most (t.taken slot) ++ way_row number slot (codes ",1,") most (passed_on t slot)

-- a branch of this line is at a slot
abbrev pub is_branch_at : Trace → (file number slot : ℕ) → Bool
is_branch_at t file number slot = t.branch slot && is_at file number (held t.holding slot)

abbrev pub branch_if : Trace → (file number most slot : ℕ) → List ℕ
branch_if t file number most slot = if is_branch_at t file number slot then branch_rows t number most slot else []

abbrev pub ways_at : Trace → (file number slot : ℕ) → ℕ
ways_at t file number slot = cond (is_branch_at t file number slot) 2 0

abbrev pub ways_hit_at : Trace → (file number slot : ℕ) → ℕ
ways_hit_at t file number slot = cond (is_branch_at t file number slot) (positive (t.taken slot) + positive (passed_on t slot)) 0

-- ---- the lines of a file

abbrev pub most_of : Trace → (file number : ℕ) → ℕ
most_of t file number = most_below t.executed t.holding file number (slots_of t)

abbrev pub count_row : (number count : ℕ) → List ℕ
count_row number count = codes "DA:" ++ (decimal number ++ (codes "," ++ (decimal count ++ codes "\n")))

-- the branches of a line, and how often jobs came to it
abbrev pub line_record : Trace → (file number : ℕ) → List ℕ
line_record t file number =
    texts_below (slots_of t) (branch_if t file number (most_of t file number)) ++ count_row number (most_of t file number)

-- something of a number, if it is that of a line
abbrev pub of_line : {A : Type 0} → A → A → Option Line → A
of_line nothing here None = nothing
of_line nothing here (Some n) = here

abbrev pub at_line : {A : Type 0} → Trace → (file : ℕ) → A → (ℕ → A) → ℕ → A
at_line t file nothing here zero = nothing
at_line t file nothing here (suc number) = of_line nothing (here (suc number)) (line_below t.holding file (suc number) (slots_of t))

-- how many lines a file has, how many of them jobs came to, and the same of the ways of branches
abbrev pub lines_in : Trace → (file : ℕ) → ℕ → ℕ
lines_in t file number = at_line t file 0 (λ number. 1) number

abbrev pub hit_in : Trace → (file : ℕ) → ℕ → ℕ
hit_in t file number = at_line t file 0 (λ number. positive (most_of t file number)) number

abbrev pub ways_in : Trace → (file : ℕ) → ℕ → ℕ
ways_in t file number = at_line t file 0 (λ number. sum_below (slots_of t) (ways_at t file number)) number

abbrev pub ways_hit_in : Trace → (file : ℕ) → ℕ → ℕ
ways_hit_in t file number = at_line t file 0 (λ number. sum_below (slots_of t) (ways_hit_at t file number)) number

abbrev pub records_in : Trace → (file : ℕ) → ℕ → List ℕ
records_in t file number = at_line t file [] (line_record t file) number

-- ---- a file

abbrev pub branch_totals : (ways hit : ℕ) → List ℕ
branch_totals ways hit =
    if ways == 0 then [] else codes "BRF:" ++ (decimal ways ++ (codes "\nBRH:" ++ (decimal hit ++ codes "\n")))

abbrev pub line_totals : (found hit : ℕ) → List ℕ
line_totals found hit = codes "LF:" ++ (decimal found ++ (codes "\nLH:" ++ (decimal hit ++ codes "\nend_of_record\n")))

abbrev pub has_number : Option Line → Bool
has_number None = false
has_number (Some n) = not (n.line == 0)

-- no slot below this one has a line
abbrev pub is_first : Trace → (slot : ℕ) → Bool
is_first t slot = not (any_below (λ k. has_number (held t.holding k)) slot)

-- the function is of the file that the first of its lines is of, and was called as often as its first slot was executed
abbrev pub function_rows : (name : List ℕ) → (number calls : ℕ) → List ℕ
function_rows name number calls =
    codes "FN:" ++ (decimal number ++ (codes "," ++ (shown_name name ++ (codes "\nFNDA:" ++ (decimal calls ++ (codes "," ++ (shown_name name
    ++ (codes "\nFNF:1\nFNH:" ++ (decimal (positive calls) ++ codes "\n")))))))))

abbrev pub function_if : Bool → (name : List ℕ) → (number calls : ℕ) → List ℕ
function_if true name number calls = function_rows name number calls
function_if false name number calls = []

abbrev pub file_row : Lines → (file : ℕ) → List ℕ
file_row l file = codes "TN:\nSF:" ++ (map visible_byte (file_of l file) ++ codes "\n")

-- what is written of the numbers of a file
abbrev pub file_records : Trace → (file : ℕ) → List ℕ
file_records t file =
    texts_below 4294967296 (records_in t file)
    ++ (branch_totals (sum_below 4294967296 (ways_in t file)) (sum_below 4294967296 (ways_hit_in t file))
    ++ line_totals (sum_below 4294967296 (lines_in t file)) (sum_below 4294967296 (hit_in t file)))

abbrev pub file_section : Trace → (slot : ℕ) → Option Line → List ℕ
file_section t slot None = []
file_section t slot (Some n) =
    file_row t.lines n.file ++ (function_if (is_first t slot) t.function n.line (t.executed 0) ++ file_records t n.file)

-- the sections of a program
abbrev pub trace_sections : Trace → List ℕ
trace_sections t = texts_below (slots_of t) (λ slot. file_section t slot (file_begun t.holding slot))
