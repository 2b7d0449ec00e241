-- What `run --covered` writes: for each program and each slot of an instruction how often all jobs executed it, and for a branch how often
-- it was taken. Of a program whose lines of C are known, these are written in place of its slots.
use Rattle.std.specs.Prelude.{◌≡◌, ℕ, ◌+◌, ◌++◌, Bool, true, false, List, [], ◌∷◌, codes, decimal, length, Option, Some, None, slice_get, slice_index_or}
use Rattle.ebpf_insn.specs.declared.insn.Insn.{Insn}
use Rattle.ebpf_insn.specs.declared.insn.Insn.TheVariants as insn
use Rattle.ebpf_text.specs.Listing.{insn_text}
use Rattle.ebpf_verify.specs.Subject.{Subject}
use Rattle.ebpf_machine.specs.declared.report.Report.{Report}
use Rattle.job_list.specs.declared.jobs.Job.{Job}
use Rattle.ebpf_cover.specs.Covered.{executed_in, taken_in}
use Rattle.ebpf_lines.specs.declared.source.ObjectFile.{ObjectFile}
use Rattle.ebpf_lines.specs.declared.source.Source.{Source}
use Rattle.ebpf_lines.specs.Sources.{IsSourceIn}
use Rattle.ebpf_explain.specs.StackWords.{texts_below}
use Rattle.ebpf_lines.specs.SourceText.{source_lines}
use Rattle.ebpf_lines.specs.Traced.{trace_by}
use Rattle.ebpf_lines.specs.Tracefile.{trace_sections}
use Rattle.ebpf_command.specs.declared.format.Format.{Format}
use Rattle.ebpf_command.specs.declared.format.Format.TheVariants.{Text, Json}
use Rattle.ebpf_reader.specs.ParsedScript.{Named}

abbrev pub is_branch : Insn → Bool
is_branch (insn.Branch width cond left right offset) = true
is_branch _ = false

-- how often a branch was taken; nothing of any other instruction
abbrev pub taken_words : Bool → ℕ → List ℕ
taken_words true taken = codes " taken " ++ decimal taken
taken_words false taken = []

abbrev pub taken_member : Bool → ℕ → List ℕ
taken_member true taken = codes ",\"taken\":" ++ decimal taken
taken_member false taken = []

abbrev pub counts_words : List ℕ → (slot executed : ℕ) → Bool → (taken : ℕ) → List ℕ
counts_words name slot executed branch taken =
    codes "covered " ++ (name ++ (codes " slot " ++ (decimal slot ++ (codes " executed " ++ (decimal executed ++ taken_words branch taken)))))

abbrev pub counts_members : List ℕ → (slot executed : ℕ) → List ℕ
counts_members name slot executed =
    codes "{\"covered\":\"" ++ (name ++ (codes "\",\"slot\":" ++ (decimal slot ++ (codes ",\"executed\":" ++ decimal executed))))

abbrev pub instruction_member : Insn → List ℕ
instruction_member i = codes ",\"instruction\":\"" ++ (insn_text i ++ codes "\"}\n")

-- and the instruction after them, as `list` has it
abbrev pub covered_line : List ℕ → (slot executed taken : ℕ) → Insn → List ℕ
covered_line name slot executed taken i = counts_words name slot executed (is_branch i) taken ++ (codes ": " ++ (insn_text i ++ codes "\n"))

abbrev pub covered_object : List ℕ → (slot executed taken : ℕ) → Insn → List ℕ
covered_object name slot executed taken i = counts_members name slot executed ++ (taken_member (is_branch i) taken ++ instruction_member i)

-- nothing of the second half of a wide instruction
abbrev pub covered_in : Format → List ℕ → (slot executed taken : ℕ) → Option Insn → List ℕ
covered_in format name slot executed taken None = []
covered_in Text name slot executed taken (Some i) = covered_line name slot executed taken i
covered_in Json name slot executed taken (Some i) = covered_object name slot executed taken i

-- the slots of a program from this number on, with the counts of each
unfoldable pub slots_from : Format → List ℕ → (executed taken : ℕ → ℕ) → ℕ → List (Option Insn) → List ℕ
slots_from format name executed taken slot [] = []
slots_from format name executed taken slot (i ∷ slots) =
    covered_in format name slot (executed slot) (taken slot) i ++ slots_from format name executed taken (slot + 1) slots

-- a program: its lines of C if it has some, and otherwise its slots
abbrev pub program_lines : Format → List ℕ → Option Source → (executed taken : ℕ → ℕ) → List (Option Insn) → List ℕ
program_lines format name None executed taken p = slots_from format name executed taken 0 p
program_lines format name (Some s) executed taken p = source_lines format name s.lines s.holding.items executed

-- the programs from this number on, with what the jobs of each executed, by the lines of each
unfoldable pub programs_from : Format → List (Option Source) → List Job → List Report → ℕ → List Named → List Subject → List ℕ
programs_from format sources jobs reports program [] subjects = []
programs_from format sources jobs reports program (p ∷ programs) [] = []
programs_from format sources jobs reports program (p ∷ programs) (s ∷ subjects) =
    program_lines format p.name (slice_index_or sources program None) (executed_in s program jobs reports) (taken_in s program jobs reports) s.program
    ++ programs_from format sources jobs reports (program + 1) programs subjects

-- the lines of C of each of these programs, by an object file if there is one
unfoldable pub AreSources : Option ObjectFile → List Named → List (Option Source) → Type 0
AreSources object [] [] = Unit {0}
AreSources object [] (s ∷ sources) = ⊥
AreSources object (p ∷ programs) [] = ⊥
AreSources object (p ∷ programs) (s ∷ sources) = IsSourceIn object p.bytes s × AreSources object programs sources

-- the text of what was covered
abbrev pub IsCovered : Format → Option ObjectFile → List Named → List Subject → List Job → List Report → List ℕ → Type 0
IsCovered format object programs subjects jobs reports text =
    (sources : List (Option Source)) × AreSources object programs sources
    × (text ≡ programs_from format sources jobs reports 0 programs subjects)

-- ---- a tracefile

abbrev pub trace_if : Option Source → (executed taken : ℕ → ℕ) → List (Option Insn) → List ℕ
trace_if None executed taken p = []
trace_if (Some s) executed taken p = trace_sections (trace_by s executed taken p)

abbrev pub trace_in : Option Source → (program : ℕ) → List Job → List Report → Option Subject → List ℕ
trace_in source program jobs reports None = []
trace_in source program jobs reports (Some s) = trace_if source (executed_in s program jobs reports) (taken_in s program jobs reports) s.program

-- what is written of the program of a number: nothing if it has no lines
abbrev pub trace_at : List (Option Source) → List Subject → List Job → List Report → (program : ℕ) → List ℕ
trace_at sources subjects jobs reports program =
    trace_in (slice_index_or sources program None) program jobs reports (slice_get subjects program)

-- the tracefile of what was covered
abbrev pub IsTraced : Option ObjectFile → List Named → List Subject → List Job → List Report → List ℕ → Type 0
IsTraced object programs subjects jobs reports text =
    (sources : List (Option Source)) × AreSources object programs sources
    × (text ≡ texts_below (length subjects) (trace_at sources subjects jobs reports))
