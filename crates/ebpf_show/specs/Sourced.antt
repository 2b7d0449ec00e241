-- What is shown beside what is known before each slot: the lines of C of a function, and the slots that are copied.
use Rattle.std.specs.Prelude.{ℕ, ◌++◌, ◌||◌, Bool, false, List, [], length, Option, Some, None, cond, is_some, slice_index_or}
use Rattle.ebpf_insn.specs.Program.{insn_at}
use Rattle.ebpf_object_file.specs.declared.lines.Line.{Line}
use Rattle.ebpf_object_file.specs.declared.lines.Lines.{Lines}
use Rattle.ebpf_verify.specs.declared.entry.EntryState.{EntryState}
use Rattle.ebpf_verify.specs.Subject.{Subject}
use Rattle.ebpf_explain.specs.StackWords.{texts_below}
use Rattle.ebpf_command.specs.declared.format.Format.{Format}
use Rattle.ebpf_command.specs.Response.{Response}
use Rattle.ebpf_input.specs.Formats.{place_in}
use Rattle.ebpf_input.specs.SourceLine.{heading, held_before}
use Rattle.ebpf_show.specs.KnownObjects.{known_in, slot_in}
use Rattle.ebpf_show.specs.declared.sourced.Beside.{Beside}
use Rattle.ebpf_show.specs.declared.sourced.Sourced.{Sourced}
use Rattle.ebpf_show.specs.Copies.{copy_row_if}

-- the line of C before a slot, where the lines are to be listed
abbrev pub heading_of : Format → Option Sourced → ℕ → List ℕ
heading_of format None slot = []
heading_of format (Some source) slot =
    cond source.listed (heading format source.lines (held_before source.holding.now slot) (slice_index_or source.holding.now slot None)) []

-- what is known before a slot, and before that what is beside it
abbrev pub row_of : Format → Beside → Subject → List EntryState → ℕ → List ℕ
row_of format beside s entries slot =
    heading_of format beside.source slot
    ++ (copy_row_if format beside.copies slot (insn_at s.program slot) ++ slot_in format s.program entries s.rows slot)

-- whether anything is
abbrev pub is_listed : Option Sourced → Bool
is_listed None = false
is_listed (Some source) = source.listed

abbrev pub is_beside : Beside → Bool
is_beside beside = is_listed beside.source || is_some beside.copies

abbrev pub listed_lines : Format → Beside → Subject → List EntryState → List ℕ
listed_lines format beside s entries =
    cond (is_beside beside) (texts_below (length entries) (row_of format beside s entries)) (known_in format s entries)

-- a line with its column, indented
abbrev pub place_row : Format → Lines → Option Line → List ℕ
place_row format l None = []
place_row format l (Some n) = place_in format l n

-- what is written of a refused slot, and under it the line that holds there, where the lines are known
abbrev pub with_line : Format → Option Sourced → ℕ → Response → Response
with_line format None slot r = r
with_line format (Some s) slot r = record { text = r.text ++ place_row format s.lines (slice_index_or s.holding.now slot None); done = r.done }
