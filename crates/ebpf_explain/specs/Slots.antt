-- What is known before each slot, as the line before that of its instruction.
use Rattle.std.specs.Prelude.{ℕ, List, [], length, ◌++◌, codes, Option, Some, None}
use Rattle.ebpf_insn.specs.declared.insn.Insn.{Insn}
use Rattle.ebpf_insn.specs.Program.{insn_at}
use Rattle.ebpf_text.specs.Listing.{line_of}
use Rattle.ebpf_state.specs.declared.kinds.KindRow.{KindRow}
use Rattle.ebpf_verify.specs.declared.entry.EntryState.{EntryState}
use Rattle.ebpf_verify.specs.declared.entry.EntryState.TheVariants.{Unreached, Known, Conflict}
use Rattle.ebpf_verify.specs.declared.comers.Comer.{Comer}
use Rattle.ebpf_verify.specs.Comers.{comers}
use Rattle.ebpf_verify.specs.Entry.{entry_in}
use Rattle.ebpf_verify.specs.Subject.{Subject}
use Rattle.ebpf_explain.specs.Known.{known_words}
use Rattle.ebpf_explain.specs.Lost.{lost_line}
use Rattle.ebpf_explain.specs.StackWords.{texts_below}

-- what is known of the runs that come there, if any do, and what is lost of what each that comes knows
abbrev pub entry_line : List KindRow → List Comer → EntryState → List ℕ
entry_line rows cs (Known s) = known_words s rows ++ (codes "\n" ++ lost_line cs s)
entry_line rows cs Unreached = codes "  never entered\n"
entry_line rows cs Conflict = codes "  paths meet that hold different objects\n"

-- a second half of an instruction has no lines
abbrev pub lines_at : List KindRow → ℕ → Option Insn → List Comer → EntryState → List ℕ
lines_at rows slot None cs entry = []
lines_at rows slot (Some i) cs entry = entry_line rows cs entry ++ line_of slot i

abbrev pub slot_lines : List (Option Insn) → List EntryState → List KindRow → ℕ → List ℕ
slot_lines p entries rows slot = lines_at rows slot (insn_at p slot) (comers p slot) (entry_in entries slot)

-- those of the slots that these come to
abbrev pub known_lines : Subject → List EntryState → List ℕ
known_lines s entries = texts_below (length entries) (slot_lines s.program entries s.rows)
