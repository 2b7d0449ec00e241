-- What is known before each slot, as objects of JSON.
use Rattle.std.specs.Prelude.{ℕ, ◌++◌, ◌==◌, if◌then◌else◌, List, [], length, drop, codes, Option, Some, None}
use Rattle.ebpf_insn.specs.declared.insn.Insn.{Insn}
use Rattle.ebpf_insn.specs.Program.{insn_at}
use Rattle.ebpf_state.specs.declared.kinds.KindRow.{KindRow}
use Rattle.ebpf_verify.specs.declared.entry.EntryState.{EntryState}
use Rattle.ebpf_verify.specs.declared.entry.EntryState.TheVariants.{Unreached, Known, Conflict}
use Rattle.ebpf_verify.specs.declared.comers.Comer.{Comer}
use Rattle.ebpf_verify.specs.Comers.{comers}
use Rattle.ebpf_verify.specs.Entry.{entry_in}
use Rattle.ebpf_verify.specs.Subject.{Subject}
use Rattle.ebpf_explain.specs.Known.{known_words}
use Rattle.ebpf_explain.specs.Lost.{lost_line}
use Rattle.ebpf_explain.specs.Slots.{known_lines, slot_lines}
use Rattle.ebpf_explain.specs.StackWords.{texts_below}
use Rattle.ebpf_command.specs.declared.format.Format.{Format}
use Rattle.ebpf_command.specs.declared.format.Format.TheVariants.{Text, Json}
use Rattle.ebpf_command.specs.Json.{quoted, sentence_of}
use Rattle.ebpf_input.specs.Formats.{instruction_object}

-- the words of what is known, without the two blanks before the first
abbrev pub known_object : List ℕ → List ℕ
known_object words = codes "{\"known\":" ++ (quoted (drop 2 words) ++ codes "}\n")

-- the line of what is lost, if anything is
abbrev pub lost_object : List ℕ → List ℕ
lost_object line = if length line == 0 then [] else codes "{\"lost\":" ++ (quoted (sentence_of line) ++ codes "}\n")

abbrev pub entry_objects : List KindRow → List Comer → EntryState → List ℕ
entry_objects rows cs (Known s) = known_object (known_words s rows) ++ lost_object (lost_line cs s)
entry_objects rows cs Unreached = codes "{\"known\":\"never entered\"}\n"
entry_objects rows cs Conflict = codes "{\"known\":\"paths meet that hold different objects\"}\n"

abbrev pub objects_at : List KindRow → ℕ → Option Insn → List Comer → EntryState → List ℕ
objects_at rows slot None cs entry = []
objects_at rows slot (Some i) cs entry = entry_objects rows cs entry ++ instruction_object slot i

abbrev pub slot_objects : List (Option Insn) → List EntryState → List KindRow → ℕ → List ℕ
slot_objects p entries rows slot = objects_at rows slot (insn_at p slot) (comers p slot) (entry_in entries slot)

-- what is known before a slot, and before each slot, in a format
abbrev pub slot_in : Format → List (Option Insn) → List EntryState → List KindRow → ℕ → List ℕ
slot_in Text p entries rows slot = slot_lines p entries rows slot
slot_in Json p entries rows slot = slot_objects p entries rows slot

abbrev pub known_in : Format → Subject → List EntryState → List ℕ
known_in Text s entries = known_lines s entries
known_in Json s entries = texts_below (length entries) (slot_objects s.program entries s.rows)
