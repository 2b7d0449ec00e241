-- A parsed script: its programs in the order of their lines, and its events, or its jobs and what they run with.
use Rattle.std.specs.Prelude.{ℕ, ◌+◌, ◌++◌, List, [], ◌∷◌, codes, find, position, Option, Some, None, option_map, unwrap_or, if◌then◌else◌}
use Rattle.std.specs.Str.{bytes_eq}
use Rattle.ebpf_machine.specs.declared.answer.Answer.{Answer}
use Rattle.ebpf_machine.specs.declared.answer.Answer.TheVariants.{Absent, Null, Slot}
use Rattle.ebpf_core.specs.declared.event.Event.{Event}
use Rattle.ebpf_core.specs.declared.event.Event.TheVariants.{Start, Exec, Grow, Reap}
use Rattle.job_list.specs.declared.jobs.Job.{Job}
use Rattle.ebpf_command.specs.HexText.{hex_or_dash}
use Rattle.ebpf_reader.specs.Numbers.{context_of, held_of, run_of, kind_of, slot_of, pages_of}
use Rattle.ebpf_reader.specs.Shapes.{Shape, Passed, Unknown, ProgramLine, StartLine, ExecLine, AnsweredLine, GrowLine, ReapLine, ArenaLine, JobLine, PassLine}

-- a program: its name, what its hex says, and what it declares
pub record Named : Type 0 where
  pub name : List ℕ
  pub bytes : List ℕ
  pub context : ℕ
  pub held : ℕ

-- the pages are those of the arena, where a line says how many; the passes are those of the reaper
pub record ParsedScript : Type 0 where
  pub programs : List Named
  pub events : List Event
  pub pages : Option ℕ
  pub jobs : List Job
  pub passes : ℕ

abbrev pub empty_script : ParsedScript
empty_script = record { programs = []; events = []; pages = None; jobs = []; passes = 0 }

-- the number of the program of this name, from 0
unfoldable pub number_of : List Named → List ℕ → Option ℕ
number_of programs name = position (λ p. bytes_eq name p.name) programs

-- the length that the program of this name declares for its context
unfoldable pub declared_by : List Named → List ℕ → Option ℕ
declared_by programs name = option_map (λ p. p.context) (find (λ p. bytes_eq name p.name) programs)

-- the answer that a word gives: `null`, or a slot
unfoldable pub answer_of : List ℕ → Option Answer
answer_of word = if bytes_eq word (codes "null") then Some Null else option_map Slot (slot_of word)

-- one program more
abbrev pub with_program : ParsedScript → Named → ParsedScript
with_program parsed p = record parsed { programs = parsed.programs ++ p ∷ [] }

-- one event more
abbrev pub with_event : ParsedScript → Event → ParsedScript
with_event parsed e = record parsed { events = parsed.events ++ e ∷ [] }

-- one job more
abbrev pub with_job : ParsedScript → Job → ParsedScript
with_job parsed job = record parsed { jobs = parsed.jobs ++ job ∷ [] }

-- the script with a line more, which has no fault
abbrev pub with_line : ParsedScript → Shape → ParsedScript
with_line parsed Passed = parsed
with_line parsed Unknown = parsed
with_line parsed (ProgramLine name context held hex) = with_program parsed (record {
  name = name;
  bytes = unwrap_or (hex_or_dash hex) [];
  context = unwrap_or (context_of context) 0;
  held = unwrap_or (held_of held) 0;
})
with_line parsed (StartLine name hex) =
    with_event parsed (Start (unwrap_or (number_of parsed.programs name) 0) (unwrap_or (hex_or_dash hex) []))
with_line parsed (ExecLine run) = with_event parsed (Exec (unwrap_or (run_of run) 0) Absent)
with_line parsed (AnsweredLine run answer) =
    with_event parsed (Exec (unwrap_or (run_of run) 0) (unwrap_or (answer_of answer) Absent))
with_line parsed (GrowLine kind slot) =
    with_event parsed (Grow (unwrap_or (kind_of kind) 0) (unwrap_or (slot_of slot) 0))
with_line parsed (ReapLine kind slot) =
    with_event parsed (Reap (unwrap_or (kind_of kind) 0) (unwrap_or (slot_of slot) 0))
with_line parsed (ArenaLine pages) = record parsed { pages = pages_of pages }
with_line parsed (JobLine name hex) = with_job parsed (record {
  program = unwrap_or (number_of parsed.programs name) 0;
  context = unwrap_or (hex_or_dash hex) [];
})
with_line parsed PassLine = record parsed { passes = parsed.passes + 1 }
