-- How each line of a stream of jobs is answered.
use Rattle.std.specs.Prelude.{◌≡◌, ℕ, ◌+◌, ◌++◌, nat_lt, if◌then◌else◌, Bool, true, false, List, [], ◌∷◌, length, slice_get, Option, Some, None}
use Rattle.ebpf_verify.specs.Subject.{Subject}
use Rattle.ebpf_machine.specs.declared.report.Report.{Report}
use Rattle.ebpf_machine.specs.Whole.{IsReportOf}
use Rattle.job_list.specs.declared.jobs.Job.{Job}
use Rattle.ebpf_host.specs.Finding.{FindsIn}
use Rattle.ebpf_host.specs.Leaving.{left_in}
use Rattle.ebpf_host.specs.Stocks.{shelf_bytes}
use Rattle.ebpf_command.specs.declared.done.FaultCode.{FaultCode}
use Rattle.ebpf_command.specs.declared.done.FaultCode.TheVariants.{InputTooLong}
use Rattle.ebpf_command.specs.declared.format.Format.{Format}
use Rattle.ebpf_command.specs.declared.format.Format.TheVariants.{Text, Json}
use Rattle.ebpf_command.specs.Json.{fault_in}
use Rattle.ebpf_reader.specs.JobLines.{job_line_fault, job_of, stream_shape}
use Rattle.ebpf_reader.specs.ParsedScript.{ParsedScript}
use Rattle.ebpf_reader.specs.Words.{words}
use Rattle.ebpf_report.specs.OutcomeLines.{report_lines}
use Rattle.ebpf_report.specs.OutcomeObjects.{job_object}
use Rattle.ebpf_stream.specs.declared.answers.Answers.{Answers}

-- what jobs are done with: the format of the answers, a script, and its programs, which are accepted
pub record Setting : Type 0 where
  pub format : Format
  pub parsed : ParsedScript
  pub subjects : List Subject

-- how far a stream is answered: how many jobs were done and how many lines were read, whether a line could not be read, and the bytes of
-- what is on each shelf of the machine, by the shelf's number
pub record Position : Type 0 where
  pub jobs : ℕ
  pub lines : ℕ
  pub faulty : Bool
  pub shelves : ℕ → Option (List ℕ)

-- before the first line
abbrev pub start : Position
start = record { jobs = 0; lines = 0; faulty = false; shelves = λ shelf. None }

abbrev pub position_of : Answers → Position
position_of a = record { jobs = a.place.jobs; lines = a.place.lines; faulty = a.place.faulty; shelves = λ shelf. shelf_bytes a.machine shelf }

-- why a line can't be read; one that is too long isn't looked at further
unfoldable pub stream_fault : ParsedScript → List ℕ → Option FaultCode
stream_fault parsed line = if nat_lt 65536 (length line) then Some InputTooLong else job_line_fault parsed line

-- what a job did, under its number
abbrev pub report_in : Format → ℕ → Report → List ℕ
report_in Text job r = report_lines job r
report_in Json job r = job_object job r

-- a line with no job is answered nothing, and a job what it did, by a report of its program alone. Its calls of swap find what is on the
-- shelves, and what it leaves there is there for the next
abbrev pub IsDone : Setting → Option Job → (before after : Position) → List ℕ → Type 0
IsDone s None before after text = (after ≡ record before { lines = before.lines + 1 }) × (text ≡ [])
IsDone s (Some job) before after text =
    (subject : Subject) × (r : Report) × (slice_get s.subjects job.program ≡ Some subject) × IsReportOf subject job.context r
    × ((shelf : ℕ) → FindsIn subject job.context r shelf (before.shelves shelf))
    × (after ≡ record before { jobs = before.jobs + 1; lines = before.lines + 1; shelves = λ shelf. left_in subject job.context r shelf (before.shelves shelf) })
    × (text ≡ report_in s.format before.jobs r)

-- a fault is answered with the number of its line, from 1
abbrev pub IsAnsweredBy : Setting → Option FaultCode → Option Job → (before after : Position) → List ℕ → Type 0
IsAnsweredBy s (Some code) job before after text =
    (after ≡ record before { lines = before.lines + 1; faulty = true }) × (text ≡ fault_in s.format code (before.lines + 1))
IsAnsweredBy s None job before after text = IsDone s job before after text

-- a line is answered with a text, which takes the stream from one position to the next
abbrev pub IsAnswered : Setting → List ℕ → (before after : Position) → List ℕ → Type 0
IsAnswered s line before after text = IsAnsweredBy s (stream_fault s.parsed line) (job_of s.parsed (stream_shape (words line))) before after text

-- lines are answered one after another
abbrev pub AreAnswered : Setting → List (List ℕ) → (before after : Position) → List ℕ → Type 0
AreAnswered s [] before after text = (after ≡ before) × (text ≡ [])
AreAnswered s (line ∷ lines) before after text =
    (next : Position) × (here rest : List ℕ) × IsAnswered s line before next here × AreAnswered s lines next after rest × (text ≡ here ++ rest)
