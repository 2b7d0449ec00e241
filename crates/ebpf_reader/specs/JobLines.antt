-- A line of a stream of jobs: a job, or nothing.
use Rattle.std.specs.Prelude.{◌≡◌, ℕ, if◌then◌else◌, List, [], ◌∷◌, codes, length, map, slice_get, Option, Some, None, unwrap_or, IfSome}
use Rattle.std.specs.Str.{bytes_eq}
use Rattle.ebpf_command.specs.declared.done.FaultCode.{FaultCode}
use Rattle.ebpf_command.specs.declared.done.FaultCode.TheVariants.{UnprintableByte}
use Rattle.ebpf_command.specs.HexText.{hex_or_dash}
use Rattle.job_list.specs.declared.jobs.Job.{Job}
use Rattle.ebpf_reader.specs.LineFaults.{shape_fault}
use Rattle.ebpf_reader.specs.ParsedScript.{ParsedScript, number_of}
use Rattle.ebpf_reader.specs.ScriptLines.{is_text}
use Rattle.ebpf_reader.specs.Shapes.{Shape, Passed, Unknown, JobLine, is_comment}
use Rattle.ebpf_reader.specs.Words.{words}

abbrev pub run_shape : List ℕ → List (List ℕ) → Shape
run_shape first [] = Unknown
run_shape first (a ∷ []) = Unknown
run_shape first (a ∷ b ∷ []) =
    if bytes_eq first (codes "run") then JobLine a b else Unknown
run_shape first (a ∷ b ∷ c ∷ rest) = Unknown

-- blank lines and comments are passed over
abbrev pub stream_shape : List (List ℕ) → Shape
stream_shape [] = Passed
stream_shape (first ∷ rest) = if is_comment first then Passed else run_shape first rest

-- why a line can't be read, after this script
unfoldable pub job_line_fault : ParsedScript → List ℕ → Option FaultCode
job_line_fault parsed line = if is_text line then shape_fault parsed (stream_shape (words line)) else Some UnprintableByte

-- the job of a line that has one
abbrev pub job_of : ParsedScript → Shape → Option Job
job_of parsed (JobLine name hex) = Some (record {
  program = unwrap_or (number_of parsed.programs name) 0;
  context = unwrap_or (hex_or_dash hex) [];
})
job_of parsed _ = None

-- a line without a fault is this job, whose context is as long as its program declares, or it is none
pub record IsReadAs (parsed : ParsedScript) (line : List ℕ) (job : Option Job) : Type 0 where
  pub fine : job_line_fault parsed line ≡ None
  pub job_is : job ≡ job_of parsed (stream_shape (words line))
  pub declared : IfSome job (λ j. slice_get (map (λ p. p.context) parsed.programs) j.program ≡ Some (length j.context))
