-- The response of `run` to a text: the fault of the script, or the verdict on each program and then, where none is refused,
-- what came of the jobs. An object file that can't be read is refused first.
use Rattle.std.specs.Prelude.{◌≡◌, ◌<◌, ◌≤◌, ◌⊎◌, ℕ, ◌++◌, List, [], All, length, Option, Some, None}
use Rattle.ebpf_verify.specs.Subject.{Subject}
use Rattle.owners_table.specs.Owning.{SeatView}
use Rattle.job_list.specs.declared.jobs.Job.{Job}
use Rattle.worker_pool.specs.Outcomes.{JobsOutcome}
use Rattle.worker_pool.specs.Outcomes.{IsOutcome}
use Rattle.ebpf_object_file.specs.declared.fault.FileFault.{FileFault}
use Rattle.ebpf_object_file.specs.declared.object_fault.ObjectFault.TheVariants.{File}
use Rattle.ebpf_object_file.specs.File.{IsOpenFault, IsTableFault}
use Rattle.ebpf_lines.specs.declared.source.ObjectFile.{ObjectFile}
use Rattle.ebpf_lines.specs.Sources.{IsObjectFile}
use Rattle.ebpf_command.specs.declared.done.FaultCode.TheVariants.{InputTooLong}
use Rattle.ebpf_command.specs.declared.format.Format.{Format}
use Rattle.ebpf_command.specs.Json.{fault_in}
use Rattle.ebpf_command.specs.Response.{clean_response, refused_response}
use Rattle.ebpf_command.specs.Writing.{Responding}
use Rattle.ebpf_machine.specs.declared.report.Report.{Report}
use Rattle.ebpf_script.specs.declared.run_ask.Coverage.{Coverage}
use Rattle.ebpf_script.specs.declared.run_ask.Coverage.TheVariants.{Nothing, Counts, Tracefile}
use Rattle.ebpf_reader.specs.ParsedScript.{Named}
use Rattle.ebpf_reader.specs.declared.script.Dialect.TheVariants.{Jobs}
use Rattle.ebpf_reader.specs.Scripts.{parsed_text}
use Rattle.ebpf_input.specs.ObjectText.{object_fault_lines}
use Rattle.ebpf_report.specs.CoveredLines.{IsCovered, IsTraced}
use Rattle.ebpf_report.specs.RunAnswers.{jobs_in, totals_in}
use Rattle.ebpf_report.specs.ScriptText.{Doing, RespondsScript}
use Rattle.ebpf_report.specs.Verdicts.{verdict_lines, accepted_of}

-- what may come of jobs, however many workers do them: an outcome over seats that had noted nothing before
pub record MayCome (programs : List Subject) (jobs : List Job) (o : JobsOutcome) : Type 0 where
  pub before : List SeatView
  pub after : List SeatView
  pub unused : All (λ s. (s.notes ≡ []) × (s.fetches ≡ [])) before
  pub is : IsOutcome programs jobs before after o

abbrev pub outcome_in : Format → JobsOutcome → List ℕ
outcome_in format o = jobs_in format o.reports ++ totals_in format o

-- what is asked for of what the jobs executed
abbrev pub HasCounts : Coverage → Format → Option ObjectFile → List Named → List Subject → List Job → List Report → List ℕ → Type 0
HasCounts Nothing format object programs subjects jobs reports text = text ≡ []
HasCounts Counts format object programs subjects jobs reports text = IsCovered format object programs subjects jobs reports text
HasCounts Tracefile format object programs subjects jobs reports text = IsTraced object programs subjects jobs reports text

-- that is after the verdicts and the outcome, but for a tracefile, which is all of the text
abbrev pub with_counts : Coverage → (verdicts outcome counts : List ℕ) → List ℕ
with_counts Nothing verdicts outcome counts = verdicts ++ (outcome ++ counts)
with_counts Counts verdicts outcome counts = verdicts ++ (outcome ++ counts)
with_counts Tracefile verdicts outcome counts = counts

-- after the verdicts, an outcome of the jobs with the accepted programs, and what the jobs executed
abbrev pub DoesRun : Coverage → Format → Option ObjectFile → Doing
DoesRun covered format object parsed verdicts response =
    (o : JobsOutcome) × MayCome (accepted_of verdicts) parsed.jobs o
    × (counts : List ℕ) × HasCounts covered format object parsed.programs (accepted_of verdicts) parsed.jobs o.reports counts
    × (response ≡ clean_response (with_counts covered (verdict_lines format verdicts) (outcome_in format o) counts))

-- the response to a text, by an object file that was read if there is one
abbrev pub RespondsJobs : Coverage → Format → Option ObjectFile → Responding
RespondsJobs covered format object text response = RespondsScript format (DoesRun covered format object) (parsed_text Jobs text) response

-- The response with an object file. One that is too long or can't be read is refused, as `list` refuses it.
abbrev pub RespondsWith : Coverage → Format → (file : List ℕ) → Responding
RespondsWith covered format file text response =
    ((1048576 < length file) × (response ≡ refused_response (fault_in format InputTooLong 0)))
    ⊎ ((length file ≤ 1048576) × (e : FileFault) × (IsOpenFault file e ⊎ IsTableFault file e)
    × (response ≡ refused_response (object_fault_lines format (File e))))
    ⊎ ((length file ≤ 1048576) × (o : ObjectFile) × IsObjectFile file o × RespondsJobs covered format (Some o) text response)

abbrev pub RespondsRun : Coverage → Format → Option (List ℕ) → Responding
RespondsRun covered format None text response = RespondsJobs covered format None text response
RespondsRun covered format (Some file) text response = RespondsWith covered format file text response
