-- What a job did, in lines: the numbers of its output, and how it ended.
use Rattle.std.specs.Prelude.{ℕ, ◌++◌, List, [], codes, decimal, Option, Some, None}
use Rattle.std.specs.List.{flat_map}
use Rattle.ebpf_machine.specs.declared.report.Report.{Report}

-- a number of a job's output
abbrev pub job_emit_line : ℕ → ℕ → List ℕ
job_emit_line job value = codes "emit " ++ (decimal job ++ (codes " " ++ (decimal value ++ codes "\n")))

-- how a job ended that exited, after its number
abbrev pub ending_words : (exit executed peak : ℕ) → List ℕ
ending_words exit executed peak =
    codes " exit " ++ (decimal exit ++ (codes " executed " ++ (decimal executed ++ (codes " peak " ++ (decimal peak ++ codes "\n")))))

-- how a job ended, where it exited
abbrev pub job_line : ℕ → Option ℕ → (executed peak : ℕ) → List ℕ
job_line job None executed peak = []
job_line job (Some exit) executed peak = codes "job " ++ (decimal job ++ ending_words exit executed peak)

abbrev pub report_lines : ℕ → Report → List ℕ
report_lines job r = flat_map (job_emit_line job) r.output ++ job_line job r.exit r.executed r.peak
