-- What a job did, in an object: how it ended, and its output.
use Rattle.std.specs.Prelude.{ℕ, ◌++◌, List, [], codes, decimal, Option, Some, None}
use Rattle.ebpf_machine.specs.declared.report.Report.{Report}
use Rattle.ebpf_command.specs.Json.{number_list}

-- with which number a job exited, where it did
abbrev pub exit_member : Option ℕ → List ℕ
exit_member None = []
exit_member (Some exit) = codes ",\"exit\":" ++ decimal exit

-- the members before the numbers of the output
abbrev pub job_members : ℕ → Option ℕ → (executed peak : ℕ) → List ℕ
job_members job exit executed peak =
    codes "{\"job\":" ++ (decimal job ++ (exit_member exit ++ (codes ",\"executed\":" ++ (decimal executed ++
    (codes ",\"peak\":" ++ (decimal peak ++ codes ",\"output\":["))))))

abbrev pub job_object : ℕ → Report → List ℕ
job_object job r = job_members job r.exit r.executed r.peak ++ (number_list r.output ++ codes "]}\n")
