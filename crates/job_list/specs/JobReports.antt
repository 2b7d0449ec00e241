-- The report of a job, by how it is kept.
use Rattle.std.specs.Prelude.{ℕ, Bool, true, false, [], Option, Some, None}
use Rattle.ebpf_machine.specs.declared.report.Report.{Report}
use Rattle.job_list.specs.declared.job_report.Kept.{Kept}
use Rattle.job_list.specs.declared.job_report.Kept.TheVariants.{Answered, All}
use Rattle.job_list.specs.declared.job_report.Numbers.{Numbers}
use Rattle.job_list.specs.declared.job_report.Rest.{Rest}

-- the number that a run returned, where it exited
abbrev pub exit_of : (exited : Bool) → (exit : ℕ) → Option ℕ
exit_of true exit = Some exit
exit_of false exit = None

abbrev pub numbers_in : Kept → Numbers
numbers_in (Answered few numbers exit) = numbers
numbers_in (All few numbers rest) = numbers

-- the rest that is kept: lists that are not are empty
abbrev pub rest_in : Kept → Rest
rest_in (Answered few numbers exit) = record { exit = exit; output = []; answers = few; taken = [] }
rest_in (All few numbers rest) = rest.value

abbrev pub report_of : Numbers → Rest → Report
report_of numbers rest = record {
  exit = exit_of numbers.exited rest.exit;
  output = rest.output;
  executed = numbers.executed;
  answers = rest.answers;
  taken = rest.taken;
  peak = numbers.peak;
}
