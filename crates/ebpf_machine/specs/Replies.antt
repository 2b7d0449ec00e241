-- The replies of a run, and of a report, for the run alone; and the outcome that a report gives.
use Rattle.std.specs.Prelude.{ℕ, ◌++◌}
use Rattle.ebpf_machine.specs.declared.report.Report.{Report}
use Rattle.ebpf_machine.specs.View.{RunView}
use Rattle.ebpf_machine.specs.World.{Exited}
use Rattle.ebpf_machine.specs.Alone.{Replies, Outcome, replies_from}

-- a run's own, and those of a report
abbrev pub replies_of : RunView → Replies
replies_of v = replies_from v.replies v.taken

abbrev pub replies_in : Report → Replies
replies_in r = replies_from r.answers r.taken

-- with more after them
abbrev pub more_than : Replies → Replies → Replies
more_than replies more = replies_from (replies.answers ++ more.answers) (replies.taken ++ more.taken)

-- the outcome that a report gives of a run that exited with this number
abbrev pub outcome_in_report : ℕ → Report → Outcome
outcome_in_report n r = record { status = Exited n; output = r.output; executed = r.executed; peak = r.peak }
