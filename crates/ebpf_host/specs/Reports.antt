-- What a run within a limit of instructions reports, against the program alone.
use Rattle.std.specs.Prelude.{◌≡◌, ◌≤◌, ℕ, List, length, Some, IfSome, IfNone}
use Rattle.ebpf_insn.specs.Program.{instructions}
use Rattle.ebpf_verify.specs.Subject.{Subject}
use Rattle.ebpf_machine.specs.declared.report.Report.{Report}
use Rattle.ebpf_machine.specs.Alone.{alone_after}
use Rattle.ebpf_machine.specs.Replies.{replies_in}
use Rattle.ebpf_machine.specs.View.{RunView, view_in}
use Rattle.ebpf_machine.specs.World.{Going}
use Rattle.ebpf_machine.specs.Whole.{IsReportOf}

-- after as many instructions as the report says, and with its replies, the run alone goes on, with the report's output; it held that many
-- objects at most
pub record IsCutOff (s : Subject) (context : List ℕ) (r : Report) : Type 0 where
  pub run : RunView
  pub alone : view_in (alone_after r.executed s context (replies_in r)).world 0 ≡ Some run
  pub going : run.status ≡ Going
  pub output : run.frame.output ≡ r.output
  -- the answers are those that its calls were given, no more and no fewer
  pub told : (run.replies ≡ r.answers) × (run.taken ≡ r.taken)
  pub peak : (alone_after r.executed s context (replies_in r)).peak ≡ r.peak

-- the run exited, and its report is that of the program alone; or it did as many instructions as it might, and was given up
pub record IsReportWithin (s : Subject) (context : List ℕ) (limit : ℕ) (r : Report) : Type 0 where
  pub exited : IfSome r.exit (λ exit. IsReportOf s context r)
  pub cut_off : IfNone r.exit ((r.executed ≡ limit) × IsCutOff s context r)
  pub within : r.executed ≤ limit
  pub bounded : r.executed ≤ length (instructions s.program)
  pub declared : r.peak ≤ s.decl.held
