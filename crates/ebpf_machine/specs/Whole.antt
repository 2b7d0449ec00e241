-- A run from its start to its exit: its report against the run alone, and what the answers that it reports say of a store.
use Rattle.std.specs.Prelude.{◌≡◌, ◌≤◌, ℕ, Bool, true, false, List, [], length, map, count_by, Option, Some, None, slice_get}
use Rattle.ebpf_insn.specs.Program.{instructions}
use Rattle.ebpf_verify.specs.Subject.{Subject}
use Rattle.ebpf_machine.specs.declared.report.Reply.{Reply}
use Rattle.ebpf_machine.specs.declared.report.Reply.TheVariants.{Null, Granted, Empty, Shelf}
use Rattle.ebpf_machine.specs.declared.report.Report.{Report}
use Rattle.ebpf_machine.specs.World.{Running}
use Rattle.ebpf_machine.specs.Alone.{Replies, alone_after, outcome_alone, replies_from}
use Rattle.ebpf_machine.specs.Replies.{more_than, outcome_in_report, replies_in}

-- ---- what a store counts

abbrev pub is_granted : Reply → Bool
is_granted Granted = true
is_granted Null = false
is_granted Empty = false
is_granted Shelf = false

abbrev pub is_null : Reply → Bool
is_null Null = true
is_null Granted = false
is_null Empty = false
is_null Shelf = false

abbrev pub is_fetched : Reply → Bool
is_fetched Shelf = true
is_fetched Empty = false
is_fetched Null = false
is_fetched Granted = false

-- how many of the answers to calls of new are objects, and how many are null
abbrev pub granted : List Reply → ℕ
granted replies = count_by is_granted replies

abbrev pub refused : List Reply → ℕ
refused replies = count_by is_null replies

-- how many of the answers to calls of swap are objects
abbrev pub fetched : List Reply → ℕ
fetched replies = count_by is_fetched replies

-- ---- the report

abbrev pub told_to : Option Running → Replies
told_to None = replies_from [] []
told_to (Some r) = replies_from (map (λ call. call.reply) r.calls) r.taken

-- what the run alone was answered by its end: a reply for each call of new and of swap that it made
abbrev pub told_alone : Subject → List ℕ → Replies → Replies
told_alone s context replies = told_to (slice_get (alone_after (length (instructions s.program)) s context replies).world.runs 0)

-- the run exited, and reports the outcome of the run alone with the replies of the report: these are what its calls were answered, no
-- more and no fewer, so replies after them would change nothing
pub record IsReportOf (s : Subject) (context : List ℕ) (r : Report) : Type 0 where
  pub exit : ℕ
  pub exited : r.exit ≡ Some exit
  pub same : outcome_alone s context (replies_in r) ≡ outcome_in_report exit r
  pub told : told_alone s context (replies_in r) ≡ replies_in r
  pub only : (more : Replies) → outcome_alone s context (more_than (replies_in r) more) ≡ outcome_in_report exit r
  pub few : length r.answers ≤ r.executed
  pub bounded : r.executed ≤ length (instructions s.program)
  pub declared : r.peak ≤ s.decl.held
