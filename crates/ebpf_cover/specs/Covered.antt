-- Which instructions runs executed, and where they went on elsewhere than at the next slot.
use Rattle.std.specs.Prelude.{◌≡◌, ℕ, zero, suc, ◌+◌, ◌==◌, ◌&&◌, not, cond, Bool, false, List, [], ◌∷◌, length, get_or, slice_get, Option, Some}
use Rattle.std.specs.Prelude.{None, option_map}
use Rattle.ebpf_insn.specs.declared.insn.Insn.{Insn}
use Rattle.ebpf_verify.specs.Subject.{Subject}
use Rattle.ebpf_machine.specs.declared.report.Report.{Report}
use Rattle.ebpf_machine.specs.Alone.{Replies, alone_after}
use Rattle.ebpf_machine.specs.Replies.{replies_in}
use Rattle.ebpf_machine.specs.View.{view_in}
use Rattle.job_list.specs.declared.jobs.Job.{Job}
use Rattle.ebpf_cover.specs.declared.counts.Counts.{Counts}

-- how many of the numbers below n are such
unfoldable pub times : (ℕ → Bool) → ℕ → ℕ
times is zero = 0
times is (suc n) = times is n + cond (is n) 1 0

-- ---- one run

-- the slot at which the run alone is after n instructions
abbrev pub slot_after : Subject → List ℕ → Replies → ℕ → Option ℕ
slot_after s context replies n = option_map (λ v. v.pc) (view_in (alone_after n s context replies).world 0)

abbrev pub is_slot : Option ℕ → ℕ → Bool
is_slot None slot = false
is_slot (Some pc) slot = pc == slot

-- it is at this slot then
abbrev pub is_at : Subject → List ℕ → Replies → (slot n : ℕ) → Bool
is_at s context replies slot n = is_slot (slot_after s context replies n) slot

-- and isn't at the next slot after one instruction more: a branch is taken
abbrev pub leaves : Subject → List ℕ → Replies → (slot n : ℕ) → Bool
leaves s context replies slot n = is_at s context replies slot n && not (is_at s context replies (slot + 1) (n + 1))

-- how often the run of a report executed the instruction at a slot
abbrev pub executed_by : Subject → List ℕ → ℕ → Report → ℕ
executed_by s context slot r = times (is_at s context (replies_in r) slot) r.executed

-- and how often it went on elsewhere than at the next slot
abbrev pub taken_by : Subject → List ℕ → ℕ → Report → ℕ
taken_by s context slot r = times (leaves s context (replies_in r) slot) r.executed

-- ---- the jobs of a program

-- the sum over the jobs of the program of this number, and their reports
unfoldable pub sum_of : (Job → Report → ℕ) → (program : ℕ) → List Job → List Report → ℕ
sum_of count program [] reports = 0
sum_of count program (job ∷ jobs) [] = 0
sum_of count program (job ∷ jobs) (r ∷ reports) = cond (job.program == program) (count job r) 0 + sum_of count program jobs reports

abbrev pub executed_in : Subject → (program : ℕ) → List Job → List Report → (slot : ℕ) → ℕ
executed_in s program jobs reports slot = sum_of (λ job r. executed_by s job.context slot r) program jobs reports

abbrev pub taken_in : Subject → (program : ℕ) → List Job → List Report → (slot : ℕ) → ℕ
taken_in s program jobs reports slot = sum_of (λ job r. taken_by s job.context slot r) program jobs reports

-- ---- counts

-- there is a count for each slot of the program
pub record AreLong (p : List (Option Insn)) (c : Counts) : Type 0 where
  pub executed : length c.executed.items ≡ length p
  pub taken : length c.taken.items ≡ length p

abbrev pub executed_at : Counts → ℕ → ℕ
executed_at c slot = get_or c.executed.items slot 0

abbrev pub taken_at : Counts → ℕ → ℕ
taken_at c slot = get_or c.taken.items slot 0

-- a whole run is counted, by its report: how often each slot was executed and left, before and after
pub record IsRunCounted (s : Subject) (context : List ℕ) (r : Report) (executed_old taken_old executed_new taken_new : ℕ → ℕ) : Type 0 where
  pub executed : (slot : ℕ) → executed_new slot ≡ executed_old slot + executed_by s context slot r
  pub taken : (slot : ℕ) → taken_new slot ≡ taken_old slot + taken_by s context slot r

-- the counts of a program over all jobs
pub record AreCounts (s : Subject) (program : ℕ) (jobs : List Job) (reports : List Report) (c : Counts) : Type 0 where
  pub long : AreLong s.program c
  pub executed : (slot : ℕ) → executed_at c slot ≡ executed_in s program jobs reports slot
  pub taken : (slot : ℕ) → taken_at c slot ≡ taken_in s program jobs reports slot

-- there are counts for each program, those over all jobs
pub record AreAllCounts (subjects : List Subject) (jobs : List Job) (reports : List Report) (all : List Counts) : Type 0 where
  pub long : length all ≡ length subjects
  pub each : (program : ℕ) (s : Subject) (c : Counts) → slice_get subjects program ≡ Some s → slice_get all program ≡ Some c → AreCounts s program jobs reports c
