-- The main theorem, for every legal list of events. No run traps. Each computes what it computes alone with the same
-- answers, and executes at most as many instructions as its program has. None holds more objects than it declared, or
-- exits holding one. No object is held twice, no shelf has two, and none is missing from the ledger of its kind.
use Rattle.std.specs.Prelude.{◌≡◌, ◌≤◌, ℕ, ◌==◌, if◌then◌else◌, Bool, false, true, List, [], ◌∷◌, length, map, filter, take, count_by, Contains}
use Rattle.std.specs.Prelude.{Some, Ok, slice_get}
use Rattle.std.specs.List.{flat_map}
use Rattle.ebpf_insn.specs.Program.{instructions}
use Rattle.ebpf_verify.specs.Subject.{Subject}
use Rattle.ebpf_machine.specs.declared.report.Reply.{Reply}
use Rattle.ebpf_machine.specs.declared.report.Reply.TheVariants as reply
use Rattle.ebpf_machine.specs.World.{World, Running, Owner, IsOfKind, Going, Exited, Trapped, Status, is_in, is_home, is_shelf, ledger_of, kind_in}
use Rattle.ebpf_machine.specs.World.{image_at, held_by, holds_of}
use Rattle.ebpf_machine.specs.Alone.{Replies, Outcome, replies_from, alone_after, outcome_alone}
use Rattle.ebpf_machine.specs.declared.answer.Answer.{Answer}
use Rattle.ebpf_machine.specs.declared.answer.Answer.TheVariants.{Absent, Null, Slot}
use Rattle.ebpf_core.specs.declared.event.Event.{Event}
use Rattle.ebpf_core.specs.declared.event.Event.TheVariants.{Start, Exec, Grow, Reap}
use Rattle.ebpf_core.specs.Replay.{world_after}

-- what the calls of a run were answered, in order, and the bytes of what they took off shelves
abbrev pub replies_to : Running → Replies
replies_to run = replies_from (map (λ c. c.reply) run.calls) run.taken

abbrev pub is_to_new : Reply → Bool
is_to_new reply.Granted = true
is_to_new reply.Null = true
is_to_new reply.Empty = false
is_to_new reply.Shelf = false

-- what its calls of new were answered
abbrev pub replies_to_new : Running → List Reply
replies_to_new run = filter is_to_new (map (λ c. c.reply) run.calls)

-- what the events answer to them: granted, or null
abbrev pub reply_by : Answer → List Reply
reply_by Absent = []
reply_by Null = reply.Null ∷ []
reply_by (Slot slot) = reply.Granted ∷ []

abbrev pub answer_in : ℕ → Event → List Reply
answer_in run (Exec of answer) = if of == run then reply_by answer else []
answer_in run (Start program context) = []
answer_in run (Grow kind slot) = []
answer_in run (Reap kind slot) = []

abbrev pub answers_to : ℕ → List Event → List Reply
answers_to run events = flat_map (answer_in run) events

-- a run did not trap
abbrev pub IsUntrapped : Status → Type 0
IsUntrapped Going = Unit {0}
IsUntrapped (Exited n) = Unit {0}
IsUntrapped (Trapped trap) = ⊥

-- the bytes of the objects that a run holds
abbrev pub held_bytes : World → ℕ → List (List ℕ)
held_bytes w k = map (λ o. w.bytes o.slot) (held_by w k)

-- A run of the world, by its number, is where the run alone is after as many instructions with the same replies. It is at the same pc,
-- with the same output, with the same bytes in the objects that it holds, going on or ended alike. And it did as many: the run alone
-- stays where it is once it ended
pub record IsWhereAlone (w : World) (k : ℕ) (run : Running) : Type 0 where
  pub alone : Running
  pub only : (alone_after run.executed run.subject run.context (replies_to run)).world.runs ≡ alone ∷ []
  pub pc : run.pc ≡ alone.pc
  pub output : run.frame.output ≡ alone.frame.output
  pub objects : held_bytes w k ≡ held_bytes (alone_after run.executed run.subject run.context (replies_to run)).world 0
  pub executed : run.executed ≡ alone.executed
  pub status : run.status ≡ alone.status

-- an outcome is that of a run that exited
pub record IsOutcomeOf (run : Running) (n : ℕ) (o : Outcome) : Type 0 where
  pub status : o.status ≡ Exited n
  pub output : o.output ≡ run.frame.output
  pub executed : o.executed ≡ run.executed

-- a run of the world, by its number, that was given these answers
pub record IsIsolated (w : World) (k : ℕ) (run : Running) (answers : List Reply) : Type 0 where
  pub untrapped : IsUntrapped run.status
  pub told : replies_to_new run ≡ answers
  pub alone : IsWhereAlone w k run
  pub ended : (n : ℕ) → run.status ≡ Exited n → IsOutcomeOf run n (outcome_alone run.subject run.context (replies_to run))
  pub bounded : run.executed ≤ length (instructions run.subject.program)
  pub declared : holds_of w k ≤ run.subject.decl.held
  pub returned : (n : ℕ) → run.status ≡ Exited n → holds_of w k ≡ 0

-- an owned slot is in one ledger, that of the kind that its call asked for
pub record IsInLedger (w : World) (o : Owner) : Type 0 where
  pub once : count_by (is_in o.slot) w.ledgers ≡ 1
  pub there : is_in o.slot (ledger_of w (kind_in w o.slot)) ≡ true
  pub asked : IsOfKind w.runs o.holder (kind_in w o.slot)

-- what the theorem says of the world that these events lead to; the events are there for what each run was answered
pub record IsSafe (w : World) (events : List Event) : Type 0 where
  pub runs : (k : ℕ) (run : Running) → slice_get w.runs k ≡ Some run → IsIsolated w k run (answers_to k events)
  pub held_once : (slot : ℕ) → count_by (λ o. o.slot == slot) w.owners ≤ 1
  pub shelved_once : (shelf : ℕ) → count_by (λ o. is_shelf shelf o.holder) w.owners ≤ 1
  pub in_ledger : (o : Owner) → Contains w.owners o → IsInLedger w o
  pub imaged : (slot : ℕ) → is_home w slot ≡ true → w.bytes slot ≡ image_at w.kinds (kind_in w slot)

-- after every beginning of the list that is legal
abbrev pub IsAlwaysSafe : List Subject → List Event → Type 0
IsAlwaysSafe programs events = (n : ℕ) (w : World) → world_after programs (take n events) ≡ Ok w → IsSafe w (take n events)
