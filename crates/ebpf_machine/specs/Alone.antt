-- The run alone: one run in a world of its own, fed with replies until it ends.
use Rattle.std.specs.Prelude.{ℕ, zero, suc, max, List, [], ◌∷◌, ◌++◌, length, take, drop, map, Option, Some, None, Result, Ok, Err, slice_get}
use Rattle.ebpf_insn.specs.Program.{instructions}
use Rattle.ebpf_verify.specs.Subject.{Subject}
use Rattle.ebpf_machine.specs.declared.report.Reply.{Reply}
use Rattle.ebpf_machine.specs.declared.report.Reply.TheVariants as reply
use Rattle.ebpf_machine.specs.declared.answer.Answer.{Answer}
use Rattle.ebpf_machine.specs.declared.answer.Answer.TheVariants.{Absent, Null, Slot}
use Rattle.ebpf_machine.specs.World.{World, Running, Status, Going, Owner, Shelf, Kind, kinds_of, image_at, kind_in, standing, first_run, holds_of}
use Rattle.ebpf_machine.specs.Events.{Illegal, Asking, Unasked, OfKind, AtShelf, asking_of, with_bytes, with_owner, without_shelved}
use Rattle.ebpf_machine.specs.Events.{with_slot_joined, with_slot_left, exec}

-- the world of one run, and the most objects that it held at one time
pub record Alone : Type 0 where
  pub world : World
  pub peak : ℕ

-- no slots, no owners, and one run at its first instruction
abbrev pub alone_first : Subject → List ℕ → Alone
alone_first subject context = record {
  world = record { kinds = kinds_of subject.rows; ledgers = map (λ row. []) subject.rows; owners = []; bytes = λ slot. []; runs = first_run subject context ∷ [] };
  peak = 0;
}

-- the world before an instruction, and the answer to it
pub record Fed : Type 0 where
  pub world : World
  pub answer : Answer

-- what is on a shelf is taken from there, and its slot leaves the ledger
abbrev pub cleared_of : Option Owner → ℕ → World → World
cleared_of None shelf w = w
cleared_of (Some o) shelf w = with_slot_left shelf o.slot (with_bytes o.slot (image_at w.kinds (kind_in w o.slot)) (without_shelved o.slot shelf w))

abbrev pub cleared : ℕ → World → World
cleared shelf w = cleared_of (standing w shelf) shelf w

-- the first of these bytes, as many as an object of the shelf's kind has; where there are too few, those of its image follow, so that an
-- object always has its kind's size
abbrev pub bytes_for : List Kind → ℕ → List ℕ → List ℕ
bytes_for kinds shelf bytes = take (length (image_at kinds shelf)) (bytes ++ image_at kinds shelf)

-- a slot joins the ledger of the shelf's kind, and is there with these bytes
abbrev pub shelved : ℕ → ℕ → List ℕ → World → World
shelved shelf slot bytes w = with_owner slot (Shelf shelf) (with_bytes slot bytes (with_slot_joined shelf slot w))

-- the call of number i that is to get an object gets it in slot i, which joins the ledger just before: any slot that is in no ledger
-- would do. A call of new is granted it; before a call of swap it is on the shelf, with the bytes that come next, in place of what
-- the run left there. Any other call of new is answered null; one of no kind traps, whatever it is answered
abbrev pub fed : Asking → Option Reply → List ℕ → ℕ → World → Fed
fed Unasked reply bytes i w = record { world = w; answer = Absent }
fed (OfKind kind) (Some reply.Granted) bytes i w = record { world = with_slot_joined kind i w; answer = Slot i }
fed (AtShelf shelf) (Some reply.Shelf) bytes i w = record { world = shelved shelf i (bytes_for w.kinds shelf bytes) (cleared shelf w); answer = Absent }
fed (AtShelf shelf) reply bytes i w = record { world = cleared shelf w; answer = Absent }
fed _ reply bytes i w = record { world = w; answer = Null }

abbrev pub advanced : Result World Illegal → Alone → Alone
advanced (Ok w) a = record { world = w; peak = max a.peak (holds_of w 0) }
advanced (Err why) a = a

-- what the calls of a run are answered, in their order, and the bytes of what they take off shelves, one object after another
pub record Replies : Type 0 where
  pub answers : List Reply
  pub taken : List ℕ

abbrev pub replies_from : List Reply → List ℕ → Replies
replies_from answers taken = record { answers = answers; taken = taken }

-- they are read by index: as many were used as the run made calls, and as many bytes as it took off shelves
abbrev pub fed_to : World → Running → Replies → Fed
fed_to w r replies = fed (asking_of w r) (slice_get replies.answers (length r.calls)) (drop (length r.taken) replies.taken) (length r.calls) w

abbrev pub alone_by : Option Running → Replies → Alone → Alone
alone_by None replies a = a
alone_by (Some r) replies a = let f = fed_to a.world r replies in advanced (exec f.world 0 f.answer) a

-- one instruction more
abbrev pub alone_next : Replies → Alone → Alone
alone_next replies a = alone_by (slice_get a.world.runs 0) replies a

-- after n instructions, with these replies to the calls of new and of swap in their order
unfoldable pub alone_after : ℕ → Subject → List ℕ → Replies → Alone
alone_after zero subject context replies = alone_first subject context
alone_after (suc n) subject context replies = alone_next replies (alone_after n subject context replies)

-- what a run ended with
pub record Outcome : Type 0 where
  pub status : Status
  pub output : List ℕ
  pub executed : ℕ
  pub peak : ℕ

abbrev pub outcome_in : Option Running → ℕ → Outcome
outcome_in (Some r) peak = record { status = r.status; output = r.frame.output; executed = r.executed; peak = peak }
outcome_in None peak = record { status = Going; output = []; executed = 0; peak = peak }

abbrev pub outcome_of : Alone → Outcome
outcome_of a = outcome_in (slice_get a.world.runs 0) a.peak

-- the outcome of the run alone: no run goes on for longer than its program has instructions
abbrev pub outcome_alone : Subject → List ℕ → Replies → Outcome
outcome_alone subject context replies = outcome_of (alone_after (length (instructions subject.program)) subject context replies)
