-- One event of the world: a run starts, or does the instruction at its pc; a slot joins a ledger, or leaves it.
use Rattle.std.specs.Prelude.{ℕ, pos, ◌+◌, ◌++◌, ◌==◌, Bool, true, false, not, ◌&&◌, nat_le, nat_lt, List, [], ◌∷◌, length, filter, if◌then◌else◌}
use Rattle.std.specs.Prelude.{Option, Some, None, Result, Ok, Err, slice_get, slice_set}
use Rattle.ebpf_insn.specs.declared.insn.Insn.{Insn}
use Rattle.ebpf_insn.specs.declared.insn.Insn.TheVariants as insn
use Rattle.ebpf_insn.specs.declared.register.Reg.TheVariants.{R0, R1}
use Rattle.ebpf_insn.specs.Program.{insn_at}
use Rattle.ebpf_insn.specs.Faults.{first_of}
use Rattle.ebpf_verify.specs.Subject.{Subject}
use Rattle.ebpf_operation.specs.declared.helper.Helper.{Helper}
use Rattle.ebpf_operation.specs.declared.helper.Helper.TheVariants as helper
use Rattle.ebpf_machine.specs.declared.value.Value.{Value}
use Rattle.ebpf_machine.specs.declared.value.Value.TheVariants.{Number, Pointer}
use Rattle.ebpf_machine.specs.declared.value.Base.TheVariants.{Object}
use Rattle.ebpf_machine.specs.declared.report.Reply.{Reply}
use Rattle.ebpf_machine.specs.declared.report.Reply.TheVariants as reply
use Rattle.ebpf_machine.specs.Layout.{helper_of}
use Rattle.ebpf_machine.specs.Bytes.{patched}
use Rattle.ebpf_machine.specs.Values.{Trap, TooManyObjects, Frame, read}
use Rattle.ebpf_machine.specs.Effect.{Act, Nothing, Write, Ask, Free, Exchange, Effect, Goes, Ends, Traps, effect_at, with_value}
use Rattle.ebpf_machine.specs.declared.answer.Answer.{Answer}
use Rattle.ebpf_machine.specs.declared.answer.Answer.TheVariants.{Absent, Null, Slot}
use Rattle.ebpf_machine.specs.World.{Name, World, Running, Status, Going, Exited, Trapped, Owner, Holder, Run, Shelf, is_in, is_in_ledger, is_home}
use Rattle.ebpf_machine.specs.World.{is_call, is_shelf, standing, ledger_of, kind_in, image_at, holds_of, environment, first_run, name_of}

-- why an event is not legal. The causes are tested in this order, but for an event that names a kind: there an unknown one
-- goes before what is wrong with the slot.
pub data Illegal : Type 0 where
  NoSuchRun : Illegal
  RunEnded : Illegal
  SlotNotHome : Illegal
  SlotOfAnotherKind : Illegal
  AnswerUnasked : Illegal
  AnswerMissing : Illegal
  SlotInLedger : Illegal
  SlotNotReapable : Illegal
  NoSuchProgramOrKind : Illegal
  WrongContext : Illegal

-- ---- changes of the world

abbrev pub with_run : World → ℕ → Running → World
with_run w run r = record w { runs = slice_set w.runs run r }

abbrev pub with_bytes : ℕ → List ℕ → World → World
with_bytes slot bytes w = record w { bytes = λ s. if s == slot then bytes else w.bytes s }

abbrev pub with_owner : ℕ → Holder → World → World
with_owner slot holder w = record w { owners = w.owners ++ record { slot = slot; holder = holder } ∷ [] }

-- the run no longer has the slot by this call
abbrev pub without_owner : ℕ → Name → World → World
without_owner run name w = record w { owners = filter (λ o. not ((o.slot == name.slot) && is_call run name.call o.holder)) w.owners }

-- the slot is no longer on the shelf
abbrev pub without_shelved : (slot shelf : ℕ) → World → World
without_shelved slot shelf w = record w { owners = filter (λ o. not ((o.slot == slot) && is_shelf shelf o.holder)) w.owners }

-- ---- Start: one more run of an accepted program, on a context of the length that it declares

abbrev pub started : Subject → List ℕ → World → World
started subject context w = record w { runs = w.runs ++ first_run subject context ∷ [] }

abbrev pub starting : Option Subject → List ℕ → World → Result World Illegal
starting None context w = Err NoSuchProgramOrKind
starting (Some s) context w = if length context == s.decl.context then Ok (started s context w) else Err WrongContext

-- ---- Exec: one run does the instruction at its pc

abbrev pub moved_to : ℕ → Frame Name → Running → Running
moved_to to frame r = record r { pc = to; frame = frame; executed = r.executed + 1 }

abbrev pub ended : ℕ → Running → Running
ended n r = record r { status = Exited n; executed = r.executed + 1 }

-- a run that traps changes nothing but the status and the count
abbrev pub trapped : Trap → Running → Running
trapped trap r = record r { status = Trapped trap; executed = r.executed + 1 }

-- a call goes on with what it is answered, in r0
abbrev pub replied : ℕ → Reply → Value Name → ℕ → Frame Name → Running → Running
replied kind reply v to frame r = record (moved_to to (with_value frame R0 v) r) { calls = r.calls ++ record { at = r.pc; kind = kind; reply = reply } ∷ [] }

-- an instruction under way: the number of the run that does it, the run before it, the slot at which it goes on, and the frame then
pub record UnderWay : Type 0 where
  pub run : ℕ
  pub before : Running
  pub to : ℕ
  pub frame : Frame Name

abbrev pub under_way : ℕ → Running → ℕ → Frame Name → UnderWay
under_way run r to frame = record { run = run; before = r; to = to; frame = frame }

-- the run goes on
abbrev pub gone_on : World → UnderWay → World
gone_on w u = with_run w u.run (moved_to u.to u.frame u.before)

-- a call of the run is answered
abbrev pub with_answer : World → UnderWay → ℕ → Reply → Value Name → World
with_answer w u kind reply v = with_run w u.run (replied kind reply v u.to u.frame u.before)

-- a slot is granted, with its image, unless the run holds as many as it declared
abbrev pub granted : ℕ → World → UnderWay → ℕ → World
granted slot w u kind =
    if nat_le u.before.subject.decl.held (holds_of w u.run) then with_run w u.run (trapped TooManyObjects u.before) else
    let pointer = Pointer (Object (name_of slot u.before.pc)) (pos 0) in
    with_owner slot (Run u.run u.before.pc) (with_bytes slot (image_at w.kinds kind) (with_answer w u kind reply.Granted pointer))

abbrev pub answered : Answer → World → UnderWay → ℕ → World
answered (Slot slot) w u kind = granted slot w u kind
answered Null w u kind = with_answer w u kind reply.Null (Number 0)
answered Absent w u kind = with_answer w u kind reply.Null (Number 0)

-- what a run gives goes onto the shelf, with its bytes as they are
abbrev pub put_on : Option Name → (shelf run : ℕ) → World → World
put_on None shelf run w = w
put_on (Some name) shelf run w = with_owner name.slot (Shelf shelf) (without_owner run name w)

-- what is on a shelf is the run's, by this call
abbrev pub fetched : Owner → (shelf run call : ℕ) → World → World
fetched o shelf run call w = with_owner o.slot (Run run call) (without_shelved o.slot shelf w)

-- a call of swap goes on with the bytes of what was on the shelf, and a pointer to it
abbrev pub shelf_told : (slot : ℕ) (bytes : List ℕ) (shelf to : ℕ) → Frame Name → Running → Running
shelf_told slot bytes shelf to frame r = record (replied shelf reply.Shelf (Pointer (Object (name_of slot r.pc)) (pos 0)) to frame r) { taken = r.taken ++ bytes }

-- what was on the shelf is the run's, unless it holds as many as it declared once what it gives is gone
abbrev pub exchanged : Option Owner → World → UnderWay → ℕ → Option Name → World
exchanged None w u shelf given = put_on given shelf u.run (with_answer w u shelf reply.Empty (Number 0))
exchanged (Some o) w u shelf given =
    if nat_le u.before.subject.decl.held (holds_of (put_on given shelf u.run w) u.run) then with_run w u.run (trapped TooManyObjects u.before) else
    let fetching = with_run w u.run (shelf_told o.slot (w.bytes o.slot) shelf u.to u.frame u.before) in
    put_on given shelf u.run (fetched o shelf u.run u.before.pc fetching)

-- what an instruction that goes on asks of the world; an object that is freed gets its image
abbrev pub acted : Act Name → Answer → World → UnderWay → World
acted Nothing answer w u = gone_on w u
acted (Write name at bytes) answer w u = with_bytes name.slot (patched (w.bytes name.slot) at bytes) (gone_on w u)
acted (Ask kind) answer w u = answered answer w u kind
acted (Free name) answer w u = with_bytes name.slot (image_at w.kinds (kind_in w name.slot)) (without_owner u.run name (gone_on w u))
acted (Exchange shelf given) answer w u = exchanged (standing w shelf) w u shelf given

abbrev pub done_by : Effect Name → Answer → World → ℕ → Running → World
done_by (Goes act to frame) answer w run r = acted act answer w (under_way run r to frame)
done_by (Ends n) answer w run r = with_run w run (ended n r)
done_by (Traps trap) answer w run r = with_run w run (trapped trap r)

-- what the instruction at a slot asks for: nothing; an object, of the kind that r1 names or of none that there is, from the event; or what
-- is on the shelf that r1 names, from the world
pub data Asking : Type 0 where
  Unasked : Asking
  OfNoKind : Asking
  OfKind : (kind : ℕ) → Asking
  AtShelf : (shelf : ℕ) → Asking

abbrev pub asking_for : {N : Type 0} → Option (Value N) → ℕ → Asking
asking_for (Some (Number kind)) kinds = if nat_lt kind kinds then OfKind kind else OfNoKind
asking_for _ kinds = OfNoKind

abbrev pub asking_shelf : {N : Type 0} → Option (Value N) → ℕ → Asking
asking_shelf (Some (Number shelf)) kinds = if nat_lt shelf kinds then AtShelf shelf else Unasked
asking_shelf _ kinds = Unasked

abbrev pub asking_helper : {N : Type 0} → Option Helper → ℕ → Frame N → Asking
asking_helper (Some helper.New) kinds frame = asking_for (read frame R1) kinds
asking_helper (Some helper.Free) kinds frame = Unasked
asking_helper (Some helper.Emit) kinds frame = Unasked
asking_helper (Some helper.Swap) kinds frame = asking_shelf (read frame R1) kinds
asking_helper None kinds frame = Unasked

abbrev pub asking : {N : Type 0} → Option Insn → ℕ → Frame N → Asking
asking (Some (insn.Call number)) kinds frame = asking_helper (helper_of number) kinds frame
asking _ kinds frame = Unasked

-- an answer is asked for
abbrev pub is_asked : Asking → Bool
is_asked Unasked = false
is_asked (AtShelf shelf) = false
is_asked OfNoKind = true
is_asked (OfKind kind) = true

abbrev pub is_answer : Answer → Bool
is_answer Absent = false
is_answer _ = true

abbrev pub is_away : World → Answer → Bool
is_away w (Slot slot) = not (is_home w slot)
is_away w _ = false

abbrev pub is_of_another_kind : World → Asking → Answer → Bool
is_of_another_kind w (OfKind kind) (Slot slot) = not (is_in slot (ledger_of w kind))
is_of_another_kind w _ _ = false

-- why an answer is not legal
abbrev pub answer_fault : World → Asking → Answer → Option Illegal
answer_fault w asked answer = first_of (
    (is_away w answer, SlotNotHome) ∷
    (is_of_another_kind w asked answer, SlotOfAnotherKind) ∷
    (not (is_asked asked) && is_answer answer, AnswerUnasked) ∷
    (is_asked asked && not (is_answer answer), AnswerMissing) ∷
    [])

abbrev pub or_illegal : Option Illegal → World → Result World Illegal
or_illegal (Some why) w = Err why
or_illegal None w = Ok w

abbrev pub asking_of : World → Running → Asking
asking_of w r = asking (insn_at r.subject.program r.pc) (length w.kinds) r.frame

-- what the instruction at its pc does to a run of the world
abbrev pub effect_of_run : World → ℕ → Running → Effect Name
effect_of_run w run r = effect_at (insn_at r.subject.program r.pc) r.pc (environment w run r) r.frame

abbrev pub exec_going : Status → World → ℕ → Answer → Running → Result World Illegal
exec_going Going w run answer r = or_illegal (answer_fault w (asking_of w r) answer) (done_by (effect_of_run w run r) answer w run r)
exec_going _ w run answer r = Err RunEnded

abbrev pub exec_by : Option Running → World → ℕ → Answer → Result World Illegal
exec_by None w run answer = Err NoSuchRun
exec_by (Some r) w run answer = exec_going r.status w run answer r

abbrev pub exec : World → ℕ → Answer → Result World Illegal
exec w run answer = exec_by (slice_get w.runs run) w run answer

-- ---- Grow: a slot that is in no ledger joins the ledger of a kind, with its image

-- the kind has these slots
abbrev pub with_ledger : ℕ → List ℕ → World → World
with_ledger kind slots w = record w { ledgers = slice_set w.ledgers kind slots }

-- a slot in its place in an ascending ledger
unfoldable pub with_slot : ℕ → List ℕ → List ℕ
with_slot slot [] = slot ∷ []
with_slot slot (s ∷ slots) = if nat_lt s slot then s ∷ with_slot slot slots else slot ∷ s ∷ slots

abbrev pub with_slot_joined : ℕ → ℕ → World → World
with_slot_joined kind slot w = with_bytes slot (image_at w.kinds kind) (with_ledger kind (with_slot slot (ledger_of w kind)) w)

abbrev pub growing : ℕ → ℕ → World → Result World Illegal
growing kind slot w =
    if not (nat_lt kind (length w.kinds)) then Err NoSuchProgramOrKind else
    if is_in_ledger w slot then Err SlotInLedger else
    Ok (with_slot_joined kind slot w)

-- ---- Reap: a slot that is home leaves the ledger of its kind

abbrev pub without_slot : ℕ → List ℕ → List ℕ
without_slot slot slots = filter (λ s. not (s == slot)) slots

abbrev pub with_slot_left : ℕ → ℕ → World → World
with_slot_left kind slot w = with_ledger kind (without_slot slot (ledger_of w kind)) w

abbrev pub reaping : ℕ → ℕ → World → Result World Illegal
reaping kind slot w =
    if not (nat_lt kind (length w.kinds)) then Err NoSuchProgramOrKind else
    if is_home w slot && is_in slot (ledger_of w kind) then Ok (with_slot_left kind slot w) else
    Err SlotNotReapable
