-- The world: ledgers, owners, object bytes and runs, and what it says of a slot.
use Rattle.std.specs.Prelude.{◌≡◌, ◌<◌, ℕ, suc, ◌==◌, Bool, true, false, not, ◌&&◌, if◌then◌else◌, List, [], ◌∷◌, length, filter, map, replicate}
use Rattle.std.specs.Prelude.{pos, Option, Some, None, option_map, Result, Ok, Err, Contains, slice_get, slice_index_or}
use Rattle.std.specs.List.{list_any, find}
use Rattle.ebpf_insn.specs.declared.register.Reg.{Reg}
use Rattle.ebpf_insn.specs.declared.register.Reg.TheVariants.{R0, R1, R2, R3, R4, R5, R6, R7, R8, R9, R10}
use Rattle.ebpf_state.specs.declared.kinds.KindRow.{KindRow}
use Rattle.ebpf_verify.specs.Subject.{Subject}
use Rattle.ebpf_machine.specs.declared.value.Value.{Value}
use Rattle.ebpf_machine.specs.declared.value.Value.TheVariants.{Pointer}
use Rattle.ebpf_machine.specs.declared.value.Base.TheVariants.{Stack, Context}
use Rattle.ebpf_machine.specs.declared.report.Reply.{Reply}
use Rattle.ebpf_machine.specs.declared.report.Reply.TheVariants as reply
use Rattle.ebpf_machine.specs.Values.{Trap, UseAfterFree, AnotherRunsObject, Frame, empty_stack}
use Rattle.ebpf_machine.specs.Effect.{Environment, Found}

-- how the world names an object: the number of the object, and the slot of the program's call that was granted it
pub record Name : Type 0 where
  pub slot : ℕ
  pub call : ℕ

abbrev pub name_of : (slot call : ℕ) → Name
name_of slot call = record { slot = slot; call = call }

pub data Status : Type 0 where
  Going : Status
  Exited : (result : ℕ) → Status
  Trapped : (trap : Trap) → Status

-- a call that a run made for an object: where, for which kind, and what it was answered. They are the history of a
-- run, of which the theorem speaks, as are the bytes of what it took off shelves: no instruction reads them
pub record AnsweredCall : Type 0 where
  pub at : ℕ
  pub kind : ℕ
  pub reply : Reply

pub record Running : Type 0 where
  pub subject : Subject
  pub context : List ℕ
  pub pc : ℕ
  pub frame : Frame Name
  pub calls : List AnsweredCall
  pub taken : List ℕ
  pub executed : ℕ
  pub status : Status

-- who has a slot: a run, by the call at this place of its program; or a shelf, on which a run left it for another
pub data Holder : Type 0 where
  Run : (run call : ℕ) → Holder
  Shelf : (shelf : ℕ) → Holder

pub record Owner : Type 0 where
  pub slot : ℕ
  pub holder : Holder

-- a kind of object: its size, and the byte that fills a new one
pub record Kind : Type 0 where
  pub size : ℕ
  pub fill : ℕ

abbrev pub kinds_of : List KindRow → List Kind
kinds_of rows = map (λ row. record { size = row.size; fill = row.fill }) rows

-- the bytes of a new object
abbrev pub image_of : Kind → List ℕ
image_of kind = replicate kind.size kind.fill

-- the image of a kind, by its number
abbrev pub image_at : List Kind → ℕ → List ℕ
image_at kinds kind = image_of (slice_index_or kinds kind (record { size = 0; fill = 0 }))

-- the kinds; the slots of each, ascending; who owns which; the bytes of each slot of a ledger; the runs
pub record World : Type 0 where
  pub kinds : List Kind
  pub ledgers : List (List ℕ)
  pub owners : List Owner
  pub bytes : ℕ → List ℕ
  pub runs : List Running

-- ---- what the world says of a slot

abbrev pub is_in : ℕ → List ℕ → Bool
is_in slot slots = list_any (λ s. s == slot) slots

abbrev pub ledger_of : World → ℕ → List ℕ
ledger_of w kind = slice_index_or w.ledgers kind []

abbrev pub is_in_ledger : World → ℕ → Bool
is_in_ledger w slot = list_any (is_in slot) w.ledgers

abbrev pub is_owned : World → ℕ → Bool
is_owned w slot = list_any (λ o. o.slot == slot) w.owners

-- in a ledger, and nobody's
abbrev pub is_home_in : List (List ℕ) → List Owner → ℕ → Bool
is_home_in ledgers owners slot = list_any (is_in slot) ledgers && not (list_any (λ o. o.slot == slot) owners)

abbrev pub is_home : World → ℕ → Bool
is_home w slot = is_home_in w.ledgers w.owners slot

-- the kind in whose ledger a slot is, from this kind's ledger on
unfoldable pub kind_from : ℕ → List (List ℕ) → ℕ → ℕ
kind_from kind [] slot = kind
kind_from kind (slots ∷ ledgers) slot = if is_in slot slots then kind else kind_from (suc kind) ledgers slot

abbrev pub kind_in : World → ℕ → ℕ
kind_in w slot = kind_from 0 w.ledgers slot

-- ---- what the world says of a run's objects

abbrev pub is_run : ℕ → Holder → Bool
is_run run (Run r call) = r == run
is_run run (Shelf s) = false

abbrev pub is_call : (run call : ℕ) → Holder → Bool
is_call run call (Run r c) = (r == run) && (c == call)
is_call run call (Shelf s) = false

abbrev pub held_by : World → ℕ → List Owner
held_by w run = filter (λ o. is_run run o.holder) w.owners

-- how many objects a run holds
abbrev pub holds_of : World → ℕ → ℕ
holds_of w run = length (held_by w run)

-- the run has the slot by this call
abbrev pub is_held_by : World → ℕ → Name → Bool
is_held_by w run name = list_any (λ o. (o.slot == name.slot) && is_call run name.call o.holder) w.owners

abbrev pub is_by_run : Holder → Bool
is_by_run (Run r call) = true
is_by_run (Shelf s) = false

abbrev pub is_shelf : ℕ → Holder → Bool
is_shelf shelf (Run r call) = false
is_shelf shelf (Shelf s) = s == shelf

-- what is on a shelf
abbrev pub standing : World → ℕ → Option Owner
standing w shelf = find (λ o. is_shelf shelf o.holder) w.owners

-- an object on a shelf, as it is there: its slot and its bytes
pub record Shelved : Type 0 where
  pub slot : ℕ
  pub bytes : List ℕ

-- the object of a slot, as it is to be on a shelf
abbrev pub shelved_at : World → ℕ → Shelved
shelved_at w slot = record { slot = slot; bytes = w.bytes slot }

-- what a world shows to be on a shelf
abbrev pub shelved_in : World → ℕ → Option Shelved
shelved_in w shelf = option_map (λ o. shelved_at w o.slot) (standing w shelf)

-- another run has the slot, and this one has not; what is on a shelf is nobody's here
abbrev pub is_anothers : World → ℕ → ℕ → Bool
is_anothers w run slot = list_any (λ o. (o.slot == slot) && is_by_run o.holder) w.owners && not (list_any (λ o. o.slot == slot) (held_by w run))

-- what a run finds under the name of an object: its own under that call; else another run's; else nobody's
abbrev pub object_for : World → ℕ → Name → Result Found Trap
object_for w run name =
    if is_held_by w run name then Ok (record { kind = kind_in w name.slot; bytes = w.bytes name.slot }) else
    if is_anothers w run name.slot then Err AnotherRunsObject else
    Err UseAfterFree

abbrev pub is_same_name : Name → Name → Bool
is_same_name a b = (a.slot == b.slot) && (a.call == b.call)

-- what a run meets in the world
abbrev pub environment : World → ℕ → Running → Environment Name
environment w run r = record { context = r.context; kinds = length w.kinds; holds = holds_of w run; object = object_for w run; is_same = is_same_name }

-- ---- a run before its first instruction

abbrev pub first_value : {N : Type 0} → Reg → Option (Value N)
first_value R1 = Some (Pointer Context (pos 0))
first_value R10 = Some (Pointer Stack (pos 0))
first_value _ = None

abbrev pub first_registers : {N : Type 0} → List (Option (Value N))
first_registers =
    first_value R0 ∷ first_value R1 ∷ first_value R2 ∷ first_value R3 ∷ first_value R4 ∷ first_value R5 ∷ first_value R6 ∷ first_value R7 ∷
    first_value R8 ∷ first_value R9 ∷ first_value R10 ∷ []

abbrev pub first_frame : {N : Type 0} → Frame N
first_frame = record { registers = first_registers; stack = empty_stack; output = [] }

abbrev pub first_run : Subject → List ℕ → Running
first_run subject context = record { subject = subject; context = context; pc = 0; frame = first_frame; calls = []; taken = []; executed = 0; status = Going }

-- ---- what a call asked for

-- a reply that brought an object
abbrev pub IsGot : Reply → Type 0
IsGot reply.Granted = Unit {0}
IsGot reply.Shelf = Unit {0}
IsGot reply.Null = ⊥
IsGot reply.Empty = ⊥

-- a call that the run has passed asked for an object of this kind and got one
pub record AskedFor (runs : List Running) (run at kind : ℕ) : Type 0 where
  pub asker : Running
  pub there : slice_get runs run ≡ Some asker
  pub behind : at < asker.pc
  pub reply : Reply
  pub got : IsGot reply
  pub told : Contains asker.calls (record { at = at; kind = kind; reply = reply })

-- whoever has a slot has it as one of this kind: a run asked for one, and there is a shelf for each
abbrev pub IsOfKind : List Running → Holder → ℕ → Type 0
IsOfKind runs (Run run call) kind = AskedFor runs run call kind
IsOfKind runs (Shelf s) kind = s ≡ kind
