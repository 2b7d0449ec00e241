-- One instruction of a run that is kept: which answers are legal, the object that is lent to it, and the one that it frees.
use Rattle.std.specs.Prelude.{◌≡◌, ◌≢◌, ◌<◌, ◌+◌, ℕ, ◌==◌, if◌then◌else◌, List, length, All, Contains, Option, Some, None, IfSome}
use Rattle.ebpf_verify.specs.Subject.{Subject}
use Rattle.ebpf_machine.specs.declared.holding.Holding.{Holding}
use Rattle.ebpf_machine.specs.World.{Shelved, image_at}
use Rattle.ebpf_machine.specs.Events.{Unasked}
use Rattle.ebpf_machine.specs.Kinds.{known_kinds}
use Rattle.ebpf_machine.specs.View.{effect_of_view, stepped}
use Rattle.ebpf_machine.specs.RunState.{RunState}
use Rattle.ebpf_machine.specs.Step.{Served, MayAnswer, IsEvent, asking_in, result_of}
use Rattle.ebpf_machine.specs.Store.{AreOutBy, held_of_kind}
use Rattle.ebpf_machine.specs.Shelves.{shelf_done, shelved_from}
use Rattle.ebpf_machine.specs.declared.answer.Answer.{Answer}
use Rattle.ebpf_machine.specs.declared.answer.Answer.TheVariants.{Absent, Null, Slot}
use Rattle.ebpf_core.specs.declared.fault.ApplyCode.{ApplyCode}
use Rattle.ebpf_core.specs.declared.fault.ApplyCode.TheVariants.{SlotNotHome, SlotOfAnotherKind, AnswerUnasked, AnswerMissing, NoSuchProgramOrKind}
use Rattle.ebpf_core.specs.declared.fault.ApplyCode.TheVariants.{WrongContext}
use Rattle.ebpf_shelves.specs.declared.object.Object.{Object}
use Rattle.ebpf_shelves.specs.Shelves.{as_shelved, standing_on}
use Rattle.ebpf_core.specs.declared.place.Place.{Place}
use Rattle.ebpf_core.specs.declared.place.Place.TheVariants.{Home}
use Rattle.ebpf_core.specs.Passing.{IsOut, AreAway, out_of_kind, offers}
use Rattle.ebpf_core.specs.Places.{Places, place_at}
use Rattle.ebpf_core.specs.Shown.{run_seen, slots_of}

-- ---- the code of an answer that is not legal

-- by the place of the slot that is answered, and the kind that is wanted
abbrev pub slot_code : Option Place → Option ℕ → Option ApplyCode
slot_code (Some (Home o)) None = Some AnswerUnasked
slot_code (Some (Home o)) (Some kind) = if o.kind == kind then None else Some SlotOfAnotherKind
slot_code _ wants = Some SlotNotHome

abbrev pub code_by : Places → Answer → Option ℕ → Option ApplyCode
code_by places Absent None = None
code_by places Absent (Some kind) = Some AnswerMissing
code_by places Null None = Some AnswerUnasked
code_by places Null (Some kind) = None
code_by places (Slot slot) wants = slot_code (place_at places slot) wants

-- ---- one instruction

-- an object has its kind's image
abbrev pub IsNewObject : Object → Type 0
IsNewObject o = (o.bytes.items ≡ image_at known_kinds o.kind) × (o.kind < length known_kinds)

-- an object can be lent to a run: it has its image and is none of the run's own, and the run asks for one; what is on the shelves is
-- neither
pub record CanLend (lent : Option Object) (shelves : List (Option Object)) (r : RunState Object) : Type 0 where
  pub image : IfSome lent IsNewObject
  pub out : AreOutBy (IsOut lent shelves) (λ o. o.kind) (λ o. o.slot) r.held
  pub asked : asking_in (run_seen r) ≡ Unasked → lent ≡ None
  pub away : AreAway lent shelves

-- what is on a shelf after its instruction, where these objects were on the shelves
abbrev pub standing_next : RunState Object → List (Option Object) → ℕ → Option Shelved
standing_next r shelves shelf = shelf_done (shelved_from as_shelved r.held) (effect_of_view (run_seen r)) shelf (standing_on shelves shelf)

-- what the instruction leaves of a run that was lent this object, what it freed, and what is on the shelves then
pub record IsStepped (lent freed : Option Object) (old new : List (Option Object)) (r t : RunState Object) : Type 0 where
  pub served : Served
  pub may : MayAnswer (offers lent old) r.pc (asking_in (run_seen r)) served
  pub state : run_seen t ≡ stepped (result_of served) (run_seen r)
  pub event : IsEvent served (run_seen r) (run_seen t) (slots_of r) (slots_of t)
  pub of_kind : (kind : ℕ) → out_of_kind freed new kind + held_of_kind r.held kind ≡ out_of_kind lent old kind + held_of_kind t.held kind
  pub gone : (h : Holding Object) → Contains r.held h → All (λ k. k.object.slot ≢ h.object.slot) t.held → IsOut freed new h.object → ⊥
  pub image : IfSome freed IsNewObject
  pub shelves : (shelf : ℕ) → standing_on new shelf ≡ standing_next r old shelf

-- ---- the code of a start that is not legal

-- by the program of its number, and how long the context is
abbrev pub start_code : Option Subject → ℕ → Option ApplyCode
start_code None long = Some NoSuchProgramOrKind
start_code (Some s) long = if long == s.decl.context then None else Some WrongContext
