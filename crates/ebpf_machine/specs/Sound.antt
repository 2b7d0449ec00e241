-- What always holds: of a run, that what is known at its pc speaks of it, and that it is where the run alone is; of the world, that
-- owners, ledgers and pointers fit together.
use Rattle.std.specs.Prelude.{◌≡◌, ◌<◌, ◌≤◌, ℕ, pos, false, true, ◌==◌, List, [], length, All, Contains, count_by, FitsSigned, is_none, Option}
use Rattle.std.specs.Prelude.{Some, None, slice_get}
use Rattle.std.specs.Int.{w64}
use Rattle.ebpf_insn.specs.declared.register.Reg.TheVariants.{R10}
use Rattle.ebpf_insn.specs.Program.{instructions, insn_at, count_below}
use Rattle.ebpf_state.specs.Ascending.{IsAscending}
use Rattle.ebpf_verify.specs.Verdict.{IsAccepted}
use Rattle.ebpf_verify.specs.Entry.{entry_of}
use Rattle.ebpf_machine.specs.declared.value.Value.{Value}
use Rattle.ebpf_machine.specs.declared.value.Value.TheVariants.{Number, Pointer}
use Rattle.ebpf_machine.specs.declared.value.Base.TheVariants.{Stack, Object}
use Rattle.ebpf_machine.specs.declared.value.Cell.{Cell}
use Rattle.ebpf_machine.specs.declared.value.Cell.TheVariants.{Part}
use Rattle.ebpf_machine.specs.Values.{Frame, read}
use Rattle.ebpf_machine.specs.Effect.{Effect, Goes, Ends, Traps}
use Rattle.ebpf_machine.specs.World.{Name, Status, Going, Exited, Trapped, World, Running, Owner, Run, IsOfKind, kinds_of, image_at, is_in, Kind}
use Rattle.ebpf_machine.specs.World.{is_home_in, kind_from}
use Rattle.ebpf_machine.specs.Alone.{replies_from, alone_after}
use Rattle.ebpf_machine.specs.Replies.{replies_of}
use Rattle.ebpf_machine.specs.View.{RunView, view_in}
use Rattle.ebpf_machine.specs.RunState.{RunState, seen}
use Rattle.ebpf_machine.specs.Concretization.{Arrives, calls_of}

-- ---- one instruction

-- the offset of a pointer fits 64 bits
abbrev pub FitsValue : Value ℕ → Type 0
FitsValue (Number n) = Unit {0}
FitsValue (Pointer base k) = FitsSigned w64 k

abbrev pub FitsRegister : Option (Value ℕ) → Type 0
FitsRegister None = Unit {0}
FitsRegister (Some v) = FitsValue v

abbrev pub FitsCell : Cell ℕ → Type 0
FitsCell (Part v j) = FitsValue v
FitsCell _ = Unit {0}

pub record FitsFrame (frame : Frame ℕ) : Type 0 where
  pub registers : All FitsRegister frame.registers
  pub stack : All FitsCell frame.stack

-- it does not trap, and what it leaves in the frame fits
abbrev pub IsFine : Effect ℕ → Type 0
IsFine (Goes act to frame) = FitsFrame frame
IsFine (Ends n) = Unit {0}
IsFine (Traps trap) = ⊥

-- ---- a run of an accepted program, as it sees itself

-- each object has as many bytes as its kind says
abbrev pub AreSized : RunView → Type 0
AreSized v = All (λ o. length o.bytes ≡ length (image_at (kinds_of v.subject.rows) o.kind)) v.objects

-- one that goes on is at an instruction, and what is known there speaks of it; its objects are of calls that it has passed, in the order of
-- their grants
pub record IsGoing (v : RunView) : Type 0 where
  pub inside : is_none (insn_at v.subject.program v.pc) ≡ false
  pub few : v.executed ≤ count_below v.subject.program v.pc
  pub state : Arrives (entry_of v.subject.program v.pc) v.frame v.objects
  pub behind : All (λ o. o.call < v.pc) v.objects
  pub ascending : IsAscending (calls_of v.objects)
  pub declared : length v.objects ≤ v.subject.decl.held

pub record HasExited (v : RunView) : Type 0 where
  pub few : v.executed ≤ length (instructions v.subject.program)
  pub returned : v.objects ≡ []

abbrev pub IsWellStated : Status → RunView → Type 0
IsWellStated Going v = IsGoing v
IsWellStated (Exited n) v = HasExited v
IsWellStated (Trapped trap) v = ⊥

pub record IsSound (v : RunView) : Type 0 where
  pub accepted : IsAccepted v.subject
  pub registers : length v.frame.registers ≡ 11
  pub stack : length v.frame.stack ≡ 512
  pub context : length v.context ≡ v.subject.decl.context
  -- r10 is the frame pointer still
  pub pointer : read v.frame R10 ≡ Some (Pointer Stack (pos 0))
  pub fit : FitsFrame v.frame
  pub stated : IsWellStated v.status v

-- it is what the run alone is after as many instructions, with its own replies
abbrev pub IsAlone : RunView → Type 0
IsAlone v = view_in (alone_after v.executed v.subject v.context (replies_of v)).world 0 ≡ Some v

-- a run as it is kept: whatever bytes its objects have it is sound, its peak is that of the run alone and within what it declared,
-- and no instruction added more than one reply or added more than one number to its output
pub record IsRun {H : Type 0} (r : RunState H) : Type 0 where
  pub sound : (bytes : H → List ℕ) → IsSound (seen bytes r)
  pub peak : (alone_after r.executed r.subject r.context (replies_from r.replies r.taken)).peak ≡ r.peak
  pub most : length r.held ≤ r.peak
  pub declared : r.peak ≤ r.subject.decl.held
  pub told : length r.replies ≤ r.executed
  pub emitted : length r.output ≤ r.executed

-- ---- owners, ledgers and pointers of a world fit together

-- a value is a pointer to the object of a name
abbrev pub Names : {N : Type 0} → Option (Value N) → N → Type 0
Names (Some (Pointer (Object name) k)) n = name ≡ n
Names _ n = ⊥

abbrev pub NamesPart : {N : Type 0} → Cell N → N → Type 0
NamesPart (Part v j) n = Names (Some v) n
NamesPart _ n = ⊥

-- a run has a pointer to the object of a name
pub data HasPointer {N : Type 0} (frame : Frame N) (n : N) : Type 0 where
  InRegister : (v : Option (Value N)) → Contains frame.registers v → Names v n → HasPointer frame n
  InCell : (c : Cell N) → Contains frame.stack c → NamesPart c n → HasPointer frame n

-- pointers of a run to what one call was granted are to one slot
abbrev pub HasOneSlot : Frame Name → Type 0
HasOneSlot frame = (n m : Name) → HasPointer frame n → HasPointer frame m → n.call ≡ m.call → n.slot ≡ m.slot

-- a pointer stems from a call that the run has passed; where the run still holds what that call was granted, it is to that slot
pub record IsTrue (owners : List Owner) (run : ℕ) (r : Running) (n : Name) : Type 0 where
  pub behind : n.call < r.pc
  pub slot : (o : Owner) → Contains owners o → o.holder ≡ Run run n.call → o.slot ≡ n.slot

-- ledgers: one for each kind; no slot is in two; a slot that is nobody's has its kind's image
pub record AreLedgers (kinds : List Kind) (ledgers : List (List ℕ)) (owners : List Owner) (bytes : ℕ → List ℕ) : Type 0 where
  pub as_many : length ledgers ≡ length kinds
  pub apart : (slot : ℕ) → count_by (is_in slot) ledgers ≤ 1
  pub imaged : (slot : ℕ) → is_home_in ledgers owners slot ≡ true → bytes slot ≡ image_at kinds (kind_from 0 ledgers slot)

-- holders: no slot has two, and no call has two slots; each slot is in one ledger, with as many bytes as its kind says
pub record AreHolders (kinds : List Kind) (ledgers : List (List ℕ)) (owners : List Owner) (bytes : ℕ → List ℕ) : Type 0 where
  pub once : (slot : ℕ) → count_by (λ o. o.slot == slot) owners ≤ 1
  pub in_ledger : (o : Owner) → Contains owners o → count_by (is_in o.slot) ledgers ≡ 1
  pub one_a_call : (o p : Owner) → Contains owners o → Contains owners p → o.holder ≡ p.holder → o ≡ p
  pub sized : (o : Owner) → Contains owners o → length (bytes o.slot) ≡ length (image_at kinds (kind_from 0 ledgers o.slot))

-- runs: each is of a program over these kinds; what a holder has, it asked for; pointers are true, and those to what one call was
-- granted are to one slot
pub record AreRuns (kinds : List Kind) (ledgers : List (List ℕ)) (owners : List Owner) (runs : List Running) : Type 0 where
  pub kinds_are : (run : ℕ) (r : Running) → slice_get runs run ≡ Some r → kinds_of r.subject.rows ≡ kinds
  pub asked : (o : Owner) → Contains owners o → IsOfKind runs o.holder (kind_from 0 ledgers o.slot)
  pub pointers : (run : ℕ) (r : Running) → slice_get runs run ≡ Some r → (n : Name) → HasPointer r.frame n → IsTrue owners run r n
  pub one_slot : (run : ℕ) (r : Running) → slice_get runs run ≡ Some r → HasOneSlot r.frame

-- each part is said of the lists that it speaks of, so an event that changes others keeps it
pub record IsOwned (w : World) : Type 0 where
  pub ledgers : AreLedgers w.kinds w.ledgers w.owners w.bytes
  pub holders : AreHolders w.kinds w.ledgers w.owners w.bytes
  pub runs : AreRuns w.kinds w.ledgers w.owners w.runs
