-- Which runs an abstract state speaks of.
use Rattle.std.specs.Prelude.{◌≡◌, ◌<◌, ◌+◌, ◌*◌, ◌^◌, ℕ, pos, ◌≤ℤ◌, false, List, map, Contains, Option, Some, None, slice_index_or}
use Rattle.std.specs.Int.{bit_at}
use Rattle.ebpf_range.specs.Interval.{IsWithin}
use Rattle.ebpf_state.specs.declared.value.Abs.{Abs}
use Rattle.ebpf_state.specs.declared.value.Abs.TheVariants.{Unset, Num, Stk, Ctx, Ob, May}
use Rattle.ebpf_state.specs.declared.word.Word.{Word}
use Rattle.ebpf_state.specs.declared.word.Word.TheVariants.{Spill, Bytes}
use Rattle.ebpf_state.specs.Abstract.{is_unset}
use Rattle.ebpf_state.specs.References.{kind_held}
use Rattle.ebpf_state.specs.Stack.{word_of}
use Rattle.ebpf_state.specs.StateView.{StateView}
use Rattle.ebpf_verify.specs.declared.entry.EntryState.{EntryState}
use Rattle.ebpf_verify.specs.declared.entry.EntryState.TheVariants.{Unreached, Known, Conflict}
use Rattle.ebpf_machine.specs.declared.value.Value.{Value}
use Rattle.ebpf_machine.specs.declared.value.Value.TheVariants.{Number, Pointer}
use Rattle.ebpf_machine.specs.declared.value.Base.TheVariants.{Stack, Context, Object}
use Rattle.ebpf_machine.specs.declared.value.Cell.{Cell}
use Rattle.ebpf_machine.specs.declared.value.Cell.TheVariants.{Byte}
use Rattle.ebpf_machine.specs.Values.{Frame}
use Rattle.ebpf_machine.specs.Cells.{cell_at, cell_of}
use Rattle.ebpf_machine.specs.View.{ObjectView}

-- an abstract value speaks of a value, where the run holds the objects of these calls: a 64-bit number of the range, a pointer at
-- an offset between the ends, to an object that is held. An answer that was not compared yet is the object, where it is held, or 0.
-- Of a register of which nothing is known, anything may be so.
abbrev pub IsOf : List ℕ → Abs → Option (Value ℕ) → Type 0
IsOf calls Unset v = Unit {0}
IsOf calls (Num a) (Some (Number n)) = IsWithin n a × (n < 2 ^ 64)
IsOf calls (Stk k) (Some (Pointer Stack w)) = w ≡ k
IsOf calls (Ctx a b) (Some (Pointer Context w)) = (a ≤ℤ w) × (w ≤ℤ b)
IsOf calls (Ob call a b) (Some (Pointer (Object at) w)) = (at ≡ call) × (a ≤ℤ w) × (w ≤ℤ b) × Contains calls call
IsOf calls (May call) (Some (Pointer (Object at) w)) = (at ≡ call) × (w ≡ pos 0) × Contains calls call
IsOf calls (May call) (Some (Number n)) = (n ≡ 0) × (Contains calls call → ⊥)
IsOf calls _ _ = ⊥

abbrev pub calls_of : List ObjectView → List ℕ
calls_of objects = map (λ o. o.call) objects

-- each object is held, as one of its kind
abbrev pub AreReferred : StateView → List ObjectView → Type 0
AreReferred s objects = (o : ObjectView) → Contains objects o → kind_held o.call s ≡ Some o.kind

-- a cell holds a byte
abbrev pub IsByte : Cell ℕ → Type 0
IsByte (Byte b) = Unit {0}
IsByte _ = ⊥

-- what is known of a word of the stack speaks of these eight cells: a spill, of which something is known, is in all of them, and a
-- mask says which are bytes; of the others anything may be so
abbrev pub IsOfCells : List ℕ → Word → (ℕ → Cell ℕ) → Type 0
IsOfCells calls (Spill a) cells = (v : Value ℕ) × IsOf calls a (Some v) × ((j : ℕ) → j < 8 → cells j ≡ cell_of v j) × (is_unset a ≡ false)
IsOfCells calls (Bytes mask) cells = (j : ℕ) → j < 8 → bit_at mask j ≡ 1 → IsByte (cells j)

-- a state speaks of a run with this frame and these objects
pub record AreOf (s : StateView) (frame : Frame ℕ) (objects : List ObjectView) : Type 0 where
  pub each : (k : ℕ) → k < 11 → IsOf (calls_of objects) (slice_index_or s.registers k Unset) (slice_index_or frame.registers k None)
  pub words : (w : ℕ) → w < 64 → IsOfCells (calls_of objects) (word_of s.words w) (λ j. cell_at frame.stack (8 * w + j))
  pub held : AreReferred s objects

-- what comes to a slot speaks of a run there
abbrev pub Arrives : EntryState → Frame ℕ → List ObjectView → Type 0
Arrives Unreached frame objects = ⊥
Arrives (Known s) frame objects = AreOf s frame objects
Arrives Conflict frame objects = Unit {0}
