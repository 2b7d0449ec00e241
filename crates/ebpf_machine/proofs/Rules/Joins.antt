-- A join of two states speaks of what either side speaks of.
use Rattle.std.proofs.Common.{◌≡◌, ℕ, ◌+◌, ◌*◌, ◌≤◌, Bool, true, false, cond, List, get_or, Some, None, refl, sym, ◌∙◌, subst, arith}
use Rattle.ebpf_state.specs.declared.value.Abs.{Abs}
use Rattle.ebpf_state.specs.declared.value.Abs.TheVariants.{Unset}
use Rattle.ebpf_state.specs.declared.word.Word.{Word}
use Rattle.ebpf_state.specs.declared.word.Word.TheVariants.{Bytes}
use Rattle.ebpf_state.specs.Stack.{word_of}
use Rattle.ebpf_state.specs.Abstract.{joined_value}
use Rattle.ebpf_state.specs.Words.{joined_word}
use Rattle.ebpf_state.specs.StateView.{StateView}
use Rattle.ebpf_state.specs.States.{joined_list, is_same_held}
use Rattle.ebpf_state.proofs.JoinLists.{joined_list-index, joined_list-length}
use Rattle.ebpf_verify.specs.declared.entry.EntryState.{EntryState}
use Rattle.ebpf_verify.specs.declared.entry.EntryState.TheVariants.{Unreached, Known, Conflict}
use Rattle.ebpf_verify.specs.Entry.{with_state, known_or_conflict}
use Rattle.ebpf_machine.specs.View.{ObjectView}
use Rattle.ebpf_verify.proofs.Bounded.{IsFull, full_weaker, joined_registers_bounded, joined_words_bounded}
use Rattle.ebpf_machine.proofs.Rules.Referred.{same_kinds}
use Rattle.ebpf_machine.specs.Values.{Frame}
use Rattle.ebpf_machine.specs.Cells.{cell_at}
use Rattle.ebpf_machine.specs.Concretization.{IsOf, IsOfCells, AreOf, AreReferred, Arrives, calls_of}
use Rattle.ebpf_machine.proofs.Rules.ValueJoins.{IsOf-joined_left, IsOf-joined_right}
use Rattle.ebpf_machine.proofs.Rules.Words.{joined_cells_left, joined_cells_right}

same_referred : (s t : StateView) (objects : List ObjectView) → is_same_held s.held t.held ≡ true → AreReferred t objects → AreReferred s objects
same_referred s t objects same h o there = same_kinds o.call s.held t.held same ∙ h o there

-- what is known before a slot has all registers, with numbers of 64 bits and answers of calls below it
abbrev pub IsWhole : ℕ → EntryState → Type 0
IsWhole slot (Known s) = IsFull slot s
IsWhole slot _ = Unit {0}

pub whole_weaker : (slot higher : ℕ) (a : EntryState) → slot ≤ higher → IsWhole slot a → IsWhole higher a
whole_weaker slot higher Unreached le h = tt
whole_weaker slot higher (Known s) le h = full_weaker slot higher s le h
whole_weaker slot higher Conflict le h = tt

abbrev joined_registers : StateView → StateView → StateView
joined_registers s t = record { registers = joined_list joined_value s.registers t.registers; words = joined_list joined_word s.words t.words; held = s.held }

left_side : (slot : ℕ) (s t : StateView) (frame : Frame ℕ) (objects : List ObjectView) → IsFull slot s → IsFull slot t
    → AreOf s frame objects → AreOf (joined_registers s t) frame objects
left_side slot s t frame objects v u h = record {
  each = λ k lt. subst (λ (a : Abs). IsOf (calls_of objects) a (get_or frame.registers k None))
      (sym (joined_list-index joined_value Unset s.registers t.registers k (v.whole ∙ sym u.whole) (omega (arith, v.whole))))
      (IsOf-joined_left (calls_of objects) (get_or s.registers k Unset) (get_or t.registers k Unset) (get_or frame.registers k None) (h.each k lt));
  words = λ w lt. subst (λ (x : Word). IsOfCells (calls_of objects) x (λ j. cell_at frame.stack (8 * w + j)))
      (sym (joined_list-index joined_word (Bytes 0) s.words t.words w (v.deep ∙ sym u.deep) (omega (arith, v.deep))))
      (joined_cells_left (calls_of objects) (word_of s.words w) (word_of t.words w) (λ j. cell_at frame.stack (8 * w + j)) (h.words w lt));
  held = h.held;
}

right_side : (slot : ℕ) (s t : StateView) (frame : Frame ℕ) (objects : List ObjectView) → IsFull slot s → IsFull slot t
    → is_same_held s.held t.held ≡ true → AreOf t frame objects → AreOf (joined_registers s t) frame objects
right_side slot s t frame objects v u same h = record {
  each = λ k lt. subst (λ (a : Abs). IsOf (calls_of objects) a (get_or frame.registers k None))
      (sym (joined_list-index joined_value Unset s.registers t.registers k (v.whole ∙ sym u.whole) (omega (arith, v.whole))))
      (IsOf-joined_right (calls_of objects) (get_or s.registers k Unset) (get_or t.registers k Unset) (get_or frame.registers k None) (h.each k lt));
  words = λ w lt. subst (λ (x : Word). IsOfCells (calls_of objects) x (λ j. cell_at frame.stack (8 * w + j)))
      (sym (joined_list-index joined_word (Bytes 0) s.words t.words w (v.deep ∙ sym u.deep) (omega (arith, v.deep))))
      (joined_cells_right (calls_of objects) (word_of s.words w) (word_of t.words w) (λ j. cell_at frame.stack (8 * w + j)) (h.words w lt));
  held = same_referred s t objects same h.held;
}

abbrev joined_by : Bool → StateView → StateView → EntryState
joined_by same s t = known_or_conflict (cond same (Some (joined_registers s t)) None)

by_test : (same : Bool) (s t : StateView) (frame : Frame ℕ) (objects : List ObjectView)
    → (same ≡ true → AreOf (joined_registers s t) frame objects) → Arrives (joined_by same s t) frame objects
by_test true s t frame objects h = h refl
by_test false s t frame objects h = tt

whole_by_test : (slot : ℕ) (same : Bool) (s t : StateView) → IsFull slot s → IsFull slot t → IsWhole slot (joined_by same s t)
whole_by_test slot true s t v w =
    record {
      whole = joined_list-length joined_value s.registers t.registers (v.whole ∙ sym w.whole) ∙ v.whole;
      bounded = joined_registers_bounded slot s.registers t.registers v.bounded w.bounded;
      deep = joined_list-length joined_word s.words t.words (v.deep ∙ sym w.deep) ∙ v.deep;
      bounded_words = joined_words_bounded slot s.words t.words v.bounded_words w.bounded_words;
    }
whole_by_test slot false s t v w = tt

pub IsWhole-with_state : (slot : ℕ) (a : EntryState) (t : StateView) → IsWhole slot a → IsFull slot t → IsWhole slot (with_state a t)
IsWhole-with_state slot Unreached t v w = w
IsWhole-with_state slot (Known s) t v w = whole_by_test slot (is_same_held s.held t.held) s t v w
IsWhole-with_state slot Conflict t v w = tt

-- what came before one more state still comes
pub Arrives-with_state_old : (slot : ℕ) (a : EntryState) (t : StateView) (frame : Frame ℕ) (objects : List ObjectView)
    → IsWhole slot a → IsFull slot t → Arrives a frame objects → Arrives (with_state a t) frame objects
Arrives-with_state_old slot Unreached t frame objects v w h = absurd h
Arrives-with_state_old slot (Known s) t frame objects v w h =
    by_test (is_same_held s.held t.held) s t frame objects (λ same. left_side slot s t frame objects v w h)
Arrives-with_state_old slot Conflict t frame objects v w h = tt

-- and so does what one more state speaks of
pub Arrives-with_state_new : (slot : ℕ) (a : EntryState) (t : StateView) (frame : Frame ℕ) (objects : List ObjectView)
    → IsWhole slot a → IsFull slot t → AreOf t frame objects → Arrives (with_state a t) frame objects
Arrives-with_state_new slot Unreached t frame objects v w h = h
Arrives-with_state_new slot (Known s) t frame objects v w h =
    by_test (is_same_held s.held t.held) s t frame objects (λ same. right_side slot s t frame objects v w same h)
Arrives-with_state_new slot Conflict t frame objects v w h = tt
