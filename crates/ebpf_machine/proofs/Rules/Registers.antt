-- Writes of registers, in a frame and in what is known of it.
use Rattle.std.proofs.Common.{◌≡◌, ◌≢◌, ℕ, pos, false, refl, ◌<◌, ◌≤◌, List, length, length-set, get_or, set, Option, Some, None, ◌∙◌, inl, inr, ◌⊎◌, arith}
use Rattle.std.proofs.lemmas.Bool.{cases_lt}
use Rattle.std.proofs.lemmas.List.{get_or-set_same, get_or-set_other}
use Rattle.std.proofs.lemmas.List.Elements.{All-set}
use Rattle.ebpf_insn.specs.declared.register.Reg.{Reg}
use Rattle.ebpf_insn.specs.declared.register.Reg.TheVariants.{R0, R1, R2, R3, R4, R5, R6, R7, R8, R9, R10}
use Rattle.ebpf_insn.specs.Registers.{number_of}
use Rattle.ebpf_state.specs.declared.value.Abs.{Abs}
use Rattle.ebpf_state.specs.declared.value.Abs.TheVariants.{Unset}
use Rattle.ebpf_state.specs.StateView.{StateView}
use Rattle.ebpf_state.specs.States.{with_register}
use Rattle.ebpf_verify.specs.Calls.{with_result}
use Rattle.ebpf_verify.specs.Calls as known
use Rattle.ebpf_machine.specs.declared.value.Value.{Value}
use Rattle.ebpf_machine.specs.declared.value.Value.TheVariants.{Pointer}
use Rattle.ebpf_machine.specs.declared.value.Base.TheVariants.{Stack}
use Rattle.ebpf_machine.specs.Layout.{is_frame_pointer}
use Rattle.ebpf_machine.specs.Values.{Frame, read}
use Rattle.ebpf_machine.specs.Effect.{with_value, unset, without_arguments}
use Rattle.ebpf_machine.specs.View.{ObjectView}
use Rattle.ebpf_machine.specs.Concretization.{IsOf, AreOf, calls_of}
use Rattle.ebpf_machine.specs.Sound.{FitsValue, FitsRegister, FitsFrame}
use Rattle.ebpf_verify.proofs.Bounded.{number_of-lt}

-- a frame has all registers and its whole stack, its last register is the frame pointer, and what they hold fits
pub record IsFrame (frame : Frame ℕ) : Type 0 where
  pub whole : length frame.registers ≡ 11
  pub deep : length frame.stack ≡ 512
  pub pointer : read frame R10 ≡ Some (Pointer Stack (pos 0))
  pub fit : FitsFrame frame

abbrev pub with : Frame ℕ → Reg → Option (Value ℕ) → Frame ℕ
with frame r x = record frame { registers = set frame.registers (number_of r) x }

-- no other register is the last one
other_place : (r : Reg) → is_frame_pointer r ≡ false → 10 ≢ number_of r
other_place R0 low = λ e. omega (arith, e)
other_place R1 low = λ e. omega (arith, e)
other_place R2 low = λ e. omega (arith, e)
other_place R3 low = λ e. omega (arith, e)
other_place R4 low = λ e. omega (arith, e)
other_place R5 low = λ e. omega (arith, e)
other_place R6 low = λ e. omega (arith, e)
other_place R7 low = λ e. omega (arith, e)
other_place R8 low = λ e. omega (arith, e)
other_place R9 low = λ e. omega (arith, e)
other_place R10 low = absurd (cc)

pub IsFrame-with : {frame : Frame ℕ} (r : Reg) (x : Option (Value ℕ)) → is_frame_pointer r ≡ false → FitsRegister x → IsFrame frame → IsFrame (with frame r x)
IsFrame-with {frame} r x low fits h = record {
  whole = length-set frame.registers (number_of r) x ∙ h.whole;
  deep = h.deep;
  pointer = get_or-set_other frame.registers (number_of r) 10 x None (other_place r low) ∙ h.pointer;
  fit = record { registers = All-set FitsRegister frame.registers (number_of r) x fits h.fit.registers; stack = h.fit.stack };
}

-- a write on both sides
set_at : {s : StateView} {frame : Frame ℕ} {objects : List ObjectView} (n : ℕ) (a : Abs) (x : Option (Value ℕ)) (k : ℕ)
    → n < length s.registers → n < length frame.registers → k < 11 → AreOf s frame objects → IsOf (calls_of objects) a x
    → (k < n) ⊎ (n ≤ k) → IsOf (calls_of objects) (get_or (set s.registers n a) k Unset) (get_or (set frame.registers n x) k None)
set_at {s} {frame} n a x k ls lr lt h e (inl below) =
    let other : k ≢ n = omega arith in
    rw (get_or-set_other s.registers n k a Unset other, get_or-set_other frame.registers n k x None other) (h.each k lt)
set_at {s} {frame} n a x k ls lr lt h e (inr above) = elim (cases_lt n k) [
  | inl below ↦ let other : k ≢ n =
      omega arith in rw (get_or-set_other s.registers n k a Unset other, get_or-set_other frame.registers n k x None other) (h.each k lt)
  | inr not_below ↦ let same : k ≡ n = omega arith in rw (same, get_or-set_same s.registers n a Unset ls, get_or-set_same frame.registers n x None lr) e
]

pub AreOf-with : {s : StateView} {frame : Frame ℕ} {objects : List ObjectView} (r : Reg) (a : Abs) (x : Option (Value ℕ))
    → length s.registers ≡ 11 → length frame.registers ≡ 11 → AreOf s frame objects → IsOf (calls_of objects) a x
    → AreOf (with_register s r a) (with frame r x) objects
AreOf-with r a x ls lr h e =
    let room = number_of-lt r in
    record { each = λ k lt. set_at (number_of r) a x k (omega arith) (omega arith) lt h e (cases_lt k (number_of r)); words = h.words; held = h.held }

-- ---- calls: r1 to r5 are lost, and the result is in r0

pub IsFrame-lost : {frame : Frame ℕ} → IsFrame frame → IsFrame (without_arguments frame)
IsFrame-lost {frame} h = lost R5 _ refl (lost R4 _ refl (lost R3 _ refl (lost R2 _ refl (lost R1 frame refl h)))) where
  lost : (r : Reg) (f : Frame ℕ) → is_frame_pointer r ≡ false → IsFrame f → IsFrame (unset f r)
  lost r f low g = IsFrame-with r None low tt g

pub IsFrame-result : {frame : Frame ℕ} (v : Value ℕ) → FitsValue v → IsFrame frame → IsFrame (with_value (without_arguments frame) R0 v)
IsFrame-result v fits h = IsFrame-with R0 (Some v) refl fits (IsFrame-lost h)

-- both sides have all registers, and what is known speaks of the frame
record AreBoth (s : StateView) (frame : Frame ℕ) (objects : List ObjectView) : Type 0 where
  known : length s.registers ≡ 11
  whole : length frame.registers ≡ 11
  state : AreOf s frame objects

both_with : {s : StateView} {frame : Frame ℕ} {objects : List ObjectView} (r : Reg) (a : Abs) (x : Option (Value ℕ))
    → IsOf (calls_of objects) a x → AreBoth s frame objects → AreBoth (with_register s r a) (with frame r x) objects
both_with {s} {frame} r a x e h = record {
  known = length-set s.registers (number_of r) a ∙ h.known;
  whole = length-set frame.registers (number_of r) x ∙ h.whole;
  state = AreOf-with r a x h.known h.whole h.state e;
}

both_lost : {s : StateView} {frame : Frame ℕ} {objects : List ObjectView} → AreBoth s frame objects
    → AreBoth (known.without_arguments s) (without_arguments frame) objects
both_lost {s} {frame} {objects} h = lost R5 _ _ (lost R4 _ _ (lost R3 _ _ (lost R2 _ _ (lost R1 s frame h)))) where
  lost : (r : Reg) (t : StateView) (f : Frame ℕ) → AreBoth t f objects → AreBoth (with_register t r Unset) (unset f r) objects
  lost r t f b = both_with r Unset None tt b

-- what is known after a call speaks of the frame after it
pub AreOf-result : {s : StateView} {frame : Frame ℕ} {objects : List ObjectView} (a : Abs) (v : Value ℕ) → length s.registers ≡ 11
    → length frame.registers ≡ 11 → AreOf s frame objects → IsOf (calls_of objects) a (Some v)
    → AreOf (with_result a s) (with_value (without_arguments frame) R0 v) objects
AreOf-result a v ls lr h e =
    (both_with R0 a (Some v) e (both_lost (record { known = ls; whole = lr; state = h }))).state
