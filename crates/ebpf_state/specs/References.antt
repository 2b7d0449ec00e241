-- What becomes of a state where a call asks for an object, where its answer is compared with null, and where its object is
-- given back.
use Rattle.std.specs.Prelude.{ℕ, pos, Bool, true, false, not, nat_lt, ◌==◌, if◌then◌else◌, List, ◌∷◌, ◌++◌, map, filter, Option, option_map}
use Rattle.std.specs.List.{find}
use Rattle.ebpf_range.specs.Interval.{constant}
use Rattle.ebpf_state.specs.declared.value.Abs.{Abs}
use Rattle.ebpf_state.specs.declared.value.Abs.TheVariants.{Unset, Num, Ob, May}
use Rattle.ebpf_state.specs.declared.word.Word.{Word}
use Rattle.ebpf_state.specs.declared.word.Word.TheVariants.{Spill, Bytes}
use Rattle.ebpf_state.specs.declared.held.Held.{Held}
use Rattle.ebpf_state.specs.Words.{spill_or_nothing}
use Rattle.ebpf_state.specs.StateView.{StateView}

-- ---- a call asks for an object

-- the references of earlier calls, a new one, those of later calls; an older one of its own call is dropped
abbrev pub held_with : Held → List Held → List Held
held_with new held = filter (λ h. nat_lt h.call new.call) held ++ (new ∷ filter (λ h. nat_lt new.call h.call) held)

-- the state once the call asked for an object of the kind
abbrev pub holding : ℕ → ℕ → StateView → StateView
holding call kind s = record s { held = held_with (record { call = call; kind = kind; tested = false }) s.held }

-- the kind of the object that the call holds, if it holds one
abbrev pub kind_held : ℕ → StateView → Option ℕ
kind_held call s = option_map (λ h. h.kind) (find (λ h. h.call == call) s.held)

-- ---- its answer is compared with null

-- the answer is the number 0, or the object at its first byte
abbrev pub answer_known : ℕ → Bool → Abs
answer_known call true = Num (constant 0)
answer_known call false = Ob call (pos 0) (pos 0)

abbrev pub settled_value : ℕ → Bool → Abs → Abs
settled_value call null (May r) = if r == call then answer_known call null else May r
settled_value call null value = value

abbrev pub settled_word : ℕ → Bool → Word → Word
settled_word call null (Spill value) = Spill (settled_value call null value)
settled_word call null (Bytes mask) = Bytes mask

abbrev pub tested_reference : ℕ → Held → Held
tested_reference call h = if h.call == call then record h { tested = true } else h

abbrev pub held_without : ℕ → List Held → List Held
held_without call held = filter (λ h. not (h.call == call)) held

-- where the answer is null there is nothing to hold
abbrev pub settled_held : ℕ → Bool → List Held → List Held
settled_held call true held = held_without call held
settled_held call false held = map (tested_reference call) held

-- the state once it is known that the answer of the call is null, or is not
abbrev pub settled : ℕ → Bool → StateView → StateView
settled call null s = record {
  registers = map (settled_value call null) s.registers;
  words = map (settled_word call null) s.words;
  held = settled_held call null s.held;
}

-- ---- its object is given back

-- nothing is known of what points to the object, or may
abbrev pub forgotten_value : ℕ → Abs → Abs
forgotten_value call (Ob r low high) = if r == call then Unset else Ob r low high
forgotten_value call (May r) = if r == call then Unset else May r
forgotten_value call value = value

abbrev pub forgotten_word : ℕ → Word → Word
forgotten_word call (Spill value) = spill_or_nothing (forgotten_value call value)
forgotten_word call (Bytes mask) = Bytes mask

-- the state once the object of the call was given back
abbrev pub forgotten : ℕ → StateView → StateView
forgotten call s = record {
  registers = map (forgotten_value call) s.registers;
  words = map (forgotten_word call) s.words;
  held = held_without call s.held;
}
