-- What is lost where paths meet, as a line: what each path knew, and the join of them does not.
use Rattle.std.specs.Prelude.{ℕ, zero, suc, ◌-◌, ◌*◌, ◌==◌, Bool, ◌&&◌, if◌then◌else◌, List, [], ◌∷◌, ◌++◌, length, codes, decimal, Option, Some}
use Rattle.std.specs.Prelude.{None, is_none, slice_get, unwrap_or}
use Rattle.std.specs.List.{flat_map, position}
use Rattle.ebpf_text.specs.Operands.{register_text}
use Rattle.ebpf_state.specs.declared.value.Abs.{Abs}
use Rattle.ebpf_state.specs.declared.value.Abs.TheVariants.{Unset}
use Rattle.ebpf_state.specs.declared.word.Word.{Word}
use Rattle.ebpf_state.specs.declared.word.Word.TheVariants.{Spill, Bytes}
use Rattle.ebpf_state.specs.Abstract.{is_unset, joined_value}
use Rattle.ebpf_state.specs.Stack.{word_of}
use Rattle.ebpf_state.specs.StateView.{StateView}
use Rattle.ebpf_state.specs.States.{register_of}
use Rattle.ebpf_verify.specs.declared.comers.Comer.{Comer}
use Rattle.ebpf_explain.specs.declared.lost.Place.{Place}
use Rattle.ebpf_explain.specs.declared.lost.Place.TheVariants.{Register, Slot}
use Rattle.ebpf_explain.specs.Registers.{all_registers}
use Rattle.ebpf_explain.specs.Values.{value_text}

-- what is known of a word that was stored as a whole
abbrev pub spilled : Word → Abs
spilled (Spill value) = value
spilled (Bytes mask) = Unset

-- what a state knows of a register, or of a word of the stack
abbrev pub value_at : Place → StateView → Abs
value_at (Register r) s = register_of s r
value_at (Slot number) s = spilled (word_of s.words number)

-- the first state that comes and knows nothing of it
abbrev pub first_without : Place → List Comer → Option ℕ
first_without place cs = position (λ c. is_unset (value_at place c.state)) cs

-- each state that comes knows something of it, and the join of them nothing
abbrev pub is_lost : Place → List Comer → StateView → Bool
is_lost place cs s = is_unset (value_at place s) && is_none (first_without place cs)

-- the first state that comes and can't be joined there with this value
abbrev pub first_apart : Place → Abs → List Comer → Option ℕ
first_apart place value cs = position (λ c. is_unset (joined_value value (value_at place c.state))) cs

abbrev pub place_name : Place → List ℕ
place_name (Register r) = codes "  " ++ register_text r
place_name (Slot number) = codes "  [r10-" ++ (decimal (512 - 8 * number) ++ codes "]")

-- what one that comes knows of it
abbrev pub known_there : Place → StateView → List ℕ
known_there place s = codes " " ++ value_text (value_at place s)

abbrev pub known_from : Place → Option Comer → List ℕ
known_from place None = []
known_from place (Some c) = known_there place c.state ++ (codes " from " ++ decimal c.from)

abbrev pub known_by : Place → List Comer → ℕ → List ℕ
known_by place cs number = known_from place (slice_get cs number)

-- the first of them that can't be joined with a value, or else the last
abbrev pub other_than : Place → Abs → List Comer → ℕ
other_than place value cs = unwrap_or (first_apart place value cs) (length cs - 1)

-- the value that comes first, and one that can't be joined with it
abbrev pub apart_from : Place → Option Comer → List Comer → List ℕ
apart_from place None cs = []
apart_from place (Some c) cs = known_by place cs 0 ++ (codes "," ++ known_by place cs (other_than place (value_at place c.state) cs))

abbrev pub lost_at : List Comer → Place → List ℕ
lost_at cs place = place_name place ++ apart_from place (slice_get cs 0) cs

-- a place that is lost, as a list of it alone
abbrev pub lost_among : List Comer → StateView → Place → List Place
lost_among cs s place = if is_lost place cs s then place ∷ [] else []

-- those of the words of the stack below number n
unfoldable pub slots_lost : List Comer → StateView → ℕ → List Place
slots_lost cs s zero = []
slots_lost cs s (suc n) = slots_lost cs s n ++ lost_among cs s (Slot n)

-- the registers, and then the words of the stack
abbrev pub lost_places : List Comer → StateView → List Place
lost_places cs s = flat_map (λ r. lost_among cs s (Register r)) all_registers ++ slots_lost cs s 64

abbrev pub line_with : List ℕ → List ℕ
line_with words = codes "  lost where paths meet:" ++ (words ++ codes "\n")

abbrev pub headed : List ℕ → List ℕ
headed words = if length words == 0 then [] else line_with words

-- the line of what is lost, if anything is; where none comes, nothing is
abbrev pub lost_line : List Comer → StateView → List ℕ
lost_line cs s = if length cs == 0 then [] else headed (flat_map (lost_at cs) (lost_places cs s))
