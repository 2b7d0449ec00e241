-- What a load from the stack reads and what a store to it leaves, by what is known of its words.
use Rattle.std.specs.Prelude.{◌≡◌, is_ok, ℕ, ◌+◌, ◌-◌, ◌*◌, ◌/◌, ◌%◌, ◌^◌, min, ℤ, pos, ◌+ℤ◌, ◌-ℤ◌, int_le, nat_abs, Bool, true, false, not, ◌&&◌, ◌||◌}
use Rattle.std.specs.Prelude.{◌==◌, if◌then◌else◌, bit_and, bit_or, List, [], ◌∷◌, slice_index_or, slice_set, Option, Some, None, Result, Ok, Err}
use Rattle.ebpf_insn.specs.declared.insn.Size.{Size}
use Rattle.ebpf_insn.specs.declared.insn.Size.TheVariants as size
use Rattle.ebpf_insn.specs.Faults.{first_of}
use Rattle.ebpf_range.specs.declared.range.Range.{Range}
use Rattle.ebpf_range.specs.Interval.{all_below}
use Rattle.ebpf_state.specs.declared.value.Abs.{Abs}
use Rattle.ebpf_state.specs.declared.value.Abs.TheVariants.{Num}
use Rattle.ebpf_state.specs.declared.word.Word.{Word}
use Rattle.ebpf_state.specs.declared.word.Word.TheVariants.{Spill, Bytes}
use Rattle.ebpf_state.specs.declared.stack.StackFault.{StackFault}
use Rattle.ebpf_state.specs.declared.stack.StackFault.TheVariants.{Bounds, UnsetByte, SplitPointer}
use Rattle.ebpf_state.specs.declared.stack.StoreFault.{StoreFault}
use Rattle.ebpf_state.specs.declared.stack.StoreFault.TheVariants.{Refused, NoMemory}
use Rattle.ebpf_state.specs.Abstract.{is_pointer, is_may}
use Rattle.ebpf_state.specs.Words.{spill_or_nothing}
use Rattle.ebpf_state.specs.StateView.{StateView}

-- how many bytes a load or a store moves
abbrev pub bytes_in : Size → ℕ
bytes_in size.B = 1
bytes_in size.H = 2
bytes_in size.W = 4
bytes_in size.D = 8

-- where the bytes at an offset from the frame pointer begin, among the 512 of the stack; nowhere where one of them is outside
abbrev pub place_of : ℤ → ℕ → Option ℕ
place_of offset bytes = if int_le (pos 0 -ℤ pos 512) offset && int_le (offset +ℤ pos bytes) (pos 0) then Some (nat_abs (offset +ℤ pos 512)) else None

-- the bytes are an aligned word
abbrev pub is_whole_word : ℕ → ℕ → Bool
is_whole_word place bytes = bytes == 8 && place % 8 == 0

-- the bits of word w that are for those of the bytes that lie in it
abbrev pub covered : ℕ → ℕ → ℕ → ℕ
covered place bytes w = 2 ^ min 8 (place + bytes - 8 * w) - 2 ^ min 8 (place - 8 * w)

abbrev pub word_of : List Word → ℕ → Word
word_of words w = slice_index_or words w (Bytes 0)

-- a pointer, or an answer that may be one, is stored and loaded as a whole alone
abbrev pub may_point : Abs → Bool
may_point value = is_pointer value || is_may value

-- ---- loads

-- a spill has all its bytes set
abbrev pub set_bits : Word → ℕ
set_bits (Spill value) = 255
set_bits (Bytes mask) = mask

abbrev pub is_unset_in : ℕ → Word → Bool
is_unset_in bits word = not (bit_and bits (set_bits word) == bits)

abbrev pub holds_pointer : Word → Bool
holds_pointer (Spill value) = may_point value
holds_pointer (Bytes mask) = false

abbrev pub is_split_in : ℕ → Word → Bool
is_split_in bits word = not (bits == 0) && holds_pointer word

-- why bytes of the stack can't be read as a number: they lie in the word where they begin, and in the next one
abbrev pub read_fault : ℕ → ℕ → List Word → Option StackFault
read_fault place bytes words = first_of ((
  is_unset_in (covered place bytes (place / 8)) (word_of words (place / 8))
      || is_unset_in (covered place bytes (place / 8 + 1)) (word_of words (place / 8 + 1)),
  UnsetByte,
) ∷ (
  is_split_in (covered place bytes (place / 8)) (word_of words (place / 8))
      || is_split_in (covered place bytes (place / 8 + 1)) (word_of words (place / 8 + 1)),
  SplitPointer,
) ∷
    [])

-- what is known of a number of n bytes; with its sign above them it may be any
abbrev pub loaded_range : ℕ → Bool → Range
loaded_range bytes true = all_below (2 ^ 64)
loaded_range bytes false = all_below (2 ^ (8 * bytes))

abbrev pub loaded_number : Option StackFault → ℕ → Bool → Result Abs StackFault
loaded_number (Some fault) bytes signed = Err fault
loaded_number None bytes signed = Ok (Num (loaded_range bytes signed))

-- an aligned word that was stored as a whole is that value again
abbrev pub loaded_word : Word → Option StackFault → ℕ → Bool → Result Abs StackFault
loaded_word (Spill value) fault bytes signed = Ok value
loaded_word (Bytes mask) fault bytes signed = loaded_number fault bytes signed

abbrev pub loaded_at : Option ℕ → ℕ → Bool → List Word → Result Abs StackFault
loaded_at None bytes signed words = Err Bounds
loaded_at (Some place) bytes signed words =
    if is_whole_word place bytes then loaded_word (word_of words (place / 8)) (read_fault place bytes words) bytes signed else
    loaded_number (read_fault place bytes words) bytes signed

-- what is known of the value that is loaded from an offset, or why it can't be
abbrev pub loaded : StateView → Size → Bool → ℤ → Result Abs StackFault
loaded s size signed offset = loaded_at (place_of offset (bytes_in size)) (bytes_in size) signed s.words

-- ---- stores

-- some bytes of a word are written: a spilled number stays set as a whole, and nothing else of any other spill does
abbrev pub overwritten : ℕ → Word → Word
overwritten bits (Bytes mask) = Bytes (bit_or mask bits)
overwritten bits (Spill (Num a)) = Bytes 255
overwritten bits (Spill value) = Bytes bits

abbrev pub written : ℕ → Word → Word
written bits word = if bits == 0 then word else overwritten bits word

abbrev pub written_at : ℕ → ℕ → ℕ → List Word → List Word
written_at place bytes w words = slice_set words w (written (covered place bytes w) (word_of words w))

abbrev pub stored_words : ℕ → ℕ → Abs → List Word → List Word
stored_words place bytes value words =
    if is_whole_word place bytes then slice_set words (place / 8) (spill_or_nothing value) else
    written_at place bytes (place / 8 + 1) (written_at place bytes (place / 8) words)

abbrev pub stored_at : Option ℕ → ℕ → Abs → StateView → Result StateView StackFault
stored_at None bytes value s = Err Bounds
stored_at (Some place) bytes value s =
    if may_point value && not (is_whole_word place bytes) then Err SplitPointer else
    Ok (record s { words = stored_words place bytes value s.words })

-- the state after a value was stored at an offset, or why it can't be
abbrev pub stored : StateView → Size → ℤ → Abs → Result StateView StackFault
stored s size offset value = stored_at (place_of offset (bytes_in size)) (bytes_in size) value s

-- what a store answers, and leaves there
abbrev pub Stores : {A : Type 0} → Result StateView StackFault → StateView → StateView → Result A StoreFault → Type 0
Stores stored old new (Ok done) = stored ≡ Ok new
Stores stored old new (Err (Refused fault)) = (stored ≡ Err fault) × (new ≡ old)
Stores stored old new (Err NoMemory) = (is_ok stored ≡ true) × (new ≡ old)
