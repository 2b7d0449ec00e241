-- What is known of the words of the stack, as text.
use Rattle.std.specs.Prelude.{ℕ, zero, suc, ◌-◌, ◌*◌, ◌/◌, ◌%◌, ◌^◌, ◌==◌, if◌then◌else◌, List, [], ◌++◌, codes, decimal}
use Rattle.ebpf_state.specs.declared.word.Word.{Word}
use Rattle.ebpf_state.specs.declared.word.Word.TheVariants.{Spill, Bytes}
use Rattle.ebpf_state.specs.Stack.{word_of}
use Rattle.ebpf_explain.specs.Values.{value_text}

-- the texts of the numbers below this one, in order
unfoldable pub texts_below : ℕ → (ℕ → List ℕ) → List ℕ
texts_below zero text = []
texts_below (suc n) text = texts_below n text ++ text n

-- where a word begins: n bytes below the frame pointer
abbrev pub place_text : ℕ → List ℕ
place_text number = codes "  [r10-" ++ (decimal (512 - 8 * number) ++ codes "] ")

-- the number of a byte that is set
abbrev pub byte_text : ℕ → ℕ → List ℕ
byte_text mask byte = if (mask / 2 ^ byte) % 2 == 1 then codes " " ++ decimal byte else []

-- which of the eight bytes of a word are set, where not all are
abbrev pub set_text : ℕ → List ℕ
set_text mask = if mask == 255 then [] else texts_below 8 (byte_text mask)

-- a word that was not stored as a whole, where a byte of it is set
abbrev pub bytes_word : ℕ → ℕ → List ℕ
bytes_word number mask = if mask == 0 then [] else place_text number ++ (codes "set" ++ set_text mask)

abbrev pub stack_word : ℕ → Word → List ℕ
stack_word number (Spill value) = place_text number ++ value_text value
stack_word number (Bytes mask) = bytes_word number mask

-- the word of a number, by what is known of all words
abbrev pub known_word : List Word → ℕ → List ℕ
known_word words number = stack_word number (word_of words number)
