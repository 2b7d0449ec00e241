-- What is known of a word of the stack.
use Rattle.std.specs.Prelude.{bit_and, List, ◌++◌, ◌-◌, length, replicate}
use Rattle.ebpf_state.specs.declared.value.Abs.{Abs}
use Rattle.ebpf_state.specs.declared.value.Abs.TheVariants.{Unset, Num}
use Rattle.ebpf_state.specs.declared.word.Word.{Word}
use Rattle.ebpf_state.specs.declared.word.Word.TheVariants.{Spill, Bytes}
use Rattle.ebpf_state.specs.Abstract.{joined_value}

-- a spill of a value, or a word of which nothing is known
abbrev pub spill_or_nothing : Abs → Word
spill_or_nothing Unset = Bytes 0
spill_or_nothing value = Spill value

-- the set bytes of both; a spilled number has all its bytes set
abbrev pub joined_word : Word → Word → Word
joined_word (Bytes a) (Bytes b) = Bytes (bit_and a b)
joined_word (Spill (Num a)) (Bytes b) = Bytes b
joined_word (Bytes a) (Spill (Num b)) = Bytes a
joined_word (Spill a) (Spill b) = spill_or_nothing (joined_value a b)
joined_word _ _ = Bytes 0

-- a spill is of something: a word of which nothing is known has no byte set
abbrev pub IsProperWord : Word → Type 0
IsProperWord (Spill Unset) = ⊥
IsProperWord _ = Unit {0}

-- the 64 words of a stack, of which these are the topmost; nothing is known of the others
abbrev pub all_words : List Word → List Word
all_words words = replicate (64 - length words) (Bytes 0) ++ words
