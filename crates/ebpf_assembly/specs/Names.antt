-- Names for slots: a text with labels is read as the text in which each jump to a name has the offset that leads to the slot of its label.
use Rattle.std.specs.Prelude.{ℕ, ◌+◌, ◌-◌, ◌==◌, ◌&&◌, ◌||◌, nat_le, nat_lt, Bool, false, if◌then◌else◌, List, [], ◌∷◌, ◌++◌, take, Option, Some}
use Rattle.std.specs.Prelude.{None, is_some, option_map, codes, decimal}
use Rattle.std.specs.Str.{bytes_eq}
use Rattle.std.specs.List.{flat_map}
use Rattle.ebpf_insn.specs.declared.program.TheConstants.{MAX_SLOTS}
use Rattle.ebpf_assembly.specs.declared.label.TheConstants.{MAX_LABELS}
use Rattle.ebpf_assembly.specs.Lines.{text_lines, words}

-- a letter, or an underscore
abbrev pub is_letter : ℕ → Bool
is_letter c = (nat_le 65 c && nat_le c 90) || (nat_le 97 c && nat_le c 122) || c == 95

abbrev pub is_lettered : List ℕ → Bool
is_lettered [] = false
is_lettered (c ∷ cs) = is_letter c

-- what comes before the colon that a word ends with
unfoldable pub before_colon : List ℕ → Option (List ℕ)
before_colon [] = None
before_colon (c ∷ []) = if c == 58 then Some [] else None
before_colon (c ∷ d ∷ rest) = option_map (λ label. c ∷ label) (before_colon (d ∷ rest))

-- the name of a label: a word that begins with a letter and ends with a colon
abbrev pub name_in : List ℕ → Option (List ℕ)
name_in word = if is_lettered word then before_colon word else None

-- the words of a line after its label, or its slot
abbrev pub unlabelled : List (List ℕ) → List (List ℕ)
unlabelled [] = []
unlabelled (word ∷ ws) = if is_some (before_colon word) then ws else word ∷ ws

-- how many slots the instruction with this mnemonic takes: a wide one two
abbrev pub slots_of_word : List ℕ → ℕ
slots_of_word word = if bytes_eq word (codes "lddw") then 2 else 1

abbrev pub slots_of_words : List (List ℕ) → ℕ
slots_of_words [] = 0
slots_of_words (word ∷ ws) = slots_of_word word

-- the slot after a line; past the last slot that a program can have there is no need to count
abbrev pub slot_after : ℕ → List (List ℕ) → ℕ
slot_after slot ws = if nat_lt MAX_SLOTS slot then slot else slot + slots_of_words (unlabelled ws)

-- a name, and the slot that it means
pub record Named : Type 0 where
  pub name : List ℕ
  pub slot : ℕ

abbrev pub named : ℕ → Option (List ℕ) → List Named
named slot None = []
named slot (Some name) = record { name = name; slot = slot } ∷ []

abbrev pub label_of : ℕ → List (List ℕ) → List Named
label_of slot [] = []
label_of slot (word ∷ ws) = named slot (name_in word)

-- the labels of these lines, the first of which is at this slot
unfoldable pub labels_from : ℕ → List (List ℕ) → List Named
labels_from slot [] = []
labels_from slot (line ∷ lines) = label_of slot (words line) ++ labels_from (slot_after slot (words line)) lines

-- the slot of a name: that of its first label
unfoldable pub slot_of : List ℕ → List Named → Option ℕ
slot_of name [] = None
slot_of name (l ∷ labels) = if bytes_eq l.name name then Some l.slot else slot_of name labels

-- whether this slot is that of a name
abbrev pub is_slot : ℕ → Option ℕ → Bool
is_slot slot None = false
is_slot slot (Some target) = target == slot

-- whether a word is the label of this slot
abbrev pub labels_slot : List Named → ℕ → Option (List ℕ) → Bool
labels_slot labels slot None = false
labels_slot labels slot (Some name) = is_slot slot (slot_of name labels)

-- the words without the label of their slot
abbrev pub own_words : List Named → ℕ → List (List ℕ) → List (List ℕ)
own_words labels slot [] = []
own_words labels slot (word ∷ ws) = if labels_slot labels slot (name_in word) then ws else word ∷ ws

abbrev pub begins_with_j : List ℕ → Bool
begins_with_j [] = false
begins_with_j (c ∷ cs) = c == 106

-- the mnemonic of a jump begins with a j, and that of no other instruction does
abbrev pub jumps : List (List ℕ) → Bool
jumps [] = false
jumps (word ∷ ws) = begins_with_j word

abbrev pub is_jump : List (List ℕ) → Bool
is_jump ws = jumps (unlabelled ws)

-- from the slot after a jump to its target, with the sign
abbrev pub distance_text : ℕ → ℕ → List ℕ
distance_text from to = if nat_le from to then codes "+" ++ decimal (to - from) else codes "-" ++ decimal (from - to)

abbrev pub target_by : ℕ → List ℕ → Option ℕ → List ℕ
target_by slot word None = word
target_by slot word (Some target) = distance_text (slot + 1) target

-- where a jump at a slot leads: the offset to the slot of a name, or the word as it is
abbrev pub target_text : List Named → ℕ → List ℕ → List ℕ
target_text labels slot word = target_by slot word (slot_of word labels)

-- each with a space after it
abbrev pub words_text : List (List ℕ) → List ℕ
words_text ws = flat_map (λ word. word ++ codes " ") ws

-- words of which the last is the target of a jump
unfoldable pub with_target : List Named → ℕ → List (List ℕ) → List (List ℕ)
with_target labels slot [] = []
with_target labels slot (word ∷ []) = target_text labels slot word ∷ []
with_target labels slot (word ∷ next ∷ ws) = word ∷ with_target labels slot (next ∷ ws)

-- the words of an instruction: those of a jump have an offset
abbrev pub targeted : List Named → ℕ → List (List ℕ) → List (List ℕ)
targeted labels slot ws = if is_jump ws then with_target labels slot ws else ws

-- the words of a line, without its label and with an offset
abbrev pub plain_words : List Named → ℕ → List (List ℕ) → List (List ℕ)
plain_words labels slot ws = targeted labels slot (own_words labels slot ws)

-- a newline, and such a line, for each of these lines, the first of which is at this slot
unfoldable pub plain_lines : List Named → ℕ → List (List ℕ) → List ℕ
plain_lines labels slot [] = []
plain_lines labels slot (line ∷ lines) = codes "\n" ++ (words_text (plain_words labels slot (words line)) ++ plain_lines labels (slot_after slot (words line)) lines)

abbrev pub without_first : List ℕ → List ℕ
without_first [] = []
without_first (c ∷ cs) = cs

abbrev pub plain_by : List Named → List ℕ → List ℕ
plain_by [] text = text
plain_by (l ∷ labels) text = without_first (plain_lines (l ∷ labels) 0 (text_lines text))

-- the labels of a text: the first `MAX_LABELS`, so that a name is found in time
abbrev pub labels_of : List ℕ → List Named
labels_of text = take MAX_LABELS (labels_from 0 (text_lines text))

-- the text without labels and names; it has as many lines
abbrev pub plain : List ℕ → List ℕ
plain text = plain_by (labels_of text) text
