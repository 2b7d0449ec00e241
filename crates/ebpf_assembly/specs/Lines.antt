-- Which program a text without names is of: its lines are those that a listing writes, but for gaps, comments, blank lines and missing
-- slots.
use Rattle.std.specs.Prelude.{◌≡◌, ◌⊎◌, ℕ, ◌+◌, Bool, true, false, ◌==◌, ◌||◌, if◌then◌else◌, List, [], ◌∷◌, ◌++◌, filter, Option, codes, decimal}
use Rattle.std.specs.List.{slice_split}
use Rattle.ebpf_insn.specs.declared.insn.Insn.{Insn}
use Rattle.ebpf_insn.specs.Program.{instructions, slots_in}
use Rattle.ebpf_insn.specs.Encoding.{IsDefined, IsWellFormed}
use Rattle.ebpf_text.specs.Mnemonics.{mnemonic_of}
use Rattle.ebpf_text.specs.Operands.{operands_of}

abbrev pub is_newline : ℕ → Bool
is_newline c = c == 10

-- the lines of a text; after a last newline comes one more, which is blank
abbrev pub text_lines : List ℕ → List (List ℕ)
text_lines text = slice_split is_newline text

-- a space, a tab, a carriage return or a comma
abbrev pub is_gap : ℕ → Bool
is_gap c = c == 32 || c == 9 || c == 13 || c == 44

-- what comes before the first semicolon
unfoldable pub uncommented : List ℕ → List ℕ
uncommented [] = []
uncommented (c ∷ cs) = if c == 59 then [] else c ∷ uncommented cs

-- it has a byte
abbrev pub is_word : List ℕ → Bool
is_word [] = false
is_word (c ∷ cs) = true

-- the words of a line
abbrev pub words : List ℕ → List (List ℕ)
words line = filter is_word (slice_split is_gap (uncommented line))

-- the words of an instruction, as a listing writes them
abbrev pub words_of : Insn → List (List ℕ)
words_of i = mnemonic_of i ∷ operands_of i

-- the word that a line may begin with: the slot of its instruction
abbrev pub slot_label : ℕ → List ℕ
slot_label slot = decimal slot ++ codes ":"

-- these words are this instruction, at this slot
abbrev pub IsInsnAt : ℕ → List (List ℕ) → Insn → Type 0
IsInsnAt slot ws i = IsDefined i × ((ws ≡ words_of i) ⊎ (ws ≡ slot_label slot ∷ words_of i))

-- these lines are these instructions, the first of which is at this slot
abbrev pub AreInsns : ℕ → List (List ℕ) → List Insn → Type 0
AreInsns slot [] is = is ≡ []
AreInsns slot (line ∷ lines) is =
    ((words line ≡ []) × AreInsns slot lines is)
    ⊎ ((i : Insn) × (rest : List Insn) × (is ≡ i ∷ rest) × IsInsnAt slot (words line) i × AreInsns (slot + slots_in i) lines rest)

pub record IsAssembledPlain (text : List ℕ) (p : List (Option Insn)) : Type 0 where
  pub formed : IsWellFormed p
  pub lines : AreInsns 0 (text_lines text) (instructions p)
