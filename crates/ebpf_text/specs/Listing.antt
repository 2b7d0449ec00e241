-- The listing of a program, as bytes: a line for each instruction, with its slot in decimal.
use Rattle.std.specs.Prelude.{ℕ, ◌+◌, ◌++◌, List, [], ◌∷◌, Option, Some, None, codes, decimal}
use Rattle.ebpf_insn.specs.declared.insn.Insn.{Insn}
use Rattle.ebpf_text.specs.Mnemonics.{mnemonic_of}
use Rattle.ebpf_text.specs.Operands.{operands_of}

-- a comma and a space before each of these
abbrev pub later_operands_text : List (List ℕ) → List ℕ
later_operands_text [] = []
later_operands_text (text ∷ texts) = codes ", " ++ (text ++ later_operands_text texts)

-- a space before the first, and a comma and a space before each later one
abbrev pub operands_text : List (List ℕ) → List ℕ
operands_text [] = []
operands_text (text ∷ texts) = codes " " ++ (text ++ later_operands_text texts)

abbrev pub insn_text : Insn → List ℕ
insn_text i = mnemonic_of i ++ operands_text (operands_of i)

-- the line of the instruction that is at a slot
abbrev pub line_of : ℕ → Insn → List ℕ
line_of slot i = decimal slot ++ (codes ": " ++ (insn_text i ++ codes "\n"))

-- the line of what is at a slot: the second half of a wide instruction has none
abbrev pub line_at : ℕ → Option Insn → List ℕ
line_at slot None = []
line_at slot (Some i) = line_of slot i

-- the lines of these slots, the first of which has this number
unfoldable pub lines_from : ℕ → List (Option Insn) → List ℕ
lines_from slot [] = []
lines_from slot (o ∷ slots) = line_at slot o ++ lines_from (slot + 1) slots

abbrev pub listing_of : List (Option Insn) → List ℕ
listing_of p = lines_from 0 p
