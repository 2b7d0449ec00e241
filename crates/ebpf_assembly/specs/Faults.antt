-- Why a text is of no program.
use Rattle.std.specs.Prelude.{◌≡◌, ◌≢◌, ◌⊎◌, ◌<◌, ℕ, ◌+◌, List, [], ◌∷◌, ◌++◌, length, codes, decimal}
use Rattle.std.specs.List.{flat_map}
use Rattle.ebpf_insn.specs.declared.insn.Insn.{Insn}
use Rattle.ebpf_insn.specs.Program.{placed, slots_in}
use Rattle.ebpf_insn.specs.declared.program.TheConstants.{MAX_SLOTS}
use Rattle.ebpf_assembly.specs.declared.fault.LineFault.{LineFault}
use Rattle.ebpf_assembly.specs.declared.fault.LineFault.TheVariants.{WrongSlot, NoInstruction, TooManySlots}
use Rattle.ebpf_assembly.specs.declared.fault.AssemblyFault.{AssemblyFault}
use Rattle.ebpf_assembly.specs.declared.fault.AssemblyFault.TheVariants.{Bad, Empty, NoMemory}
use Rattle.ebpf_assembly.specs.Lines.{text_lines, words, slot_label, IsInsnAt, AreInsns}
use Rattle.ebpf_assembly.specs.Names.{plain}

-- these words begin with a label, and it isn't that of the slot
abbrev pub IsLabelledWrong : ℕ → List (List ℕ) → Type 0
IsLabelledWrong slot ws = (label : List ℕ) × (rest : List (List ℕ)) × (ws ≡ (label ++ codes ":") ∷ rest) × (label ≢ decimal slot)

-- if these words begin with a label, it is that of the slot
abbrev pub IsLabelledRight : ℕ → List (List ℕ) → Type 0
IsLabelledRight slot ws = (label : List ℕ) (rest : List (List ℕ)) → ws ≡ (label ++ codes ":") ∷ rest → label ≡ decimal slot

-- these are the words after the label of the slot, or all of them, where they begin with no label
abbrev pub IsUnlabelled : ℕ → List (List ℕ) → List (List ℕ) → Type 0
IsUnlabelled slot ws rest = (ws ≡ slot_label slot ∷ rest) ⊎ ((ws ≡ rest) × ((label : List ℕ) (others : List (List ℕ)) → ws ≢ (label ++ codes ":") ∷ others))

-- what is wrong with these words, where the next slot is this one
abbrev pub IsLineFault : ℕ → List (List ℕ) → LineFault → Type 0
IsLineFault slot ws WrongSlot = IsLabelledWrong slot ws
IsLineFault slot ws NoInstruction = (ws ≢ []) × IsLabelledRight slot ws × ((i : Insn) → ¬ (IsInsnAt slot ws i))
IsLineFault slot ws TooManySlots = (i : Insn) × IsInsnAt slot ws i × (MAX_SLOTS < slot + slots_in i)

-- the line of this number, counted from 1, after lines that are these instructions
pub record IsLineAfter (text : List ℕ) (number : ℕ) (line : List ℕ) (is : List Insn) : Type 0 where
  pub before : List (List ℕ)
  pub after : List (List ℕ)
  pub lines : text_lines text ≡ before ++ line ∷ after
  pub counted : number ≡ length before + 1
  pub read : AreInsns 0 before is

-- why no program was made of a text without names
abbrev pub IsPlainFault : List ℕ → AssemblyFault → Type 0
IsPlainFault text (Bad number fault) = (line : List ℕ) × (is : List Insn) × IsLineAfter text number line is × IsLineFault (length (flat_map placed is)) (words line) fault
IsPlainFault text (Empty number) = (number ≡ length (text_lines text)) × AreInsns 0 (text_lines text) []
IsPlainFault text NoMemory = Unit {0}

-- why no program was made of a text; the line of this number is the one that the text has there, without its label and with offsets
abbrev pub IsAssemblyFault : List ℕ → AssemblyFault → Type 0
IsAssemblyFault text fault = IsPlainFault (plain text) fault

-- why a line was not read
abbrev pub IsLineStop : ℕ → ℕ → List ℕ → AssemblyFault → Type 0
IsLineStop number slot line (Bad n fault) = (n ≡ number) × IsLineFault slot (words line) fault
IsLineStop number slot line (Empty n) = ⊥
IsLineStop number slot line NoMemory = Unit {0}
