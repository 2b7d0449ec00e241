-- Why a text is of no program: the code and the line, and a sentence.
use Rattle.std.specs.Prelude.{◌≡◌, ℕ, ◌++◌, List, [], codes, decimal}
use Rattle.ebpf_assembly.specs.declared.fault.LineFault.{LineFault}
use Rattle.ebpf_assembly.specs.declared.fault.LineFault.TheVariants.{WrongSlot, NoInstruction, TooManySlots}
use Rattle.ebpf_assembly.specs.declared.cause.Cause.{Cause}
use Rattle.ebpf_assembly.specs.declared.cause.Cause.TheVariants as cause
use Rattle.ebpf_assembly.specs.declared.cause.Wanted.{Wanted}
use Rattle.ebpf_assembly.specs.declared.cause.Wanted.TheVariants as wanted
use Rattle.ebpf_assembly.specs.Causes.{IsCause}
use Rattle.ebpf_assembly.specs.declared.fault.AssemblyFault.{AssemblyFault}
use Rattle.ebpf_assembly.specs.declared.fault.AssemblyFault.TheVariants.{Bad, Empty, NoMemory}
use Rattle.ebpf_command.specs.declared.done.FaultCode.TheVariants.{InputTooLong}
use Rattle.ebpf_command.specs.Lines.{fault_line}

abbrev pub line_fault_name : LineFault → List ℕ
line_fault_name WrongSlot = codes "A1"
line_fault_name NoInstruction = codes "A2"
line_fault_name TooManySlots = codes "A3"

abbrev pub wanted_words : Wanted → List ℕ
wanted_words wanted.Register = codes "a register, r0 to r10"
wanted_words wanted.Source = codes "a register or a number of 32 bits without leading zeros"
wanted_words wanted.Immediate = codes "a number of 32 bits without leading zeros"
wanted_words wanted.Number = codes "a number of 64 bits without sign and leading zeros"
wanted_words wanted.Place = codes "a place in memory, as [r1+0], with an offset of 16 bits"
wanted_words wanted.Offset = codes "an offset of 16 bits with its sign, as +1, or a label"
wanted_words wanted.FarOffset = codes "an offset of 32 bits with its sign, as +1, or a label"

abbrev pub cause_words : Cause → List ℕ
cause_words cause.OtherSlot = codes "what is before the colon is neither the slot of this instruction nor a label"
cause_words cause.SecondLabel = codes "the line has a second label or slot"
cause_words cause.LabelTwice = codes "the label is that of an earlier line"
cause_words cause.LabelTooLate = codes "the text has more than 256 labels"
cause_words cause.NoWord = codes "after the slot there is no instruction"
cause_words cause.NoWidth = codes "the name has no width: add 64 or 32, as in mov64"
cause_words cause.UnknownWord = codes "no instruction has that name"
cause_words (cause.Operands n) = codes "wrong number of operands: this instruction takes " ++ decimal n
cause_words (cause.Operand number want) = codes "operand " ++ (decimal number ++ (codes " is not " ++ wanted_words want))
cause_words (cause.NoLabel number) = codes "operand " ++ (decimal number ++ codes " is the name of no label")
cause_words cause.Other = codes "this is not an instruction"
cause_words cause.TooManySlots = codes "with this instruction the program has more than 4096 slots"

-- the code and the line, and why it is at fault
abbrev pub bad_line : ℕ → LineFault → Cause → List ℕ
bad_line line fault c =
    codes "fault " ++ (line_fault_name fault ++ (codes " line " ++ (decimal line ++ (codes "\n  " ++ (cause_words c ++ codes "\n")))))

-- why a text is of no program, in words
abbrev pub IsFaultText : (text : List ℕ) → AssemblyFault → (lines : List ℕ) → Type 0
IsFaultText text (Bad line fault) lines = (c : Cause) × IsCause text line fault c × (lines ≡ bad_line line fault c)
IsFaultText text (Empty line) lines = lines ≡ codes "fault A4 line " ++ (decimal line ++ codes "\n  no line has an instruction\n")
IsFaultText text NoMemory lines = lines ≡ []

-- a text that is too long is no line's fault
abbrev pub long_text_lines : List ℕ
long_text_lines = fault_line InputTooLong 0 ++ codes "  the text has more than 1048576 bytes\n"
