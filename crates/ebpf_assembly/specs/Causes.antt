-- Why a line is at fault, more exactly than its fault says: the first of its words that no instruction has there.
use Rattle.std.specs.Prelude.{◌≡◌, ◌≢◌, ◌⊎◌, ◌<◌, ◌^◌, ℕ, ℤ, Bool, false, is_some, ◌+◌, ◌-◌, List, [], ◌∷◌, ◌++◌, length, Option, Some, None}
use Rattle.std.specs.Prelude.{codes, decimal, slice_index_or, cond, FitsSigned}
use Rattle.std.specs.Fmt.{signed_decimal}
use Rattle.std.specs.Int.{w16, w32}
use Rattle.ebpf_insn.specs.declared.register.Reg.{Reg}
use Rattle.ebpf_insn.specs.declared.insn.Source.{Source}
use Rattle.ebpf_insn.specs.Encoding.{IsSource}
use Rattle.ebpf_text.specs.Operands.{register_text, source_text, offset_text, place_text}
use Rattle.ebpf_assembly.specs.declared.fault.LineFault.{LineFault}
use Rattle.ebpf_assembly.specs.declared.fault.LineFault.TheVariants.{WrongSlot, NoInstruction, TooManySlots}
use Rattle.ebpf_assembly.specs.declared.kind.Kind.{Kind}
use Rattle.ebpf_assembly.specs.declared.kind.Kind.TheVariants as kind
use Rattle.ebpf_assembly.specs.declared.cause.Cause.{Cause}
use Rattle.ebpf_assembly.specs.declared.cause.Cause.TheVariants as cause
use Rattle.ebpf_assembly.specs.declared.cause.Wanted.{Wanted}
use Rattle.ebpf_assembly.specs.declared.cause.Wanted.TheVariants as wanted
use Rattle.ebpf_assembly.specs.Lines.{text_lines, words}
use Rattle.ebpf_assembly.specs.Kinds.{IsKind, kind_name}
use Rattle.ebpf_assembly.specs.Names.{Named, before_colon, name_in, is_lettered, unlabelled, slot_of, labels_of}

-- the operands that an instruction of a kind has
abbrev pub wanted_by : Kind → List Wanted
wanted_by (kind.Alu width op) = wanted.Register ∷ wanted.Source ∷ []
wanted_by (kind.Sext width bits) = wanted.Register ∷ wanted.Register ∷ []
wanted_by (kind.Neg width) = wanted.Register ∷ []
wanted_by (kind.Swap order bits) = wanted.Register ∷ []
wanted_by kind.Wide = wanted.Register ∷ wanted.Number ∷ []
wanted_by (kind.Load size signed) = wanted.Register ∷ wanted.Place ∷ []
wanted_by (kind.StoreImmediate size) = wanted.Place ∷ wanted.Immediate ∷ []
wanted_by (kind.StoreRegister size) = wanted.Place ∷ wanted.Register ∷ []
wanted_by kind.Jump = wanted.Offset ∷ []
wanted_by kind.JumpFar = wanted.FarOffset ∷ []
wanted_by (kind.Branch width condition) = wanted.Register ∷ wanted.Source ∷ wanted.Offset ∷ []
wanted_by kind.Call = wanted.Immediate ∷ []
wanted_by kind.Exit = []

-- a name of one of these labels
abbrev pub IsLabel : List Named → List ℕ → Type 0
IsLabel labels word = (slot : ℕ) × (slot_of word labels ≡ Some slot)

-- a word is what an operand has to be
abbrev pub Fits : List Named → Wanted → List ℕ → Type 0
Fits labels wanted.Register word = (r : Reg) × (word ≡ register_text r)
Fits labels wanted.Source word = (s : Source) × IsSource s × (word ≡ source_text s)
Fits labels wanted.Immediate word = (z : ℤ) × FitsSigned w32 z × (word ≡ signed_decimal z)
Fits labels wanted.Number word = (n : ℕ) × (n < 2 ^ 64) × (word ≡ decimal n)
Fits labels wanted.Place word = (r : Reg) × (z : ℤ) × FitsSigned w16 z × (word ≡ place_text r z)
Fits labels wanted.Offset word = IsLabel labels word ⊎ ((z : ℤ) × FitsSigned w16 z × (word ≡ offset_text z))
Fits labels wanted.FarOffset word = IsLabel labels word ⊎ ((z : ℤ) × FitsSigned w32 z × (word ≡ offset_text z))

abbrev pub jump_misfit : ℕ → Wanted → List ℕ → Cause
jump_misfit number want word = cond (is_lettered word) (cause.NoLabel number) (cause.Operand number want)

-- the operand of a number isn't what it has to be: where a label could be, it may be the name of none
abbrev pub misfit : ℕ → Wanted → List ℕ → Cause
misfit number wanted.Offset word = jump_misfit number wanted.Offset word
misfit number wanted.FarOffset word = jump_misfit number wanted.FarOffset word
misfit number want word = cause.Operand number want

-- the first operand that isn't what it has to be, where the first of these has a number
unfoldable pub IsMisfitFrom : List Named → ℕ → List Wanted → List (List ℕ) → Cause → Type 0
IsMisfitFrom labels number [] ws c = c ≡ cause.Other
IsMisfitFrom labels number (want ∷ wants) [] c = c ≡ cause.Other
IsMisfitFrom labels number (want ∷ wants) (word ∷ ws) c =
    (Fits labels want word × IsMisfitFrom labels (number + 1) wants ws c)
    ⊎ ((Fits labels want word → ⊥) × (c ≡ misfit number want word))

-- there are as many operands as there have to be, or not
abbrev pub IsOperandsCause : List Named → List Wanted → List (List ℕ) → Cause → Type 0
IsOperandsCause labels wants ws c =
    ((length ws ≢ length wants) × (c ≡ cause.Operands (length wants)))
    ⊎ ((length ws ≡ length wants) × IsMisfitFrom labels 1 wants ws c)

abbrev pub IsNoKindName : List ℕ → Type 0
IsNoKindName word = (k : Kind) → IsKind k → word ≢ kind_name k

abbrev pub IsKindName : List ℕ → Type 0
IsKindName word = (k : Kind) × IsKind k × (word ≡ kind_name k)

-- a word that is the name of no instruction may be one without its width
abbrev pub IsWordCause : List ℕ → Cause → Type 0
IsWordCause word c =
    (IsKindName (word ++ codes "64") × (c ≡ cause.NoWidth))
    ⊎ (IsNoKindName (word ++ codes "64") × (c ≡ cause.UnknownWord))

-- what is wrong with the words of an instruction: the first, or its operands
abbrev pub IsWordsCause : List Named → List (List ℕ) → Cause → Type 0
IsWordsCause labels [] c = c ≡ cause.NoWord
IsWordsCause labels (word ∷ ws) c =
    ((k : Kind) × IsKind k × (word ≡ kind_name k) × IsOperandsCause labels (wanted_by k) ws c)
    ⊎ (IsNoKindName word × IsWordCause word c)

-- words begin with a label or a slot
abbrev pub is_labelled : List (List ℕ) → Bool
is_labelled [] = false
is_labelled (word ∷ ws) = is_some (before_colon word)

-- what is wrong with the label of a line
abbrev pub labelled_as : Option ℕ → Cause
labelled_as None = cause.LabelTooLate
labelled_as (Some slot) = cause.LabelTwice

abbrev pub labelled_by : List Named → List ℕ → Cause
labelled_by labels name = labelled_as (slot_of name labels)

-- or with its slot
abbrev pub named_by : List Named → Option (List ℕ) → Cause
named_by labels None = cause.OtherSlot
named_by labels (Some name) = labelled_by labels name

abbrev pub label_cause : List Named → List (List ℕ) → Cause
label_cause labels [] = cause.OtherSlot
label_cause labels (word ∷ ws) = cond (is_labelled ws) cause.SecondLabel (named_by labels (name_in word))

-- by the fault of the line, and the labels that may be named
abbrev pub IsCauseBy : List Named → List (List ℕ) → LineFault → Cause → Type 0
IsCauseBy labels ws WrongSlot c = c ≡ label_cause labels ws
IsCauseBy labels ws NoInstruction c = IsWordsCause labels (unlabelled ws) c
IsCauseBy labels ws TooManySlots c = c ≡ cause.TooManySlots

-- the line of a number, counted from 1; none has no bytes
abbrev pub line_of : List ℕ → ℕ → List ℕ
line_of text number = slice_index_or (text_lines text) (number - 1) []

-- why the line of a number is at fault
abbrev pub IsCause : List ℕ → ℕ → LineFault → Cause → Type 0
IsCause text number fault c = IsCauseBy (labels_of text) (words (line_of text number)) fault c
