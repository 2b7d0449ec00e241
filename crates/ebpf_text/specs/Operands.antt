-- What comes after the word of an instruction: its operands, each as a text.
use Rattle.std.specs.Prelude.{ℕ, suc, ℤ, pos, negsuc, ◌++◌, List, [], ◌∷◌, codes, decimal}
use Rattle.std.specs.Fmt.{signed_decimal}
use Rattle.ebpf_insn.specs.declared.register.Reg.{Reg}
use Rattle.ebpf_insn.specs.declared.insn.Source.{Source}
use Rattle.ebpf_insn.specs.declared.insn.Source.TheVariants.{Register, Imm}
use Rattle.ebpf_insn.specs.declared.insn.Insn.{Insn}
use Rattle.ebpf_insn.specs.declared.insn.Insn.TheVariants as insn
use Rattle.ebpf_insn.specs.Registers.{number_of}

-- r0 to r10
abbrev pub register_text : Reg → List ℕ
register_text r = codes "r" ++ decimal (number_of r)

abbrev pub source_text : Source → List ℕ
source_text (Register r) = register_text r
source_text (Imm z) = signed_decimal z

-- its sign is always written
abbrev pub offset_text : ℤ → List ℕ
offset_text (pos n) = codes "+" ++ decimal n
offset_text (negsuc n) = codes "-" ++ decimal (suc n)

-- a place in memory: a base, and an offset in bytes
abbrev pub place_text : Reg → ℤ → List ℕ
place_text base offset = codes "[" ++ (register_text base ++ (offset_text offset ++ codes "]"))

-- what is written comes before what is read, and a displacement last
abbrev pub operands_of : Insn → List (List ℕ)
operands_of (insn.Alu width op dst src) = register_text dst ∷ source_text src ∷ []
operands_of (insn.Sext width bits dst src) = register_text dst ∷ register_text src ∷ []
operands_of (insn.Neg width dst) = register_text dst ∷ []
operands_of (insn.Swap order bits dst) = register_text dst ∷ []
operands_of (insn.Wide dst value) = register_text dst ∷ decimal value ∷ []
operands_of (insn.Load size signed dst base offset) = register_text dst ∷ place_text base offset ∷ []
operands_of (insn.Store size base offset src) = place_text base offset ∷ source_text src ∷ []
operands_of (insn.Jump offset) = offset_text offset ∷ []
operands_of (insn.JumpFar offset) = offset_text offset ∷ []
operands_of (insn.Branch width cond left right offset) = register_text left ∷ source_text right ∷ offset_text offset ∷ []
operands_of (insn.Call number) = signed_decimal number ∷ []
operands_of insn.Exit = []
