-- The condition of a branch, as LLVM's assembler writes it.
use Rattle.std.specs.Prelude.{ℕ, ◌++◌, List, codes, decimal}
use Rattle.std.specs.Fmt.{signed_decimal}
use Rattle.ebpf_insn.specs.declared.register.Reg.{Reg}
use Rattle.ebpf_insn.specs.declared.insn.Width.{Width}
use Rattle.ebpf_insn.specs.declared.insn.Width.TheVariants.{W32, W64}
use Rattle.ebpf_insn.specs.declared.insn.Source.{Source}
use Rattle.ebpf_insn.specs.declared.insn.Source.TheVariants.{Register, Imm}
use Rattle.ebpf_insn.specs.declared.insn.Cond.{Cond}
use Rattle.ebpf_insn.specs.declared.insn.Cond.TheVariants as cond
use Rattle.ebpf_insn.specs.Registers.{number_of}

-- the low half of a register is w, and all of it r
abbrev pub register_letter : Width → List ℕ
register_letter W32 = codes "w"
register_letter W64 = codes "r"

abbrev pub compared_register : Width → Reg → List ℕ
compared_register width r = register_letter width ++ decimal (number_of r)

abbrev pub compared_source : Width → Source → List ℕ
compared_source width (Register r) = compared_register width r
compared_source width (Imm z) = signed_decimal z

-- an s before it: the numbers that are compared are signed; & holds where a bit is set in both
abbrev pub comparison : Cond → List ℕ
comparison cond.Eq = codes " == "
comparison cond.Ne = codes " != "
comparison cond.Gt = codes " > "
comparison cond.Ge = codes " >= "
comparison cond.Lt = codes " < "
comparison cond.Le = codes " <= "
comparison cond.Set = codes " & "
comparison cond.SGt = codes " s> "
comparison cond.SGe = codes " s>= "
comparison cond.SLt = codes " s< "
comparison cond.SLe = codes " s<= "

abbrev pub condition : Width → Cond → Reg → Source → List ℕ
condition width c left right = compared_register width left ++ (comparison c ++ compared_source width right)
