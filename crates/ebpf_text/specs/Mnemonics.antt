-- The word that a line begins with, after its slot.
use Rattle.std.specs.Prelude.{ℕ, ◌++◌, List, true, false, codes, decimal}
use Rattle.ebpf_insn.specs.declared.insn.Source.TheVariants.{Register, Imm}
use Rattle.ebpf_insn.specs.declared.insn.Insn.{Insn}
use Rattle.ebpf_insn.specs.declared.insn.Insn.TheVariants as insn
use Rattle.ebpf_text.specs.Names.{width_name, size_name, order_name, alu_name, cond_name}

abbrev pub mnemonic_of : Insn → List ℕ
mnemonic_of (insn.Alu width op dst src) = alu_name op ++ width_name width
mnemonic_of (insn.Sext width bits dst src) = codes "movs" ++ (decimal bits ++ (codes "_" ++ width_name width))
mnemonic_of (insn.Neg width dst) = codes "neg" ++ width_name width
mnemonic_of (insn.Swap order bits dst) = order_name order ++ decimal bits
mnemonic_of (insn.Wide dst value) = codes "lddw"
mnemonic_of (insn.Load size false dst base offset) = codes "ldx" ++ size_name size
mnemonic_of (insn.Load size true dst base offset) = codes "ldxs" ++ size_name size
mnemonic_of (insn.Store size base offset (Imm z)) = codes "st" ++ size_name size
mnemonic_of (insn.Store size base offset (Register r)) = codes "stx" ++ size_name size
mnemonic_of (insn.Jump offset) = codes "ja"
mnemonic_of (insn.JumpFar offset) = codes "ja32"
mnemonic_of (insn.Branch width cond left right offset) = cond_name cond ++ width_name width
mnemonic_of (insn.Call number) = codes "call"
mnemonic_of insn.Exit = codes "exit"
