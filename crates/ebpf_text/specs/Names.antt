-- The words of a listing: widths, sizes, operations, conditions and orders, as they are written.
use Rattle.std.specs.Prelude.{ℕ, List, codes}
use Rattle.ebpf_insn.specs.declared.insn.Width.{Width}
use Rattle.ebpf_insn.specs.declared.insn.Width.TheVariants.{W32, W64}
use Rattle.ebpf_insn.specs.declared.insn.Size.{Size}
use Rattle.ebpf_insn.specs.declared.insn.Size.TheVariants as size
use Rattle.ebpf_insn.specs.declared.insn.Order.{Order}
use Rattle.ebpf_insn.specs.declared.insn.Order.TheVariants.{Little, Big, Flip}
use Rattle.ebpf_insn.specs.declared.insn.AluOp.{AluOp}
use Rattle.ebpf_insn.specs.declared.insn.AluOp.TheVariants as op
use Rattle.ebpf_insn.specs.declared.insn.Cond.{Cond}
use Rattle.ebpf_insn.specs.declared.insn.Cond.TheVariants as cond

abbrev pub width_name : Width → List ℕ
width_name W32 = codes "32"
width_name W64 = codes "64"

-- a byte, a half word, a word, a double word
abbrev pub size_name : Size → List ℕ
size_name size.B = codes "b"
size_name size.H = codes "h"
size_name size.W = codes "w"
size_name size.D = codes "dw"

abbrev pub order_name : Order → List ℕ
order_name Little = codes "le"
order_name Big = codes "be"
order_name Flip = codes "swap"

-- sdiv and smod are the signed division and its remainder
abbrev pub alu_name : AluOp → List ℕ
alu_name op.Add = codes "add"
alu_name op.Sub = codes "sub"
alu_name op.Mul = codes "mul"
alu_name op.Div = codes "div"
alu_name op.SDiv = codes "sdiv"
alu_name op.Or = codes "or"
alu_name op.And = codes "and"
alu_name op.Lsh = codes "lsh"
alu_name op.Rsh = codes "rsh"
alu_name op.Rem = codes "mod"
alu_name op.SRem = codes "smod"
alu_name op.Xor = codes "xor"
alu_name op.Mov = codes "mov"
alu_name op.Arsh = codes "arsh"

-- an s after the j: the numbers that are compared are signed
abbrev pub cond_name : Cond → List ℕ
cond_name cond.Eq = codes "jeq"
cond_name cond.Ne = codes "jne"
cond_name cond.Gt = codes "jgt"
cond_name cond.Ge = codes "jge"
cond_name cond.Lt = codes "jlt"
cond_name cond.Le = codes "jle"
cond_name cond.Set = codes "jset"
cond_name cond.SGt = codes "jsgt"
cond_name cond.SGe = codes "jsge"
cond_name cond.SLt = codes "jslt"
cond_name cond.SLe = codes "jsle"
