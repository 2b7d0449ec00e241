-- The table of opcodes (RFC 9669, section 3.2), and what it makes of a number.
use Rattle.std.specs.Prelude.{ℕ, ◌+◌, ◌*◌, Bool, true, false, ◌==◌, ◌||◌, if◌then◌else◌, List, [], ◌∷◌, ◌++◌, map, Option, Some, None}
use Rattle.ebpf_insn.specs.declared.insn.Width.{Width}
use Rattle.ebpf_insn.specs.declared.insn.Width.TheVariants.{W32, W64}
use Rattle.ebpf_insn.specs.declared.insn.Size.{Size}
use Rattle.ebpf_insn.specs.declared.insn.Size.TheVariants.{B, H, W, D}
use Rattle.ebpf_insn.specs.declared.insn.Order.TheVariants.{Little, Big, Flip}
use Rattle.ebpf_insn.specs.declared.insn.AluOp.{AluOp}
use Rattle.ebpf_insn.specs.declared.insn.AluOp.TheVariants as op
use Rattle.ebpf_insn.specs.declared.insn.Cond.{Cond}
use Rattle.ebpf_insn.specs.declared.insn.Cond.TheVariants as cond
use Rattle.ebpf_insn.specs.declared.opcode.Operand.{Operand}
use Rattle.ebpf_insn.specs.declared.opcode.Operand.TheVariants.{Immediate, Register}
use Rattle.ebpf_insn.specs.declared.opcode.Form.{Form}
use Rattle.ebpf_insn.specs.declared.opcode.Form.TheVariants as form

-- ---- the table

-- the class of arithmetic, of jumps and of stores: the low three bits
abbrev pub alu_class : Width → ℕ
alu_class W32 = 4
alu_class W64 = 7

abbrev pub jump_class : Width → ℕ
jump_class W64 = 5
jump_class W32 = 6

abbrev pub store_class : Operand → ℕ
store_class Immediate = 2
store_class Register = 3

-- the bit 0x08 of arithmetic and jumps
abbrev pub operand_bit : Operand → ℕ
operand_bit Immediate = 0
operand_bit Register = 1

-- the code of an operation, signed or not: the high four bits
abbrev pub alu_code : AluOp → ℕ
alu_code op.Add = 0x0
alu_code op.Sub = 0x1
alu_code op.Mul = 0x2
alu_code op.Div = 0x3
alu_code op.SDiv = 0x3
alu_code op.Or = 0x4
alu_code op.And = 0x5
alu_code op.Lsh = 0x6
alu_code op.Rsh = 0x7
alu_code op.Rem = 0x9
alu_code op.SRem = 0x9
alu_code op.Xor = 0xa
alu_code op.Mov = 0xb
alu_code op.Arsh = 0xc

-- the code of a condition: the high four bits
abbrev pub condition_code : Cond → ℕ
condition_code cond.Eq = 0x1
condition_code cond.Gt = 0x2
condition_code cond.Ge = 0x3
condition_code cond.Set = 0x4
condition_code cond.Ne = 0x5
condition_code cond.SGt = 0x6
condition_code cond.SGe = 0x7
condition_code cond.Lt = 0xa
condition_code cond.Le = 0xb
condition_code cond.SLt = 0xc
condition_code cond.SLe = 0xd

-- the size of a load or a store: the bits 0x18
abbrev pub size_code : Size → ℕ
size_code W = 0
size_code H = 1
size_code B = 2
size_code D = 3

abbrev pub opcode_of : Form → ℕ
opcode_of form.Wide = 0x18
opcode_of (form.Load size false) = 0x61 + 8 * size_code size
opcode_of (form.Load size true) = 0x81 + 8 * size_code size
opcode_of (form.Store size operand) = 0x60 + store_class operand + 8 * size_code size
opcode_of (form.Alu width o operand) = alu_class width + 8 * operand_bit operand + 16 * alu_code o
opcode_of (form.Neg width) = alu_class width + 0x80
opcode_of (form.Swap Little) = 0xd4
opcode_of (form.Swap Big) = 0xdc
opcode_of (form.Swap Flip) = 0xd7
opcode_of (form.Branch width condition operand) = jump_class width + 8 * operand_bit operand + 16 * condition_code condition
opcode_of form.Jump = 0x05
opcode_of form.JumpFar = 0x06
opcode_of form.Call = 0x85
opcode_of form.Exit = 0x95

-- the opcodes of the forms that are left out: packets, atomics, and the call through a register
abbrev pub left_out : List ℕ
left_out = 0x20 ∷ 0x28 ∷ 0x30 ∷ 0x40 ∷ 0x48 ∷ 0x50 ∷ 0xc3 ∷ 0xdb ∷ 0x8d ∷ []

-- ---- all forms. A division, a remainder and a move from a register mean their signed kinds too.

abbrev pub alu_ops : List AluOp
alu_ops = op.Add ∷ op.Sub ∷ op.Mul ∷ op.Div ∷ op.Or ∷ op.And ∷ op.Lsh ∷ op.Rsh ∷ op.Rem ∷ op.Xor ∷ op.Mov ∷ op.Arsh ∷ []

abbrev pub conditions : List Cond
conditions = cond.Eq ∷ cond.Gt ∷ cond.Ge ∷ cond.Set ∷ cond.Ne ∷ cond.SGt ∷ cond.SGe ∷ cond.Lt ∷ cond.Le ∷ cond.SLt ∷ cond.SLe ∷ []

abbrev pub sizes : List Size
sizes = W ∷ H ∷ B ∷ D ∷ []

abbrev pub on_both : {A : Type 0} → (Operand → List A) → List A
on_both each = each Immediate ++ each Register

abbrev pub at_both : {A : Type 0} → (Width → List A) → List A
at_both each = each W32 ++ each W64

abbrev pub forms : List Form
forms =
    at_both (λ width. on_both (λ operand. map (λ o. form.Alu width o operand) alu_ops)) ++
    at_both (λ width. form.Neg width ∷ []) ++
    map form.Swap (Little ∷ Big ∷ Flip ∷ []) ++
    at_both (λ width. on_both (λ operand. map (λ c. form.Branch width c operand) conditions)) ++
    (form.Jump ∷ form.JumpFar ∷ form.Call ∷ form.Exit ∷ form.Wide ∷ []) ++
    map (λ size. form.Load size false) sizes ++
    map (λ size. form.Load size true) (W ∷ H ∷ B ∷ []) ++
    on_both (λ operand. map (λ size. form.Store size operand) sizes)

-- ---- what a number means

-- the first of these that has the code
abbrev pub with_code : {A : Type 0} → (A → ℕ) → ℕ → List A → Option A
with_code code n [] = None
with_code code n (a ∷ rest) = if n == code a then Some a else with_code code n rest

-- the form of an opcode
unfoldable pub form_of : ℕ → Option Form
form_of n = with_code opcode_of n forms

abbrev pub alu_op_of : ℕ → Option AluOp
alu_op_of n = with_code alu_code n alu_ops

abbrev pub condition_of : ℕ → Option Cond
condition_of n = with_code condition_code n conditions

abbrev pub is_among : ℕ → List ℕ → Bool
is_among n [] = false
is_among n (m ∷ rest) = n == m || is_among n rest

-- of the opcodes that have no form
abbrev pub is_left_out : ℕ → Bool
is_left_out n = is_among n left_out
