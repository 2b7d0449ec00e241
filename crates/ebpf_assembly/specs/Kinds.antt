-- What the mnemonic of an instruction says of it.
use Rattle.std.specs.Prelude.{◌≡◌, ◌≢◌, ℕ, pos, List, Option}
use Rattle.std.specs.Option.{MatchOption}
use Rattle.ebpf_insn.specs.declared.register.Reg.TheVariants.{R0}
use Rattle.ebpf_insn.specs.declared.insn.Insn.{Insn}
use Rattle.ebpf_insn.specs.declared.insn.Insn.TheVariants as insn
use Rattle.ebpf_insn.specs.declared.insn.Source.TheVariants.{Register, Imm}
use Rattle.ebpf_insn.specs.declared.insn.Width.{Width}
use Rattle.ebpf_insn.specs.Encoding.{IsDefined}
use Rattle.ebpf_text.specs.Mnemonics.{mnemonic_of}
use Rattle.ebpf_text.specs.Operands.{operands_of}
use Rattle.ebpf_assembly.specs.declared.kind.Kind.{Kind}
use Rattle.ebpf_assembly.specs.declared.kind.Kind.TheVariants as kind

abbrev pub kind_of : Insn → Kind
kind_of (insn.Alu width op dst src) = kind.Alu width op
kind_of (insn.Sext width bits dst src) = kind.Sext width bits
kind_of (insn.Neg width dst) = kind.Neg width
kind_of (insn.Swap order bits dst) = kind.Swap order bits
kind_of (insn.Wide dst value) = kind.Wide
kind_of (insn.Load size signed dst base offset) = kind.Load size signed
kind_of (insn.Store size base offset (Imm z)) = kind.StoreImmediate size
kind_of (insn.Store size base offset (Register r)) = kind.StoreRegister size
kind_of (insn.Jump offset) = kind.Jump
kind_of (insn.JumpFar offset) = kind.JumpFar
kind_of (insn.Branch width cond left right offset) = kind.Branch width cond
kind_of (insn.Call number) = kind.Call
kind_of insn.Exit = kind.Exit

-- an instruction of a kind: r0 and 0 wherever it takes an operand
abbrev pub sample : Kind → Insn
sample (kind.Alu width op) = insn.Alu width op R0 (Register R0)
sample (kind.Sext width bits) = insn.Sext width bits R0 R0
sample (kind.Neg width) = insn.Neg width R0
sample (kind.Swap order bits) = insn.Swap order bits R0
sample kind.Wide = insn.Wide R0 0
sample (kind.Load size signed) = insn.Load size signed R0 R0 (pos 0)
sample (kind.StoreImmediate size) = insn.Store size R0 (pos 0) (Imm (pos 0))
sample (kind.StoreRegister size) = insn.Store size R0 (pos 0) (Register R0)
sample kind.Jump = insn.Jump (pos 0)
sample kind.JumpFar = insn.JumpFar (pos 0)
sample (kind.Branch width cond) = insn.Branch width cond R0 (Register R0) (pos 0)
sample kind.Call = insn.Call (pos 0)
sample kind.Exit = insn.Exit

-- the kinds that instructions have
abbrev pub IsKind : Kind → Type 0
IsKind k = IsDefined (sample k)

abbrev pub kind_name : Kind → List ℕ
kind_name k = mnemonic_of (sample k)

-- what is read as an instruction of a kind with these operands; none, where none has them
abbrev pub IsOfKind : Kind → List (List ℕ) → Option Insn → Type 0
IsOfKind k ws o = MatchOption o ((i : Insn) → IsDefined i → kind_of i ≡ k → ws ≢ operands_of i) (λ i. IsDefined i × (kind_of i ≡ k) × (ws ≡ operands_of i))

-- a word is the mnemonic of no kind without a family
pub record IsNoOther (word : List ℕ) : Type 0 where
  pub neg : (width : Width) → word ≢ kind_name (kind.Neg width)
  pub wide : word ≢ kind_name kind.Wide
  pub jump : word ≢ kind_name kind.Jump
  pub far : word ≢ kind_name kind.JumpFar
  pub call : word ≢ kind_name kind.Call
  pub exit : word ≢ kind_name kind.Exit
