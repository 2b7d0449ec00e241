use Rattle.std.proofs.Common.{◌≡◌, refl}
use Rattle.ebpf_insn.specs.declared.register.Reg.{Reg}
use Rattle.ebpf_insn.specs.declared.insn.AluOp.{AluOp}
use Rattle.ebpf_insn.specs.declared.insn.AluOp.TheVariants as op
use Rattle.ebpf_insn.specs.declared.insn.Width.{Width}
use Rattle.ebpf_insn.specs.declared.insn.Width.TheVariants.{W32, W64}
use Rattle.ebpf_state.specs.declared.value.Abs.{Abs}
use Rattle.ebpf_verify.specs.Operations.{alu_refusal, binary_refusal, result_of, binary_value}
use Rattle.ebpf_verify.proofs.operations.alu_value.Goals.{in_default-via-in-W64+in_default, in_default-via-in-W32+in_default}
use Rattle.ebpf_verify.proofs.operations.alu_value.Goals as goal

-- an operation with no rule of its own is one on two numbers
record IsBinary (width : Width) (o : AluOp) (left right : Abs) (dst : Reg) : Type 0 where
  refusal : alu_refusal width o left right dst ≡ binary_refusal left right dst
  value : result_of width o left right ≡ binary_value o width left right

-- at 64 bits all but three are
other_at_64 : (o : AluOp) (left right : Abs) (dst : Reg) → (o ≡ op.Add → ⊥) → (o ≡ op.Sub → ⊥) → (o ≡ op.Mov → ⊥) → IsBinary W64 o left right dst
other_at_64 op.Add _ _ _ add _ _ = absurd (add refl)
other_at_64 op.Sub _ _ _ _ sub _ = absurd (sub refl)
other_at_64 op.Mov _ _ _ _ _ mov = absurd (mov refl)
other_at_64 _ _ _ _ _ _ _ = record { refusal = refl; value = refl }

-- at 32 bits all but `mov` are
other_at_32 : (o : AluOp) (left right : Abs) (dst : Reg) → (o ≡ op.Mov → ⊥) → IsBinary W32 o left right dst
other_at_32 op.Mov _ _ _ mov = absurd (mov refl)
other_at_32 _ _ _ _ _ = record { refusal = refl; value = refl }

-- the operation at the last arm is such a one, by what the arms before it took
is_binary : (c : goal.After-binary) → IsBinary c.args.width c.args.op c.reg-in_default.result c.args.right c.args.dst
is_binary c = elim c.in_default.branch [
  | in_default-via-in-W64+in_default w ↦ let h = w.in_default in rw h.is-0 (other_at_64 _ _ _ _ h.not-Add-1 h.not-Sub-1 h.not-Mov-1)
  | in_default-via-in-W32+in_default w ↦ let h = w.in_default in rw h.is-0 (other_at_32 _ _ _ _ h.not-Mov-1)
]

pub returns-in_default-clause-refused : goal.returns-in_default-clause-refused
returns-in_default-clause-refused c = rw (← c.reg-in_default.ensures, (is_binary c).refusal) c.binary.ensures.refused

pub returns-in_default-clause-fine : goal.returns-in_default-clause-fine
returns-in_default-clause-fine c = rw (← c.reg-in_default.ensures, (is_binary c).refusal) c.binary.ensures.fine

pub returns-in_default-clause-value : goal.returns-in_default-clause-value
returns-in_default-clause-value c = rw (← c.reg-in_default.ensures, (is_binary c).value) c.binary.ensures.value
