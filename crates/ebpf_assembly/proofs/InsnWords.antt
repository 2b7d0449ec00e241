-- The words of an instruction: those of its kind, and of its operands.
use Rattle.std.proofs.Common.{rules, arith, ◌≡◌, ◌≢◌, ℕ, List, [], ◌∷◌, get_or, drop, refl, sym, ap, ◌∙◌, true, false}
use Rattle.std.specs.Prelude.{Option, Some, None}
use Rattle.std.specs.Option.{MatchOption}
use Rattle.ebpf_insn.specs.declared.insn.Insn.{Insn}
use Rattle.ebpf_insn.specs.declared.insn.Insn.TheVariants as insn
use Rattle.ebpf_insn.specs.declared.insn.Source.TheVariants.{Register, Imm}
use Rattle.ebpf_insn.specs.Encoding.{IsDefined}
use Rattle.ebpf_text.specs.Mnemonics.{mnemonic_of}
use Rattle.ebpf_text.specs.Operands.{operands_of}
use Rattle.ebpf_assembly.specs.Lines.{words_of}
use Rattle.ebpf_assembly.specs.Kinds.{kind_of, sample, IsKind, kind_name}
use Rattle.ebpf_assembly.specs.declared.kind.Kind.{Kind}
use Rattle.ebpf_assembly.specs.declared.kind.Kind.TheVariants as kind
use Rattle.ebpf_assembly.proofs.Shapes.{shape_of, shape_unique}

-- a mnemonic is that of its kind
named : (i : Insn) → mnemonic_of i ≡ kind_name (kind_of i)
named (insn.Load s false dst base offset) = refl
named (insn.Load s true dst base offset) = refl
named (insn.Store s base offset (Imm z)) = refl
named (insn.Store s base offset (Register r)) = refl
named _ = refl

is_kind : (i : Insn) → IsDefined i → IsKind (kind_of i)
is_kind (insn.Alu w o dst src) d = tt
is_kind (insn.Sext w b dst src) d = d
is_kind (insn.Neg w dst) d = tt
is_kind (insn.Swap o b dst) d = d
is_kind (insn.Wide dst value) d = omega arith
is_kind (insn.Load s signed dst base offset) d = (d.0, search rules)
is_kind (insn.Store s base offset (Imm z)) d = (search rules, search rules)
is_kind (insn.Store s base offset (Register r)) d = (tt, search rules)
is_kind (insn.Jump offset) d = search rules
is_kind (insn.JumpFar offset) d = search rules
is_kind (insn.Branch w c left right offset) d = (tt, search rules)
is_kind (insn.Call number) d = search rules
is_kind insn.Exit d = tt

-- one mnemonic, one kind
again : (k : Kind) → kind_of (shape_of (sample k)) ≡ k
again (kind.Alu w o) = refl
again _ = refl

kind_unique : (k l : Kind) → IsKind k → IsKind l → kind_name k ≡ kind_name l → k ≡ l
kind_unique k l a b e = sym (again k) ∙ (ap kind_of (shape_unique (sample k) (sample l) a b e) ∙ again l)

abbrev first_of : List (List ℕ) → List ℕ
first_of ws = get_or ws 0 []

pub insn_unread : (word : List ℕ) (ws rest : List (List ℕ)) → ws ≡ word ∷ rest → ((k : Kind) → IsKind k → word ≢ kind_name k)
    → (i : Insn) → IsDefined i → ws ≢ words_of i
insn_unread word ws rest is none i d e = none (kind_of i) (is_kind i d) (ap first_of (sym is ∙ e) ∙ named i)

pub insn_read : (word : List ℕ) (ws rest : List (List ℕ)) (k : Kind) (o : Option Insn) → ws ≡ word ∷ rest → IsKind k → word ≡ kind_name k
    → MatchOption o ((i : Insn) → IsDefined i → kind_of i ≡ k → rest ≢ operands_of i) (λ i. IsDefined i × (kind_of i ≡ k) × (rest ≡ operands_of i))
    → MatchOption o ((i : Insn) → IsDefined i → ws ≢ words_of i) (λ i. IsDefined i × (ws ≡ words_of i))
insn_read word ws rest k (Some i) is kinded same h =
    (h.0, is ∙ (ap (λ (w : List ℕ). w ∷ rest) (same ∙ (ap kind_name (sym h.1) ∙ sym (named i))) ∙ ap (λ (ts : List (List ℕ)). mnemonic_of i ∷ ts) h.2))
insn_read word ws rest k None is kinded same h =
    λ i d e. h i d (kind_unique (kind_of i) k (is_kind i d) kinded (sym (named i) ∙ (sym (ap first_of (sym is ∙ e)) ∙ same)))
    (ap (λ (ts : List (List ℕ)). drop 1 ts) (sym is ∙ e))
