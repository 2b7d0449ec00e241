-- The label of a line.
use Rattle.std.proofs.Common.{◌≡◌, ◌≢◌, ℕ, ◌<◌, ◌^◌, List, [], ◌∷◌, ◌++◌, sym, ap, ◌∙◌, ◌⊎◌, inl, inr, get_or, drop}
use Rattle.std.specs.Prelude.{codes, decimal}
use Rattle.std.proofs.lemmas.Fmt.{decimal_injective}
use Rattle.ebpf_insn.specs.declared.insn.Insn.{Insn}
use Rattle.ebpf_insn.specs.Encoding.{IsDefined}
use Rattle.ebpf_assembly.specs.Lines.{words_of, slot_label, IsInsnAt}
use Rattle.ebpf_assembly.specs.Faults.{IsLabelledWrong, IsLabelledRight, IsUnlabelled, IsLineFault}
use Rattle.ebpf_assembly.specs.declared.fault.LineFault.TheVariants.{NoInstruction}
use Rattle.ebpf_assembly.proofs.Unique.{no_slot}
use Rattle.ebpf_assembly.proofs.WordsUnique.{init, init_back}

labelled : (slot : ℕ) (ws : List (List ℕ)) (first : List ℕ) (rest : List (List ℕ)) (label : List ℕ) → ws ≡ first ∷ rest
    → first ≡ label ++ codes ":" → label ≢ decimal slot → IsLabelledWrong slot ws
labelled slot ws first rest label is ends other = (label, rest, is ∙ ap (λ (w : List ℕ). w ∷ rest) ends, other)

pub no_number : (slot : ℕ) (ws : List (List ℕ)) (first : List ℕ) (rest : List (List ℕ)) (label : List ℕ) → slot < 2 ^ 64
    → ws ≡ first ∷ rest → first ≡ label ++ codes ":"
    → ((n : ℕ) → n < 2 ^ 64 → label ≢ decimal n) → IsLabelledWrong slot ws
no_number slot ws first rest label small is ends none = labelled slot ws first rest label is ends (none slot small)

pub other_number : (slot n : ℕ) (ws : List (List ℕ)) (first : List ℕ) (rest : List (List ℕ)) (label : List ℕ) → slot < 2 ^ 64
    → n < 2 ^ 64 → ws ≡ first ∷ rest → first ≡ label ++ codes ":"
    → label ≡ decimal n → n ≢ slot → IsLabelledWrong slot ws
other_number slot n ws first rest label small few is ends same other =
    labelled slot ws first rest label is ends (λ e. other (decimal_injective n slot few small (sym same ∙ e)))

abbrev first : List (List ℕ) → List ℕ
first ws = get_or ws 0 []

pub no_insn : (slot : ℕ) (ws rest : List (List ℕ)) → slot < 2 ^ 64 → ws ≢ [] → IsUnlabelled slot ws rest
    → ((i : Insn) → IsDefined i → rest ≢ words_of i) → IsLineFault slot ws NoInstruction
no_insn slot ws rest small some unlabelled none = (some, right unlabelled, missing unlabelled) where
  right : IsUnlabelled slot ws rest → IsLabelledRight slot ws
  right (inl f) label others e = sym (init_back label 58) ∙ (ap init (ap first (sym e ∙ f)) ∙ init_back (decimal slot) 58)
  right (inr g) label others e = absurd (g.1 label others e)

  which : IsUnlabelled slot ws rest → (i : Insn) → IsDefined i → (ws ≡ words_of i) ⊎ (ws ≡ slot_label slot ∷ words_of i) → ⊥
  which (inl f) i d (inl h) = no_slot slot i small (ap first (sym h ∙ f))
  which (inl f) i d (inr h) = none i d (ap (λ (ts : List (List ℕ)). drop 1 ts) (sym f ∙ h))
  which (inr g) i d (inl h) = none i d (sym g.0 ∙ h)
  which (inr g) i d (inr h) = g.1 (decimal slot) (words_of i) h

  missing : IsUnlabelled slot ws rest → (i : Insn) → IsInsnAt slot ws i → ⊥
  missing u i at = which u i at.0 at.1
