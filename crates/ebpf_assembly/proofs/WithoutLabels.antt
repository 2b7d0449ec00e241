-- A text that is of a program without labels has none, so it is of that program.
use Rattle.std.proofs.Common.{arith, ◌≡◌, ◌⊎◌, inl, inr, ℕ, ◌+◌, ◌<◌, ◌^◌, Bool, true, false, List, [], ◌∷◌, ◌++◌, take, Option, None, refl, sym}
use Rattle.std.proofs.Common.{ap, ◌∙◌, subst}
use Rattle.std.specs.Prelude.{if◌then◌else◌, Result, IfOk, IfErr, MatchResult}
use Rattle.ebpf_insn.specs.declared.insn.Insn.{Insn}
use Rattle.ebpf_insn.specs.Program.{instructions, slots_in}
use Rattle.ebpf_insn.specs.Encoding.{IsWellFormed}
use Rattle.ebpf_text.specs.Mnemonics.{mnemonic_of}
use Rattle.ebpf_text.specs.Operands.{operands_of}
use Rattle.ebpf_text.specs.Listing.{listing_of}
use Rattle.ebpf_assembly.specs.declared.fault.AssemblyFault.{AssemblyFault}
use Rattle.ebpf_assembly.specs.declared.fault.AssemblyFault.TheVariants.{NoMemory}
use Rattle.ebpf_assembly.specs.Lines.{text_lines, words, words_of, slot_label, IsInsnAt, AreInsns, IsAssembledPlain}
use Rattle.ebpf_assembly.specs.Names.{is_lettered, name_in, named, label_of, labels_from, slot_after, Named, plain, plain_by}
use Rattle.ebpf_assembly.specs.Assembly.{IsAssembled}
use Rattle.ebpf_assembly.specs.Faults.{IsAssemblyFault}
use Rattle.ebpf_assembly.proofs.Assembled.{listing_assembled}
use Rattle.ebpf_assembly.proofs.Unique.{IsShort, shorter, short, assembled_unique, slot_unlettered}
use Rattle.ebpf_assembly.proofs.Faulty.{no_label, only_assembled}
use Rattle.ebpf_assembly.proofs.Labelling.{no_colon}

-- no instruction begins with a label
by_letter : (b : Bool) (o : Option (List ℕ)) → o ≡ None → (if b then o else None) ≡ None
by_letter true o e = e
by_letter false o e = refl

no_name : (slot : ℕ) (ws : List (List ℕ)) (i : Insn) (at : ℕ) → slot < 2 ^ 64 → IsInsnAt slot ws i → label_of at ws ≡ []
no_name slot ws i at small is = which is.1 where
  of_word : (word : List ℕ) (rest : List (List ℕ)) → ws ≡ word ∷ rest → name_in word ≡ None → label_of at ws ≡ []
  of_word word rest e none = ap (label_of at) e ∙ ap (named at) none

  which : (ws ≡ words_of i) ⊎ (ws ≡ slot_label slot ∷ words_of i) → label_of at ws ≡ []
  which (inl h) = of_word (mnemonic_of i) (operands_of i) h (by_letter (is_lettered (mnemonic_of i)) _ (no_colon (mnemonic_of i) (no_label i is.0)))
  which (inr h) = of_word (slot_label slot) (words_of i) h (slot_unlettered slot small)

no_labels : (slot at : ℕ) (lines : List (List ℕ)) (is : List Insn) → IsShort slot is → AreInsns slot lines is → labels_from at lines ≡ []
unfolding labels_from
no_labels slot at [] is small a = refl
no_labels slot at (line ∷ lines) is small (inl a) =
    ap (λ (ls : List Named). ls ++ labels_from (slot_after at (words line)) lines) (ap (label_of at) a.0)
    ∙ no_labels slot (slot_after at (words line)) lines is small a.1
no_labels slot at (line ∷ lines) is small (inr a) =
    ap (λ (ls : List Named). ls ++ labels_from (slot_after at (words line)) lines) (no_name slot (words line) a.0 at (omega (arith, small)) a.3)
    ∙ no_labels (slot + slots_in a.0) (slot_after at (words line)) lines a.1 (shorter slot a.0 a.1 (subst (IsShort slot) a.2 small)) a.4

same_text : (text : List ℕ) (p : List (Option Insn)) → IsAssembledPlain text p → plain text ≡ text
same_text text p a = ap (λ (labels : List Named). plain_by (take 256 labels) text) (no_labels 0 0 (text_lines text) (instructions p) (short p a.formed) a.lines)

pub plain_assembled : (text : List ℕ) (p : List (Option Insn)) → IsAssembledPlain text p → IsAssembled text p
plain_assembled text p a = subst (λ (t : List ℕ). IsAssembledPlain t p) (sym (same_text text p a)) a

pub named_listing : (p : List (Option Insn)) → IsWellFormed p → IsAssembled (listing_of p) p
named_listing p formed = plain_assembled (listing_of p) p (listing_assembled p formed)

pub named_unique : (text : List ℕ) (p q : List (Option Insn)) → IsAssembled text p → IsAssembled text q → p ≡ q
named_unique text p q a b = assembled_unique (plain text) p q a b

pub named_only : (text : List ℕ) (r : Result (List (Option Insn)) AssemblyFault) → IfOk r (IsAssembled text) → IfErr r (IsAssemblyFault text)
    → (p : List (Option Insn)) → IsAssembled text p → MatchResult r (λ q. q ≡ p) (λ e. e ≡ NoMemory)
named_only text r ok refused p a = only_assembled (plain text) r ok refused p a

pub named_back : (text : List ℕ) (r : Result (List (Option Insn)) AssemblyFault) → IfOk r (IsAssembled text) → IfErr r (IsAssemblyFault text)
    → (p : List (Option Insn)) → IsWellFormed p → text ≡ listing_of p → MatchResult r (λ q. q ≡ p) (λ e. e ≡ NoMemory)
named_back text r ok refused p formed is = named_only text r ok refused p (subst (λ (t : List ℕ). IsAssembled t p) (sym is) (named_listing p formed))
