-- A text that is refused is of no program.
use Rattle.std.proofs.Common.{arith, ◌≡◌, ◌≢◌, ◌⊎◌, inl, inr, ℕ, ◌+◌, ◌<◌, ◌≤◌, ◌^◌, List, [], ◌∷◌, ◌++◌, length, refl, sym, ap, ◌∙◌, subst, true}
use Rattle.std.proofs.Common.{false, append_assoc, length-append, Option}
use Rattle.std.specs.Prelude.{codes, decimal, Result, Ok, Err, IfOk, IfErr, MatchResult}
use Rattle.std.specs.List.{flat_map}
use Rattle.ebpf_insn.specs.declared.insn.Insn.{Insn}
use Rattle.ebpf_insn.specs.declared.insn.Insn.TheVariants as insn
use Rattle.ebpf_insn.specs.declared.insn.Source.TheVariants.{Register, Imm}
use Rattle.ebpf_insn.specs.declared.insn.Width.TheVariants.{W32, W64}
use Rattle.ebpf_insn.specs.declared.insn.Size.TheVariants as size
use Rattle.ebpf_insn.specs.declared.insn.Order.{Order}
use Rattle.ebpf_insn.specs.Program.{instructions, placed, slots_in}
use Rattle.ebpf_insn.specs.Encoding.{IsDefined, IsWellFormed}
use Rattle.ebpf_text.specs.Names.{order_name, alu_name, cond_name}
use Rattle.ebpf_text.specs.Mnemonics.{mnemonic_of}
use Rattle.ebpf_assembly.specs.declared.fault.LineFault.{LineFault}
use Rattle.ebpf_assembly.specs.declared.fault.LineFault.TheVariants.{WrongSlot, NoInstruction, TooManySlots}
use Rattle.ebpf_assembly.specs.declared.fault.AssemblyFault.{AssemblyFault}
use Rattle.ebpf_assembly.specs.declared.fault.AssemblyFault.TheVariants.{Bad, Empty, NoMemory}
use Rattle.ebpf_assembly.specs.Lines.{text_lines, words, words_of, slot_label, AreInsns, IsAssembledPlain}
use Rattle.ebpf_assembly.specs.Faults.{IsLineFault, IsPlainFault}
use Rattle.ebpf_assembly.proofs.KindWords.{swap_16, swap_32, swap_64}
use Rattle.ebpf_assembly.proofs.Shapes.{swap_cases}
use Rattle.ebpf_assembly.proofs.Unique.{first, not_empty, blank, same, unique, IsShort, shorter, short, assembled_unique}
use Rattle.ebpf_assembly.proofs.WordsUnique.{init, init_back}

-- no mnemonic ends with a colon
abbrev last_of : List ℕ → ℕ
last_of [] = 0
last_of (x ∷ []) = x
last_of (x ∷ y ∷ ys) = last_of (y ∷ ys)

last_append : (xs : List ℕ) (y : ℕ) (ys : List ℕ) → last_of (xs ++ y ∷ ys) ≡ last_of (y ∷ ys)
last_append [] y ys = refl
last_append (x ∷ []) y ys = refl
last_append (x ∷ z ∷ xs) y ys = last_append (z ∷ xs) y ys

abbrev IsNoLabel : List ℕ → Type 0
IsNoLabel word = (label : List ℕ) → word ≢ label ++ codes ":"

unlike : (word : List ℕ) (k : ℕ) → last_of word ≡ k → (k < 58) ⊎ (58 < k) → IsNoLabel word
unlike word k is far label e = which far where
  same_last : k ≡ 58
  same_last = sym is ∙ (ap last_of e ∙ last_append label 58 [])

  which : (k < 58) ⊎ (58 < k) → ⊥
  which (inl h) = omega (arith, h, same_last)
  which (inr h) = omega (arith, h, same_last)

low : (word : List ℕ) (k : ℕ) → last_of word ≡ k → k < 58 → IsNoLabel word
low word k is h = unlike word k is (inl h)

high : (word : List ℕ) (k : ℕ) → last_of word ≡ k → 58 < k → IsNoLabel word
high word k is h = unlike word k is (inr h)

swap_no_label : (o : Order) (xs : List ℕ)
    → (xs ≡ order_name o ++ codes "16") ⊎ ((xs ≡ order_name o ++ codes "32") ⊎ (xs ≡ order_name o ++ codes "64")) → IsNoLabel xs
swap_no_label o xs (inl e) = low xs 54 (ap last_of e ∙ last_append (order_name o) 49 (54 ∷ [])) (omega arith)
swap_no_label o xs (inr (inl e)) = low xs 50 (ap last_of e ∙ last_append (order_name o) 51 (50 ∷ [])) (omega arith)
swap_no_label o xs (inr (inr e)) = low xs 52 (ap last_of e ∙ last_append (order_name o) 54 (52 ∷ [])) (omega arith)

pub no_label : (i : Insn) → IsDefined i → IsNoLabel (mnemonic_of i)
no_label (insn.Alu W32 o dst src) d = low _ 50 (last_append (alu_name o) 51 (50 ∷ [])) (omega arith)
no_label (insn.Alu W64 o dst src) d = low _ 52 (last_append (alu_name o) 54 (52 ∷ [])) (omega arith)
no_label (insn.Sext W32 bits dst src) d = low _ 50 (last_append (codes "movs" ++ decimal bits) 95 (51 ∷ 50 ∷ [])) (omega arith)
no_label (insn.Sext W64 bits dst src) d = low _ 52 (last_append (codes "movs" ++ decimal bits) 95 (54 ∷ 52 ∷ [])) (omega arith)
no_label (insn.Neg W32 dst) d = low _ 50 refl (omega arith)
no_label (insn.Neg W64 dst) d = low _ 52 refl (omega arith)
no_label (insn.Swap o bits dst) d =
    swap_cases (λ (n : ℕ). IsNoLabel (order_name o ++ decimal n)) (swap_no_label o _ (inl (swap_16 o))) (swap_no_label o _ (inr (inl (swap_32 o))))
    (swap_no_label o _ (inr (inr (swap_64 o)))) bits d
no_label (insn.Wide dst value) d = high _ 119 refl (omega arith)
no_label (insn.Load size.B false dst base offset) d = high _ 98 refl (omega arith)
no_label (insn.Load size.H false dst base offset) d = high _ 104 refl (omega arith)
no_label (insn.Load size.W false dst base offset) d = high _ 119 refl (omega arith)
no_label (insn.Load size.D false dst base offset) d = high _ 119 refl (omega arith)
no_label (insn.Load size.B true dst base offset) d = high _ 98 refl (omega arith)
no_label (insn.Load size.H true dst base offset) d = high _ 104 refl (omega arith)
no_label (insn.Load size.W true dst base offset) d = high _ 119 refl (omega arith)
no_label (insn.Load size.D true dst base offset) d = high _ 119 refl (omega arith)
no_label (insn.Store size.B base offset (Imm z)) d = high _ 98 refl (omega arith)
no_label (insn.Store size.B base offset (Register r)) d = high _ 98 refl (omega arith)
no_label (insn.Store size.H base offset (Imm z)) d = high _ 104 refl (omega arith)
no_label (insn.Store size.H base offset (Register r)) d = high _ 104 refl (omega arith)
no_label (insn.Store size.W base offset (Imm z)) d = high _ 119 refl (omega arith)
no_label (insn.Store size.W base offset (Register r)) d = high _ 119 refl (omega arith)
no_label (insn.Store size.D base offset (Imm z)) d = high _ 119 refl (omega arith)
no_label (insn.Store size.D base offset (Register r)) d = high _ 119 refl (omega arith)
no_label (insn.Jump offset) d = high _ 97 refl (omega arith)
no_label (insn.JumpFar offset) d = low _ 50 refl (omega arith)
no_label (insn.Branch W32 c left right offset) d = low _ 50 (last_append (cond_name c) 51 (50 ∷ [])) (omega arith)
no_label (insn.Branch W64 c left right offset) d = low _ 52 (last_append (cond_name c) 54 (52 ∷ [])) (omega arith)
no_label (insn.Call number) d = high _ 108 refl (omega arith)
no_label insn.Exit d = high _ 116 refl (omega arith)

-- the lines of a program, from one line on
record IsRest (slot : ℕ) (lines : List (List ℕ)) (is js : List Insn) : Type 0 where
  rest : List Insn
  parted : js ≡ is ++ rest
  read : AreInsns (slot + length (flat_map placed is)) lines rest

from : (slot : ℕ) (before after : List (List ℕ)) (is js : List Insn) → IsShort slot js → AreInsns slot before is
    → AreInsns slot (before ++ after) js → IsRest slot after is js
from slot [] after is js small a b = record {
  rest = js;
  parted = ap (λ (ks : List Insn). ks ++ js) (sym a);
  read = subst (λ (k : ℕ). AreInsns k after js) (omega (arith, ap (λ (ks : List Insn). length (flat_map placed ks)) a)) b;
}
from slot (l ∷ before) after is js small (inl a) (inl b) = from slot before after is js small a.1 b.1
from slot (l ∷ before) after is js small (inl a) (inr b) = absurd (blank slot l b.0 a.0 b.3)
from slot (l ∷ before) after is js small (inr a) (inl b) = absurd (blank slot l a.0 b.0 a.3)
from slot (l ∷ before) after is js small (inr a) (inr b) = more (from (slot + slots_in a.0) before after a.1 b.1 fewer a.4 again) where
  one : a.0 ≡ b.0
  one = same slot l a.0 b.0 (omega (arith, small)) a.3 b.3

  fewer : IsShort (slot + slots_in a.0) b.1
  fewer = subst (λ (k : Insn). IsShort (slot + slots_in k) b.1) (sym one) (shorter slot b.0 b.1 (subst (IsShort slot) b.2 small))

  again : AreInsns (slot + slots_in a.0) (before ++ after) b.1
  again = subst (λ (k : Insn). AreInsns (slot + slots_in k) (before ++ after) b.1) (sym one) b.4

  more : IsRest (slot + slots_in a.0) after a.1 b.1 → IsRest slot after is js
  more r = record {
    rest = r.rest;
    parted = b.2 ∙ (ap (λ (k : Insn). k ∷ b.1) (sym one) ∙ (ap (λ (ks : List Insn). a.0 ∷ ks) r.parted ∙ ap (λ (ks : List Insn). ks ++ r.rest) (sym a.2)));
    read = subst (λ (k : ℕ). AreInsns k after r.rest)
        (omega (arith, ap (λ (ks : List Insn). length (flat_map placed ks)) a.2, length-append (placed a.0) (flat_map placed a.1))) r.read;
  }

flat_map-append : (is js : List Insn) → flat_map placed (is ++ js) ≡ flat_map placed is ++ flat_map placed js
flat_map-append [] js = refl
flat_map-append (i ∷ is) js =
    ap (λ (p : List (Option Insn)). placed i ++ p) (flat_map-append is js) ∙ sym (append_assoc (placed i) (flat_map placed is) (flat_map placed js))

-- such a line is of none of these
at_fault : (slot : ℕ) (line : List ℕ) (after : List (List ℕ)) (rest : List Insn) (fault : LineFault) → slot < 2 ^ 64
    → slot + length (flat_map placed rest) ≤ 4096 → IsLineFault slot (words line) fault
    → AreInsns slot (line ∷ after) rest → ⊥
at_fault slot line after rest WrongSlot small few f (inl a) = not_empty (words line) _ _ a.0 f.2
at_fault slot line after rest WrongSlot small few f (inr a) = which a.3.1 where
  which : (words line ≡ words_of a.0) ⊎ (words line ≡ slot_label slot ∷ words_of a.0) → ⊥
  which (inl h) = no_label a.0 a.3.0 f.0 (ap first (sym h ∙ f.2))
  which (inr h) = f.3 (sym (init_back f.0 58) ∙ (ap init (ap first (sym f.2 ∙ h)) ∙ init_back (decimal slot) 58))
at_fault slot line after rest NoInstruction small few f (inl a) = f.0 a.0
at_fault slot line after rest NoInstruction small few f (inr a) = f.2 a.0 a.3
at_fault slot line after rest TooManySlots small few f (inl a) = blank slot line f.0 a.0 f.1
at_fault slot line after rest TooManySlots small few f (inr a) =
    omega (
      arith,
      few,
      f.2,
      ap slots_in (same slot line f.0 a.0 small f.1 a.3),
      ap (λ (ks : List Insn). length (flat_map placed ks)) a.2,
      length-append
          (placed a.0) (flat_map placed a.1),
    )

few_slots : (p : List (Option Insn)) (is rest : List Insn) → IsWellFormed p → instructions p ≡ is ++ rest
    → length (flat_map placed is) + length (flat_map placed rest) ≤ 4096
few_slots p is rest formed e =
    omega (
      arith,
      formed.few,
      ap length formed.placed,
      ap (λ (ks : List Insn). length (flat_map placed ks)) e,
      ap length (flat_map-append is rest),
      length-append (flat_map placed is) (flat_map placed rest),
    )

refuted : (text : List ℕ) (p : List (Option Insn)) (fault : AssemblyFault) → IsAssembledPlain text p → IsPlainFault text fault → fault ≡ NoMemory
refuted text p NoMemory a f = refl
refuted text p (Empty number) a f = absurd
    (omega (arith, a.formed.some, ap length a.formed.placed, ap (λ (ks : List Insn). length (flat_map placed ks)) none)) where
      none : instructions p ≡ []
      none = unique 0 (text_lines text) (instructions p) [] (short p a.formed) (omega arith) a.lines f.1
refuted text p (Bad number fault) a (line, is, at, f) =
    absurd (found (from 0 at.before (line ∷ at.after) is (instructions p) (short p a.formed) at.read
    (subst (λ (ls : List (List ℕ)). AreInsns 0 ls (instructions p)) at.lines a.lines))) where
      found : IsRest 0 (line ∷ at.after) is (instructions p) → ⊥
      found r =
          at_fault (length (flat_map placed is)) line at.after r.rest fault (omega (arith, few_slots p is r.rest a.formed r.parted))
          (few_slots p is r.rest a.formed r.parted) f
          (subst (λ (k : ℕ). AreInsns k (line ∷ at.after) r.rest) (omega arith) r.read)

pub only_assembled : (text : List ℕ) (r : Result (List (Option Insn)) AssemblyFault) → IfOk r (IsAssembledPlain text) → IfErr r (IsPlainFault text)
    → (p : List (Option Insn)) → IsAssembledPlain text p → MatchResult r (λ q. q ≡ p) (λ e. e ≡ NoMemory)
only_assembled text (Ok q) ok refused p a = assembled_unique text q p ok a
only_assembled text (Err e) ok refused p a = refuted text p e a refused
