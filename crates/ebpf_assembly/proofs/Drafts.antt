-- The program of the lines that are read so far.
use Rattle.std.proofs.Common.{arith, ◌≡◌, ◌≢◌, inl, inr, ℕ, suc, add-one, ◌+◌, ◌<◌, ◌≤◌, ◌^◌, List, [], ◌∷◌, ◌++◌, length, get_or, take, drop}
use Rattle.std.proofs.Common.{refl, sym, ap, ◌∙◌, subst, append_assoc, length-append, drop-cons, take-append-drop, Option}
use Rattle.std.specs.List.{flat_map, AllByRecursion}
use Rattle.std.proofs.lemmas.List.{append-nil, take_more, take_all, length-take-le}
use Rattle.ebpf_insn.specs.declared.insn.Insn.{Insn}
use Rattle.ebpf_insn.specs.declared.insn.Insn.TheVariants as insn
use Rattle.ebpf_insn.specs.Program.{instructions, placed, slots_in}
use Rattle.ebpf_insn.specs.Encoding.{IsDefined}
use Rattle.ebpf_insn.proofs.ProgramBytes.{instructions-append}
use Rattle.ebpf_insn.proofs.ProgramLemmas.{instructions-length}
use Rattle.ebpf_assembly.specs.declared.fault.AssemblyFault.{AssemblyFault}
use Rattle.ebpf_assembly.specs.declared.fault.AssemblyFault.TheVariants.{Bad, Empty, NoMemory}
use Rattle.ebpf_assembly.specs.Faults.{IsLineFault, IsLineStop, IsPlainFault}
use Rattle.ebpf_assembly.specs.Lines.{text_lines, words, IsInsnAt, AreInsns, IsAssembledPlain}

pub record IsDraft (lines : List (List ℕ)) (slots : List (Option Insn)) (len : ℕ) : Type 0 where
  pub count : len ≡ length (instructions slots)
  pub defined : AllByRecursion IsDefined (instructions slots)
  pub placed : slots ≡ flat_map placed (instructions slots)
  pub read : AreInsns 0 lines (instructions slots)

pub nothing : IsDraft [] [] 0
nothing = record { count = refl; defined = tt; placed = refl; read = refl }

-- a line more
with_blank : (slot : ℕ) (lines : List (List ℕ)) (line : List ℕ) (is : List Insn) → AreInsns slot lines is → words line ≡ []
    → AreInsns slot (lines ++ line ∷ []) is
with_blank slot [] line is a e = inl (e, a)
with_blank slot (l ∷ lines) line is (inl a) e = inl (a.0, with_blank slot lines line is a.1 e)
with_blank slot (l ∷ lines) line is (inr a) e = inr (a.0, a.1, a.2, a.3, with_blank (slot + slots_in a.0) lines line a.1 a.4 e)

with_insn : (slot : ℕ) (lines : List (List ℕ)) (line : List ℕ) (is : List Insn) (i : Insn) → AreInsns slot lines is
    → IsInsnAt (slot + length (flat_map placed is)) (words line) i
    → AreInsns slot (lines ++ line ∷ []) (is ++ i ∷ [])
with_insn slot [] line is i a at =
    inr (
      i,
      [],
      ap (λ (js : List Insn). js ++ i ∷ []) a,
      subst (λ (k : ℕ). IsInsnAt k (words line) i)
          (omega (arith, ap (λ (js : List Insn). length (flat_map placed js)) a)) at,
      refl,
    )
with_insn slot (l ∷ lines) line is i (inl a) at = inl (a.0, with_insn slot lines line is i a.1 at)
with_insn slot (l ∷ lines) line is i (inr a) at =
    inr (
      a.0,
      a.1 ++ i ∷ [],
      ap (λ (js : List Insn). js ++ i ∷ []) a.2,
      a.3,
      with_insn (slot + slots_in a.0) lines line a.1 i a.4
          (subst (λ (k : ℕ). IsInsnAt k (words line) i) further at),
    )
  where
    further : slot + length (flat_map placed is) ≡ slot + slots_in a.0 + length (flat_map placed a.1)
    further = omega (arith, ap (λ (js : List Insn). length (flat_map placed js)) a.2, length-append (placed a.0) (flat_map placed a.1))

one : (i : Insn) → instructions (placed i) ≡ i ∷ []
one (insn.Alu width o dst src) = refl
one _ = refl

more : (p : List (Option Insn)) (i : Insn) → instructions (p ++ placed i) ≡ instructions p ++ i ∷ []
more p i = instructions-append p (placed i) ∙ ap (λ (is : List Insn). instructions p ++ is) (one i)

all_more : (is : List Insn) (i : Insn) → AllByRecursion IsDefined is → IsDefined i → AllByRecursion IsDefined (is ++ i ∷ [])
all_more [] i all d = (d, tt)
all_more (j ∷ is) i all d = (all.0, all_more is i all.1 d)

placed_more : (is : List Insn) (i : Insn) → flat_map placed is ++ placed i ≡ flat_map placed (is ++ i ∷ [])
placed_more [] i = sym (append-nil (placed i))
placed_more (j ∷ is) i = append_assoc (placed j) (flat_map placed is) (placed i) ∙ ap (λ (p : List (Option Insn)). placed j ++ p) (placed_more is i)

longer : (lines : List (List ℕ)) (n : ℕ) (line : List ℕ) → n < length lines → line ≡ get_or lines n line → take (n + 1) lines ≡ take n lines ++ line ∷ []
longer lines n line inside here = take_more lines n line inside ∙ ap (λ (l : List ℕ). take n lines ++ l ∷ []) (sym here)

parted : (lines : List (List ℕ)) (n : ℕ) (line : List ℕ) → n < length lines → line ≡ get_or lines n line → lines ≡ take n lines ++ line ∷ drop (n + 1) lines
parted lines n line inside here =
    sym (take-append-drop n lines) ∙ ap (λ (ls : List (List ℕ)). take n lines ++ ls)
    (rw (add-one, drop-cons lines n line) (ap (λ (l : List ℕ). l ∷ drop (suc n) lines) (sym here)))

pub draft_blank : (lines : List (List ℕ)) (n : ℕ) (line : List ℕ) (slots : List (Option Insn)) (len : ℕ) → n < length lines
    → line ≡ get_or lines n line → words line ≡ []
    → IsDraft (take n lines) slots len → IsDraft (take (n + 1) lines) slots len
draft_blank lines n line slots len inside here blank d = record {
  count = d.count;
  defined = d.defined;
  placed = d.placed;
  read = subst (λ (ls : List (List ℕ)). AreInsns 0 ls (instructions slots)) (sym (longer lines n line inside here))
      (with_blank 0 (take n lines) line (instructions slots) d.read blank);
}

pub draft_more : (lines : List (List ℕ)) (n : ℕ) (line : List ℕ) (slots next : List (Option Insn)) (len : ℕ) (i : Insn)
    → n < length lines → line ≡ get_or lines n line
    → IsInsnAt (length slots) (words line) i → next ≡ slots ++ placed i → IsDraft (take n lines) slots len → IsDraft (take (n + 1) lines) next (len + 1)
draft_more lines n line slots next len i inside here at is d = subst (λ (p : List (Option Insn)). IsDraft (take (n + 1) lines) p (len + 1)) (sym is) (record {
  count = omega (arith, d.count, ap length (more slots i), length-append (instructions slots) (i ∷ []));
  defined = subst (λ (is : List Insn). AllByRecursion IsDefined is) (sym (more slots i)) (all_more (instructions slots) i d.defined at.0);
  placed = ap (λ (p : List (Option Insn)). p ++ placed i) d.placed ∙ (placed_more (instructions slots) i ∙ ap (flat_map placed) (sym (more slots i)));
  read = subst (λ (is : List Insn). AreInsns 0 (take (n + 1) lines) is) (sym (more slots i))
      (subst (λ (ls : List (List ℕ)). AreInsns 0 ls (instructions slots ++ i ∷ [])) (sym (longer lines n line inside here))
      (with_insn 0 (take n lines) line (instructions slots) i d.read (subst (λ (k : ℕ). IsInsnAt k (words line) i) (omega (arith, ap length d.placed)) at)));
})

pub few_len : (lines : List (List ℕ)) (slots : List (Option Insn)) (len : ℕ) → length slots ≤ 4096 → IsDraft lines slots len → len + 1 < 2 ^ 64
few_len lines slots len few d = omega (arith, few, d.count, instructions-length slots)

-- a line that is at fault
pub fault_here : (text : List ℕ) (n : ℕ) (line : List ℕ) (slots : List (Option Insn)) (len : ℕ) (e : AssemblyFault)
    → n < length (text_lines text) → line ≡ get_or (text_lines text) n line
    → IsDraft (take n (text_lines text)) slots len → IsLineStop (n + 1) (length slots) line e → IsPlainFault text e
fault_here text n line slots len NoMemory inside here d stop = tt
fault_here text n line slots len (Empty m) inside here d stop = absurd stop
fault_here text n line slots len (Bad m fault) inside here d stop = (
  line,
  instructions slots,
  record {
    before = take n (text_lines text);
    after = drop (n + 1) (text_lines text);
    lines = parted (text_lines text) n line inside here;
    counted = omega (arith, stop.0, length-take-le n (text_lines text) (omega (arith, inside)));
    read = d.read;
  },
  subst (λ (k : ℕ). IsLineFault k (words line) fault) (ap length d.placed) stop.1,
)

-- the end
all_read : (text : List ℕ) (n : ℕ) (is : List Insn) → length (text_lines text) ≤ n → AreInsns 0 (take n (text_lines text)) is → AreInsns 0 (text_lines text) is
all_read text n is all read = subst (λ (ls : List (List ℕ)). AreInsns 0 ls is) (take_all n (text_lines text) all) read

none_left : (is : List Insn) → length is ≡ 0 → is ≡ []
none_left [] e = refl
none_left (i ∷ is) e = absurd (omega (arith, e))

pub empty_here : (text : List ℕ) (n : ℕ) (slots : List (Option Insn)) (len : ℕ) → n ≡ length (text_lines text) → len ≡ 0
    → IsDraft (take n (text_lines text)) slots len → IsPlainFault text (Empty n)
empty_here text n slots len all none d = (
  all,
  subst (AreInsns 0 (text_lines text)) (none_left (instructions slots) (omega (arith, d.count, none)))
      (all_read text n (instructions slots) (omega (arith, all)) d.read),
)

pub finished : (text : List ℕ) (n : ℕ) (slots : List (Option Insn)) (len : ℕ) → n ≡ length (text_lines text) → length slots ≤ 4096
    → len ≢ 0 → IsDraft (take n (text_lines text)) slots len → IsAssembledPlain text slots
finished text n slots len all few some d = record {
  formed = record { some = omega (arith, some, d.count, instructions-length slots); few = few; defined = d.defined; placed = d.placed };
  lines = all_read text n (instructions slots) (omega (arith, all)) d.read;
}
