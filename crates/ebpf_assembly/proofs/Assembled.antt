-- The listing of a program, assembled, is the program.
use Rattle.std.proofs.Common.{rules, arith, ◌≡◌, inl, inr, ℕ, ◌+◌, ◌<◌, ◌^◌, List, [], ◌∷◌, ◌++◌, length, refl, sym, ap, ◌∙◌, subst, Bool, true}
use Rattle.std.proofs.Common.{false, append_assoc, length-append, Option}
use Rattle.std.specs.Prelude.{codes, decimal, not, ◌&&◌, ◌||◌, ◌==◌, if◌then◌else◌, nat_lt}
use Rattle.std.specs.List.{list_all, AllByRecursion, slice_split, flat_map}
use Rattle.std.proofs.lemmas.List.Folds.{list_all-append}
use Rattle.ebpf_insn.specs.declared.insn.Insn.{Insn}
use Rattle.ebpf_insn.specs.declared.insn.Insn.TheVariants as insn
use Rattle.ebpf_insn.specs.Program.{instructions, placed, slots_in}
use Rattle.ebpf_insn.specs.Encoding.{IsDefined, IsWellFormed}
use Rattle.ebpf_text.specs.Mnemonics.{mnemonic_of}
use Rattle.ebpf_text.specs.Operands.{operands_of}
use Rattle.ebpf_text.specs.Listing.{later_operands_text, operands_text, insn_text, line_of, lines_from, listing_of}
use Rattle.ebpf_assembly.specs.Lines.{is_gap, is_newline, uncommented, words, words_of, AreInsns, IsAssembledPlain}
use Rattle.ebpf_assembly.proofs.PlainTexts.{is_plain, IsPlain, joined, of_decimal, of_mnemonic, of_operands}
use Rattle.ebpf_assembly.proofs.Splitting.{kept, split_at, numbered_kept}
use Rattle.ebpf_assembly.proofs.Kept.{kept_numbered, word_mnemonic, word_operands}

-- no newline, and no semicolon
abbrev is_inline : ℕ → Bool
is_inline c = not (is_newline c) && not (c == 59)

abbrev IsInline : List ℕ → Type 0
IsInline xs = list_all is_inline xs ≡ true

both : (a b : Bool) → a ≡ true → b ≡ true → (a && b) ≡ true
both true b e f = f
both false b e f = e

parts : (a b : Bool) → (a && b) ≡ true → (a ≡ true) × (b ≡ true)
parts true b e = (refl, e)
parts false b e = search (rules, e)

inline_both : (xs ys : List ℕ) → IsInline xs → IsInline ys → IsInline (xs ++ ys)
inline_both xs ys e f = list_all-append is_inline xs ys ∙ both (list_all is_inline xs) (list_all is_inline ys) e f

of_three : (d a b c : Bool) → (d && not (a || b || c)) ≡ true → (not b && not c) ≡ true
of_three d false false false e = refl
of_three true false false true e = e
of_three true false true c e = e
of_three true true b c e = search (rules, e)
of_three false a b c e = search (rules, e)

inline_plain : (xs : List ℕ) → IsPlain xs → IsInline xs
inline_plain [] e = refl
inline_plain (x ∷ xs) e =
    both (is_inline x) (list_all is_inline xs) (of_three (nat_lt x 128) (is_gap x) (is_newline x) (x == 59) (parts (is_plain x) (list_all is_plain xs) e).0)
    (inline_plain xs (parts (is_plain x) (list_all is_plain xs) e).1)

inline_later : (ts : List (List ℕ)) → AllByRecursion IsPlain ts → IsInline (later_operands_text ts)
inline_later [] all = refl
inline_later (t ∷ ts) all = inline_both t (later_operands_text ts) (inline_plain t all.0) (inline_later ts all.1)

inline_operands : (ts : List (List ℕ)) → AllByRecursion IsPlain ts → IsInline (operands_text ts)
inline_operands [] all = refl
inline_operands (t ∷ ts) all = inline_both t (later_operands_text ts) (inline_plain t all.0) (inline_later ts all.1)

inline_insn : (i : Insn) → IsDefined i → IsInline (insn_text i)
inline_insn i d = inline_both (mnemonic_of i) (operands_text (operands_of i)) (inline_plain (mnemonic_of i) (of_mnemonic i d))
    (inline_operands (operands_of i) (of_operands i d))

-- the line of an instruction without its newline
abbrev body : ℕ → Insn → List ℕ
body slot i = decimal slot ++ (codes ": " ++ insn_text i)

inline_body : (slot : ℕ) (i : Insn) → slot < 2 ^ 64 → IsDefined i → IsInline (body slot i)
inline_body slot i small d = inline_both (decimal slot) (codes ": " ++ insn_text i) (inline_plain (decimal slot) (of_decimal slot small)) (inline_insn i d)

-- it has no comment
no_comment : (c : ℕ) (xs rest : List ℕ) → (c == 59) ≡ false → rest ≡ xs → (if c == 59 then [] else c ∷ rest) ≡ c ∷ xs
no_comment c xs rest e h = search (rules, e, h)

last_false : (a b : Bool) → (not a && not b) ≡ true → b ≡ false
last_false a false e = refl
last_false true true e = search (rules, e)
last_false false true e = search (rules, e)

first_false : (a b : Bool) → (not a && not b) ≡ true → a ≡ false
first_false false b e = refl
first_false true b e = search (rules, e)

whole : (xs : List ℕ) → IsInline xs → uncommented xs ≡ xs
unfolding uncommented
whole [] e = refl
whole (x ∷ xs) e =
    no_comment x xs (uncommented xs) (last_false (is_newline x) (x == 59) (parts (is_inline x) (list_all is_inline xs) e).0)
    (whole xs (parts (is_inline x) (list_all is_inline xs) e).1)

words_body : (slot : ℕ) (i : Insn) → slot < 2 ^ 64 → IsDefined i → words (body slot i) ≡ (decimal slot ++ codes ":") ∷ words_of i
words_body slot i small d =
    ap kept (whole (body slot i) (inline_body slot i small d))
    ∙ numbered_kept (decimal slot) (mnemonic_of i) (operands_of i) (joined (decimal slot) (codes ":") (of_decimal slot small) refl, kept_numbered slot)
    (word_mnemonic i d) (word_operands i d)

-- the lines, one after another
lines_more : (slot : ℕ) (i : Insn) (rest : List (Option Insn)) → lines_from slot (placed i ++ rest) ≡ line_of slot i ++ lines_from (slot + slots_in i) rest
unfolding lines_from
lines_more slot (insn.Alu width o dst src) rest = refl
lines_more slot (insn.Sext width bits dst src) rest = refl
lines_more slot (insn.Neg width dst) rest = refl
lines_more slot (insn.Swap order bits dst) rest = refl
lines_more slot (insn.Wide dst value) rest = ap (λ (k : ℕ). line_of slot (insn.Wide dst value) ++ lines_from k rest) two where
  two : slot + 1 + 1 ≡ slot + 2
  two = omega arith
lines_more slot (insn.Load s signed dst base offset) rest = refl
lines_more slot (insn.Store s base offset src) rest = refl
lines_more slot (insn.Jump offset) rest = refl
lines_more slot (insn.JumpFar offset) rest = refl
lines_more slot (insn.Branch width c left right offset) rest = refl
lines_more slot (insn.Call number) rest = refl
lines_more slot insn.Exit rest = refl

line_apart : (slot : ℕ) (i : Insn) (rest : List ℕ) → line_of slot i ++ rest ≡ body slot i ++ 10 ∷ rest
line_apart slot i rest = apart (decimal slot) (insn_text i) where
  apart : (a b : List ℕ) → (a ++ (58 ∷ 32 ∷ (b ++ 10 ∷ []))) ++ rest ≡ (a ++ (58 ∷ 32 ∷ b)) ++ 10 ∷ rest
  apart a b =
      append_assoc a (58 ∷ 32 ∷ (b ++ 10 ∷ [])) rest
      ∙ (ap (λ (x : List ℕ). a ++ (58 ∷ 32 ∷ x)) (append_assoc b (10 ∷ []) rest) ∙ sym (append_assoc a (58 ∷ 32 ∷ b) (10 ∷ rest)))

no_newline : (c : ℕ) → is_inline c ≡ true → is_newline c ≡ false
no_newline c e = first_false (is_newline c) (c == 59) e

pub assembled : (slot : ℕ) (is : List Insn) → slot + length (flat_map placed is) < 2 ^ 64 → AllByRecursion IsDefined is
    → AreInsns slot (slice_split is_newline (lines_from slot (flat_map placed is))) is
unfolding lines_from uncommented
assembled slot [] small all = inl (refl, refl)
assembled slot (i ∷ is) small all =
    subst (λ (lines : List (List ℕ)). AreInsns slot lines (i ∷ is)) (sym cut)
    (inr (
      i,
      is,
      refl,
      (all.0, inr (words_body slot i (omega (arith, small)) all.0)),
      assembled (slot + slots_in i) is
          (omega (arith, small, length-append (placed i) (flat_map placed is))) all.1,
    ))
  where
    cut : slice_split is_newline (lines_from slot (placed i ++ flat_map placed is))
        ≡ body slot i ∷ slice_split is_newline (lines_from (slot + slots_in i) (flat_map placed is))
    cut = ap (slice_split is_newline) (lines_more slot i (flat_map placed is) ∙ line_apart slot i (lines_from (slot + slots_in i) (flat_map placed is)))
        ∙ split_at is_inline is_newline no_newline (body slot i) 10 (lines_from (slot + slots_in i) (flat_map placed is))
        (inline_body slot i (omega (arith, small)) all.0) refl

pub listing_assembled : (p : List (Option Insn)) → IsWellFormed p → IsAssembledPlain (listing_of p) p
listing_assembled p formed = record {
  formed = formed;
  lines = subst (λ (q : List (Option Insn)). AreInsns 0 (slice_split is_newline (lines_from 0 q)) (instructions p)) (sym formed.placed)
      (assembled 0 (instructions p) (subst (λ (q : List (Option Insn)). 0 + length q < 2 ^ 64) formed.placed (omega (arith, formed.few))) formed.defined);
}
