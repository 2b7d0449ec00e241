-- The words of a line, as its bytes are passed one after another.
use Rattle.std.proofs.Common.{◌≡◌, ℕ, zero, suc, ◌+◌, ◌-◌, ◌<◌, ◌≤◌, Bool, true, false, not, ◌==◌, cond, List, [], ◌∷◌, ◌++◌, length, take, drop}
use Rattle.std.proofs.Common.{get_or, filter, refl, sym, ap, ◌∙◌, arith, append_assoc}
use Rattle.std.specs.List.{slice_split, onto_first, All}
use Rattle.std.proofs.lemmas.Bool.Decides.{nat_tests}
use Rattle.std.proofs.lemmas.Bool.{or_parts}
use Rattle.std.proofs.lemmas.List.{take_more, get_or-drop}
use Rattle.std.proofs.lemmas.List.Elements.{filter-append, All-more, All-append, All-weaker}
use Rattle.std.proofs.lemmas.List.Splits.{slice_split-cons_yes, slice_split_none, length-slice_split}
use Rattle.std.proofs.Math.Seq.{take-add}
use Rattle.ebpf_reader.specs.Words.{is_gap, is_end, IsUnbroken, words}

append_nil : {X : Type 0} (xs : List X) → xs ++ [] ≡ xs
append_nil [] = refl
append_nil (x ∷ xs) = ap (λ (ys : List _). x ∷ ys) (append_nil xs)

-- ---- a line that is cut at a gap

first_parts : (b : Bool) (x : ℕ) (parts rest : List (List ℕ)) → 0 < length parts
    → cond b ([] ∷ (parts ++ rest)) (onto_first x (parts ++ rest)) ≡ cond b ([] ∷ parts) (onto_first x parts) ++ rest
first_parts true x parts rest some = refl
first_parts false x [] rest some = absurd (omega arith)
first_parts false x (part ∷ parts) rest some = refl

split_at_gap : (xs ys : List ℕ) (g : ℕ) → is_gap g ≡ true → slice_split is_gap (xs ++ g ∷ ys) ≡ slice_split is_gap xs ++ slice_split is_gap ys
split_at_gap [] ys g gap = slice_split-cons_yes is_gap g ys gap
split_at_gap (x ∷ xs) ys g gap =
    rw (split_at_gap xs ys g gap) (first_parts (is_gap x) x (slice_split is_gap xs) (slice_split is_gap ys) (omega (arith, length-slice_split is_gap xs)))

pub words-at_gap : (xs ys : List ℕ) (g : ℕ) → is_gap g ≡ true → words (xs ++ g ∷ ys) ≡ words xs ++ words ys
unfolding words
words-at_gap xs ys g gap = rw (split_at_gap xs ys g gap) (filter-append (λ word. not (length word == 0)) (slice_split is_gap xs) (slice_split is_gap ys))

words-none : words [] ≡ []
unfolding words
words-none = refl

-- ---- bytes with no gap among them

one_or_none : (b : Bool) (word : List ℕ) → filter (λ (w : List ℕ). not b) (word ∷ []) ≡ cond b [] (word ∷ [])
one_or_none true word = refl
one_or_none false word = refl

pub words-whole : (word : List ℕ) → All (λ c. is_gap c ≡ false) word → words word ≡ cond (length word == 0) [] (word ∷ [])
unfolding words
words-whole word whole = rw (slice_split_none is_gap word whole) (one_or_none (length word == 0) word)

-- ---- the first six

take_of_taken : {X : Type 0} (n : ℕ) (xs ys : List X) → take n (take n xs ++ ys) ≡ take n (xs ++ ys)
take_of_taken zero xs ys = refl
take_of_taken (suc n) [] ys = refl
take_of_taken (suc n) (x ∷ xs) ys = ap (λ (zs : List _). x ∷ zs) (take_of_taken n xs ys)

add_one : (b : Bool) (word : List ℕ) (found all : List (List ℕ)) → found ≡ take 6 all
    → cond b found (take 6 (found ++ word ∷ [])) ≡ take 6 (all ++ cond b [] (word ∷ []))
add_one true word found all is = is ∙ ap (take 6) (sym (append_nil all))
add_one false word found all is = rw is (take_of_taken 6 all (word ∷ []))

-- ---- the bytes that are passed

-- all bytes before i, where the last word begins at start: those before it are whole words
pub record Passed (text : List ℕ) (start i : ℕ) (found : List (List ℕ)) : Type 0 where
  pub before : start ≤ i
  pub one_line : All (λ c. (c == 10) ≡ false) (take i text)
  pub no_gap : All (λ c. is_gap c ≡ false) (take (i - start) (drop start text))
  pub joins : (rest : List ℕ) → words (take start text ++ rest) ≡ words (take start text) ++ words rest
  pub kept : found ≡ take 6 (words (take start text))

pub passed_none : (text : List ℕ) → Passed text 0 0 []
unfolding words
passed_none text = record {
  before = omega arith;
  one_line = λ k d lt. absurd (omega arith);
  no_gap = λ k d lt. absurd (omega arith);
  joins = λ rest. refl;
  kept = refl;
}

take_parts : (xs : List ℕ) (s i : ℕ) → s ≤ i → take i xs ≡ take s xs ++ take (i - s) (drop s xs)
take_parts xs s i le =
    let sums : s + (i - s) ≡ i = omega arith in
    rw sums at (take-add s (i - s) xs)

-- the words up to here, with the one that ends here
pub passed_words : (text : List ℕ) (start i : ℕ) (found : List (List ℕ)) → Passed text start i found → i ≤ length text
    → cond (length (take (i - start) (drop start text)) == 0) found (take 6 (found ++ take (i - start) (drop start text) ∷ [])) ≡ take 6 (words (take i text))
passed_words text start i found p within =
    let word = take (i - start) (drop start text) in
    add_one (length word == 0) word found (words (take start text)) p.kept
    ∙ ap (take 6) (sym (ap words (take_parts text start i p.before)
    ∙ (p.joins word ∙ ap (λ (ws : List (List ℕ)). words (take start text) ++ ws) (words-whole word p.no_gap))))

cancelled : (n : ℕ) → n - n ≡ 0
cancelled n = omega arith

-- a gap is passed
pub passed_gap : (text : List ℕ) (start i : ℕ) (found new : List (List ℕ)) → Passed text start i found → i < length text
    → (get_or text i 0 == 10) ≡ false → is_gap (get_or text i 0) ≡ true → new ≡ take 6 (words (take i text)) → Passed text (i + 1) (i + 1) new
passed_gap text start i found new p inside other gap is =
    let none : length (take (i + 1 - (i + 1)) (drop (i + 1) text)) ≡ 0 = rw (cancelled (i + 1)) refl in
    let more : take (i + 1) text ≡ take i text ++ get_or text i 0 ∷ [] = take_more text i 0 inside in
    let same : words (take (i + 1) text) ≡ words (take i text) =
    ap words more ∙ (words-at_gap (take i text) [] (get_or text i 0) gap
    ∙ (ap (λ (ws : List (List ℕ)). words (take i text) ++ ws) words-none ∙ append_nil (words (take i text)))) in
    record {
      before = omega arith;
      one_line = All-more (λ c. (c == 10) ≡ false) text i 0 inside p.one_line other;
      no_gap = λ k d lt. absurd (omega (arith, none, lt));
      joins = λ rest. ap words (ap (λ (xs : List ℕ). xs ++ rest) more ∙ append_assoc (take i text) (get_or text i 0 ∷ []) rest)
          ∙ (words-at_gap (take i text) rest (get_or text i 0) gap ∙ ap (λ (ws : List (List ℕ)). ws ++ words rest) (sym same));
      kept = is ∙ ap (take 6) (sym same);
    }

-- a word is passed, up to what may end it
pub passed_word : (text : List ℕ) (start n : ℕ) (found : List (List ℕ)) → Passed text start start found
    → IsUnbroken (take n (drop start text)) → Passed text start (start + n) found
passed_word text start n found p whole =
    let word = take n (drop start text) in
    let parts = λ (c : ℕ) (is : is_end c ≡ false). or_parts (c == 10) (is_gap c) is in
    let same : start + n - start ≡ n = omega arith in
    record {
      before = omega arith;
      one_line = rw (take-add start n text)
          (All-append (λ c. (c == 10) ≡ false) (take start text) word p.one_line (All-weaker (λ c. is_end c ≡ false) (λ c. (c == 10) ≡ false) (λ c is. (parts c is).0) word whole));
      no_gap = rw same (All-weaker (λ c. is_end c ≡ false) (λ c. is_gap c ≡ false) (λ c is. (parts c is).1) word whole);
      joins = p.joins;
      kept = p.kept;
    }

pub no_newline : (c : ℕ) → (c ≡ 10 → ⊥) → (c == 10) ≡ false
no_newline c other = grind (arith, nat_tests)

-- a byte that ends a word and is no newline is a gap
pub gap_here : (c : ℕ) → (c == 10) ≡ false → is_end c ≡ true → is_gap c ≡ true
gap_here c other ends = rw other at ends

-- the byte after the first n that are left ends a word
pub ends_there : (text : List ℕ) (start n : ℕ) → is_end (get_or (drop start text) n 0) ≡ true
    → is_end (get_or text (start + n) 0) ≡ true
ends_there text start n ends = rw (get_or-drop start text n 0) at ends
