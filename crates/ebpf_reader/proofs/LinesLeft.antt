-- The lines that are left of a text after its first bytes.
use Rattle.std.proofs.Common.{◌≡◌, ℕ, suc, ◌+◌, ◌-◌, ◌≤◌, Bool, true, false, ◌==◌, ◌||◌, cond, nat_le, List, [], ◌∷◌, ◌++◌, length, take}
use Rattle.std.proofs.Common.{drop, get_or, refl, sym, ap, ◌∙◌, subst, arith, inl, inr, eq-zero-or-pos, length-drop}
use Rattle.std.specs.List.{slice_split, list_all, All}
use Rattle.std.proofs.lemmas.Bool.{and_parts, and_from}
use Rattle.std.proofs.lemmas.Bool.Decides.{nat_tests}
use Rattle.std.proofs.lemmas.List.{at_drop_more, take_all, drop-drop, take-append-drop}
use Rattle.std.proofs.lemmas.List.Folds.{list_all-append}
use Rattle.std.proofs.lemmas.List.Splits.{slice_split_at, slice_split_none}
use Rattle.ebpf_reader.specs.ScriptLines.{script_lines, IsFirst, is_text_byte, is_text}

-- after all of a text there are none
abbrev pub lines_from : List ℕ → ℕ → List (List ℕ)
lines_from text from = cond (nat_le from (length text)) (script_lines (drop from text)) []

first_of_lines : (text line : List ℕ) → IsFirst text line → script_lines text ≡ line ∷ lines_from text (length line + 1)
first_of_lines text line first = elim (eq-zero-or-pos (length text - length line)) [
  | inl none ↦
      let whole : line ≡ text = first.begins ∙ take_all (length line) text (omega arith) in
      let past : nat_le (length line + 1) (length text) ≡ false = grind (arith, nat_tests, first.within) in
      let only : script_lines text ≡ text ∷ [] = slice_split_none (λ c. c == 10) text (subst (All (λ c. (c == 10) ≡ false)) whole first.one) in
      rw past (only ∙ ap (λ (x : List ℕ). x ∷ []) (sym whole))
  | inr more ↦
      let inside : nat_le (length line + 1) (length text) ≡ true = grind (arith, nat_tests) in
      let ten : (get_or text (length line) 0 == 10) ≡ true = first.ends (omega arith) in
      let rest = drop (length line + 1) text in
      let parts : text ≡ line ++ get_or text (length line) 0 ∷ rest =
      sym (take-append-drop (length line) text) ∙ (ap (λ (xs : List ℕ). xs ++ drop (length line) text) (sym first.begins)
      ∙ at_drop_more (λ (xs : List ℕ). line ++ xs) text (length line) 0 (omega arith)) in
      rw inside (ap (slice_split (λ c. c == 10)) parts ∙ slice_split_at (λ c. c == 10) line (get_or text (length line) 0) rest first.one ten)
]

lines_from-drop : (text : List ℕ) (from n : ℕ) → from ≤ length text → lines_from (drop from text) n ≡ lines_from text (from + n)
lines_from-drop text from n within =
    let same : nat_le n (length (drop from text)) ≡ nat_le (from + n) (length text) = elim (eq-zero-or-pos (from + n - length text)) [
      | inl none ↦
          let a : nat_le n (length (drop from text)) ≡ true = grind (arith, nat_tests, length-drop from text) in
          let b : nat_le (from + n) (length text) ≡ true = grind (arith, nat_tests) in
          a ∙ sym b
      | inr more ↦
          let a : nat_le n (length (drop from text)) ≡ false = grind (arith, nat_tests, length-drop from text) in
          let b : nat_le (from + n) (length text) ≡ false = grind (arith, nat_tests) in
          a ∙ sym b
    ] in
    rw (same, drop-drop n from text) refl

-- the line that begins here, and those after it
pub lines_from-line : (text line : List ℕ) (from : ℕ) → from ≤ length text → IsFirst (drop from text) line
    → lines_from text from ≡ line ∷ lines_from text (from + (length line + 1))
lines_from-line text line from within first =
    let inside : nat_le from (length text) ≡ true = grind (arith, nat_tests) in
    rw inside (first_of_lines (drop from text) line first ∙ ap (λ (lines : List (List ℕ)). line ∷ lines) (lines_from-drop text from (length line + 1) within))

-- ---- where a text has only bytes of lines, each line has only bytes of text

left_true : (a b : Bool) → (a || b) ≡ true → b ≡ false → a ≡ true
left_true true b either other = refl
left_true false b either other = sym other ∙ either

only_text : (line : List ℕ) → list_all (λ c. is_text_byte c || c == 10) line ≡ true → All (λ c. (c == 10) ≡ false) line → is_text line ≡ true
unfolding is_text
only_text [] all one = refl
only_text (c ∷ line) all one =
    let parts = and_parts (is_text_byte c || c == 10) (list_all (λ c. is_text_byte c || c == 10) line) all in
    and_from (is_text_byte c) (is_text line) (left_true (is_text_byte c) (c == 10) parts.0 (one 0 0 (omega arith)))
    (only_text line parts.1 (λ k d below. one (suc k) d (omega arith)))

both_parts : (p : ℕ → Bool) (n : ℕ) (xs : List ℕ) → list_all p xs ≡ true → (list_all p (take n xs) ≡ true) × (list_all p (drop n xs) ≡ true)
both_parts p n xs all =
    let parts = and_parts _ _ (sym (list_all-append p (take n xs) (drop n xs)) ∙ (ap (list_all p) (take-append-drop n xs) ∙ all)) in
    (parts.0, parts.1)

pub line_is_text : (text line : List ℕ) (from : ℕ) → list_all (λ c. is_text_byte c || c == 10) text ≡ true → IsFirst (drop from text) line → is_text line ≡ true
line_is_text text line from all first =
    let behind = both_parts (λ c. is_text_byte c || c == 10) from text all in
    let here = both_parts (λ c. is_text_byte c || c == 10) (length line) (drop from text) behind.1 in
    only_text line (ap (list_all (λ c. is_text_byte c || c == 10)) first.begins ∙ here.0) first.one
