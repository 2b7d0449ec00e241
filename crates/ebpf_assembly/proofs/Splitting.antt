-- The words of a line that `list` writes are those of its instruction.
use Rattle.std.proofs.Common.{rules, ◌≡◌, ℕ, List, [], ◌∷◌, ◌++◌, refl, sym, ap, ◌∙◌, Bool, true, false, append_assoc}
use Rattle.std.specs.Prelude.{codes, not, ◌&&◌, ◌||◌, ◌==◌, filter, nat_lt}
use Rattle.std.specs.List.{list_all, AllByRecursion, slice_split, onto_first}
use Rattle.std.proofs.lemmas.List.{append-nil}
use Rattle.std.proofs.lemmas.List.Splits.{slice_split-cons_yes, slice_split-cons_no}
use Rattle.ebpf_text.specs.Listing.{later_operands_text, operands_text}
use Rattle.ebpf_assembly.specs.Lines.{is_gap, is_newline, is_word}
use Rattle.ebpf_assembly.proofs.PlainTexts.{is_plain, IsPlain}

parts : (a b : Bool) → (a && b) ≡ true → (a ≡ true) × (b ≡ true)
parts true b e = (refl, e)
parts false b e = search (rules, e)

module _ (test p : ℕ → Bool) (ok : (c : ℕ) → test c ≡ true → p c ≡ false) where
  pub split_at : (xs : List ℕ) (y : ℕ) (ys : List ℕ) → list_all test xs ≡ true → p y ≡ true → slice_split p (xs ++ y ∷ ys) ≡ xs ∷ slice_split p ys
  split_at [] y ys e h = slice_split-cons_yes p y ys h
  split_at (x ∷ xs) y ys e h =
      slice_split-cons_no p x (xs ++ y ∷ ys) (ok x (parts (test x) (list_all test xs) e).0)
      ∙ ap (onto_first x) (split_at xs y ys (parts (test x) (list_all test xs) e).1 h)

  pub split_end : (xs : List ℕ) → list_all test xs ≡ true → slice_split p xs ≡ xs ∷ []
  split_end [] e = refl
  split_end (x ∷ xs) e =
      slice_split-cons_no p x xs (ok x (parts (test x) (list_all test xs) e).0) ∙ ap (onto_first x) (split_end xs (parts (test x) (list_all test xs) e).1)

first_false : (d a b c : Bool) → (d && not (a || b || c)) ≡ true → a ≡ false
first_false d false b c e = refl
first_false true true b c e = sym e
first_false false true b c e = search (rules, e)

no_gap : (c : ℕ) → is_plain c ≡ true → is_gap c ≡ false
no_gap c e = first_false (nat_lt c 128) (is_gap c) (is_newline c) (c == 59) e

-- the words between the gaps
abbrev pub is_kept : List ℕ → Bool
is_kept word = is_word word

abbrev pub kept : List ℕ → List (List ℕ)
kept xs = filter is_kept (slice_split is_gap xs)

abbrev pub IsWord : List ℕ → Type 0
IsWord xs = IsPlain xs × (is_kept xs ≡ true)

filter_yes : (xs : List ℕ) (rest : List (List ℕ)) → is_kept xs ≡ true → filter is_kept (xs ∷ rest) ≡ xs ∷ filter is_kept rest
filter_yes xs rest e = search (rules, e)

pub kept_word : (xs : List ℕ) (y : ℕ) (ys : List ℕ) → IsWord xs → is_gap y ≡ true → kept (xs ++ y ∷ ys) ≡ xs ∷ kept ys
kept_word xs y ys w h = ap (filter is_kept) (split_at is_plain is_gap no_gap xs y ys w.0 h) ∙ filter_yes xs (slice_split is_gap ys) w.1

pub kept_gap : (y : ℕ) (ys : List ℕ) → is_gap y ≡ true → kept (y ∷ ys) ≡ kept ys
kept_gap y ys h = ap (filter is_kept) (slice_split-cons_yes is_gap y ys h)

pub kept_end : (xs : List ℕ) → IsWord xs → kept xs ≡ xs ∷ []
kept_end xs w = ap (filter is_kept) (split_end is_plain is_gap no_gap xs w.0) ∙ filter_yes xs [] w.1

later : (xs : List ℕ) (ts : List (List ℕ)) → IsWord xs → AllByRecursion IsWord ts → kept (xs ++ later_operands_text ts) ≡ xs ∷ ts
later xs [] w all = ap kept (append-nil xs) ∙ kept_end xs w
later xs (t ∷ ts) w all =
    kept_word xs 44 (32 ∷ (t ++ later_operands_text ts)) w refl
    ∙ ap (λ (r : List (List ℕ)). xs ∷ r) (kept_gap 32 (t ++ later_operands_text ts) refl ∙ later t ts all.0 all.1)

pub operands_kept : (xs : List ℕ) (ts : List (List ℕ)) → IsWord xs → AllByRecursion IsWord ts → kept (xs ++ operands_text ts) ≡ xs ∷ ts
operands_kept xs [] w all = ap kept (append-nil xs) ∙ kept_end xs w
operands_kept xs (t ∷ ts) w all =
    kept_word xs 32 (t ++ later_operands_text ts) w refl ∙ ap (λ (r : List (List ℕ)). xs ∷ r) (later t ts all.0 all.1)

pub numbered_kept : (slot : List ℕ) (xs : List ℕ) (ts : List (List ℕ)) → IsWord (slot ++ codes ":") → IsWord xs → AllByRecursion IsWord ts
    → kept (slot ++ (codes ": " ++ (xs ++ operands_text ts))) ≡ (slot ++ codes ":") ∷ (xs ∷ ts)
numbered_kept slot xs ts s w all =
    ap kept (sym (append_assoc slot (codes ":") (32 ∷ (xs ++ operands_text ts))))
    ∙ (kept_word (slot ++ codes ":") 32 (xs ++ operands_text ts) s refl ∙ ap (λ (r : List (List ℕ)). (slot ++ codes ":") ∷ r) (operands_kept xs ts w all))
