-- The words of a line, as they are looked for.
use Rattle.std.proofs.Common.{rules, arith, ◌≡◌, ℕ, suc, ◌+◌, List, [], ◌∷◌, length, take, refl, sym, ap, ◌∙◌, Bool, true, false}
use Rattle.std.specs.Prelude.{Option, Some, None, not, ◌==◌, if◌then◌else◌, cond}
use Rattle.std.specs.List.{position_or_len}
use Rattle.std.proofs.Math.Dec.{ltb}
use Rattle.std.proofs.lemmas.Bool.{ltb-false}
use Rattle.std.proofs.lemmas.List.{take_all}
use Rattle.ebpf_assembly.specs.Lines.{uncommented, is_word}

abbrev pub is_semicolon : ℕ → Bool
is_semicolon c = c == 59

first_taken : (b : Bool) (x n : ℕ) (xs rest : List ℕ) → take n xs ≡ rest → take (cond (not b) (1 + n) 0) (x ∷ xs) ≡ (if b then [] else x ∷ rest)
first_taken true x n xs rest e = refl
first_taken false x n xs rest e = ap (λ (k : ℕ). take k (x ∷ xs)) one ∙ ap (λ (ys : List ℕ). x ∷ ys) e where
  one : 1 + n ≡ suc n
  one = omega arith

taken : (xs : List ℕ) → take (position_or_len is_semicolon xs) xs ≡ uncommented xs
unfolding uncommented
taken [] = refl
taken (x ∷ xs) = first_taken (x == 59) x (position_or_len is_semicolon xs) xs (uncommented xs) (taken xs)

abbrev IsFirst : List ℕ → Option ℕ → Type 0
IsFirst xs o = o ≡ cond (ltb (position_or_len is_semicolon xs) (length xs)) (Some (position_or_len is_semicolon xs)) None

some_is : {A : Type 0} (x y : A) → Some x ≡ Some y → x ≡ y
some_is x y e = cc

none_some : {A : Type 0} (x : A) → None ≡ Some x → ⊥
none_some x e = cc

pub cut : (xs : List ℕ) (end : ℕ) → IsFirst xs (Some end) → take end xs ≡ uncommented xs
cut xs end e = which (ltb (position_or_len is_semicolon xs) (length xs)) e where
  which : (b : Bool) → Some end ≡ cond b (Some (position_or_len is_semicolon xs)) None → take end xs ≡ uncommented xs
  which true f = ap (λ (n : ℕ). take n xs) (some_is end (position_or_len is_semicolon xs) f) ∙ taken xs
  which false f = absurd (none_some end (sym f))

pub whole_line : (xs : List ℕ) → IsFirst xs None → xs ≡ uncommented xs
whole_line xs e = which (ltb (position_or_len is_semicolon xs) (length xs)) refl e where
  which : (b : Bool) → ltb (position_or_len is_semicolon xs) (length xs) ≡ b → None ≡ cond b (Some (position_or_len is_semicolon xs)) None → xs ≡ uncommented xs
  which true is f = absurd (none_some (position_or_len is_semicolon xs) f)
  which false is f = sym (take_all (position_or_len is_semicolon xs) xs (ltb-false (position_or_len is_semicolon xs) (length xs) is)) ∙ taken xs

-- a word has a byte
pub word_test : (xs : List ℕ) → not (length xs == 0) ≡ is_word xs
word_test [] = refl
word_test (x ∷ xs) = search rules
