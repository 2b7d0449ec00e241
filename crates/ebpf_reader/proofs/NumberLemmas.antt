-- What a word of digits writes.
use Rattle.std.proofs.Common.{◌≡◌, ℕ, ◌+◌, ◌-◌, ◌*◌, ◌<◌, ◌≤◌, true, false, List, [], ◌∷◌, length, get_or, drop, fold, Some, None, sym, ◌∙◌, arith}
use Rattle.std.specs.Char.{is_ascii_digit}
use Rattle.std.specs.Str.{all_ascii_digits}
use Rattle.std.proofs.lemmas.List.{at_drop_more}
use Rattle.std.proofs.lemmas.Bool.{and_left}
use Rattle.std.proofs.lemmas.Bool.Decides.{nat_tests}
use Rattle.ebpf_reader.specs.Numbers.{value_of, number_to}

-- a digit more
abbrev pub more : ℕ → ℕ → ℕ
more value digit = 10 * value + (digit - 48)

-- digits make no number smaller
pub value-grows : (value : ℕ) (digits : List ℕ) → value ≤ fold more value digits
value-grows value [] = omega arith
value-grows value (d ∷ digits) = omega (arith, value-grows (more value d) digits)

-- no more than an empty word
pub number_to-empty : (most : ℕ) (word : List ℕ) → length word ≡ 0 → number_to most word ≡ None
unfolding number_to
number_to-empty most word h = grind (arith, nat_tests)

pub number_to-not_digits : (most : ℕ) (word : List ℕ) → all_ascii_digits word ≡ false → number_to most word ≡ None
unfolding number_to
number_to-not_digits most word h = grind (arith, nat_tests)

pub number_to-large : (most : ℕ) (word : List ℕ) → most < value_of word → number_to most word ≡ None
unfolding number_to
number_to-large most word h = grind (arith, nat_tests)

pub number_to-fits : (most value : ℕ) (word : List ℕ) → 0 < length word → all_ascii_digits word ≡ true → value_of word ≡ value
    → value ≤ most → number_to most word ≡ Some value
unfolding number_to
number_to-fits most value word some digits same fits = grind (arith, nat_tests)

-- one digit on
pub value_here : (word : List ℕ) (i value : ℕ) → i < length word → fold more value (drop i word) ≡ value_of word
    → fold more (more value (get_or word i 0)) (drop (i + 1) word) ≡ value_of word
value_here word i value inside h = sym (at_drop_more (fold more value) word i 0 inside) ∙ h

-- a byte here that is no digit
pub not_digits_here : (word : List ℕ) (i : ℕ) → i < length word → is_ascii_digit (get_or word i 0) ≡ false
    → all_ascii_digits (drop i word) ≡ all_ascii_digits word → all_ascii_digits word ≡ false
not_digits_here word i inside other h = sym h ∙ (at_drop_more all_ascii_digits word i 0 inside ∙ and_left _ _ other)
