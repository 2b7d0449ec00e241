-- Which words are numbers, and of what value.
use Rattle.std.proofs.Common.{rules, arith, ◌≡◌, ◌≢◌, ℕ, zero, suc, ◌<◌, ◌≤◌, ◌^◌, List, [], ◌∷◌, length, get_or, drop, sym, ap, ◌∙◌, subst}
use Rattle.std.specs.Prelude.{ℤ, pos, negsuc, Bool, true, false, ◌==◌, Option, Some, None, Result, Ok, Err, FitsSigned, decimal}
use Rattle.std.specs.Option.{MatchOption}
use Rattle.std.specs.Fmt.{signed_decimal}
use Rattle.std.specs.Int.{w16, w32}
use Rattle.std.specs.Int.Signed.{mag}
use Rattle.std.specs.Str.{IsUtf8}
use Rattle.std.specs.Str.Parse.{AllDigits, digits_value, ParsesUnsigned}
use Rattle.std.specs.Result.{OkIff, result_ok}
use Rattle.std.proofs.lemmas.Fmt.{digits_decimal, digits_value-decimal, decimal-digits_value, decimal_digit, decimal_injective, decimal_nonempty}
use Rattle.std.proofs.lemmas.Fmt.{first_decimal, IsAscii-decimal}
use Rattle.std.proofs.lemmas.Bool.Decides.{nat_tests}
use Rattle.std.proofs.lemmas.Str.{IsUtf8-from_ascii}
use Rattle.std.proofs.lemmas.Str.Parse.{IsNumeralModel, numerals_by_value, tells_digits, parse_plain, not_in_digits}
use Rattle.ebpf_text.specs.Operands.{offset_text}
use Rattle.ebpf_assembly.proofs.PlainTexts.{small16, small32}

own : IsNumeralModel (AllDigits 10) (digits_value 10)
own = numerals_by_value (AllDigits 10) tells_digits

pub is_none : (n : ℕ) (b : Bool) → b ≡ (n == 0) → b ≡ true → n ≡ 0
is_none n b is e = zeroed n (sym is ∙ e) where
  zeroed : (n : ℕ) → (n == 0) ≡ true → n ≡ 0
  zeroed n e = grind (arith, nat_tests)

pub is_some : (n : ℕ) (b : Bool) → b ≡ (n == 0) → b ≡ false → n ≢ 0
is_some n b is e none = search (rules, sym (ap (λ (k : ℕ). k == 0) none) ∙ (sym is ∙ e))

-- the first byte of a number
head_other : (n k : ℕ) → n < 2 ^ 64 → k < 48 → get_or (decimal n) 0 0 ≢ k
head_other n k small low = not_in_digits own (decimal n) k (digits_decimal own n small) (λ r. omega (arith, r, low)) 0 (decimal_nonempty n small)

pub no_empty : (word : List ℕ) (n : ℕ) → length word ≡ 0 → n < 2 ^ 64 → word ≢ decimal n
no_empty word n is small e = omega (arith, is, decimal_nonempty n small, ap length e)

pub no_sign : (first : ℕ) (rest : List ℕ) (n : ℕ) → first < 48 → n < 2 ^ 64 → first ∷ rest ≢ decimal n
no_sign first rest n low small e = head_other n first small low (sym (ap (λ (xs : List ℕ). get_or xs 0 0) e))

pub no_plus : (first : ℕ) (rest word : List ℕ) (n : ℕ) → word ≡ first ∷ rest → first ≡ 43 → n < 2 ^ 64 → word ≢ decimal n
no_plus first rest word n is plus small e = no_sign first rest n (omega (arith, plus)) small (sym is ∙ e)

pub no_zero : (first : ℕ) (rest word : List ℕ) (n : ℕ) → word ≡ first ∷ rest → first ≡ 48 → length rest ≢ 0 → n < 2 ^ 64 → word ≢ decimal n
no_zero first rest word zero is zeroed some small e = some (omega (arith, ap length (sym is ∙ (e ∙ decimal_digit 0 (omega arith)))))
no_zero first rest word (suc n) is zeroed some small e =
    omega (arith, zeroed, first_decimal (suc n) (omega arith) small, ap (λ (xs : List ℕ). get_or xs 0 0) (sym is ∙ e))

pub only_zero : (first : ℕ) (rest word : List ℕ) → word ≡ first ∷ rest → first ≡ 48 → length rest ≡ 0 → word ≡ decimal 0
only_zero first [] word is zeroed none = is ∙ (ap (λ (c : ℕ). c ∷ []) zeroed ∙ sym (decimal_digit 0 (omega arith)))
only_zero first (c ∷ rest) word is zeroed none = absurd (omega (arith, none))

pub no_bytes : (word : List ℕ) (n : ℕ) → (IsUtf8 word → ⊥) → n < 2 ^ 64 → word ≢ decimal n
no_bytes word n not small e = not (subst IsUtf8 (sym e) (IsUtf8-from_ascii (decimal n) (IsAscii-decimal n small)))

abbrev IsNumber : List ℕ → Option ℕ → Type 0
IsNumber word o = MatchOption o ((n : ℕ) → n < 2 ^ 64 → word ≢ decimal n) (λ n. (n < 2 ^ 64) × (word ≡ decimal n))

pub parsed : {E : Type 0} (first : ℕ) (rest word : List ℕ) (r : Result ℕ E) → word ≡ first ∷ rest → first ≢ 43 → first ≢ 48
    → ParsesUnsigned 64 10 word r → IsNumber word (result_ok r)
parsed first rest word r is plus zeros h = which r (parse_plain own 64 word r h (λ e. plus (sym head ∙ e))) where
  head : get_or word 0 0 ≡ first
  head = ap (λ (xs : List ℕ). get_or xs 0 0) is

  single : get_or word 0 0 ≡ 48 → length word ≡ 1
  single e = absurd (zeros (sym head ∙ e))

  which : {E : Type 0} (r : Result ℕ E)
      → OkIff r (AllDigits 10 word × (0 < length word) × (digits_value 10 word < 2 ^ 64)) (digits_value 10 word)
      → IsNumber word (result_ok r)
  which (Ok x) k = (subst (λ (m : ℕ). m < 2 ^ 64) (sym k.1) k.0.2, sym (ap decimal k.1 ∙ decimal-digits_value own word k.0.0 k.0.1 single k.0.2))
  which (Err e) k = λ n small same. k (
    subst (AllDigits 10) (sym same) (digits_decimal own n small),
    subst (λ (xs : List ℕ). 0 < length xs) (sym same) (decimal_nonempty n small),
    subst (λ (xs : List ℕ). digits_value 10 xs < 2 ^ 64) (sym same) (subst (λ (m : ℕ). m < 2 ^ 64) (sym (digits_value-decimal own n small)) small),
  )

-- numbers with a sign
abbrev IsNegative : ℕ → Option ℤ → Type 0
IsNegative size o = MatchOption o ((m : ℕ) → m < 2 ^ 31 → size ≢ suc m) (λ z. FitsSigned w32 z × ((m : ℕ) × (size ≡ suc m) × (z ≡ negsuc m)))

abbrev IsPositive : ℕ → Option ℤ → Type 0
IsPositive size o = MatchOption o (2 ^ 31 ≤ size) (λ z. FitsSigned w32 z × (z ≡ pos size))

abbrev IsImmediate : List ℕ → Option ℤ → Type 0
IsImmediate word o = MatchOption o ((z : ℤ) → FitsSigned w32 z → word ≢ signed_decimal z) (λ z. FitsSigned w32 z × (word ≡ signed_decimal z))

abbrev IsFarOffset : List ℕ → Option ℤ → Type 0
IsFarOffset word o = MatchOption o ((z : ℤ) → FitsSigned w32 z → word ≢ offset_text z) (λ z. FitsSigned w32 z × (word ≡ offset_text z))

few_pos : (n : ℕ) → FitsSigned w32 (pos n) → n < 2 ^ 31
few_pos n fits = search (rules, fits)

few_negsuc : (n : ℕ) → FitsSigned w32 (negsuc n) → n < 2 ^ 31
few_negsuc n fits = search (rules, fits)

tail : {x y : ℕ} {xs ys : List ℕ} → x ∷ xs ≡ y ∷ ys → xs ≡ ys
tail e = ap (drop 1) e

head : {x y : ℕ} {xs ys : List ℕ} → x ∷ xs ≡ y ∷ ys → x ≡ y
head e = ap (λ (xs : List ℕ). get_or xs 0 0) e

begins : {word rest : List ℕ} {first k : ℕ} → word ≡ first ∷ rest → first ≡ k → word ≡ k ∷ rest
begins {word} {rest} e f = e ∙ ap (λ (c : ℕ). c ∷ rest) f

abbrev NoNumber : List ℕ → Type 0
NoNumber word = (n : ℕ) → n < 2 ^ 64 → word ≢ decimal n

pub immediate_empty : (word : List ℕ) → length word ≡ 0 → (z : ℤ) → FitsSigned w32 z → word ≢ signed_decimal z
immediate_empty word is (pos n) fits e = no_empty word n is (omega (arith, few_pos n fits)) e
immediate_empty word is (negsuc n) fits e = omega (arith, is, ap length e)

pub minus_unread : (first : ℕ) (rest word : List ℕ) → word ≡ first ∷ rest → first ≡ 45 → NoNumber rest → (z : ℤ) → FitsSigned w32 z → word ≢ signed_decimal z
minus_unread first rest word given sign none (pos n) fits e = no_sign 45 rest n (omega arith) (omega (arith, few_pos n fits)) (sym (begins given sign) ∙ e)
minus_unread first rest word given sign none (negsuc n) fits e = none (suc n) (omega (arith, few_negsuc n fits)) (tail (sym (begins given sign) ∙ e))

pub minus_read : (first : ℕ) (rest word : List ℕ) (size : ℕ) (o : Option ℤ) → word ≡ first ∷ rest → first ≡ 45 → size < 2 ^ 64
    → rest ≡ decimal size → IsNegative size o → IsImmediate word o
minus_read first rest word size None given sign small same h = none where
  none : (z : ℤ) → FitsSigned w32 z → word ≢ signed_decimal z
  none (pos n) fits e = no_sign 45 rest n (omega arith) (omega (arith, few_pos n fits)) (sym (begins given sign) ∙ e)
  none (negsuc n) fits e =
      h n (few_negsuc n fits) (decimal_injective size (suc n) small (omega (arith, few_negsuc n fits)) (sym same ∙ tail (sym (begins given sign) ∙ e)))
minus_read first rest word size (Some z) given sign small same h =
    (h.0, begins given sign ∙ (ap (λ (xs : List ℕ). 45 ∷ xs) (same ∙ ap decimal h.1.1) ∙ ap signed_decimal (sym h.1.2)))

pub plain_read : (first : ℕ) (rest word : List ℕ) (size : ℕ) (o : Option ℤ) → word ≡ first ∷ rest → first ≢ 45 → size < 2 ^ 64
    → word ≡ decimal size → IsPositive size o → IsImmediate word o
plain_read first rest word size None is sign small same h = none where
  none : (z : ℤ) → FitsSigned w32 z → word ≢ signed_decimal z
  none (pos n) fits e = omega (arith, h, few_pos n fits, decimal_injective size n small (omega (arith, few_pos n fits)) (sym same ∙ e))
  none (negsuc n) fits e = sign (head (sym is ∙ e))
plain_read first rest word size (Some z) is sign small same h = (h.0, same ∙ ap signed_decimal (sym h.1))

pub offset_minus_read : (first : ℕ) (rest word : List ℕ) (size : ℕ) (o : Option ℤ) → word ≡ first ∷ rest → first ≡ 45
    → size < 2 ^ 64 → rest ≡ decimal size → IsNegative size o → IsFarOffset word o
offset_minus_read first rest word size None given sign small same h = none where
  none : (z : ℤ) → FitsSigned w32 z → word ≢ offset_text z
  none (pos n) fits e = omega (arith, head (sym (begins given sign) ∙ e))
  none (negsuc n) fits e =
      h n (few_negsuc n fits) (decimal_injective size (suc n) small (omega (arith, few_negsuc n fits)) (sym same ∙ tail (sym (begins given sign) ∙ e)))
offset_minus_read first rest word size (Some z) given sign small same h =
    (h.0, begins given sign ∙ (ap (λ (xs : List ℕ). 45 ∷ xs) (same ∙ ap decimal h.1.1) ∙ ap offset_text (sym h.1.2)))

pub offset_plus_read : (first : ℕ) (rest word : List ℕ) (size : ℕ) (o : Option ℤ) → word ≡ first ∷ rest → first ≡ 43 → size < 2 ^ 64
    → rest ≡ decimal size → IsPositive size o → IsFarOffset word o
offset_plus_read first rest word size None given sign small same h = none where
  none : (z : ℤ) → FitsSigned w32 z → word ≢ offset_text z
  none (pos n) fits e =
      omega (arith, h, few_pos n fits, decimal_injective size n small (omega (arith, few_pos n fits)) (sym same ∙ tail (sym (begins given sign) ∙ e)))
  none (negsuc n) fits e = omega (arith, head (sym (begins given sign) ∙ e))
offset_plus_read first rest word size (Some z) given sign small same h =
    (h.0, begins given sign ∙ (ap (λ (xs : List ℕ). 43 ∷ xs) same ∙ ap offset_text (sym h.1)))

offset_injective : (y z : ℤ) → mag y < 2 ^ 63 → mag z < 2 ^ 63 → offset_text y ≡ offset_text z → y ≡ z
offset_injective (pos m) (pos n) a b e = ap pos (decimal_injective m n (omega (arith, a)) (omega (arith, b)) (tail e))
offset_injective (negsuc m) (negsuc n) a b e = ap negsuc (omega (arith, decimal_injective (suc m) (suc n) (omega (arith, a)) (omega (arith, b)) (tail e)))
offset_injective (pos m) (negsuc n) a b e = absurd (omega (arith, head e))
offset_injective (negsuc m) (pos n) a b e = absurd (omega (arith, head e))

-- an offset of 16 bits
pub narrowed : {E : Type 0} (word : List ℕ) (far far' : ℤ) (r : Result ℤ E) → FitsSigned w32 far → far' ≡ far
    → word ≡ offset_text far → OkIff r (FitsSigned w16 far') far'
    → MatchOption (result_ok r) ((z : ℤ) → FitsSigned w16 z → word ≢ offset_text z) (λ z. FitsSigned w16 z × (word ≡ offset_text z))
narrowed word far far' (Ok x) wide same is h = (subst (FitsSigned w16) (sym h.1) h.0, is ∙ ap offset_text (sym (h.1 ∙ same)))
narrowed word far far' (Err e) wide same is h =
    λ z fits e'. h (subst (FitsSigned w16) (offset_injective z far (small16 z fits) (small32 far wide) (sym e' ∙ is) ∙ sym same) fits)
