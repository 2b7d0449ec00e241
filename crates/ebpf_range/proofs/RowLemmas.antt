-- Each row of the table of results holds what its operation gives on numbers of its operands' ranges.
use Rattle.std.proofs.Common.{◌≡◌, ℕ, ◌+◌, ◌-◌, ◌*◌, ◌/◌, ◌%◌, ◌^◌, ◌<◌, ◌≤◌, Bool, true, false, cond, eqb, nat_lt, nat_le, ◌&&◌, ◌⊎◌, ⊎_elim}
use Rattle.std.proofs.Common.{pow-suc, min, max, refl, sym, ap, ◌∙◌, subst, arith, bit_and, bit_or, bit_xor, ltb-true, leb-true, eqb-true}
use Rattle.std.specs.Int.{w64, leading_zeros, int_shr}
use Rattle.std.proofs.Math.Nat.{min-le_left, mod-lt, mod-le, mod-eq_of_lt, div-le_self, div-mul-le_self, le_refl, le_trans, pow-le-pow_right}
use Rattle.std.proofs.lemmas.Nat.{pow_pos, mul-le, le-div, or_lt, xor_lt, and_le_l, and_le_r, le_or_l, le_or_r, leading_length}
use Rattle.std.proofs.lemmas.Bool.{and_parts, cases_lt, cond_both}
use Rattle.ebpf_insn.specs.declared.insn.Width.{Width}
use Rattle.ebpf_insn.specs.declared.insn.Width.TheVariants.{W32, W64}
use Rattle.ebpf_insn.specs.declared.insn.AluOp.{AluOp}
use Rattle.ebpf_insn.specs.declared.insn.AluOp.TheVariants as op
use Rattle.ebpf_insn.specs.Arithmetic.{modulus, bits_of, factor_at, unsigned_at, operation}
use Rattle.ebpf_range.specs.declared.range.Range.{Range}
use Rattle.ebpf_range.specs.Interval.{IsWithin, constant, span, up_to, all_below}
use Rattle.ebpf_range.specs.Results.{up, is_constant, sum_of, difference_of, product_of, quotient_of, remainder_of, left_shift_of, right_shift_of}
use Rattle.ebpf_range.specs.Results.{signed_shift_of, row}
use Rattle.ebpf_range.proofs.Wraps.{mod-wraps}
use Rattle.ebpf_range.proofs.OperationLemmas.{some_numbers, operation-below, signed_at-low, unsigned_at-pos}

pub within_all : (m n : ℕ) → n < m → IsWithin n (all_below m)
within_all m n h = (omega arith, omega arith)

pub within_span : {n lo hi : ℕ} → (lo ≤ n) × (n ≤ hi) → IsWithin n (span lo hi)
within_span {lo = lo} {hi = hi} h = (le_trans (min-le_left lo hi) h.0, h.1)

-- ---- sums and differences

none_wraps : (m x y lo hi : ℕ) → hi < m → lo ≤ x + y → x + y ≤ hi → (lo ≤ (x + y) % m) × ((x + y) % m ≤ hi)
none_wraps m x y lo hi below l h = let small : x + y < m = omega arith in let same = mod-eq_of_lt small in (omega (arith, same), omega (arith, same))

all_wrap : (m x y lo hi : ℕ) → m ≤ lo → x < m → y < m → lo ≤ x + y → x + y ≤ hi → (lo - m ≤ (x + y) % m) × ((x + y) % m ≤ hi - m)
all_wrap m x y lo hi above lx ly l h = let wraps = mod-wraps (x + y) m (omega arith) (omega arith) in (omega (arith, wraps), omega (arith, wraps))

sum-sound : (m : ℕ) (a b : Range) (x y : ℕ) → 0 < m → x < m → y < m → IsWithin x a → IsWithin y b → IsWithin ((x + y) % m) (sum_of m a b)
sum-sound m a b x y some lx ly h k =
    cond_both (nat_lt (a.hi + b.hi) m) (span (a.lo + b.lo) (a.hi + b.hi)) (cond (nat_le m (a.lo + b.lo)) (span (a.lo + b.lo - m) (a.hi + b.hi - m)) (all_below m)) (IsWithin ((x + y) % m))
    (λ e. within_span (none_wraps m x y (a.lo + b.lo) (a.hi + b.hi) (ltb-true (a.hi + b.hi) m e) (omega arith) (omega arith)))
    (λ e. cond_both (nat_le m (a.lo + b.lo)) (span (a.lo + b.lo - m) (a.hi + b.hi - m)) (all_below m) (IsWithin ((x + y) % m))
    (λ f. within_span (all_wrap m x y (a.lo + b.lo) (a.hi + b.hi) (leb-true m (a.lo + b.lo) f) lx ly (omega arith) (omega arith)))
    (λ f. within_all m ((x + y) % m) (mod-lt (x + y) some)))

no_difference_wraps : (m x y al ah bl bh : ℕ) → bh ≤ al → al ≤ x → x ≤ ah → bl ≤ y → y ≤ bh → x < m → y < m
    → (al - bh ≤ (x + (m - y)) % m) × ((x + (m - y)) % m ≤ ah - bl)
no_difference_wraps m x y al ah bl bh apart l h l' h' lx ly =
    let wraps = mod-wraps (x + (m - y)) m (omega arith) (omega arith) in (omega (arith, wraps), omega (arith, wraps))

each_difference_wraps : (m x y al ah bl bh : ℕ) → ah < bl → al ≤ x → x ≤ ah → bl ≤ y → y ≤ bh → y < m
    → (al + m - bh ≤ (x + (m - y)) % m) × ((x + (m - y)) % m ≤ ah + m - bl)
each_difference_wraps m x y al ah bl bh apart l h l' h' ly =
    let small : x + (m - y) < m = omega arith in let same = mod-eq_of_lt small in (omega (arith, same), omega (arith, same))

difference-sound : (m : ℕ) (a b : Range) (x y : ℕ) → 0 < m → x < m → y < m → IsWithin x a → IsWithin y b → IsWithin ((x + (m - y)) % m) (difference_of m a b)
difference-sound m a b x y some lx ly h k =
    cond_both (nat_le b.hi a.lo) (span (a.lo - b.hi) (a.hi - b.lo)) (cond (nat_lt a.hi b.lo) (span (a.lo + m - b.hi) (a.hi + m - b.lo)) (all_below m)) (IsWithin ((x + (m - y)) % m))
    (λ e. within_span (no_difference_wraps m x y a.lo a.hi b.lo b.hi (leb-true b.hi a.lo e) h.0 h.1 k.0 k.1 lx ly))
    (λ e. cond_both (nat_lt a.hi b.lo) (span (a.lo + m - b.hi) (a.hi + m - b.lo)) (all_below m) (IsWithin ((x + (m - y)) % m))
    (λ f. within_span (each_difference_wraps m x y a.lo a.hi b.lo b.hi (ltb-true a.hi b.lo f) h.0 h.1 k.0 k.1 ly))
    (λ f. within_all m ((x + (m - y)) % m) (mod-lt (x + (m - y)) some)))

-- ---- products and quotients

product-sound : (m : ℕ) (a b : Range) (x y : ℕ) → 0 < m → IsWithin x a → IsWithin y b → IsWithin ((x * y) % m) (product_of m a b)
product-sound m a b x y some h k =
    cond_both (nat_lt (a.hi * b.hi) m) (span (a.lo * b.lo) (a.hi * b.hi)) (all_below m) (IsWithin ((x * y) % m))
    (λ e. none (mul-le a.lo b.lo x y h.0 k.0) (mul-le x y a.hi b.hi h.1 k.1) (ltb-true (a.hi * b.hi) m e))
    (λ e. within_all m ((x * y) % m) (mod-lt (x * y) some))
  where
    none : a.lo * b.lo ≤ x * y → x * y ≤ a.hi * b.hi → a.hi * b.hi < m → IsWithin ((x * y) % m) (span (a.lo * b.lo) (a.hi * b.hi))
    none l u below = let small : x * y < m = omega arith in let same = mod-eq_of_lt small in within_span (omega (arith, same), omega (arith, same))

quotient-within : (a b : Range) (x y : ℕ) → 0 < b.lo → IsWithin x a → IsWithin y b → IsWithin (x / y) (span (a.lo / b.hi) (a.hi / b.lo))
quotient-within a b x y some h k = within_span (
  le-div (a.lo / b.hi) x y (omega arith) (le_trans (mul-le (a.lo / b.hi) y (a.lo / b.hi) b.hi (le_refl (a.lo / b.hi)) k.1) (le_trans (div-mul-le_self a.lo b.hi) h.0)),
  le-div (x / y) a.hi b.lo some (le_trans (mul-le (x / y) b.lo (x / y) y (le_refl (x / y)) k.0) (le_trans (div-mul-le_self x y) h.1)),
)

-- a divisor that may be zero
divided-sound : (a b : Range) (x y : ℕ) → IsWithin x a → IsWithin y b → IsWithin (x / y) (quotient_of a b)
divided-sound a b x y h k =
    cond_both (nat_lt 0 b.lo) (span (a.lo / b.hi) (a.hi / b.lo)) (up_to a.hi) (IsWithin (x / y))
    (λ e. quotient-within a b x y (ltb-true 0 b.lo e) h k)
    (λ e. (omega arith, le_trans (div-le_self x y) h.1))

quotient-sound : (w : Width) (a b : Range) (x y : ℕ) → IsWithin x a → IsWithin y b → IsWithin (operation op.Div w x y) (quotient_of a b)
quotient-sound w a b x y h k = by (eqb y 0) refl
  where
    by : (t : Bool) → eqb y 0 ≡ t → IsWithin (cond t 0 (x / y)) (quotient_of a b)
    by true e = let none : y ≡ 0 = eqb-true y 0 e in cond_both (nat_lt 0 b.lo) (span (a.lo / b.hi) (a.hi / b.lo)) (up_to a.hi) (IsWithin 0) (λ f. let some = ltb-true 0 b.lo f in absurd (omega arith)) (λ f. (omega arith, omega arith))
    by false e = divided-sound a b x y h k

remainder-sound : (w : Width) (a b : Range) (x y : ℕ) → IsWithin x a → IsWithin y b → IsWithin (operation op.Rem w x y) (remainder_of a b)
remainder-sound w a b x y h k = by (eqb y 0) refl
  where
    by : (t : Bool) → eqb y 0 ≡ t → IsWithin (cond t x (x % y)) (remainder_of a b)
    by true e = let none : y ≡ 0 = eqb-true y 0 e in cond_both (nat_lt 0 b.lo) (up_to (min a.hi (b.hi - 1))) (up_to a.hi) (IsWithin x) (λ f. let some = ltb-true 0 b.lo f in absurd (omega arith)) (λ f. (omega arith, h.1))
    by false e = cond_both (nat_lt 0 b.lo) (up_to (min a.hi (b.hi - 1))) (up_to a.hi) (IsWithin (x % y)) (λ f. let some = ltb-true 0 b.lo f in (omega arith, omega (arith, mod-le x y))) (λ f. (omega arith, le_trans (mod-le x y) h.1))

-- ---- bits

-- how many bits the numbers of both ranges have
pub bits_of_both : (a b : Range) → a.hi < 2 ^ 64 → b.hi < 2 ^ 64
    → (n : ℕ) × (64 - leading_zeros w64 (max a.hi b.hi) ≡ n) × (max a.hi b.hi < 2 ^ n) × (2 ^ n ≤ 2 * max a.hi b.hi + 1)
bits_of_both a b h k = let length = leading_length 64 (max a.hi b.hi) (omega arith) in (length.0, omega (arith, length.1), length.2, length.3)

pub up-reached : (a b : Range) → a.hi < 2 ^ 64 → b.hi < 2 ^ 64 → (n : ℕ) × (up a b + 1 ≡ 2 ^ n) × (a.hi < 2 ^ n) × (b.hi < 2 ^ n)
up-reached a b h k =
    let bits = bits_of_both a b h k in
    let whole : 2 ^ bits.0 - 1 + 1 ≡ 2 ^ bits.0 = omega (arith, pow_pos bits.0) in
    (bits.0, ap (λ (j : ℕ). 2 ^ j - 1 + 1) bits.1 ∙ whole, omega (arith, bits.2), omega (arith, bits.2))

-- what is below each power of two above both ranges is up to `up`
pub up-holds : (a b : Range) (n : ℕ) → a.hi < 2 ^ 64 → b.hi < 2 ^ 64 → ((k : ℕ) → a.hi < 2 ^ k → b.hi < 2 ^ k → n < 2 ^ k) → n ≤ up a b
up-holds a b n h k each =
    let bits = bits_of_both a b h k in
    let below : n < 2 ^ bits.0 = each bits.0 (omega (arith, bits.2)) (omega (arith, bits.2)) in
    subst (λ (j : ℕ). n ≤ 2 ^ j - 1) (sym bits.1) (omega arith)

twice : (k m n : ℕ) → 2 ^ m ≤ 2 * n + 1 → n < 2 ^ k → m ≤ k
twice k m n l h = at (cases_lt k m)
  where
    at : (k < m) ⊎ (m ≤ k) → m ≤ k
    at c = ⊎_elim (λ (o : k < m). absurd (omega (arith, pow-le-pow_right {n = 2} (omega arith) o, pow-suc 2 k))) (λ (o : m ≤ k). o) c

pub up-least : (a b : Range) (k : ℕ) → a.hi < 2 ^ 64 → b.hi < 2 ^ 64 → a.hi < 2 ^ k → b.hi < 2 ^ k → up a b < 2 ^ k
up-least a b k h h' p q =
    let bits = bits_of_both a b h h' in
    let fewer : bits.0 ≤ k = twice k bits.0 (max a.hi b.hi) bits.3 (omega arith) in
    let less : 2 ^ bits.0 ≤ 2 ^ k = pow-le-pow_right {n = 2} (omega arith) fewer in
    subst (λ (j : ℕ). 2 ^ j - 1 < 2 ^ k) (sym bits.1) (omega (arith, pow_pos k, pow_pos bits.0))

or-sound : (a b : Range) (x y : ℕ) → a.hi < 2 ^ 64 → b.hi < 2 ^ 64 → IsWithin x a → IsWithin y b → IsWithin (bit_or x y) (span (max a.lo b.lo) (up a b))
or-sound a b x y p q h k = within_span (omega (arith, le_or_l x y, le_or_r x y), up-holds a b (bit_or x y) p q (λ n i j. or_lt n x y (omega arith) (omega arith)))

xor-sound : (a b : Range) (x y : ℕ) → a.hi < 2 ^ 64 → b.hi < 2 ^ 64 → IsWithin x a → IsWithin y b → IsWithin (bit_xor x y) (up_to (up a b))
xor-sound a b x y p q h k = (omega arith, up-holds a b (bit_xor x y) p q (λ n i j. xor_lt n x y (omega arith) (omega arith)))

and-sound : (a b : Range) (x y : ℕ) → IsWithin x a → IsWithin y b → IsWithin (bit_and x y) (up_to (min a.hi b.hi))
and-sound a b x y h k = (omega arith, omega (arith, and_le_l x y, and_le_r x y))

-- ---- shifts

-- a number of a constant range is its end
pub same_end : (b : Range) (y : ℕ) → is_constant b ≡ true → IsWithin y b → y ≡ b.lo
same_end b y e k = let one = eqb-true b.lo b.hi e in omega arith

of_constant : (f g : ℕ) → f ≡ g → IsWithin f (constant g)
of_constant f g e = (omega arith, omega arith)

left_shift-sound : (w : Width) (a b : Range) (x y : ℕ) → IsWithin x a → IsWithin y b → IsWithin ((x * factor_at w y) % modulus w) (left_shift_of w a b)
left_shift-sound w a b x y h k =
    cond_both (is_constant b) (product_of (modulus w) a (constant (factor_at w b.lo))) (all_below (modulus w)) (IsWithin ((x * factor_at w y) % modulus w))
    (λ e. product-sound (modulus w) a (constant (factor_at w b.lo)) x (factor_at w y) (some_numbers w) h (of_constant (factor_at w y) (factor_at w b.lo) (ap (factor_at w) (same_end b y e k))))
    (λ e. within_all (modulus w) ((x * factor_at w y) % modulus w) (mod-lt (x * factor_at w y) (some_numbers w)))

right_shift-sound : (w : Width) (a b : Range) (x y : ℕ) → IsWithin x a → IsWithin y b → IsWithin (x / factor_at w y) (right_shift_of w a b)
right_shift-sound w a b x y h k =
    cond_both (is_constant b) (quotient_of a (constant (factor_at w b.lo))) (up_to a.hi) (IsWithin (x / factor_at w y))
    (λ e. divided-sound a (constant (factor_at w b.lo)) x (factor_at w y) h (of_constant (factor_at w y) (factor_at w b.lo) (ap (factor_at w) (same_end b y e k))))
    (λ e. (omega arith, le_trans (div-le_self x (factor_at w y)) h.1))

-- where there is no sign, zeros come in
no_sign : (w : Width) (x y : ℕ) → x < modulus w / 2 → operation op.Arsh w x y ≡ x / factor_at w y
no_sign w x y h = ap (λ z. unsigned_at w (int_shr z (y % bits_of w))) (signed_at-low w x h) ∙ unsigned_at-pos w (x / factor_at w y)

signed_shift-sound : (w : Width) (a b : Range) (x y : ℕ) → x < modulus w → y < modulus w → IsWithin x a → IsWithin y b
    → IsWithin (operation op.Arsh w x y) (signed_shift_of w a b)
signed_shift-sound w a b x y lx ly h k =
    cond_both (is_constant b && nat_lt a.hi (modulus w / 2)) (right_shift_of w a b) (all_below (modulus w)) (IsWithin (operation op.Arsh w x y))
    (λ e. let low = ltb-true a.hi (modulus w / 2) (and_parts (is_constant b) (nat_lt a.hi (modulus w / 2)) e).1 in
    subst (λ n. IsWithin n (right_shift_of w a b)) (sym (no_sign w x y (omega arith))) (right_shift-sound w a b x y h k))
    (λ e. within_all (modulus w) (operation op.Arsh w x y) (operation-below op.Arsh w x y lx ly))

-- ---- the table

-- ranges of numbers of a width lie below 2^64
pub small : (w : Width) (n : ℕ) → n < modulus w → n < 2 ^ 64
small W32 n h = omega arith
small W64 n h = h

pub row-sound : (o : AluOp) (w : Width) (a b : Range) (x y : ℕ) → a.hi < modulus w → b.hi < modulus w → IsWithin x a → IsWithin y b
    → IsWithin (operation o w x y) (row o w a b)
row-sound op.Add w a b x y p q h k = sum-sound (modulus w) a b x y (some_numbers w) (omega arith) (omega arith) h k
row-sound op.Sub w a b x y p q h k = difference-sound (modulus w) a b x y (some_numbers w) (omega arith) (omega arith) h k
row-sound op.Mul w a b x y p q h k = product-sound (modulus w) a b x y (some_numbers w) h k
row-sound op.Div w a b x y p q h k = quotient-sound w a b x y h k
row-sound op.SDiv w a b x y p q h k = within_all (modulus w) (operation op.SDiv w x y) (operation-below op.SDiv w x y (omega arith) (omega arith))
row-sound op.Or w a b x y p q h k = or-sound a b x y (small w a.hi p) (small w b.hi q) h k
row-sound op.And w a b x y p q h k = and-sound a b x y h k
row-sound op.Lsh w a b x y p q h k = left_shift-sound w a b x y h k
row-sound op.Rsh w a b x y p q h k = right_shift-sound w a b x y h k
row-sound op.Rem w a b x y p q h k = remainder-sound w a b x y h k
row-sound op.SRem w a b x y p q h k = within_all (modulus w) (operation op.SRem w x y) (operation-below op.SRem w x y (omega arith) (omega arith))
row-sound op.Xor w a b x y p q h k = xor-sound a b x y (small w a.hi p) (small w b.hi q) h k
row-sound op.Mov w a b x y p q h k = k
row-sound op.Arsh w a b x y p q h k = signed_shift-sound w a b x y (omega arith) (omega arith) h k
