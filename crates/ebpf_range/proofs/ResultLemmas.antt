-- The table of results holds every result, and numbers of the width alone.
use Rattle.std.proofs.Common.{◌≡◌, ℕ, ◌+◌, ◌-◌, ◌*◌, ◌/◌, ◌%◌, ◌^◌, ◌<◌, ◌≤◌, cond, eqb, nat_lt, nat_le, ◌&&◌, min, sym, ap, ap₂, subst, arith}
use Rattle.std.proofs.Common.{ltb-true, eqb-true}
use Rattle.std.specs.Int.{w16, w32, w64, swap_bytes}
use Rattle.std.proofs.Math.Nat.{mod-lt, mod-eq_of_lt, div-le_self, le_of_eq, lt_of_le_of_lt, pow-le-pow_right}
use Rattle.std.proofs.lemmas.Nat.{pow_pos}
use Rattle.std.proofs.Math.Pow.{mod-mod-pow}
use Rattle.std.proofs.lemmas.Bool.{and_parts, cond_both}
use Rattle.std.proofs.lemmas.Bool.Decides.{nat_tests}
use Rattle.ebpf_insn.specs.declared.insn.Width.{Width}
use Rattle.ebpf_insn.specs.declared.insn.Width.TheVariants.{W32, W64}
use Rattle.ebpf_insn.specs.declared.insn.AluOp.{AluOp}
use Rattle.ebpf_insn.specs.declared.insn.AluOp.TheVariants as op
use Rattle.ebpf_insn.specs.Arithmetic.{modulus, kept_at, factor_at, operation, result_at, extension, extended_bits, extension_at, swapped_bits}
use Rattle.ebpf_insn.specs.Arithmetic.{reversal_of, swap, swap_of, negation_at}
use Rattle.ebpf_insn.specs.declared.insn.Order.{Order}
use Rattle.ebpf_insn.specs.declared.insn.Order.TheVariants.{Little, Big, Flip}
use Rattle.ebpf_range.specs.declared.range.Range.{Range}
use Rattle.ebpf_range.specs.Interval.{IsWithin, constant, span, up_to, all_below, low}
use Rattle.ebpf_range.specs.Results.{up, is_constant, sum_of, difference_of, product_of, quotient_of, remainder_of, left_shift_of, right_shift_of}
use Rattle.ebpf_range.specs.Results.{signed_shift_of, row, low_at, row_or_constant, result_range, extension_range, swap_range, negation_range}
use Rattle.ebpf_range.proofs.OperationLemmas.{some_numbers, result-below}
use Rattle.ebpf_range.proofs.RowLemmas.{within_all, small, up-least, row-sound}

-- ---- operands

low-sound : (a : Range) (n : ℕ) → IsWithin n a → IsWithin (n % 2 ^ 32) (low a)
low-sound a n h = (grind (arith, nat_tests), grind (arith, nat_tests))

pub low_at-sound : (w : Width) (a : Range) (n : ℕ) → a.hi < 2 ^ 64 → IsWithin n a → IsWithin (kept_at w n) (low_at w a)
low_at-sound W32 a n f h = low-sound a n h
low_at-sound W64 a n f h = let small : n < 2 ^ 64 = omega arith in let same = mod-eq_of_lt small in (omega (arith, same), omega (arith, same))

low-below : (a : Range) → (low a).hi < 2 ^ 32
low-below a = grind (arith, nat_tests)

pub low_at-below : (w : Width) (a : Range) → a.hi < 2 ^ 64 → (low_at w a).hi < modulus w
low_at-below W32 a f = low-below a
low_at-below W64 a f = f

-- ---- two operands

-- the one number of a constant range
the_number : (w : Width) (a : Range) (x : ℕ) → a.hi < modulus w → a.lo ≡ a.hi → IsWithin x a → x ≡ kept_at w a.lo
the_number w a x p e h = let below : a.lo < modulus w = omega arith in let same = mod-eq_of_lt below in omega (arith, same)

constant-sound : (o : AluOp) (w : Width) (a b : Range) (x y : ℕ) → a.hi < modulus w → b.hi < modulus w → a.lo ≡ a.hi → b.lo ≡ b.hi
    → IsWithin x a → IsWithin y b → IsWithin (operation o w x y) (constant (result_at o w a.lo b.lo))
constant-sound o w a b x y p q e f h k =
    let same : operation o w x y ≡ result_at o w a.lo b.lo = ap₂ (operation o w) (the_number w a x p e h) (the_number w b y q f k) in
    (le_of_eq (sym same), le_of_eq same)

row_or_constant-sound : (o : AluOp) (w : Width) (a b : Range) (x y : ℕ) → a.hi < modulus w → b.hi < modulus w → IsWithin x a
    → IsWithin y b → IsWithin (operation o w x y) (row_or_constant o w a b)
row_or_constant-sound o w a b x y p q h k =
    cond_both (is_constant a && is_constant b) (constant (result_at o w a.lo b.lo)) (row o w a b) (IsWithin (operation o w x y))
    (λ e. let both = and_parts (is_constant a) (is_constant b) e in constant-sound o w a b x y p q (eqb-true a.lo a.hi both.0) (eqb-true b.lo b.hi both.1) h k)
    (λ e. row-sound o w a b x y p q h k)

pub result-sound : (o : AluOp) (w : Width) (a b : Range) (x y : ℕ) → a.hi < 2 ^ 64 → b.hi < 2 ^ 64 → IsWithin x a → IsWithin y b
    → IsWithin (result_at o w x y) (result_range o w a b)
result-sound o w a b x y p q h k =
    row_or_constant-sound o w (low_at w a) (low_at w b) (kept_at w x) (kept_at w y) (low_at-below w a p) (low_at-below w b q) (low_at-sound w a x p h) (low_at-sound w b y q k)

-- ---- the high ends

all-below : (m : ℕ) → 0 < m → (all_below m).hi < m
all-below m some = omega arith

sum-below : (m : ℕ) (a b : Range) → 0 < m → a.hi < m → b.hi < m → (sum_of m a b).hi < m
sum-below m a b some p q =
    cond_both (nat_lt (a.hi + b.hi) m) (span (a.lo + b.lo) (a.hi + b.hi)) (cond (nat_le m (a.lo + b.lo)) (span (a.lo + b.lo - m) (a.hi + b.hi - m)) (all_below m)) (λ (r : Range). r.hi < m)
    (λ e. ltb-true (a.hi + b.hi) m e)
    (λ e. cond_both (nat_le m (a.lo + b.lo)) (span (a.lo + b.lo - m) (a.hi + b.hi - m)) (all_below m) (λ (r : Range). r.hi < m) (λ f. omega arith) (λ f. all-below m some))

difference-below : (m : ℕ) (a b : Range) → 0 < m → a.hi < m → (difference_of m a b).hi < m
difference-below m a b some p =
    cond_both (nat_le b.hi a.lo) (span (a.lo - b.hi) (a.hi - b.lo)) (cond (nat_lt a.hi b.lo) (span (a.lo + m - b.hi) (a.hi + m - b.lo)) (all_below m)) (λ (r : Range). r.hi < m)
    (λ e. omega arith)
    (λ e. cond_both (nat_lt a.hi b.lo) (span (a.lo + m - b.hi) (a.hi + m - b.lo)) (all_below m) (λ (r : Range). r.hi < m) (λ f. let apart = ltb-true a.hi b.lo f in omega (arith, b.ordered)) (λ f. all-below m some))

product-below : (m : ℕ) (a b : Range) → 0 < m → (product_of m a b).hi < m
product-below m a b some = cond_both (nat_lt (a.hi * b.hi) m) (span (a.lo * b.lo) (a.hi * b.hi)) (all_below m) (λ (r : Range). r.hi < m) (λ e. ltb-true (a.hi * b.hi) m e) (λ e. all-below m some)

quotient-below : (m : ℕ) (a b : Range) → a.hi < m → (quotient_of a b).hi < m
quotient-below m a b p = cond_both (nat_lt 0 b.lo) (span (a.lo / b.hi) (a.hi / b.lo)) (up_to a.hi) (λ (r : Range). r.hi < m) (λ e. lt_of_le_of_lt (div-le_self a.hi b.lo) p) (λ e. p)

remainder-below : (m : ℕ) (a b : Range) → a.hi < m → (remainder_of a b).hi < m
remainder-below m a b p = cond_both (nat_lt 0 b.lo) (up_to (min a.hi (b.hi - 1))) (up_to a.hi) (λ (r : Range). r.hi < m) (λ e. omega arith) (λ e. p)

left_shift-below : (w : Width) (a b : Range) → (left_shift_of w a b).hi < modulus w
left_shift-below w a b = cond_both (is_constant b) (product_of (modulus w) a (constant (factor_at w b.lo))) (all_below (modulus w)) (λ (r : Range). r.hi < (modulus w)) (λ e. product-below (modulus w) a (constant (factor_at w b.lo)) (some_numbers w)) (λ e. all-below (modulus w) (some_numbers w))

right_shift-below : (w : Width) (a b : Range) → a.hi < modulus w → (right_shift_of w a b).hi < modulus w
right_shift-below w a b p = cond_both (is_constant b) (quotient_of a (constant (factor_at w b.lo))) (up_to a.hi) (λ (r : Range). r.hi < (modulus w)) (λ e. quotient-below (modulus w) a (constant (factor_at w b.lo)) p) (λ e. p)

signed_shift-below : (w : Width) (a b : Range) → a.hi < modulus w → (signed_shift_of w a b).hi < modulus w
signed_shift-below w a b p = cond_both (is_constant b && nat_lt a.hi (modulus w / 2)) (right_shift_of w a b) (all_below (modulus w)) (λ (r : Range). r.hi < (modulus w)) (λ e. right_shift-below w a b p) (λ e. all-below (modulus w) (some_numbers w))

up-below : (w : Width) (a b : Range) → a.hi < modulus w → b.hi < modulus w → up a b < modulus w
up-below W32 a b p q = up-least a b 32 (small W32 a.hi p) (small W32 b.hi q) p q
up-below W64 a b p q = up-least a b 64 p q p q

row-below : (o : AluOp) (w : Width) (a b : Range) → a.hi < modulus w → b.hi < modulus w → (row o w a b).hi < modulus w
row-below op.Add w a b p q = sum-below (modulus w) a b (some_numbers w) p q
row-below op.Sub w a b p q = difference-below (modulus w) a b (some_numbers w) p
row-below op.Mul w a b p q = product-below (modulus w) a b (some_numbers w)
row-below op.Div w a b p q = quotient-below (modulus w) a b p
row-below op.SDiv w a b p q = all-below (modulus w) (some_numbers w)
row-below op.Or w a b p q = up-below w a b p q
row-below op.And w a b p q = omega arith
row-below op.Lsh w a b p q = left_shift-below w a b
row-below op.Rsh w a b p q = right_shift-below w a b p
row-below op.Rem w a b p q = remainder-below (modulus w) a b p
row-below op.SRem w a b p q = all-below (modulus w) (some_numbers w)
row-below op.Xor w a b p q = up-below w a b p q
row-below op.Mov w a b p q = q
row-below op.Arsh w a b p q = signed_shift-below w a b p

pub row_or_constant-below : (o : AluOp) (w : Width) (a b : Range) → a.hi < modulus w → b.hi < modulus w → (row_or_constant o w a b).hi < modulus w
row_or_constant-below o w a b p q = cond_both (is_constant a && is_constant b) (constant (result_at o w a.lo b.lo)) (row o w a b) (λ (r : Range). r.hi < (modulus w)) (λ e. result-below o w a.lo b.lo) (λ e. row-below o w a b p q)

-- ---- one operand

-- a result that depends on the number alone: the constant, or all numbers below a bound
one-sound : (f : ℕ → ℕ) (m : ℕ) (a : Range) (n : ℕ) → f n < m → IsWithin n a → IsWithin (f n) (cond (is_constant a) (constant (f a.lo)) (all_below m))
one-sound f m a n below h =
    cond_both (is_constant a) (constant (f a.lo)) (all_below m) (IsWithin (f n))
    (λ e. let one = eqb-true a.lo a.hi e in let number : n ≡ a.lo = omega arith in let same : f n ≡ f a.lo = ap f number in (le_of_eq (sym same), le_of_eq same))
    (λ e. within_all m (f n) below)

power-below : (w : Width) (bits : ℕ) → 2 ^ extended_bits w bits ≤ modulus w
power-below W32 bits = pow-le-pow_right {n = 2} (omega arith) {i = min bits 32} {j = 32} (omega arith)
power-below W64 bits = pow-le-pow_right {n = 2} (omega arith) {i = min bits 64} {j = 64} (omega arith)

extended-below : (m size low : ℕ) → size ≤ m → low < size → cond (nat_lt (low * 2) size) low (low + (m - size)) < m
extended-below m size low le lt = cond_both (nat_lt (low * 2) size) low (low + (m - size)) (λ n. n < m) (λ e. omega arith) (λ e. omega arith)

pub extension-below : (w : Width) (bits n : ℕ) → extension_at w bits n < modulus w
extension-below w bits n =
    extended-below (modulus w) (2 ^ extended_bits w bits) (n % 2 ^ extended_bits w bits) (power-below w bits) (mod-lt n (pow_pos (extended_bits w bits)))

-- the low bits of what a width keeps of a number are those of the number
fewer : (n k whole : ℕ) → k ≤ whole → n % 2 ^ whole % 2 ^ k ≡ n % 2 ^ k
fewer n k whole le = let parts : whole - k + k ≡ whole = omega arith in subst (λ s. n % 2 ^ s % 2 ^ k ≡ n % 2 ^ k) parts (mod-mod-pow n (whole - k) k)

kept-low : (w : Width) (bits n : ℕ) → kept_at w n % 2 ^ extended_bits w bits ≡ n % 2 ^ extended_bits w bits
kept-low W32 bits n = fewer n (min bits 32) 32 (omega arith)
kept-low W64 bits n = fewer n (min bits 64) 64 (omega arith)

pub extension-sound : (w : Width) (bits : ℕ) (a : Range) (n : ℕ) → a.hi < 2 ^ 64 → IsWithin n a → IsWithin (extension_at w bits n) (extension_range w bits a)
extension-sound w bits a n p h =
    subst (λ (low : ℕ). IsWithin (extension w (extended_bits w bits) low) (extension_range w bits a)) (kept-low w bits n)
    (one-sound (extension_at w bits) (modulus w) (low_at w a) (kept_at w n) (extension-below w bits (kept_at w n)) (low_at-sound w a n p h))

-- bytes in another order are as many
reversal-below : (n : ℕ) → (swap_bytes w16 n < 2 ^ 16) × (swap_bytes w32 n < 2 ^ 32) × (swap_bytes w64 n < 2 ^ 64)
reversal-below n = (omega arith, omega arith, omega arith)

in_order-below : (order : Order) (bits n : ℕ) → n < 2 ^ bits → reversal_of bits n < 2 ^ bits → swap order bits n < 2 ^ bits
in_order-below Little bits n low reversed = low
in_order-below Big bits n low reversed = reversed
in_order-below Flip bits n low reversed = reversed

pub swap-below : (order : Order) (bits n : ℕ) → swap_of order bits n < 2 ^ swapped_bits bits
swap-below order bits n =
    cond_both (eqb bits 16) 16 (cond (eqb bits 32) 32 64) (λ (k : ℕ). swap order k (n % 2 ^ k) < 2 ^ k)
    (λ e. in_order-below order 16 (n % 2 ^ 16) (mod-lt n (pow_pos 16)) (reversal-below (n % 2 ^ 16)).0)
    (λ e. cond_both (eqb bits 32) 32 64 (λ (k : ℕ). swap order k (n % 2 ^ k) < 2 ^ k)
    (λ f. in_order-below order 32 (n % 2 ^ 32) (mod-lt n (pow_pos 32)) (reversal-below (n % 2 ^ 32)).1)
    (λ f. in_order-below order 64 (n % 2 ^ 64) (mod-lt n (pow_pos 64)) (reversal-below (n % 2 ^ 64)).2))

pub swap-sound : (order : Order) (bits : ℕ) (a : Range) (n : ℕ) → IsWithin n a → IsWithin (swap_of order bits n) (swap_range order bits a)
swap-sound order bits a n h = one-sound (swap_of order bits) (2 ^ swapped_bits bits) a n (swap-below order bits n) h

pub swap_range-below : (order : Order) (bits : ℕ) (a : Range) → (swap_range order bits a).hi < 2 ^ swapped_bits bits
swap_range-below order bits a =
    cond_both (is_constant a) (constant (swap_of order bits a.lo)) (all_below (2 ^ swapped_bits bits)) (λ (r : Range). r.hi < 2 ^ swapped_bits bits)
    (λ e. swap-below order bits a.lo) (λ e. all-below (2 ^ swapped_bits bits) (pow_pos (swapped_bits bits)))

-- ---- results of numbers of 64 bits

pub modulus-at_most : (w : Width) → modulus w ≤ 2 ^ 64
modulus-at_most W32 = omega arith
modulus-at_most W64 = omega arith

-- what is known of a number lies below 2^64
abbrev pub IsBounded : Range → Type 0
IsBounded a = a.hi < 2 ^ 64

-- a range whose high end is below a modulus
bounded_by : (w : Width) (a : Range) → a.hi < modulus w → IsBounded a
bounded_by w a below = let most = modulus-at_most w in omega (arith, below, most)

pub result-bounded : (o : AluOp) (w : Width) (a b : Range) → IsBounded a → IsBounded b → IsBounded (result_range o w a b)
result-bounded o w a b h k =
    bounded_by w (result_range o w a b) (row_or_constant-below o w (low_at w a) (low_at w b) (low_at-below w a h) (low_at-below w b k))

pub low-bounded : (a : Range) → IsBounded a → IsBounded (low a)
low-bounded a h = bounded_by W32 (low a) (low_at-below W32 a h)

one-below : (f : ℕ → ℕ) (m : ℕ) (a : Range) → ((n : ℕ) → f n < m) → 0 < m → (cond (is_constant a) (constant (f a.lo)) (all_below m)).hi < m
one-below f m a below some = cond_both (is_constant a) (constant (f a.lo)) (all_below m) (λ (r : Range). r.hi < m) (λ e. below a.lo) (λ e. all-below m some)

pub extension-bounded : (w : Width) (bits : ℕ) (a : Range) → IsBounded (extension_range w bits a)
extension-bounded w bits a =
    bounded_by w (extension_range w bits a) (one-below (extension_at w bits) (modulus w) (low_at w a) (extension-below w bits) (some_numbers w))

kept-kept : (w : Width) (n : ℕ) → kept_at w (kept_at w n) ≡ kept_at w n
kept-kept W32 n = omega arith
kept-kept W64 n = omega arith

pub negation-sound : (w : Width) (a : Range) (n : ℕ) → a.hi < 2 ^ 64 → IsWithin n a → IsWithin (negation_at w n) (negation_range w a)
negation-sound w a n p h =
    subst (λ (k : ℕ). IsWithin (operation op.Sub w (kept_at w 0) k) (negation_range w a)) (kept-kept w n)
    (one-sound (negation_at w) (modulus w) (low_at w a) (kept_at w n) (result-below op.Sub w 0 (kept_at w n)) (low_at-sound w a n p h))

pub negation-bounded : (w : Width) (a : Range) → IsBounded (negation_range w a)
negation-bounded w a = bounded_by w (negation_range w a) (one-below (negation_at w) (modulus w) (low_at w a) (result-below op.Sub w 0) (some_numbers w))

pub swapped_bits-few : (bits : ℕ) → 2 ^ swapped_bits bits ≤ 2 ^ 64
swapped_bits-few bits =
    cond_both (eqb bits 16) 16 (cond (eqb bits 32) 32 64) (λ (k : ℕ). 2 ^ k ≤ 2 ^ 64) (λ e. omega arith)
    (λ e. cond_both (eqb bits 32) 32 64 (λ (k : ℕ). 2 ^ k ≤ 2 ^ 64) (λ f. omega arith) (λ f. omega arith))

pub swap-bounded : (order : Order) (bits : ℕ) (a : Range) → IsBounded (swap_range order bits a)
swap-bounded order bits a = let below = swap_range-below order bits a in let few = swapped_bits-few bits in omega (arith, below, few)
