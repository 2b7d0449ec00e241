-- What operations give on numbers of a width lies below its modulus.
use Rattle.std.proofs.Common.{◌≡◌, ℕ, zero, suc, ◌+◌, ◌-◌, ◌*◌, ◌/◌, ◌%◌, ◌^◌, ◌<◌, ℤ, pos, negsuc, neg_ℤ, eqb, refl, arith, FitsSigned}
use Rattle.std.proofs.Common.{unsigned_abs, int_div, int_rem}
use Rattle.std.specs.Int.{w32, w64, cast_signed, cast_unsigned, int_shr}
use Rattle.std.specs.Int.{Width as Bits}
use Rattle.std.proofs.Math.Nat.{mod-lt, mod-le, div-le_self, lt_of_le_of_lt}
use Rattle.std.proofs.lemmas.Nat.{pow_pos, or_lt, xor_lt, and_le_l}
use Rattle.std.proofs.lemmas.Bool.{cond_both}
use mir.Val.{bits, hbits}
use mir.ValLaws.{pow-bits, to_z-Fits, to_z_pos}
use Rattle.ebpf_insn.specs.declared.insn.Width.{Width}
use Rattle.ebpf_insn.specs.declared.insn.Width.TheVariants.{W32, W64}
use Rattle.ebpf_insn.specs.declared.insn.AluOp.{AluOp}
use Rattle.ebpf_insn.specs.declared.insn.AluOp.TheVariants as op
use Rattle.ebpf_insn.specs.Arithmetic.{modulus, kept_at, bits_of, signed_at, unsigned_at, factor_at, operation, result_at}

pub some_numbers : (w : Width) → 0 < modulus w
some_numbers W32 = omega arith
some_numbers W64 = omega arith

pub kept-below : (w : Width) (n : ℕ) → kept_at w n < modulus w
kept-below w n = mod-lt n (some_numbers w)

-- ---- signed results, in the bits of a width

fits : (w : Bits) (n : ℕ) → n < 2 ^ bits w → FitsSigned w (cast_signed w n)
fits w n h = to_z-Fits w n (record { fits = h })

opposite-below : (w : Bits) (n : ℕ) → cast_unsigned w (neg_ℤ (pos n)) < 2 ^ bits w
opposite-below w zero = pow_pos (bits w)
opposite-below w (suc n) = omega (arith, pow_pos (bits w))

quotient-below : (w : Bits) (x y : ℤ) → FitsSigned w x → cast_unsigned w (int_div x y) < 2 ^ bits w
quotient-below w (pos a) (pos b) f = omega (arith, f.sfits, div-le_self a b, pow-bits w)
quotient-below w (pos a) (negsuc b) f = opposite-below w (a / suc b)
quotient-below w (negsuc a) (pos b) f = opposite-below w (suc a / b)
quotient-below w (negsuc a) (negsuc b) f = omega (arith, f.sfits, div-le_self (suc a) (suc b), pow-bits w, pow_pos (hbits w))

remainder-below : (w : Bits) (x y : ℤ) → FitsSigned w x → cast_unsigned w (int_rem x y) < 2 ^ bits w
remainder-below w (pos a) y f = omega (arith, f.sfits, mod-le a (unsigned_abs y), pow-bits w)
remainder-below w (negsuc a) y f = opposite-below w (suc a % unsigned_abs y)

shift-below : (w : Bits) (x : ℤ) (k : ℕ) → FitsSigned w x → cast_unsigned w (int_shr x k) < 2 ^ bits w
shift-below w (pos a) k f = omega (arith, f.sfits, div-le_self a (2 ^ k), pow-bits w)
shift-below w (negsuc a) k f = omega (arith, pow_pos (bits w))

signed_quotient-below : (w : Width) (a b : ℕ) → a < modulus w → unsigned_at w (int_div (signed_at w a) (signed_at w b)) < modulus w
signed_quotient-below W32 a b h = quotient-below w32 (cast_signed w32 a) (cast_signed w32 b) (fits w32 a h)
signed_quotient-below W64 a b h = quotient-below w64 (cast_signed w64 a) (cast_signed w64 b) (fits w64 a h)

signed_remainder-below : (w : Width) (a b : ℕ) → a < modulus w → unsigned_at w (int_rem (signed_at w a) (signed_at w b)) < modulus w
signed_remainder-below W32 a b h = remainder-below w32 (cast_signed w32 a) (cast_signed w32 b) (fits w32 a h)
signed_remainder-below W64 a b h = remainder-below w64 (cast_signed w64 a) (cast_signed w64 b) (fits w64 a h)

signed_shift-below : (w : Width) (a k : ℕ) → a < modulus w → unsigned_at w (int_shr (signed_at w a) k) < modulus w
signed_shift-below W32 a k h = shift-below w32 (cast_signed w32 a) k (fits w32 a h)
signed_shift-below W64 a k h = shift-below w64 (cast_signed w64 a) k (fits w64 a h)

-- ---- every operation

or-below : (w : Width) (a b : ℕ) → a < modulus w → b < modulus w → operation op.Or w a b < modulus w
or-below W32 a b h k = or_lt 32 a b h k
or-below W64 a b h k = or_lt 64 a b h k

xor-below : (w : Width) (a b : ℕ) → a < modulus w → b < modulus w → operation op.Xor w a b < modulus w
xor-below W32 a b h k = xor_lt 32 a b h k
xor-below W64 a b h k = xor_lt 64 a b h k

pub operation-below : (o : AluOp) (w : Width) (a b : ℕ) → a < modulus w → b < modulus w → operation o w a b < modulus w
operation-below op.Add w a b h k = mod-lt (a + b) (some_numbers w)
operation-below op.Sub w a b h k = mod-lt (a + (modulus w - b)) (some_numbers w)
operation-below op.Mul w a b h k = mod-lt (a * b) (some_numbers w)
operation-below op.Div w a b h k = cond_both (eqb b 0) 0 (a / b) (λ n. n < modulus w) (λ e. some_numbers w) (λ e. lt_of_le_of_lt (div-le_self a b) h)
operation-below op.SDiv w a b h k = cond_both (eqb b 0) 0 (unsigned_at w (int_div (signed_at w a) (signed_at w b))) (λ n. n < modulus w) (λ e. some_numbers w) (λ e. signed_quotient-below w a b h)
operation-below op.Or w a b h k = or-below w a b h k
operation-below op.And w a b h k = lt_of_le_of_lt (and_le_l a b) h
operation-below op.Lsh w a b h k = mod-lt (a * factor_at w b) (some_numbers w)
operation-below op.Rsh w a b h k = lt_of_le_of_lt (div-le_self a (factor_at w b)) h
operation-below op.Rem w a b h k = cond_both (eqb b 0) a (a % b) (λ n. n < modulus w) (λ e. h) (λ e. lt_of_le_of_lt (mod-le a b) h)
operation-below op.SRem w a b h k =
    cond_both (eqb b 0) a (unsigned_at w (int_rem (signed_at w a) (signed_at w b))) (λ n. n < modulus w) (λ e. h) (λ e. signed_remainder-below w a b h)
operation-below op.Xor w a b h k = xor-below w a b h k
operation-below op.Mov w a b h k = k
operation-below op.Arsh w a b h k = signed_shift-below w a (b % bits_of w) h

pub result-below : (o : AluOp) (w : Width) (a b : ℕ) → result_at o w a b < modulus w
result-below o w a b = operation-below o w (kept_at w a) (kept_at w b) (kept-below w a) (kept-below w b)

-- ---- signed readings of numbers without the sign

pub signed_at-low : (w : Width) (n : ℕ) → n < modulus w / 2 → signed_at w n ≡ pos n
signed_at-low W32 n h = to_z_pos w32 n h
signed_at-low W64 n h = to_z_pos w64 n h

pub unsigned_at-pos : (w : Width) (n : ℕ) → unsigned_at w (pos n) ≡ n
unsigned_at-pos W32 n = refl
unsigned_at-pos W64 n = refl
