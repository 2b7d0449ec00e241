-- Registers and their numbers.
use Rattle.std.proofs.Common.{◌≡◌, ℕ, ◌<◌, true, false, Some, None, refl, sym, ap, ◌∙◌, arith}
use Rattle.std.proofs.lemmas.Bool.Decides.{nat_tests}
use Rattle.ebpf_insn.specs.declared.register.Reg.{Reg}
use Rattle.ebpf_insn.specs.declared.register.Reg.TheVariants.{R0, R1, R2, R3, R4, R5, R6, R7, R8, R9, R10}
use Rattle.ebpf_insn.specs.Registers.{number_of, register_of}
use Rattle.ebpf_insn.specs.Decoding.{is_register}

pub number_of-register_of : (n : ℕ) (r : Reg) → register_of n ≡ Some r → number_of r ≡ n
number_of-register_of n r e = grind (arith, nat_tests)

pub register_of-number_of : (r : Reg) → register_of (number_of r) ≡ Some r
register_of-number_of r = elim r as (λ k. register_of (number_of k) ≡ Some k) [ R0 ↦ refl | R1 ↦ refl | R2 ↦ refl | R3 ↦ refl | R4 ↦ refl | R5 ↦ refl | R6 ↦ refl | R7 ↦ refl | R8 ↦ refl | R9 ↦ refl | R10 ↦ refl ]

is_register-number_of : (r : Reg) → is_register (number_of r) ≡ true
is_register-number_of r = elim r as (λ k. is_register (number_of k) ≡ true) [ R0 ↦ refl | R1 ↦ refl | R2 ↦ refl | R3 ↦ refl | R4 ↦ refl | R5 ↦ refl | R6 ↦ refl | R7 ↦ refl | R8 ↦ refl | R9 ↦ refl | R10 ↦ refl ]

pub is_register_of : (n : ℕ) (r : Reg) → register_of n ≡ Some r → is_register n ≡ true
is_register_of n r e = ap is_register (sym (number_of-register_of n r e)) ∙ is_register-number_of r

pub no_register : (n : ℕ) → register_of n ≡ None → is_register n ≡ false
no_register n e = grind (arith, nat_tests)

pub number_below : (r : Reg) → number_of r < 16
number_below r = grind (arith, nat_tests)
