use Rattle.std.proofs.Common.{◌≡◌, ◌^◌, true, false, nat_lt, Some, pos, ◌+ℤ◌, ◌≤ℤ◌, negsuc, ℤ, refl, arith, sym, ◌∙◌, w64}
use Rattle.std.specs.Prelude.{nat_abs}
use Rattle.std.specs.Int.{w128}
use Rattle.std.proofs.lemmas.Int.{ints, to_z-of_z}
use Rattle.std.proofs.lemmas.Bool.Decides.{nat_tests}
use lib.Signed.{lt_z}
use mir.Val.{SFits, of_z, to_z}
use Rattle.ebpf_verify.specs.Pointers.{moved_end}
use Rattle.ebpf_verify.proofs.pointer.moved_end.Goals.{then-sum, else-sum}
use Rattle.ebpf_verify.proofs.pointer.moved_end.Goals as goal

-- the sum as the code computes it, at 128 bits
abbrev computed_sum : ℤ → ℤ → ℤ
computed_sum end by = to_z w128 (of_z w128 (to_z w128 (of_z w128 (to_z w64 (of_z w64 end))) +ℤ to_z w128 (of_z w128 by)))

-- an end fits 128 bits too
wider : (end : ℤ) → SFits w64 end → SFits w128 end
wider end fits = omega (arith, ints)

-- so does the sum, since neither number is long
sum_fits : (end by : ℤ) → SFits w64 end → negsuc (2 ^ 64) ≤ℤ by → by ≤ℤ pos (2 ^ 64) → SFits w128 (end +ℤ by)
sum_fits end by fits low high = omega (arith, ints)

-- no cast in it changes a number
is_sum : (end by : ℤ) → SFits w64 end → SFits w128 by → negsuc (2 ^ 64) ≤ℤ by → by ≤ℤ pos (2 ^ 64) → computed_sum end by ≡ end +ℤ by
is_sum end by fits by_fits low high =
    rw (to_z-of_z w64 end fits, to_z-of_z w128 end (wider end fits), to_z-of_z w128 by by_fits) (to_z-of_z w128 (end +ℤ by) (sum_fits end by fits low high))

-- the two tests of the code against the one of the contract
below : (sum : ℤ) → lt_z sum (negsuc 536870911) ≡ true → nat_lt (2 ^ 29) (nat_abs sum) ≡ true
below (pos n) test = cc
below (negsuc n) test = grind (arith, nat_tests)

above : (sum : ℤ) → lt_z (pos 536870912) sum ≡ true → nat_lt (2 ^ 29) (nat_abs sum) ≡ true
above (pos n) test = test
above (negsuc n) test = cc

within : (sum : ℤ) → lt_z sum (negsuc 536870911) ≡ false → lt_z (pos 536870912) sum ≡ false → nat_lt (2 ^ 29) (nat_abs sum) ≡ false
within (pos n) low high = high
within (negsuc n) low high = grind (arith, nat_tests)

-- a sum that is small enough is returned as it is
narrow : (sum : ℤ) → nat_lt (2 ^ 29) (nat_abs sum) ≡ false → SFits w64 sum
narrow (pos n) small = record { sfits = grind (arith, nat_tests) }
narrow (negsuc n) small = record { sfits = grind (arith, nat_tests) }

returned : (end by sum : ℤ) → sum ≡ end +ℤ by → nat_lt (2 ^ 29) (nat_abs (end +ℤ by)) ≡ false → Some (to_z w64 (of_z w64 sum)) ≡ moved_end end by
returned end by sum same small = rw (small, same, to_z-of_z w64 (end +ℤ by) (narrow _ small)) refl

pub returns-then-sum-2 : goal.returns-then-sum-2
returns-then-sum-2 c =
    let same = is_sum c.args.end c.args.by c.ranges.end c.ranges.by c.requires.low c.requires.high in
    elim c.if-sum.branch [
      | then-sum w ↦ let test : lt_z (computed_sum c.args.end c.args.by) (negsuc 536870911) ≡ true =
          w.if-sum.true in rw (below (c.args.end +ℤ c.args.by) (rw same at test)) refl
      | else-sum w ↦ let test : lt_z (pos 536870912) (computed_sum c.args.end c.args.by) ≡ true =
          sym w.value-is ∙ c.if-sum-2.true in rw (above (c.args.end +ℤ c.args.by) (rw same at test)) refl
    ]

pub returns-else-sum-2 : goal.returns-else-sum-2
returns-else-sum-2 c =
    let same = is_sum c.args.end c.args.by c.ranges.end c.ranges.by c.requires.low c.requires.high in
    elim c.if-sum.branch [
      | then-sum w ↦ let never : true ≡ false = sym w.if-sum.true ∙ (sym w.value-is ∙ c.if-sum-2.false) in cc
      | else-sum w ↦
          let low : lt_z (computed_sum c.args.end c.args.by) (negsuc 536870911) ≡ false = w.if-sum.false in
          let high : lt_z (pos 536870912) (computed_sum c.args.end c.args.by) ≡ false = sym w.value-is ∙ c.if-sum-2.false in
          returned c.args.end c.args.by _ same (within (c.args.end +ℤ c.args.by) (rw same at low) (rw same at high))
    ]
