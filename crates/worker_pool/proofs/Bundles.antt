-- How many bundles jobs make, and how often each is drawn and answered.
use Rattle.std.proofs.Common.{◌≡◌, ◌+◌, ◌*◌, ◌<◌, ◌≤◌, ◌==◌, ℕ, suc, Bool, true, false, if◌then◌else◌, nat_lt, List, [], ◌∷◌, ◌++◌, refl, ap, ◌∙◌}
use Rattle.std.proofs.Common.{arith, mul-le-mul_right, suc-mul}
use Rattle.std.proofs.Math.Nat.{mul-le-mul_left}
use Rattle.std.proofs.lemmas.Bool.Decides.{nat_tests}
use Rattle.std.proofs.lemmas.Grind.{div_ceil_times}
use Rattle.std.proofs.lemmas.List.Sums.{sum_by_push}
use Rattle.owners_table.specs.Drawing.{times}
use Rattle.worker_pool.specs.declared.answered.Bundle.{Bundle}
use Rattle.worker_pool.specs.Numbering.{bundles_in, times_of}

abbrev pub one_if : ℕ → ℕ → ℕ
one_if y x = if y == x then 1 else 0

module _ (size count : ℕ) (some : 0 < size) where
  -- as many bundles have all jobs, and not a whole bundle more
  pub reach : count ≤ bundles_in size count * size
  reach = (div_ceil_times count size some).0

  not_past : bundles_in size count * size < count + size
  not_past = (div_ceil_times count size some).1

  -- a bundle has a job
  pub first_below : (bundle : ℕ) → bundle < bundles_in size count → bundle * size < count
  first_below bundle below =
      let next : suc bundle * size ≤ bundles_in size count * size = mul-le-mul_right size below in
      let step : suc bundle * size ≡ bundle * size + size = suc-mul bundle size in
      omega (arith, next, step, not_past)

  -- there are at most as many bundles as jobs
  pub bundles_few : bundles_in size count ≤ count
  bundles_few = by (nat_lt count (bundles_in size count)) refl where
    by : (b : Bool) → nat_lt count (bundles_in size count) ≡ b → bundles_in size count ≤ count
    by false e = grind (arith, nat_tests)
    by true e =
        let more : count < bundles_in size count = grind (arith, nat_tests) in
        let next : suc count * size ≤ bundles_in size count * size = mul-le-mul_right size more in
        let step : suc count * size ≡ count * size + size = suc-mul count size in
        let least : count * 1 ≤ count * size = mul-le-mul_left count some in
        omega (arith, next, step, not_past, least)

-- one bundle more
pub times_more : (x : ℕ) (old new : List Bundle) (b : Bundle) → new ≡ old ++ b ∷ [] → times_of x new ≡ times_of x old + one_if b.number x
times_more x old new b is = ap (times_of x) is ∙ sum_by_push (λ (c : Bundle). one_if c.number x) old b

-- a draw more
pub drawn_more : (bundle : ℕ) (drawn : List ℕ) (n : ℕ) → times bundle (drawn ++ n ∷ []) ≡ times bundle drawn + one_if n bundle
drawn_more bundle drawn n = sum_by_push (λ (y : ℕ). one_if y bundle) drawn n

-- a number past a bundle's is not the bundle's
pub drawn_past : (n bundle : ℕ) → bundle < n → one_if n bundle ≡ 0
drawn_past n bundle past = grind (arith, nat_tests)
