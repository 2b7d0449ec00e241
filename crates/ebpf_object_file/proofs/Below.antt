-- Whether some number below another passes a test.
use Rattle.std.proofs.Common.{◌≡◌, ◌<◌, ◌+◌, ℕ, Bool, true, false, ◌||◌, Option, Some, None, zero, suc, is_some, refl, sym, ap, ◌∙◌, arith, inl, inr, add-one}
use Rattle.std.proofs.lemmas.Bool.{cases_lt}
use Rattle.ebpf_object_file.specs.First.{NoneBelow, Finds}
use Rattle.ebpf_object_file.specs.Data.{any_below}

or_left : (a b : Bool) → a ≡ true → (a || b) ≡ true
or_left true b e = refl
or_left false b e = absurd (cc)

or_right : (a b : Bool) → b ≡ true → (a || b) ≡ true
or_right true b e = refl
or_right false b e = e

or_none : (a b : Bool) → a ≡ false → b ≡ false → (a || b) ≡ false
or_none true b e f = absurd (cc)
or_none false b e f = f

pub or_same : (a b : Bool) → b ≡ false → (a || b) ≡ a
or_same true b e = refl
or_same false b e = e

-- none below 0, and one more number
pub any_zero : (test : ℕ → Bool) → any_below test 0 ≡ false
unfolding any_below
any_zero test = refl

any_suc : (test : ℕ → Bool) (n : ℕ) → any_below test (suc n) ≡ (any_below test n || test n)
unfolding any_below
any_suc test n = refl

pub any_more : (test : ℕ → Bool) (n : ℕ) → any_below test (n + 1) ≡ (any_below test n || test n)
any_more test n = ap (any_below test) (add-one n) ∙ any_suc test n

pub any_now : (test : ℕ → Bool) (n : ℕ) → test n ≡ true → any_below test (n + 1) ≡ true
any_now test n here = any_more test n ∙ or_right (any_below test n) (test n) here

pub any_kept : (test : ℕ → Bool) (n : ℕ) → test n ≡ false → any_below test (n + 1) ≡ any_below test n
any_kept test n here = any_more test n ∙ or_same (any_below test n) (test n) here

pub any_true : (test : ℕ → Bool) (n k : ℕ) → k < n → test k ≡ true → any_below test n ≡ true
any_true test zero k lt here = absurd (omega (arith, lt))
any_true test (suc n) k lt here = any_suc test n ∙ elim (cases_lt k n) [
  | inl below ↦ or_left (any_below test n) (test n) (any_true test n k below here)
  | inr above ↦ let e : k ≡ n = omega (arith, lt, above) in or_right (any_below test n) (test n) (ap test (sym e) ∙ here)
]

pub any_false : (test : ℕ → Bool) (n : ℕ) → NoneBelow test n → any_below test n ≡ false
any_false test zero none = any_zero test
any_false test (suc n) none = any_suc test n ∙ or_none (any_below test n) (test n)
    (any_false test n (λ k lt. none k (omega (arith, lt)))) (none n (omega arith))

-- what a search says
pub found_any : (test : ℕ → Bool) (n : ℕ) (r : Option ℕ) → Finds test n r → is_some r ≡ any_below test n
found_any test n None none = sym (any_false test n none)
found_any test n (Some k) first = sym (any_true test n k first.inside first.here)
