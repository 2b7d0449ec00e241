-- A stack of the numbers at which a list has a mark, in any order.
use Rattle.std.specs.Prelude.{◌≡◌, ℕ, suc, ◌==◌, Bool, cond, if◌then◌else◌, List, [], ◌∷◌, length, sum_by}

-- how often a number is in a list
abbrev pub times : ℕ → List ℕ → ℕ
times x xs = sum_by (λ y. if y == x then 1 else 0) xs

-- the two have the same numbers, each as often
pub record HasSame (xs ys : List ℕ) : Type 0 where
  pub count : length xs ≡ length ys
  pub each : (x : ℕ) → times x xs ≡ times x ys

-- the numbers of the elements that pass the test, where the first element has the number `from`
abbrev pub selected : {A : Type 0} → (A → Bool) → ℕ → List A → List ℕ
selected test from [] = []
selected test from (x ∷ xs) = cond (test x) (from ∷ selected test (suc from) xs) (selected test (suc from) xs)
