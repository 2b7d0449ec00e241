-- Stacks of selected numbers: what a push, a pop and a changed mark do.
use Rattle.std.proofs.Common.{◌≡◌, ◌≢◌, ℕ, zero, suc, ◌+◌, ◌<◌, ◌≤◌, ◌==◌, if◌then◌else◌, Bool, true, false, cond, List, [], ◌∷◌, ◌++◌, length}
use Rattle.std.proofs.Common.{get_or, set, refl, sym, ap, subst, ◌∙◌, arith, inl, inr}
use Rattle.std.proofs.lemmas.Bool.{cases_eq}
use Rattle.std.proofs.lemmas.Bool.Decides.{nat_tests}
use Rattle.std.proofs.lemmas.List.Sums.{sum_by-cons, sum_by_push, sum_by-remove}
use Rattle.std.specs.List.{remove}
use Rattle.slab_layer.specs.Stacks.{times, selected}

-- one, if the mark is set and the numbers are equal
abbrev pub hit : Bool → ℕ → ℕ → ℕ
hit b n x = cond b (if n == x then 1 else 0) 0

abbrev pub one : Bool → ℕ
one b = cond b 1 0

-- one number more, at the front
pub times-cons : (x n : ℕ) (ns : List ℕ) → times x (n ∷ ns) ≡ (if n == x then 1 else 0) + times x ns
times-cons x n ns = sum_by-cons (λ y. if y == x then 1 else 0) n ns

times-cond : (b : Bool) (n x : ℕ) (ns : List ℕ) → times x (cond b (n ∷ ns) ns) ≡ hit b n x + times x ns
times-cond true n x ns = times-cons x n ns
times-cond false n x ns = omega arith

length-cond : (b : Bool) (n : ℕ) (ns : List ℕ) → length (cond b (n ∷ ns) ns) ≡ one b + length ns
length-cond true n ns = omega arith
length-cond false n ns = omega arith

module _ {A : Type 0} (test : A → Bool) where
  -- after a change of one mark
  pub times-selected-set : (xs : List A) (from i n x : ℕ) (a d : A) → n ≡ from + i → i < length xs
      → times x (selected test from (set xs i a)) + hit (test (get_or xs i d)) n x ≡ times x (selected test from xs) + hit (test a) n x
  times-selected-set [] from i n x a d is within = absurd (omega arith)
  times-selected-set (y ∷ ys) from zero n x a d is within =
      let same : n ≡ from = omega arith in
      let P : ℕ → Type 0 = λ m. times x (cond (test a) (from ∷ selected test (suc from) ys) (selected test (suc from) ys)) + hit (test y) m x ≡ times x (cond (test y) (from ∷ selected test (suc from) ys) (selected test (suc from) ys)) + hit (test a) m x in
      subst P (sym same) (omega (arith, times-cond (test a) from x (selected test (suc from) ys), times-cond (test y) from x (selected test (suc from) ys)))
  times-selected-set (y ∷ ys) from (suc i) n x a d is within =
      omega (arith, times-selected-set ys (suc from) i n x a d (omega arith) (omega arith), times-cond (test y) from x (selected test (suc from) ys), times-cond (test y) from x (selected test (suc from) (set ys i a)))

  pub length-selected-set : (xs : List A) (from i : ℕ) (a d : A) → i < length xs
      → length (selected test from (set xs i a)) + one (test (get_or xs i d)) ≡ length (selected test from xs) + one (test a)
  length-selected-set [] from i a d within = absurd (omega arith)
  length-selected-set (y ∷ ys) from zero a d within =
      omega (arith, length-cond (test a) from (selected test (suc from) ys), length-cond (test y) from (selected test (suc from) ys))
  length-selected-set (y ∷ ys) from (suc i) a d within = omega (arith, length-selected-set ys (suc from) i a d (omega arith), length-cond (test y) from (selected test (suc from) ys), length-cond (test y) from (selected test (suc from) (set ys i a)))

  pub length-selected-le : (xs : List A) (from : ℕ) → length (selected test from xs) ≤ length xs
  length-selected-le [] from = omega arith
  length-selected-le (y ∷ ys) from = omega (arith, length-selected-le ys (suc from), length-cond (test y) from (selected test (suc from) ys), one_le (test y))
    where
      one_le : (b : Bool) → one b ≤ 1
      one_le true = omega arith
      one_le false = omega arith

  pub selected-push : (xs : List A) (from n : ℕ) (a : A) → n ≡ from + length xs
      → selected test from (xs ++ a ∷ []) ≡ selected test from xs ++ cond (test a) (n ∷ []) []
  selected-push [] from n a is = rw (let e : n ≡ from = omega arith in e) refl
  selected-push (y ∷ ys) from n a is = push_cond (test y) from (selected test (suc from) ys) _ _ (selected-push ys (suc from) n a (omega arith))
    where
      push_cond : (b : Bool) (m : ℕ) (xs ys zs : List ℕ) → zs ≡ xs ++ ys → cond b (m ∷ zs) zs ≡ cond b (m ∷ xs) xs ++ ys
      push_cond true m xs ys zs e = ap (λ r. m ∷ r) e
      push_cond false m xs ys zs e = e

  -- a number that is selected has an element that passes
  abbrev pub IsFound : List A → ℕ → ℕ → Type 0
  IsFound xs from x = (i : ℕ) × (i < length xs) × (x ≡ from + i) × ((d : A) → test (get_or xs i d) ≡ true)

  found_later : (y : A) (ys : List A) (from x : ℕ) → IsFound ys (suc from) x → IsFound (y ∷ ys) from x
  found_later y ys from x (i, within, is, pass) = (suc i, omega arith, omega arith, pass)

  found_cases : (b : Bool) (y : A) (ys : List A) (from x : ℕ) → test y ≡ b
      → (0 < times x (selected test (suc from) ys) → IsFound ys (suc from) x)
      → 0 < hit b from x + times x (selected test (suc from) ys) → IsFound (y ∷ ys) from x
  found_cases true y ys from x e rest some = elim (cases_eq from x) [
    | inl same ↦ (0, omega arith, omega arith, λ d. e)
    | inr other ↦ found_later y ys from x (rest (grind (arith, nat_tests)))
  ]
  found_cases false y ys from x e rest some = found_later y ys from x (rest (omega arith))

  pub found : (xs : List A) (from x : ℕ) → 0 < times x (selected test from xs) → IsFound xs from x
  found [] from x some = absurd (omega arith)
  found (y ∷ ys) from x some =
      found_cases (test y) y ys from x refl (found ys (suc from) x) (omega (arith, times-cond (test y) from x (selected test (suc from) ys)))

  -- an element that passes is selected
  pub selected_some : (xs : List A) (from i : ℕ) (d : A) → i < length xs → test (get_or xs i d) ≡ true → 0 < length (selected test from xs)
  selected_some [] from i d within pass = absurd (omega arith)
  selected_some (y ∷ ys) from zero d within pass = rw pass (omega arith)
  selected_some (y ∷ ys) from (suc i) d within pass =
      omega (arith, selected_some ys (suc from) i d (omega arith) pass, length-cond (test y) from (selected test (suc from) ys))

-- a stack of the selected numbers, with its last one taken off
pub popped_each : (rest : List ℕ) (last x : ℕ) → times x (rest ++ last ∷ []) ≡ times x rest + (if last == x then 1 else 0)
popped_each rest last x = sum_by_push (λ y. if y == x then 1 else 0) rest last

pub popped_here : (rest : List ℕ) (last : ℕ) → 0 < times last (rest ++ last ∷ [])
popped_here rest last = let e = popped_each rest last last in grind (arith, nat_tests)

-- a number that is at no place isn't in the list
pub times-absent : (xs : List ℕ) (x : ℕ) → ((k : ℕ) → k < length xs → get_or xs k 0 ≢ x) → times x xs ≡ 0
times-absent [] x none = refl
times-absent (y ∷ ys) x none =
    let here : y ≢ x = none 0 (omega arith) in
    let rest = times-absent ys x (λ k within. none (suc k) (omega arith)) in
    let more = times-cons x y ys in
    grind (arith, nat_tests)

-- the number that was read at a place, taken out
pub taken_out : (xs : List ℕ) (i n m x : ℕ) → i < length xs → m ≡ get_or xs i m → m ≡ n → times x (remove xs i) + (if n == x then 1 else 0) ≡ times x xs
taken_out xs i n m x within read same =
    let P : ℕ → Type 0 = λ k. times x (remove xs i) + (if k == x then 1 else 0) ≡ times x xs in
    subst P (sym read ∙ same) (sum_by-remove (λ y. if y == x then 1 else 0) xs i m within)
