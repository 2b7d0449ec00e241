-- Lists: an element by its place after a write, two lists that agree at each element, what a filter keeps, what a count tells,
-- and what a search finds.
use Rattle.std.proofs.Common.{◌≡◌, ◌≢◌, ◌⊎◌, inl, inr, ℕ, zero, suc, ◌+◌, ◌<◌, ◌≤◌, Bool, true, false, cond, not, ◌&&◌, ◌||◌, List, [], ◌∷◌, ◌++◌}
use Rattle.std.proofs.Common.{length, map, filter, count_by, get_or, Option, Some, None, option_map, All, refl, sym, ap, ◌∙◌, subst, arith}
use Rattle.std.specs.Prelude.{Contains, slice_get, slice_set}
use Rattle.std.specs.List.{find, list_any}
use Rattle.std.proofs.lemmas.Bool.{cases_eq, or_parts, false_from_ne_true}
use Rattle.std.proofs.lemmas.List.Elements.{All-contains, All-contains_itself, All-filter, All-set, Contains-get_or, filter_passes}
use Rattle.std.proofs.lemmas.List.Folds.{list_any_at}
use Rattle.std.proofs.lemmas.List.Filters.{sum_by-filter_both}
use Rattle.std.proofs.lemmas.List.Sums.{sum_by-cons}

-- ---- an element by its place

pub get_set_same : {X : Type 0} (xs : List X) (k : ℕ) (x now : X) → slice_get xs k ≡ Some x → slice_get (slice_set xs k now) k ≡ Some now
get_set_same [] k x now at = absurd (cc)
get_set_same (y ∷ xs) zero x now at = refl
get_set_same (y ∷ xs) (suc k) x now at = get_set_same xs k x now at

pub get_set_other : {X : Type 0} (xs : List X) (i k : ℕ) (now : X) → k ≢ i → slice_get (slice_set xs i now) k ≡ slice_get xs k
get_set_other [] i k now ne = refl
get_set_other (y ∷ xs) zero zero now ne = absurd (ne refl)
get_set_other (y ∷ xs) zero (suc k) now ne = refl
get_set_other (y ∷ xs) (suc i) zero now ne = refl
get_set_other (y ∷ xs) (suc i) (suc k) now ne = get_set_other xs i k now (λ e. ne (ap suc e))

-- after a write an element is the one written, at its place, or another one
pub get_set_cases : {X : Type 0} (xs : List X) (i k : ℕ) (old now x : X) → slice_get xs i ≡ Some old
    → slice_get (slice_set xs i now) k ≡ Some x → ((k ≡ i) × (now ≡ x)) ⊎ ((k ≢ i) × (slice_get xs k ≡ Some x))
get_set_cases {X} xs i k old now x there at = by (cases_eq k i) where
  by : (k ≡ i) ⊎ (k ≢ i) → ((k ≡ i) × (now ≡ x)) ⊎ ((k ≢ i) × (slice_get xs k ≡ Some x))
  by (inl e) =
      let here : slice_get (slice_set xs i now) i ≡ Some x = subst (λ (n : ℕ). slice_get (slice_set xs i now) n ≡ Some x) e at in
      let written = get_set_same xs i old now there in
      inl (e, cc)
  by (inr ne) = inr (ne, sym (get_set_other xs i k now ne) ∙ at)

pub get_push : {X : Type 0} (xs : List X) (k : ℕ) (x new : X) → slice_get xs k ≡ Some x → slice_get (xs ++ new ∷ []) k ≡ Some x
get_push [] k x new at = absurd (cc)
get_push (y ∷ xs) zero x new at = at
get_push (y ∷ xs) (suc k) x new at = get_push xs k x new at

pub get_push_cases : {X : Type 0} (xs : List X) (k : ℕ) (x new : X) → slice_get (xs ++ new ∷ []) k ≡ Some x → (slice_get xs k ≡ Some x) ⊎ (new ≡ x)
get_push_cases [] zero x new at = inr (cc)
get_push_cases [] (suc k) x new at = absurd (cc)
get_push_cases (y ∷ xs) zero x new at = inl at
get_push_cases (y ∷ xs) (suc k) x new at = get_push_cases xs k x new at

-- ---- elements

pub Contains-tail : {X : Type 0} (x y : X) (xs : List X) → Contains xs y → Contains (x ∷ xs) y
Contains-tail x y xs (k, lt, e) = (suc k, omega arith, e)

pub Contains-head : {X : Type 0} (x : X) (xs : List X) → Contains (x ∷ xs) x
Contains-head x xs = (zero, omega arith, refl)

pub All-by_contains : {X : Type 0} (P : X → Type 0) (xs : List X) → ((x : X) → Contains xs x → P x) → All P xs
All-by_contains P xs h = λ k d lt. h (get_or xs k d) (Contains-get_or xs k d lt)

pub Contains-set_cases : {X : Type 0} (xs : List X) (i : ℕ) (y x : X) → Contains (slice_set xs i y) x → (y ≡ x) ⊎ Contains xs x
Contains-set_cases {X} xs i y x among =
    let P : X → Type 0 = λ z. (y ≡ z) ⊎ Contains xs z in
    All-contains P (slice_set xs i y) x (All-set P xs i y (inl refl) (All-by_contains P xs (λ z c. inr c))) among

pub Contains-filter : {X : Type 0} (p : X → Bool) (xs : List X) (x : X) → Contains (filter p xs) x → Contains xs x × (p x ≡ true)
Contains-filter p xs x among = (
  All-contains (Contains xs) (filter p xs) x (All-filter p (Contains xs) xs (All-contains_itself xs)) among,
  All-contains (λ y. p y ≡ true) (filter p xs) x (filter_passes p xs) among,
)

-- ---- two lists that agree at each element

pub map_agree : {X Y : Type 0} (f g : X → Y) (xs : List X) → ((x : X) → Contains xs x → f x ≡ g x) → map f xs ≡ map g xs
map_agree f g [] h = refl
map_agree f g (x ∷ xs) h =
    let first = h x (Contains-head x xs) in
    let rest = map_agree f g xs (λ y c. h y (Contains-tail x y xs c)) in
    λ i. first i ∷ rest i

pub filter_same : {X : Type 0} (p q : X → Bool) (xs : List X) → ((x : X) → Contains xs x → p x ≡ q x) → filter p xs ≡ filter q xs
filter_same p q [] h = refl
filter_same p q (x ∷ xs) h =
    let first = h x (Contains-head x xs) in
    let rest = filter_same p q xs (λ y c. h y (Contains-tail x y xs c)) in
    λ i. cond (first i) (x ∷ rest i) (rest i)

pub filter-map : {X Y : Type 0} (p : Y → Bool) (f : X → Y) (xs : List X) → filter p (map f xs) ≡ map f (filter (λ x. p (f x)) xs)
filter-map p f [] = refl
filter-map p f (x ∷ xs) = by (p (f x)) (filter-map p f xs) where
  by : (t : Bool) → filter p (map f xs) ≡ map f (filter (λ y. p (f y)) xs)
      → cond t (f x ∷ filter p (map f xs)) (filter p (map f xs)) ≡ map f (cond t (x ∷ filter (λ y. p (f y)) xs) (filter (λ y. p (f y)) xs))
  by true h = ap (λ ys. f x ∷ ys) h
  by false h = h

-- a filter of a filter is one by both tests
pub filter-filter : {X : Type 0} (p q : X → Bool) (xs : List X) → filter p (filter q xs) ≡ filter (λ x. q x && p x) xs
filter-filter p q [] = refl
filter-filter {X} p q (x ∷ xs) = by (q x) (filter-filter p q xs) where
  by : (t : Bool) → filter p (filter q xs) ≡ filter (λ y. q y && p y) xs
      → filter p (cond t (x ∷ filter q xs) (filter q xs)) ≡ cond (t && p x) (x ∷ filter (λ y. q y && p y) xs) (filter (λ y. q y && p y) xs)
  by true h = ap (λ ys. cond (p x) (x ∷ ys) ys) h
  by false h = h

-- ---- counts

pub count_by-filter-le : {X : Type 0} (p q : X → Bool) (xs : List X) → count_by p (filter q xs) ≤ count_by p xs
count_by-filter-le p q xs = omega (arith, sum_by-filter_both q (λ x. not (q x)) (λ x. refl) (λ x. cond (p x) 1 0) xs)

pub counted_once : {X : Type 0} (p : X → Bool) (x : X) (xs : List X) → p x ≡ true → count_by p (x ∷ xs) ≡ 1 + count_by p xs
counted_once p x xs passes = sum_by-cons (λ y. cond (p y) 1 0) x xs ∙ ap (λ b. cond b 1 0 + count_by p xs) passes

pub counted_not : {X : Type 0} (p : X → Bool) (x : X) (xs : List X) → p x ≡ false → count_by p (x ∷ xs) ≡ count_by p xs
counted_not p x xs fails = omega (arith, sum_by-cons (λ y. cond (p y) 1 0) x xs, ap (λ b. cond {A = ℕ} b 1 0) fails)

pub counted_less : {X : Type 0} (p : X → Bool) (x : X) (xs : List X) → count_by p xs ≤ count_by p (x ∷ xs)
counted_less p x xs = omega (arith, sum_by-cons (λ y. cond (p y) 1 0) x xs)

-- what is dropped is no longer counted
pub fewer_dropped : {X : Type 0} (p q : X → Bool) (xs : List X) (x : X) → Contains xs x → p x ≡ true → q x ≡ false → count_by p (filter q xs) < count_by p xs
fewer_dropped p q [] x (k, lt, e) counts drops = absurd (omega (arith, lt))
fewer_dropped {X} p q (y ∷ xs) x (zero, lt, e) counts drops =
    let away = ap q e ∙ drops in
    let one = counted_once p y xs (ap p e ∙ counts) in
    let few = count_by-filter-le p q xs in
    subst (λ (t : Bool). count_by p (cond t (y ∷ filter q xs) (filter q xs)) < count_by p (y ∷ xs)) (sym away) (omega (arith, one, few))
fewer_dropped {X} p q (y ∷ xs) x (suc k, lt, e) counts drops = by (q y) (fewer_dropped p q xs x (k, omega (arith, lt), e) counts drops) where
  by : (t : Bool) → count_by p (filter q xs) < count_by p xs → count_by p (cond t (y ∷ filter q xs) (filter q xs)) < count_by p (y ∷ xs)
  by true rest =
      let here = sum_by-cons (λ z. cond (p z) 1 0) y (filter q xs) in let before = sum_by-cons (λ z. cond (p z) 1 0) y xs in omega (arith, rest, here, before)
  by false rest = omega (arith, rest, counted_less p y xs)

counted : {X : Type 0} (p : X → Bool) (xs : List X) (k : ℕ) (x : X) → k < length xs → get_or xs k x ≡ x → p x ≡ true → 1 ≤ count_by p xs
counted p [] k x lt e passes = absurd (omega arith)
counted p (y ∷ xs) zero x lt e passes = omega (arith, counted_once p y xs (ap p e ∙ passes))
counted p (y ∷ xs) (suc k) x lt e passes = omega (arith, counted_less p y xs, counted p xs k x (omega arith) e passes)

-- an element that passes, where what means no element does not
pub counted_at : {X : Type 0} (p : X → Bool) (xs : List X) (k : ℕ) (d : X) → p d ≡ false → p (get_or xs k d) ≡ true → 1 ≤ count_by p xs
counted_at p [] k d fails passes = absurd (cc)
counted_at p (x ∷ xs) zero d fails passes = omega (arith, counted_once p x xs passes)
counted_at p (x ∷ xs) (suc k) d fails passes = omega (arith, counted_less p x xs, counted_at p xs k d fails passes)

-- where at most one element passes, two that pass are one
pub only_one : {X : Type 0} (p : X → Bool) (xs : List X) (i j : ℕ) (x y : X) → i < length xs → j < length xs → get_or xs i x ≡ x
    → get_or xs j y ≡ y → p x ≡ true → p y ≡ true → count_by p xs ≤ 1 → x ≡ y
only_one p [] i j x y li lj ei ej px py most = absurd (omega arith)
only_one p (z ∷ xs) zero zero x y li lj ei ej px py most = sym ei ∙ ej
only_one p (z ∷ xs) zero (suc j) x y li lj ei ej px py most = absurd (omega (arith, counted_once p z xs (ap p ei ∙ px), counted p xs j y (omega arith) ej py))
only_one p (z ∷ xs) (suc i) zero x y li lj ei ej px py most = absurd (omega (arith, counted_once p z xs (ap p ej ∙ py), counted p xs i x (omega arith) ei px))
only_one p (z ∷ xs) (suc i) (suc j) x y li lj ei ej px py most =
    only_one p xs i j x y (omega arith) (omega arith) ei ej px py (omega (arith, counted_less p z xs))

-- a filter that keeps all that passes a test
pub list_any-filter : {X : Type 0} (p q : X → Bool) (xs : List X) → ((x : X) → p x ≡ true → q x ≡ true) → list_any p (filter q xs) ≡ list_any p xs
list_any-filter p q [] h = refl
list_any-filter {X} p q (x ∷ xs) h = by (p x) (q x) refl (h x) (list_any-filter p q xs h) where
  by : (s t : Bool) → p x ≡ s → (s ≡ true → t ≡ true) → list_any p (filter q xs) ≡ list_any p xs
      → list_any p (cond t (x ∷ filter q xs) (filter q xs)) ≡ (s || list_any p xs)
  by s true e passes rest = ap (λ (b : Bool). b || list_any p (filter q xs)) e ∙ ap (λ (b : Bool). s || b) rest
  by true false e passes rest = let no = passes refl in absurd (cc)
  by false false e passes rest = rest

pub none_counted : {X : Type 0} (p : X → Bool) (xs : List X) → list_any p xs ≡ false → count_by p xs ≡ 0
none_counted p [] none = refl
none_counted p (x ∷ xs) none =
    let parts = or_parts (p x) (list_any p xs) none in
    sum_by-cons (λ y. cond (p y) 1 0) x xs ∙ ap (λ b. cond b 1 0 + count_by p xs) parts.0 ∙ omega (arith, none_counted p xs parts.1)

-- ---- what is found

-- an element that passes a test is kept
pub Contains-kept : {X : Type 0} (p : X → Bool) (xs : List X) (x : X) → Contains xs x → p x ≡ true → Contains (filter p xs) x
Contains-kept p [] x (k, lt, e) passes = absurd (omega arith)
Contains-kept {X} p (y ∷ ys) x (zero, lt, e) passes = by (p y) (ap p e ∙ passes) where
  by : (t : Bool) → t ≡ true → Contains (cond t (y ∷ filter p ys) (filter p ys)) x
  by true h = (zero, omega arith, e)
  by false h = absurd (cc)
Contains-kept {X} p (y ∷ ys) x (suc k, lt, e) passes = by (p y) (Contains-kept p ys x (k, omega (arith, lt), e) passes) where
  by : (t : Bool) → Contains (filter p ys) x → Contains (cond t (y ∷ filter p ys) (filter p ys)) x
  by true rest = Contains-tail y x (filter p ys) rest
  by false rest = rest

pub any_from : {X : Type 0} (p : X → Bool) (xs : List X) (x : X) → Contains xs x → p x ≡ true → list_any p xs ≡ true
any_from p xs x (k, lt, e) passes = list_any_at p xs k x lt (ap p e ∙ passes)

pub any_one : {X : Type 0} (p : X → Bool) (xs : List X) → list_any p xs ≡ true → (x : X) × Contains xs x × (p x ≡ true)
any_one p [] any = absurd (cc)
any_one {X} p (x ∷ xs) any = by (p x) refl any (λ h. any_one p xs h) where
  by : (t : Bool) → p x ≡ t → (t || list_any p xs) ≡ true → (list_any p xs ≡ true → (y : X) × Contains xs y × (p y ≡ true))
      → (y : X) × Contains (x ∷ xs) y × (p y ≡ true)
  by true e h later = (x, Contains-head x xs, e)
  by false e h later = let rest = later h in (rest.0, Contains-tail x rest.0 xs rest.1, rest.2)

pub none_from_count : {X : Type 0} (p : X → Bool) (xs : List X) → count_by p xs ≡ 0 → list_any p xs ≡ false
none_from_count p xs none = false_from_ne_true (list_any p xs) (λ any. some (any_one p xs any)) where
  some : (x : _) × Contains xs x × (p x ≡ true) → ⊥
  some (x, (k, lt, e), passes) = absurd (omega (arith, none, counted p xs k x lt e passes))

-- what a search finds: an element that passes, or that none does
abbrev pub IsFound : {X : Type 0} → (X → Bool) → List X → Option X → Type 0
IsFound p xs (Some x) = Contains xs x × (p x ≡ true)
IsFound p xs None = (x : _) → Contains xs x → p x ≡ false

pub find_is : {X : Type 0} (p : X → Bool) (xs : List X) → IsFound p xs (find p xs)
find_is p [] = λ x (k, lt, e). absurd (omega (arith, lt))
find_is {X} p (x ∷ xs) = by (p x) (find p xs) refl (find_is p xs) where
  later : (y : X) → p x ≡ false → ((z : X) → Contains xs z → p z ≡ false) → Contains (x ∷ xs) y → p y ≡ false
  later y e rest (zero, lt, same) = ap p (sym same) ∙ e
  later y e rest (suc k, lt, same) = rest y (k, omega (arith, lt), same)

  by : (t : Bool) (o : Option X) → p x ≡ t → IsFound p xs o → IsFound p (x ∷ xs) (cond t (Some x) o)
  by true o e rest = (Contains-head x xs, e)
  by false (Some y) e rest = (Contains-tail x y xs rest.0, rest.1)
  by false None e rest = λ y among. later y e rest among

pub find-map : {X Y : Type 0} (p : Y → Bool) (f : X → Y) (xs : List X) → find p (map f xs) ≡ option_map f (find (λ x. p (f x)) xs)
find-map p f [] = refl
find-map {X} {Y} p f (x ∷ xs) = by (p (f x)) (find-map p f xs) where
  by : (t : Bool) → find p (map f xs) ≡ option_map f (find (λ y. p (f y)) xs)
      → cond t (Some (f x)) (find p (map f xs)) ≡ option_map f (cond t (Some x) (find (λ y. p (f y)) xs))
  by true rest = refl
  by false rest = rest
