-- Bytes that are compared sixteen at a time.
use Rattle.std.proofs.Common.{◌≡◌, ℕ, zero, suc, ◌+◌, ◌-◌, ◌*◌, ◌^◌, ◌%◌, ◌<◌, ◌≤◌, Bool, true, false, not, cond, List, [], ◌∷◌, length, map, take}
use Rattle.std.proofs.Common.{refl, sym, ap, ◌∙◌, subst, arith, w8, Option, None, Some, IfSome, one-add, length-take-le}
use Rattle.std.proofs.lemmas.Bool.Decides.{nat_tests}
use Rattle.std.proofs.lemmas.Simd.{tops_compared, mask_l-mod, trailing_mask_l}
use Rattle.std.proofs.lemmas.List.{length-map}
use Rattle.std.specs.Option.{MatchOption}
use Rattle.std.proofs.lemmas.List.Sums.{prefix_len-le-length}
use Rattle.std.specs.List.{prefix_len}
use lib.Count.{count_trailing_zeros}
use lib.Dec.{eqb}
use lib.Lanes.{zip2, mask_l, top}
use mir.Val.{bits, hbits}

abbrev differ : ℕ × ℕ → Bool
differ p = not (eqb p.0 p.1)

-- which lanes differ
abbrev others : List ℕ → List ℕ → List Bool
others xs ys = zip2 (λ x y. not (eqb x y)) xs ys

abbrev pairs : List ℕ → List ℕ → List (ℕ × ℕ)
pairs xs ys = zip2 (λ x y. (x, y)) xs ys

others_map : (xs ys : List ℕ) → others xs ys ≡ map differ (pairs xs ys)
others_map [] ys = refl
others_map (x ∷ xs) [] = refl
others_map (x ∷ xs) (y ∷ ys) = ap (λ (bs : List Bool). not (eqb x y) ∷ bs) (others_map xs ys)

one_more : (b : Bool) (n x y : ℕ) (xs ys : List ℕ) → (b ≡ true → x ≡ y) → take n xs ≡ take n ys
    → take (cond b (1 + n) 0) (x ∷ xs) ≡ take (cond b (1 + n) 0) (y ∷ ys)
one_more true n x y xs ys same rest = rw one-add (ap (λ (z : ℕ). z ∷ take n xs) (same refl) ∙ ap (λ (zs : List ℕ). y ∷ zs) rest)
one_more false n x y xs ys same rest = refl

not_differ : (x y : ℕ) → not (not (eqb x y)) ≡ true → x ≡ y
not_differ x y same = grind (arith, nat_tests)

-- up to the first lanes that differ, they are the same
same_before : (xs ys : List ℕ) → length xs ≡ length ys → take (prefix_len (λ p. not (differ p)) (pairs xs ys)) xs ≡ take (prefix_len (λ p. not (differ p)) (pairs xs ys)) ys
same_before [] [] long = refl
same_before [] (y ∷ ys) long = absurd (omega (arith, long))
same_before (x ∷ xs) [] long = refl
same_before (x ∷ xs) (y ∷ ys) long = one_more (not (not (eqb x y))) _ x y xs ys (not_differ x y) (same_before xs ys (omega (arith, long)))

no_first : (b : Bool) (n : ℕ) → cond (not b) 1 0 + 2 * n ≡ 0 → (b ≡ true) × (n ≡ 0)
no_first true n none = (refl, omega (arith, none))
no_first false n none = absurd (omega (arith, none))

-- where no lanes differ, all are the same
all_same : (xs ys : List ℕ) → length xs ≡ length ys → mask_l (others xs ys) ≡ 0 → xs ≡ ys
all_same [] [] long none = refl
all_same [] (y ∷ ys) long none = absurd (omega (arith, long))
all_same (x ∷ xs) [] long none = absurd (omega (arith, long))
all_same (x ∷ xs) (y ∷ ys) long none =
    let parts = no_first (eqb x y) (mask_l (others xs ys)) none in
    let same : x ≡ y = not_differ x y (rw parts.0 refl) in
    ap (λ (z : ℕ). z ∷ xs) same ∙ ap (λ (zs : List ℕ). y ∷ zs) (all_same xs ys (omega (arith, long)) parts.1)

length-pairs : (xs ys : List ℕ) → length xs ≡ length ys → length (pairs xs ys) ≡ length xs
length-pairs [] ys long = refl
length-pairs (x ∷ xs) [] long = absurd (omega (arith, long))
length-pairs (x ∷ xs) (y ∷ ys) long = ap suc (length-pairs xs ys (omega (arith, long)))

-- ---- the mask of a comparison of sixteen lanes

abbrev pub Mask : List ℕ → List ℕ → ℕ → Type 0
Mask xs ys mask = mask ≡ mask_l (map (top (hbits w8)) (zip2 (λ a b. cond (not (eqb a b)) (2 ^ bits w8 - 1) 0) xs ys)) % 2 ^ 64

mask_is : (xs ys : List ℕ) (mask : ℕ) → length xs ≡ 16 → length ys ≡ 16 → Mask xs ys mask → mask ≡ mask_l (others xs ys)
mask_is xs ys mask lx ly is =
    let few : length (others xs ys) ≤ 64 = omega (arith, ap length (others_map xs ys), length-map (pairs xs ys) differ, length-pairs xs ys (lx ∙ sym ly), lx) in
    is ∙ (ap (λ (bs : List Bool). mask_l bs % 2 ^ 64) (tops_compared w8 (λ x y. not (eqb x y)) xs ys) ∙ mask_l-mod (others xs ys) 64 few)

pub same_sixteen : (a b : List ℕ) (mask : ℕ) → 16 ≤ length a → 16 ≤ length b → Mask (take 16 a) (take 16 b) mask → mask ≡ 0 → take 16 a ≡ take 16 b
same_sixteen a b mask la lb is none =
    let lx = length-take-le 16 a la in
    let ly = length-take-le 16 b lb in
    all_same (take 16 a) (take 16 b) (lx ∙ sym ly) (sym (mask_is (take 16 a) (take 16 b) mask lx ly is) ∙ none)

run_is : (xs ys : List ℕ) (mask : ℕ) → length xs ≡ 16 → length ys ≡ 16 → Mask xs ys mask → 0 < mask
    → count_trailing_zeros 64 mask ≡ prefix_len (λ p. not (differ p)) (pairs xs ys)
run_is xs ys mask lx ly is some =
    let masks = mask_is xs ys mask lx ly is ∙ ap mask_l (others_map xs ys) in
    ap (count_trailing_zeros 64) masks
    ∙ trailing_mask_l differ 64 (pairs xs ys) (omega (arith, length-pairs xs ys (lx ∙ sym ly), lx)) (subst (λ (n : ℕ). 0 < n) masks some)

pub run_within : (a b : List ℕ) (mask : ℕ) → 16 ≤ length a → 16 ≤ length b → Mask (take 16 a) (take 16 b) mask → 0 < mask → count_trailing_zeros 64 mask ≤ 16
run_within a b mask la lb is some =
    let lx = length-take-le 16 a la in
    let ly = length-take-le 16 b lb in
    let xs = take 16 a in
    let ys = take 16 b in
    omega (arith, run_is xs ys mask lx ly is some, prefix_len-le-length (λ p. not (differ p)) (pairs xs ys), length-pairs xs ys (lx ∙ sym ly), lx)

fewer : (xs : List ℕ) (m n : ℕ) → m ≤ n → take m (take n xs) ≡ take m xs
fewer [] zero zero le = refl
fewer [] zero (suc n) le = refl
fewer [] (suc m) zero le = refl
fewer [] (suc m) (suc n) le = refl
fewer (x ∷ xs) zero zero le = refl
fewer (x ∷ xs) zero (suc n) le = refl
fewer (x ∷ xs) (suc m) zero le = absurd (omega (arith, le))
fewer (x ∷ xs) (suc m) (suc n) le = ap (λ (zs : List ℕ). x ∷ zs) (fewer xs m n (omega (arith, le)))

-- two texts are the same up to the first lanes that differ
pub same_run : (a b : List ℕ) (mask : ℕ) → 16 ≤ length a → 16 ≤ length b → Mask (take 16 a) (take 16 b) mask → 0 < mask
    → take (count_trailing_zeros 64 mask) a ≡ take (count_trailing_zeros 64 mask) b
same_run a b mask la lb is some =
    let lx = length-take-le 16 a la in
    let ly = length-take-le 16 b lb in
    let n = count_trailing_zeros 64 mask in
    let within = run_within a b mask la lb is some in
    let same : take n (take 16 a) ≡ take n (take 16 b) = rw (run_is (take 16 a) (take 16 b) mask lx ly is some) (same_before (take 16 a) (take 16 b) (lx ∙ sym ly)) in
    sym (fewer a n 16 within) ∙ (same ∙ fewer b n 16 within)

-- ---- what an answer says where there is one

pub where_some : {X : Type 0} (P : Type 0) (Q : X → Type 0) (r : Option X) → MatchOption r P Q → IfSome r Q
where_some P Q None is = tt
where_some P Q (Some x) is = is
