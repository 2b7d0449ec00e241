-- Slots in lists: how often each one is there, and what lies in them at the start.
use Rattle.std.proofs.Common.{◌≡◌, ◌≢◌, ℕ, zero, suc, ◌+◌, ◌<◌, ◌≤◌, Bool, eqb, List, [], ◌∷◌, length, map, replicate, sym, refl, ap, ◌∙◌, arith, eq-eqb, ne_eqb}
use Rattle.std.specs.Prelude.{if◌then◌else◌, Option, None}
use Rattle.std.proofs.lemmas.List.Sums.{sum_by-cons}
use mathlib.Core.Logic.{dite}
use mathlib.Core.Option.{some, some-ne-none}
use native.Mathlib.Decide.{ℕ_discrete}
use lib.ListN.{get_elem?}
use Rattle.shared_row.specs.Spread.{spot}
use Rattle.exchange_shelf.specs.Passing.{times, same_as, spots_of}

abbrev pick : Bool → ℕ
pick b = if b then 1 else 0

pub same-here : (k : ℕ) → same_as k k ≡ 1
same-here k = ap pick (eq-eqb k k refl)

pub same-else : (w k : ℕ) → w ≢ k → same_as w k ≡ 0
same-else w k ne = ap pick (ne_eqb w k ne)

pub times-more : (k j : ℕ) (ks : List ℕ) → times k (j ∷ ks) ≡ same_as j k + times k ks
times-more k j ks = sum_by-cons (λ (i : ℕ). pick (eqb i k)) j ks

pub times-one : (k j : ℕ) → times k (j ∷ []) ≡ same_as j k
times-one k j = let c = times-more k j [] in omega arith

pub times-none : (k : ℕ) (ks : List ℕ) → ks ≡ [] → times k ks ≡ 0
times-none k ks e = ap (times k) e

pub times-same : (k : ℕ) (j : ℕ) (ks : List ℕ) → ks ≡ j ∷ [] → times k ks ≡ same_as j k
times-same k j ks e = ap (times k) e ∙ times-one k j

pub below : {A : Type 0} (xs : List A) (k : ℕ) (x : A) → get_elem? xs k ≡ some x → k < length xs
below [] k x e = absurd (some-ne-none x (sym e))
below (y ∷ ys) zero x e = omega arith
below (y ∷ ys) (suc k) x e = omega (arith, below ys k x e)

-- the slots of hands to come are apart, and come after those of others
pub none-before : (n d k : ℕ) → k < spot (d + 1) → times k (spots_of n d) ≡ 0
none-before zero d k less = refl
none-before (suc n) d k less =
    let c = times-more k (spot (d + 1)) (spots_of n (d + 1)) in
    let s = same-else (spot (d + 1)) k (λ e. omega arith) in
    let r = none-before n (d + 1) k (omega arith) in
    omega arith

pub one-at-most : (n d k : ℕ) → times k (spots_of n d) ≤ 1
one-at-most zero d k = omega arith
one-at-most (suc n) d k =
    let c = times-more k (spot (d + 1)) (spots_of n (d + 1)) in
    dite (ℕ_discrete (spot (d + 1)) k)
    (λ e.
    let s = ap (λ j. same_as j k) e ∙ same-here k in
    let r = none-before n (d + 1) k (omega arith) in
    omega arith)
    (λ ne. let s = same-else (spot (d + 1)) k ne in let r = one-at-most n (d + 1) k in omega arith)

pub inside-all : (n d k : ℕ) → 0 < times k (spots_of n d) → k < spot (n + d + 1)
inside-all zero d k some_there = absurd (omega arith)
inside-all (suc n) d k some_there =
    let c = times-more k (spot (d + 1)) (spots_of n (d + 1)) in
    dite (ℕ_discrete (spot (d + 1)) k)
    (λ e. omega arith)
    (λ ne. let s = same-else (spot (d + 1)) k ne in let r = inside-all n (d + 1) k (omega arith) in omega arith)

-- empty slots at home
pub bare-at : {T : Type 0} (n k : ℕ) → k < n → get_elem? (map some (replicate {A = Option T} n None)) k ≡ some (some None)
bare-at zero k l = absurd (omega arith)
bare-at (suc n) zero l = refl
bare-at (suc n) (suc k) l = bare-at n k (omega arith)
