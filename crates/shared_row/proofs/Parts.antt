-- Of views that have parts of a whole, the one with all parts counts all, if a view with no part counts nothing.
use Rattle.std.proofs.Common.{◌≡◌, ℕ, zero, suc, List, [], ◌∷◌, sym, refl, ap, arith}
use Rattle.std.specs.Prelude.{sum_by}
use Rattle.std.proofs.lemmas.List.Sums.{sum_by-cons}
use mathlib.Core.Option.{some, some-injective, some-ne-none}
use lib.ListN.{get_elem?}
use Rattle.shared_row.proofs.Lists.{sum_by-member}

module _ {A : Type 0} (parts f : A → ℕ) where
  abbrev IdleIsNone : List A → Type 0
  IdleIsNone views = (k : ℕ) (v : A) → get_elem? views k ≡ some v → parts v ≡ 0 → f v ≡ 0

  none-count : (views : List A) → IdleIsNone views → sum_by parts views ≡ 0 → sum_by f views ≡ 0
  none-count [] idle e = refl
  none-count (v ∷ vs) idle e =
      let c = sum_by-cons parts v vs in
      let d = sum_by-cons f v vs in
      let z = idle zero v refl (omega arith) in
      omega (arith, none-count vs (λ k u at. idle (suc k) u at) (omega arith))

  pub counts-all : (views : List A) (id : ℕ) (v : A) → IdleIsNone views → get_elem? views id ≡ some v → sum_by parts views ≡ parts v
      → sum_by f views ≡ f v
  counts-all [] id v idle at e = absurd (some-ne-none v (sym at))
  counts-all (x ∷ xs) zero v idle at e =
      let s = some-injective x v at in
      let c = sum_by-cons parts x xs in
      let d = sum_by-cons f x xs in
      let p = ap parts s in
      let q = ap f s in
      omega (arith, none-count xs (λ k u at. idle (suc k) u at) (omega arith))
  counts-all (x ∷ xs) (suc id) v idle at e =
      let c = sum_by-cons parts x xs in
      let d = sum_by-cons f x xs in
      let m = sum_by-member parts xs id v at in
      let z = idle zero x refl (omega arith) in
      omega (arith, counts-all xs id v (λ k u at. idle (suc k) u at) at (omega arith))
