-- What a closed row has.
use Rattle.std.proofs.Common.{◌≡◌, ℕ, zero, suc, ◌+◌, ◌<◌, List, [], ◌∷◌, length, get_or, sym, refl, ap, ◌∙◌, arith}
use Rattle.std.specs.Prelude.{sum_by, Option}
use Rattle.std.proofs.lemmas.List.Sums.{sum_by-cons}
use mathlib.Core.Option.{Option as Maybe, some, some-injective}
use lib.ListN.{get_elem?}
use Rattle.atomic_table.specs.Table.{State}
use Rattle.shared_row.specs.declared.weighing.Sheet.{Sheet}
use Rattle.shared_row.specs.Spread.{values_in}
use Rattle.shared_row.specs.Weighing.{IsEven, IsHome, in_option, weight, times}
use Rattle.shared_row.proofs.Parts.{counts-all}
use Rattle.shared_row.proofs.Lists.{counts-length}
use Rattle.shared_row.proofs.Slots.{values-weigh}
use Rattle.shared_row.proofs.Steps.{holders-none}

module _ {T : Type 0} where
  -- if each slot is at home, the slots weigh what is at home
  pub all-home : (f : T → ℕ) (homes : List (Maybe (Option T))) (slots : List (Option T)) → length homes ≡ length slots
      → ((k : ℕ) → k < length homes → IsHome homes k)
      → ((k : ℕ) (y : Option T) → get_elem? homes k ≡ some (some y) → get_elem? slots k ≡ some y)
      → sum_by (weight f) homes ≡ sum_by (in_option f) slots
  all-home f [] [] e home same = refl
  all-home f [] (y ∷ ys) e home same = absurd (omega arith)
  all-home f (h ∷ hs) [] e home same = absurd (omega arith)
  all-home f (h ∷ hs) (y ∷ ys) e home same =
      let t = home zero (omega arith) in
      let first : y ≡ t.0 = some-injective y t.0 (same zero t.0 t.1) in
      let here : h ≡ some t.0 = some-injective h (some t.0) t.1 in
      let a = sum_by-cons (weight f) h hs in
      let b = sum_by-cons (in_option f) y ys in
      let c = ap (weight f) here in
      let d = ap (in_option f) first in
      let g = weight-some t.0 in
      let q = all-home f hs ys (omega arith) (λ k l. home (suc k) (omega arith)) (λ k z at. same (suc k) z at) in
      omega arith
    where
      weight-some : (o : Option T) → weight f (some o) ≡ in_option f o
      weight-some Rattle.std.specs.Prelude.None = refl
      weight-some (Rattle.std.specs.Prelude.Some x) = refl

  module _ (left right : T → ℕ) (places passes : ℕ) (st : State (Option T) Sheet) (r : IsEven left right places passes st) (id : ℕ) (v : Sheet)
      (at : get_elem? st.views id ≡ some v) (whole : v.parts ≡ passes) (none_out : v.held ≡ []) where
    abbrev alone : Type 0
    alone = sum_by (λ v. v.parts) st.views ≡ v.parts

    only : alone
    only = r.parts ∙ sym whole

    each-home : (j : ℕ) → j < length st.homes → IsHome st.homes j
    each-home j below =
        let wide = r.wide in
        let c = counts-all (λ (u : Sheet). u.parts) (λ (u : Sheet). times j u.held) st.views id v
        (λ i u there none. ap (times j) (r.idle i u there none).2) at only in
        let z = ap (times j) none_out in
        let q = r.held j (omega arith) in
        r.home j (omega arith) (holders-none (get_or st.words j 0) (omega arith))

    -- the values of the last state, and the books
    pub ends : (slots : List (Option T)) → length st.homes ≡ length slots
        → ((k : ℕ) (y : Option T) → get_elem? st.homes k ≡ some (some y) → get_elem? slots k ≡ some y)
        → (length (values_in slots) ≡ places) × (sum_by left (values_in slots) + v.left ≡ sum_by right (values_in slots) + v.right)
    ends slots long same =
        let l = all-home left st.homes slots long each-home same in
        let m = all-home right st.homes slots long each-home same in
        let n = all-home (λ (x : T). 1) st.homes slots long each-home same in
        let o = values-weigh left slots in
        let p = values-weigh right slots in
        let q = values-weigh (λ (x : T). 1) slots in
        let s = counts-length (values_in slots) in
        let a = counts-all (λ (u : Sheet). u.parts) (λ (u : Sheet). u.left) st.views id v (λ i u there none. (r.idle i u there none).0) at only in
        let b = counts-all (λ (u : Sheet). u.parts) (λ (u : Sheet). u.right) st.views id v (λ i u there none. (r.idle i u there none).1) at only in
        let c = counts-all (λ (u : Sheet). u.parts) (λ (u : Sheet). length u.held) st.views id v
        (λ i u there none. ap (λ (ls : List ℕ). length ls) (r.idle i u there none).2) at only in
        let z = ap (λ (ls : List ℕ). length ls) none_out in
        let d = r.count in
        let e = r.even in
        (omega arith, omega arith)
