-- What all seats of closed tickets drew.
use Rattle.std.proofs.Common.{◌≡◌, ℕ, zero, suc, ◌<◌, ◌≤◌, Bool, true, List, [], ◌∷◌, length, get_or, map, reverse, Any, ap, ◌∙◌, arith}
use Rattle.std.specs.Prelude.{if◌then◌else◌, nat_lt, sum_by}
use Rattle.std.proofs.lemmas.Bool.Decides.{nat_tests}
use Rattle.std.proofs.lemmas.List.Sums.{sum_by-cons}
use mathlib.Core.Option.{some}
use lib.ListN.{get_elem?}
use Rattle.atomic_table.specs.Table.{State}
use Rattle.owners_table.specs.declared.drawing.TicketSheet.{TicketSheet}
use Rattle.owners_table.specs.Drawing.{TicketView, Drawn, NeverWraps, times, passes, times_drawn, sheet}
use Rattle.owners_table.proofs.Sums.{sum_by-member, sum_by-whole}
use Rattle.owners_table.proofs.Joining.{sum_by-joined, length-joined}
use Rattle.owners_table.proofs.DrawingSteps.{View}

abbrev one_if : Bool → ℕ
one_if b = if b then 1 else 0

at-most-one : (x w : ℕ) → one_if (nat_lt x w) ≤ 1
at-most-one x w = grind (arith, nat_tests)

one-below : (x w : ℕ) → x < w → one_if (nat_lt x w) ≡ 1
one-below x w l = grind (arith, nat_tests)

passed-one : (b : Bool) → b ≡ true → one_if b ≡ 1
passed-one b e = grind (arith, nat_tests)

-- where a seat passed the limit, so did a sheet
some-passed : (seats : List TicketView) → Any (λ s. s.passed ≡ true) seats → 0 < sum_by (λ s. passes (sheet s)) seats
some-passed [] (k, s, l, at, p) = absurd (omega arith)
some-passed (s ∷ ss) (zero, t, l, at, p) =
    let c = sum_by-cons (λ s. passes (sheet s)) s ss in let e = passed-one s.passed (ap (λ (v : TicketView). v.passed) at ∙ p) in omega arith
some-passed (s ∷ ss) (suc k, t, l, at, p) = let c = sum_by-cons (λ s. passes (sheet s)) s ss in let r = some-passed ss (k, t, omega arith, at, p) in omega arith

module _ (limit seats : ℕ) (st : State (Unit {0}) View) (id : ℕ) (r : Drawn limit seats st) (items : List TicketView) (at : get_elem? st.views id ≡ some (reverse (map sheet items))) (few : NeverWraps limit seats) where
  pub drawn-once : (x : ℕ) → times_drawn x items ≤ 1
  drawn-once x =
      let j = sum_by-joined sheet (λ (t : TicketSheet). times x t.drawn) items in
      let m = sum_by-member (sum_by (λ (t : TicketSheet). times x t.drawn)) st.views id (reverse (map sheet items)) at in
      let o = r.once few x in
      let one = at-most-one x (get_or st.words 0 0) in
      omega arith

  pub drawn-each : length items ≡ seats → Any (λ s. s.passed ≡ true) items → (x : ℕ) → x < limit → times_drawn x items ≡ 1
  drawn-each whole told x below =
      let j = sum_by-joined sheet (λ (t : TicketSheet). times x t.drawn) items in
      let n = length-joined sheet items in
      let q = r.sheets in
      let w = sum_by-whole (λ (t : TicketSheet). times x t.drawn) st.views id (reverse (map sheet items)) at (omega arith) in
      let p = some-passed items told in
      let k = sum_by-joined sheet passes items in
      let m = sum_by-member (sum_by passes) st.views id (reverse (map sheet items)) at in
      let past = r.passed few (omega arith) in
      let o = r.once few x in
      let one = one-below x (get_or st.words 0 0) (omega arith) in
      omega arith
