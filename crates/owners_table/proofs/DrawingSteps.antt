-- Each step keeps the rule of the tickets.
use Rattle.std.proofs.Common.{◌≡◌, ℕ, ◌+◌, ◌%◌, ◌^◌, ◌<◌, ◌≤◌, Bool, true, false, List, [], ◌∷◌, ◌++◌, length, get_or, set, take, drop, sym, refl}
use Rattle.std.proofs.Common.{ap, ◌∙◌, arith, length-set, get_or-set_same}
use Rattle.std.specs.Prelude.{if◌then◌else◌, ◌==◌, nat_lt, nat_le, sum_by}
use Rattle.std.proofs.lemmas.Bool.Decides.{nat_tests}
use Rattle.std.proofs.lemmas.List.Sums.{sum_by-cons, sum_by_push}
use mathlib.Core.Option.{none, some}
use lib.ListN.{get_elem?}
use Rattle.atomic_table.specs.Table.{State, Me, step, keeps, Allows, Splits, Joins}
use Rattle.owners_table.specs.declared.drawing.TicketSheet.{TicketSheet}
use Rattle.owners_table.specs.Sheets.{first_or}
use Rattle.owners_table.specs.Drawing.{NeverWraps, Drawn, times, late, passes, faults, blank, after_draw, drew}
use Rattle.owners_table.proofs.Sums.{sum_by-change, sum_by-member, sum_by-split, sum_by-join, sum-is_additive, length-is_additive}

abbrev pub View : Type 0
View = List TicketSheet

abbrev Table : Type 0
Table = State (Unit {0}) View

single : (f : TicketSheet → ℕ) (t : TicketSheet) → sum_by f (t ∷ []) ≡ f t
single f t = omega arith

-- f changes at one sheet, which is alone in its view
alone : (f : TicketSheet → ℕ) (views : List View) (id : ℕ) (t u : TicketSheet) → get_elem? views id ≡ some (t ∷ [])
    → sum_by (sum_by f) (set views id (u ∷ [])) + f t ≡ sum_by (sum_by f) views + f u
alone f views id t u at = let c = sum_by-change (sum_by f) views id (t ∷ []) (u ∷ []) at in let a = single f t in let b = single f u in omega arith

known : (limit : ℕ) (t : TicketSheet) → faults limit t ≡ 0 → t.limit ≡ limit
known limit t sound = grind (arith, nat_tests)

abbrev one_if : Bool → ℕ
one_if b = if b then 1 else 0

-- 1 where the number is late
abbrev tardy : ℕ → ℕ → ℕ
tardy limit n = if nat_lt n limit then 0 else 1

drawn-late : (limit n : ℕ) (xs : List ℕ) → late limit (xs ++ n ∷ []) ≡ late limit xs + tardy limit n
drawn-late limit n xs = let p = sum_by_push (λ x. if nat_le limit x then 1 else 0) xs n in let e = turned limit n in omega arith
  where
    turned : (limit n : ℕ) → (if nat_le limit n then 1 else 0) ≡ tardy limit n
    turned limit n = grind (arith, nat_tests)

fresh-passes : (t : TicketSheet) → t.passed ≡ false → passes t ≡ 0
fresh-passes t e = ap one_if e

after-passes : (limit n : ℕ) (t : TicketSheet) → t.passed ≡ false → t.limit ≡ limit → passes (after_draw n t) ≡ tardy limit n
after-passes limit n t fresh e =
    ap (λ (l : ℕ). passes (record { limit = l; drawn = t.drawn ++ n ∷ []; passed = if nat_lt n l then t.passed else true })) e ∙ go (nat_lt n limit) fresh
  where
    unless : Bool → ℕ
    unless b = if b then 0 else 1

    go : (b : Bool) → t.passed ≡ false → one_if (if b then t.passed else true) ≡ unless b
    go true e = ap one_if e
    go false e = refl

still : (limit n : ℕ) (t : TicketSheet) → t.passed ≡ false → faults limit t ≡ 0 → faults limit (after_draw n t) ≡ 0
still limit n t fresh sound =
    let e = known limit t sound in
    let a = after-passes limit n t fresh e in
    let b = fresh-passes t fresh in
    let l = drawn-late limit n t.drawn in
    omega arith

counted : (x n : ℕ) → (if nat_lt x (n + 1) then 1 else 0) ≡ (if nat_lt x n then 1 else 0) + (if n == x then 1 else 0)
counted x n = grind (arith, nat_tests)

drawn-times : (x n : ℕ) (xs : List ℕ) → times x (xs ++ n ∷ []) ≡ times x xs + (if n == x then 1 else 0)
drawn-times x n xs = sum_by_push (λ y. if y == x then 1 else 0) xs n

tardy-bound : (n limit p : ℕ) → n ≤ limit + p → n + 1 ≤ limit + (p + tardy limit n)
tardy-bound n limit p l = grind (arith, nat_tests)

tardy-passed : (n limit p : ℕ) → (0 < p → limit < n) → 0 < p + tardy limit n → limit < n + 1
tardy-passed n limit p before l = grind (arith, nat_tests)

passes-one : (t : TicketSheet) → passes t ≤ 1
passes-one t = go t.passed
  where
    go : (b : Bool) → one_if b ≤ 1
    go true = omega arith
    go false = omega arith

sheets-pass : (v : View) → sum_by passes v ≤ length v
sheets-pass [] = omega arith
sheets-pass (t ∷ ts) = let c = sum_by-cons passes t ts in let p = passes-one t in omega (arith, sheets-pass ts)

-- at most as many sheets passed the limit as there are
few_pass : (views : List View) (seats : ℕ) → sum_by length views ≡ seats → sum_by (sum_by passes) views ≤ seats
few_pass [] seats e = omega arith
few_pass (v ∷ vs) seats e =
    let c = sum_by-cons (sum_by passes) v vs in let d = sum_by-cons length v vs in let p = sheets-pass v in omega (arith, few_pass vs (sum_by length vs) refl)

as_many : (views : List View) (id : ℕ) (t u : TicketSheet) → get_elem? views id ≡ some (t ∷ []) → sum_by length (set views id (u ∷ [])) ≡ sum_by length views
as_many views id t u at = let c = sum_by-change (λ (v : View). length v) views id (t ∷ []) (u ∷ []) at in omega arith

-- where a sheet has not, fewer have
one_fresh : (views : List View) (seats id : ℕ) (t : TicketSheet) → sum_by length views ≡ seats → get_elem? views id ≡ some (t ∷ [])
    → t.passed ≡ false → sum_by (sum_by passes) views + 1 ≤ seats
one_fresh views seats id t e at fresh =
    let u : TicketSheet = record { limit = t.limit; drawn = t.drawn; passed = true } in
    let a = alone passes views id t u at in
    let b = fresh-passes t fresh in
    let f = few_pass (set views id (u ∷ [])) seats (as_many views id t u at ∙ e) in
    omega arith

pub draws : (limit seats homes id : ℕ) (me : Me (Unit {0}) View) (t : TicketSheet) → me.0 ≡ t ∷ [] → t.passed ≡ false
    → Allows (Drawn limit seats) homes id me 0 (λ n. (n + 1) % 2 ^ 64) (drew (step homes 0 1 0 none) me)
draws limit seats homes id me t one fresh st r _ at _ =
    let n : ℕ = get_or st.words 0 0 in
    let u : TicketSheet = after_draw n t in
    let here : get_elem? st.views id ≡ some (t ∷ []) = at ∙ ap some one in
    let sound : faults limit t ≡ 0 =
    let m = sum_by-member (sum_by (faults limit)) st.views id (t ∷ []) here in let s = single (faults limit) t in let k = r.sound in omega arith in
    let late = after-passes limit n t fresh (known limit t sound) in
    let early = fresh-passes t fresh in
    let passing = alone passes st.views id t u here in
    let wide = r.wide in
    let now : get_or (set st.words 0 ((n + 1) % 18446744073709551616)) 0 0 ≡ (n + 1) % 18446744073709551616 =
    get_or-set_same st.words 0 ((n + 1) % 18446744073709551616) 0 (omega arith) in
    let next : NeverWraps limit seats → get_or (set st.words 0 ((n + 1) % 18446744073709551616)) 0 0 ≡ n + 1 = λ few. let b = r.bound few in let f = one_fresh st.views seats id t r.sheets here fresh in omega arith in (
      u ∷ [],
      keeps,
      tt,
      record {
        wide = length-set st.words 0 ((n + 1) % 18446744073709551616) ∙ r.wide;
        sheets = as_many st.views id t u here ∙ r.sheets;
        sound = let c = alone (faults limit) st.views id t u here in let k = r.sound in let z = still limit n t fresh sound in omega arith;
        once = λ few x.
            let c = alone (λ s. times x s.drawn) st.views id t u here in
            let d = drawn-times x n t.drawn in
            let q = r.once few x in
            let m = counted x n in
            let e = ap (λ (w : ℕ). one_if (nat_lt x w)) (next few) in
            omega arith;
        bound = λ few. let b = tardy-bound n limit (sum_by (sum_by passes) st.views) (r.bound few) in let e = next few in omega arith;
        passed = λ few some. let p = tardy-passed n limit (sum_by (sum_by passes) st.views) (r.passed few) (omega arith) in let e = next few in omega arith;
      },
      (refl, λ s e. ap (λ (v : View). after_draw n (first_or (blank 0) v) ∷ []) (sym one ∙ e)),
    )

abbrev passed_after : Bool → Bool → Bool
passed_after below passed = if below then passed else true

-- a number below the limit leaves the sheet as it was, and a late one does not
pub draws-below : (n limit : ℕ) (t : TicketSheet) → t.limit ≡ limit → n < limit → (after_draw n t).passed ≡ t.passed
draws-below n limit t e below = ap (λ (b : Bool). passed_after b t.passed) (test-below n t.limit (omega arith))
  where
    test-below : (n m : ℕ) → n < m → nat_lt n m ≡ true
    test-below n m l = grind (arith, nat_tests)

pub draws-late : (n limit : ℕ) (t : TicketSheet) → t.limit ≡ limit → limit ≤ n → (after_draw n t).passed ≡ true
draws-late n limit t e late = ap (λ (b : Bool). passed_after b t.passed) (test-late n t.limit (omega arith))
  where
    test-late : (n m : ℕ) → m ≤ n → nat_lt n m ≡ false
    test-late n m l = grind (arith, nat_tests)

-- a step that moves sheets from seat to seat
moved : (limit seats : ℕ) (st : Table) → Drawn limit seats st → (views : List View) → sum_by length views ≡ sum_by length st.views
    → ((f : TicketSheet → ℕ) → sum_by (sum_by f) views ≡ sum_by (sum_by f) st.views)
    → Drawn limit seats record { words = st.words; homes = st.homes; views = views }
moved limit seats st r views as_many same = record {
  wide = r.wide;
  sheets = as_many ∙ r.sheets;
  sound = same (faults limit) ∙ r.sound;
  once = λ few x. same (λ t. times x t.drawn) ∙ r.once few x;
  bound = λ few. let e = same passes in let b = r.bound few in omega arith;
  passed = λ few some. r.passed few (let e = same passes in omega arith);
}

pub splits : (limit seats id : ℕ) (v : View) → Splits (Drawn limit seats) id v (drop 1 v) (take 1 v)
splits limit seats id v st r at =
    moved limit seats st r (set st.views id (drop 1 v) ++ take 1 v ∷ []) (sum_by-split (λ (u : View). length u) length-is_additive st.views id v at) (λ f. sum_by-split (sum_by f) (sum-is_additive f) st.views id v at)

pub joins : (limit seats id : ℕ) (v : View) (other : ℕ) (w : View) → Joins (Drawn limit seats) id v other w (v ++ w) []
joins limit seats id v other w st r at apart there =
    moved limit seats st r (set (set st.views id (v ++ w)) other []) (sum_by-join (λ (u : View). length u) length-is_additive st.views id v other w at there)
    (λ f. sum_by-join (sum_by f) (sum-is_additive f) st.views id v other w at there)
