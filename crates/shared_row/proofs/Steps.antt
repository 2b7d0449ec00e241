-- Each step keeps the rule of a row.
use Rattle.std.proofs.Common.{◌≡◌, ◌≢◌, ℕ, zero, suc, ◌+◌, ◌<◌, Bool, eqb, List, [], ◌∷◌, replicate, length, get_or, set, sym, refl, ap, ◌∙◌, ⊎_elim, subst, arith, length-set, length-append, get_or-set_same, get_or-set_other, eq-eqb, ne_eqb}
use Rattle.std.specs.Prelude.{if◌then◌else◌, sum_by, Option, Some, None, IfNone}
use Rattle.std.proofs.lemmas.List.{length-replicate}
use Rattle.std.proofs.lemmas.List.Sums.{sum_by-cons, sum_by-append, sum_by_push}
use mathlib.Core.Logic.{dite}
use mathlib.Core.Option.{Option as Maybe, none, some, some-injective, some-ne-none}
use native.Mathlib.Decide.{ℕ_discrete}
use lib.ListN.{get_elem?}
use lib.Seq.{set-get_or}
use prog.Atomic.{either}
use Rattle.atomic_table.specs.Seated.{TableId}
use Rattle.atomic_table.specs.declared.shared.Seat.{Seat}
use Rattle.atomic_table.specs.Table.{State, Me, step, keeps, takes, gives, stepped, rest, opening, Allows, Splits, Joins}
use Rattle.atomic_table.proofs.Lists.{at_set, at_snoc, set_here, set_else}
use Rattle.shared_row.specs.declared.weighing.Sheet.{Sheet}
use Rattle.shared_row.specs.Spread.{spot, values_in, IsValue}
use Rattle.shared_row.specs.Weighing.{IsEven, CountsNothing, first_sheet, one_less, added, weight, times, holders, with_more, with_note, took, put}
use Rattle.shared_row.specs.Views.{pass_view, fresh_pass}
use Rattle.shared_row.proofs.Lists.{sum_by-change, sum_by-member, counts-length, tail-same, first-value}
use Rattle.shared_row.proofs.Slots.{homes-weigh, length-mapped, mapped}

abbrev nought : ℕ
nought = 0

abbrev pick : Bool → ℕ
pick b = if b then 1 else 0

-- a place is once more in a list, or not
times-here : (k : ℕ) (ks : List ℕ) → times (spot k) (k ∷ ks) ≡ 1 + times (spot k) ks
times-here k ks =
    let c = sum_by-cons (λ (j : ℕ). pick (eqb (spot j) (spot k))) k ks in
    let e : pick (eqb (spot k) (spot k)) ≡ 1 = ap pick (eq-eqb (spot k) (spot k) refl) in
    omega arith

times-else : (w j : ℕ) (ks : List ℕ) → w ≢ spot j → times w (j ∷ ks) ≡ times w ks
times-else w j ks other =
    let c = sum_by-cons (λ (i : ℕ). pick (eqb (spot i) w)) j ks in
    let e : pick (eqb (spot j) w) ≡ 0 = ap pick (ne_eqb (spot j) w (λ (e : spot j ≡ w). other (sym e))) in
    omega arith

pub holders-zero : (n : ℕ) → n ≡ 0 → holders n ≡ 0
holders-zero n e = ap (λ (b : Bool). if b then 0 else 1) (eq-eqb n 0 e)

pub holders-one : (n : ℕ) → n ≢ 0 → holders n ≡ 1
holders-one n e = ap (λ (b : Bool). if b then 0 else 1) (ne_eqb n 0 e)

pub holders-none : (n : ℕ) → holders n ≡ 0 → n ≡ 0
holders-none n e = dite (ℕ_discrete n 0) (λ zero. zero) (λ ne. let o = holders-one n ne in absurd (omega arith))

spot-same : (i j k : ℕ) → i ≡ spot j → i ≡ spot k → j ≡ k
spot-same i j k e f = omega arith

pub some-is-not-none : {T : Type 0} (X : Type 0) (o : Option T) (x : T) → Some x ≡ o → IfNone o X
some-is-not-none X o x e = subst (λ p. IfNone p X) e tt

Some-same : {T : Type 0} (x y : T) → Some x ≡ Some y → x ≡ y
Some-same {T} x y e = ap value e
  where
    value : Option T → T
    value None = x
    value (Some z) = z

module _ {T : Type 0} (left right : T → ℕ) (places passes : ℕ) where
  abbrev Row : Type 0
  Row = State (Option T) Sheet

  abbrev one : T → ℕ
  one x = 1

  -- a sheet that is a part of those that were made has taken the place of one
  still-idle : (st : State (Option T) Sheet) → IsEven left right places passes st → (id : ℕ) (w : Sheet) → 0 < w.parts → (j : ℕ) (u : Sheet)
      → get_elem? (set st.views id w) j ≡ some u → u.parts ≡ 0 → CountsNothing u
  still-idle st r id w some_parts j u is no_part =
      ⊎_elim (λ e. let p = ap (λ (s : Sheet). s.parts) e.1 in absurd (omega arith)) (λ e. r.idle j u e.1 no_part) (at_set st.views id j w u is)

  -- a word, a home and a view change
  changed : (st : Row) → IsEven left right places passes st → (i n : ℕ) → i < spot places → (h h' : Maybe (Option T)) (id : ℕ) (v w : Sheet)
      → get_elem? st.homes i ≡ some h → get_elem? st.views id ≡ some v → 0 < v.parts → w.parts ≡ v.parts
      → (n ≡ 0 → (x : T) × (h' ≡ some (Some x)))
      → (n ≢ 0 → h' ≡ none)
      → times i w.held + holders (get_or st.words i 0) ≡ times i v.held + holders n
      → ((j : ℕ) → j ≢ i → times j w.held ≡ times j v.held)
      → weight one h' + length w.held ≡ weight one h + length v.held
      → weight left h' + w.left + weight right h + v.right ≡ weight left h + v.left + weight right h' + w.right
      → IsEven left right places passes record { words = set st.words i n; homes = set st.homes i h'; views = set st.views id w }
  changed st r i n inside h h' id v w home at some_parts same there gone here others many balance =
      let wide = r.wide in
      let word_here : get_or (set st.words i n) i 0 ≡ n = get_or-set_same st.words i n 0 (omega arith) in
      let home_here : get_elem? (set st.homes i h') i ≡ some h' = set_here st.homes i h' (omega arith) in record {
        wide = (length-set st.words i n ∙ r.wide.0, length-set st.homes i h' ∙ r.wide.1);
        home = λ j below zero.
            dite (ℕ_discrete j i)
            (λ e. let t = there (sym (ap (λ (k : ℕ). get_or (set st.words i n) k 0) e ∙ word_here) ∙ zero) in
            (Some t.0, ap (λ (k : ℕ). get_elem? (set st.homes i h') k) e ∙ (home_here ∙ ap some t.1)))
            (λ ne. let t = r.home j below (sym (get_or-set_other st.words i j n 0 ne) ∙ zero) in (t.0, set_else st.homes i j h' ne ∙ t.1));
        out = λ j below other.
            dite (ℕ_discrete j i)
            (λ e. let now : n ≢ 0 = λ z. other (ap (λ (k : ℕ). get_or (set st.words i n) k 0) e ∙ (word_here ∙ z)) in
            ap (λ (k : ℕ). get_elem? (set st.homes i h') k) e ∙ (home_here ∙ ap some (gone now)))
            (λ ne. set_else st.homes i j h' ne ∙ r.out j below (λ z. other (get_or-set_other st.words i j n 0 ne ∙ z)));
        there = λ k below zero.
            dite (ℕ_discrete (spot k) i)
            (λ e. let t = there (sym (ap (λ (j : ℕ). get_or (set st.words i n) j 0) e ∙ word_here) ∙ zero) in
            (t.0, ap (λ (j : ℕ). get_elem? (set st.homes i h') j) e ∙ (home_here ∙ ap some t.1)))
            (λ ne. let t = r.there k below (sym (get_or-set_other st.words i (spot k) n 0 ne) ∙ zero) in (t.0, set_else st.homes i (spot k) h' ne ∙ t.1));
        held = λ j below.
            let c = sum_by-change (λ (u : Sheet). times j u.held) st.views id v w at in
            let q = r.held j below in
            dite (ℕ_discrete j i)
            (λ e.
            let now = ap (λ (k : ℕ). holders (get_or (set st.words i n) k 0)) e ∙ ap holders word_here in
            let was = ap (λ (k : ℕ). holders (get_or st.words k 0)) e in
            let a = ap (λ (k : ℕ). times k w.held) e in
            let b = ap (λ (k : ℕ). times k v.held) e in
            omega arith)
            (λ ne. let now = ap holders (get_or-set_other st.words i j n 0 ne) in let a = others j ne in omega arith);
        count =
            let a = sum_by-change (weight one) st.homes i h h' home in
            let b = sum_by-change (λ (u : Sheet). length u.held) st.views id v w at in
            let q = r.count in
            omega arith;
        parts = let c = sum_by-change (λ (u : Sheet). u.parts) st.views id v w at in let q = r.parts in omega arith;
        idle = still-idle st r id w (omega arith);
        even =
            let a = sum_by-change (weight left) st.homes i h h' home in
            let b = sum_by-change (weight right) st.homes i h h' home in
            let c = sum_by-change (λ (u : Sheet). u.left) st.views id v w at in
            let d = sum_by-change (λ (u : Sheet). u.right) st.views id v w at in
            let q = r.even in
            omega arith;
      }

  -- only notes change
  noted-still : (st : Row) → IsEven left right places passes st → (id : ℕ) (v : Sheet) (k n : ℕ) → get_elem? st.views id ≡ some v → 0 < v.parts
      → IsEven left right places passes record { words = st.words; homes = st.homes; views = set st.views id (with_note v k n) }
  noted-still st r id v k n at some_parts =
      let w : Sheet = with_note v k n in record {
        wide = r.wide;
        home = r.home;
        out = r.out;
        there = r.there;
        held = λ j below. let c = sum_by-change (λ (u : Sheet). times j u.held) st.views id v w at in let q = r.held j below in omega arith;
        count = let c = sum_by-change (λ (u : Sheet). length u.held) st.views id v w at in let q = r.count in omega arith;
        parts = let c = sum_by-change (λ (u : Sheet). u.parts) st.views id v w at in let q = r.parts in omega arith;
        idle = still-idle st r id w (omega arith);
        even =
            let c = sum_by-change (λ (u : Sheet). u.left) st.views id v w at in
            let d = sum_by-change (λ (u : Sheet). u.right) st.views id v w at in
            let q = r.even in
            omega arith;
      }

  pub taking : (homes id : ℕ) (me : Me (Option T) Sheet) (i k : ℕ) → i ≡ spot k → k < places → 0 < me.0.parts
      → Allows (IsEven left right places passes) homes id me i (λ n. either (eqb n 0) 1 n) (took left right (step homes i 0 1 none) me)
  taking homes id me i k is inside some_parts st r _ at _ =
      let n : ℕ = get_or st.words i 0 in
      dite (ℕ_discrete n 0)
      (λ free.
      let t = r.there k inside (sym (ap (λ (j : ℕ). get_or st.words j 0) is) ∙ free) in
      let home = ap (λ (j : ℕ). get_elem? st.homes j) is ∙ t.1 in
      let w : Sheet = with_more (with_note me.0 k 0) (left t.0) (right t.0) (k ∷ me.0.held) in
      let z = holders-zero n free in
      let one : either (eqb n 0) 1 n ≡ 1 = ap (λ (b : Bool). either b 1 n) (eq-eqb n 0 free) in (
        w,
        takes i (Some t.0),
        home,
        subst (λ (m : ℕ). IsEven left right places passes record { words = set st.words i m; homes = set st.homes i none; views = set st.views id w })
            (sym one)
            (changed st r i 1 (omega arith) (some (Some t.0)) none id me.0 w home at some_parts refl (λ e. absurd (omega arith)) (λ _. refl)
            (let a = times-here k me.0.held in
            let b = ap (λ (j : ℕ). times j (k ∷ me.0.held)) is in
            let c = ap (λ (j : ℕ). times j me.0.held) is in
            omega arith) (λ j ne. times-else j k me.0.held (λ e. ne (e ∙ sym is))) (omega arith) (omega arith)),
        λ j also. let same : k ≡ j = spot-same i k j is also in (
          (λ _. (t.0, λ s. (with_more (with_note me.0 (same s) 0) (left t.0) (right t.0) (same s ∷ me.0.held), (i, Some t.0) ∷ me.1))),
          (λ other. absurd (other free)),
        ),
      ))
      (λ busy.
      let same : either (eqb n 0) 1 n ≡ n = ap (λ (b : Bool). either b 1 n) (ne_eqb n 0 busy) in (
        with_note me.0 k n,
        keeps,
        tt,
        subst (λ (ws : List ℕ). IsEven left right places passes record { words = ws; homes = st.homes; views = set st.views id (with_note me.0 k n) })
            (sym (ap (λ (m : ℕ). set st.words i m) same ∙ set-get_or st.words i 0)) (noted-still st r id me.0 k n at some_parts),
        λ j also. let here : k ≡ j = spot-same i k j is also in
            ((λ free. absurd (busy free)), (λ _. λ s. (with_note me.0 (here s) n, me.1))),
      ))

  pub putting : (homes id : ℕ) (me : Me (Option T) Sheet) (i k : ℕ) → i ≡ spot k → k < places → 0 < me.0.parts
      → (x : T) (ks : List ℕ) → me.1 ≡ (i, Some x) ∷ rest me.1 → me.0.held ≡ k ∷ ks
      → Allows (IsEven left right places passes) homes id me i (λ _. 0) (λ _. put left right (step homes i 0 0 none) me 0)
  putting homes id me i k is inside some_parts x ks has own st r _ at _ =
      let w : Sheet = with_more me.0 (right x) (left x) ks in
      let t = times-here k ks in
      let o = ap (times (spot k)) own in
      let lists = ap (λ (j : ℕ). times j me.0.held) is in
      let fewer = ap (λ (j : ℕ). times j ks) is in
      let m = sum_by-member (λ (u : Sheet). times i u.held) st.views id me.0 at in
      let q = r.held i (omega arith) in
      let busy : get_or st.words i 0 ≢ 0 = λ free. let z = holders-zero (get_or st.words i 0) free in absurd (omega arith) in
      let b = holders-one (get_or st.words i 0) busy in
      let g = r.out i (omega arith) busy in
      let long = ap (λ (ls : List ℕ). length ls) own in (
        w,
        gives,
        tt,
        subst (λ (c : List (ℕ × Option T)). IsEven left right places passes (stepped st i 0 id c w gives)) (sym has)
            (changed st r i 0 (omega arith) none (some (Some x)) id me.0 w g at some_parts refl (λ _. (x, refl)) (λ ne. absurd (ne refl))
            (omega arith) (λ j ne. let a = times-else j k ks (λ e. ne (e ∙ sym is)) in let c = ap (times j) own in omega arith)
            (omega arith) (omega arith)),
        (λ y j js also e f.
            let one : x ≡ y = Some-same x y (first-value (sym has ∙ e)) in
            let rest_same : ks ≡ js = tail-same k j ks js (sym own ∙ f) in
            λ s. (with_more me.0 (right (one s)) (left (one s)) (rest_same s), rest me.1)),
      )

  pub splitting : (id : ℕ) (v : Sheet) (n : ℕ) → v ≡ first_sheet n → 0 < n
      → Splits (IsEven left right places passes) id v (one_less v) (first_sheet 1)
  splitting id v n is more st r at =
      let w : Sheet = one_less v in
      let n-parts = ap (λ (s : Sheet). s.parts) is in
      let n-left = ap (λ (s : Sheet). s.left) is in
      let n-right = ap (λ (s : Sheet). s.right) is in
      let n-held = ap (λ (s : Sheet). s.held) is in
      let still : (u : Sheet) → w ≡ u → CountsNothing u = λ u e. subst CountsNothing e (n-left, n-right, n-held) in record {
        wide = r.wide;
        home = r.home;
        out = r.out;
        there = r.there;
        held = λ j below.
            let a = sum_by-change (λ (u : Sheet). times j u.held) st.views id v w at in
            let b = sum_by_push (λ (u : Sheet). times j u.held) (set st.views id w) (first_sheet 1) in
            let q = r.held j below in
            omega arith;
        count =
            let a = sum_by-change (λ (u : Sheet). length u.held) st.views id v w at in
            let b = sum_by_push (λ (u : Sheet). length u.held) (set st.views id w) (first_sheet 1) in
            let q = r.count in
            omega arith;
        parts =
            let a = sum_by-change (λ (u : Sheet). u.parts) st.views id v w at in
            let b = sum_by_push (λ (u : Sheet). u.parts) (set st.views id w) (first_sheet 1) in
            let q = r.parts in
            omega arith;
        idle = λ j u there none.
            ⊎_elim
            (λ e. ⊎_elim (λ f. still u f.1) (λ f. r.idle j u f.1 none) (at_set st.views id j w u e))
            (λ e. let p = ap (λ (s : Sheet). s.parts) e in absurd (omega arith))
            (at_snoc (set st.views id w) (first_sheet 1) u j there);
        even =
            let a = sum_by-change (λ (u : Sheet). u.left) st.views id v w at in
            let b = sum_by_push (λ (u : Sheet). u.left) (set st.views id w) (first_sheet 1) in
            let c = sum_by-change (λ (u : Sheet). u.right) st.views id v w at in
            let d = sum_by_push (λ (u : Sheet). u.right) (set st.views id w) (first_sheet 1) in
            let q = r.even in
            omega arith;
      }

  pub joining : (id : ℕ) (v : Sheet) (other : ℕ) (w : Sheet) → 0 < v.parts
      → Joins (IsEven left right places passes) id v other w (added v w) (first_sheet 0)
  joining id v other w some_parts st r at apart there =
      let both : Sheet = added v w in record {
        wide = r.wide;
        home = r.home;
        out = r.out;
        there = r.there;
        held = λ j below.
            let a = sum_by-change (λ (u : Sheet). times j u.held) st.views id v both at in
            let b = sum_by-change (λ (u : Sheet). times j u.held) (set st.views id both) other w (first_sheet 0) there in
            let c = sum_by-append (λ (i : ℕ). pick (eqb (spot i) j)) v.held w.held in
            let q = r.held j below in
            omega arith;
        count =
            let a = sum_by-change (λ (u : Sheet). length u.held) st.views id v both at in
            let b = sum_by-change (λ (u : Sheet). length u.held) (set st.views id both) other w (first_sheet 0) there in
            let c = length-append v.held w.held in
            let q = r.count in
            omega arith;
        parts =
            let a = sum_by-change (λ (u : Sheet). u.parts) st.views id v both at in
            let b = sum_by-change (λ (u : Sheet). u.parts) (set st.views id both) other w (first_sheet 0) there in
            let q = r.parts in
            omega arith;
        idle = λ j u here no_part.
            ⊎_elim
            (λ e. subst CountsNothing e.1 (refl, refl, refl))
            (λ e. still-idle st r id both (omega arith) j u e.1 no_part)
            (at_set (set st.views id both) other j (first_sheet 0) u here);
        even =
            let a = sum_by-change (λ (u : Sheet). u.left) st.views id v both at in
            let b = sum_by-change (λ (u : Sheet). u.left) (set st.views id both) other w (first_sheet 0) there in
            let c = sum_by-change (λ (u : Sheet). u.right) st.views id v both at in
            let d = sum_by-change (λ (u : Sheet). u.right) (set st.views id both) other w (first_sheet 0) there in
            let q = r.even in
            omega arith;
      }

  -- at the start all values are in their places
  pub begins : (words : List ℕ) (slots : List (Option T)) (values : List T) → words ≡ replicate (spot places) 0 → length slots ≡ spot places
      → values_in slots ≡ values
      → length values ≡ places → ((k : ℕ) → k < places → IsValue (get_or slots (spot k) None)) → sum_by left values ≡ sum_by right values
      → IsEven left right places passes (opening words slots (first_sheet passes))
  begins words slots values zeros many are all in_places same = record {
    wide = (ap length zeros ∙ length-replicate (spot places) 0, length-mapped slots ∙ many);
    home = λ j below zero. (get_or slots j None, mapped slots j (omega arith));
    out = λ j below other. absurd (other (is-zero j));
    there = λ k below zero. let a = in_places k below in (a.0, mapped slots (spot k) (omega arith) ∙ ap (λ o. some (some o)) a.1);
    held = λ j below. sym (holders-zero (get_or words j nought) (is-zero j));
    count =
        let a = homes-weigh one slots in
        let b = ap (sum_by one) are in
        let c = counts-length values in
        omega arith;
    parts = let c = sum_by-cons (λ (u : Sheet). u.parts) (first_sheet passes) [] in omega arith;
    idle = λ id v at none. first-idle id v at;
    even =
        let a = homes-weigh left slots in
        let b = homes-weigh right slots in
        let c = ap (sum_by left) are in
        let d = ap (sum_by right) are in
        omega arith;
  }
    where
      get_or-zeros : (n k : ℕ) → get_or (replicate n nought) k nought ≡ nought
      get_or-zeros zero k = refl
      get_or-zeros (suc n) zero = refl
      get_or-zeros (suc n) (suc k) = get_or-zeros n k

      is-zero : (j : ℕ) → get_or words j nought ≡ nought
      is-zero j = ap (λ (ws : List ℕ). get_or ws j nought) zeros ∙ get_or-zeros (spot places) j

      first-idle : (id : ℕ) (v : Sheet) → get_elem? (first_sheet passes ∷ []) id ≡ some v → CountsNothing v
      first-idle zero v at = subst CountsNothing (some-injective (first_sheet passes) v at) (refl, refl, refl)
      first-idle (suc id) v at = absurd (some-ne-none v (sym at))

pub fresh-view : {T : Type 0} (p : Seat (Option T) Sheet) (z : TableId) → p.table_id ≡ z → p.me.0 ≡ first_sheet 1 → pass_view p ≡ fresh_pass z
fresh-view p z t m = λ i. record { table = t i; parts = (m i).parts; left = (m i).left; right = (m i).right; out = (m i).held; notes = (m i).notes }
