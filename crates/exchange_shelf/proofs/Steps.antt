-- Each step keeps the rule of shelves.
use Rattle.std.proofs.Common.{◌≡◌, ◌≢◌, ℕ, zero, suc, ◌+◌, ◌-◌, ◌<◌, Bool, eqb, List, [], ◌∷◌, ◌++◌, length, map, take, drop, replicate, get_or, set, sym, refl, ap, ◌∙◌, ⊎_elim, subst, arith, length-set, get_or-set_same}
use Rattle.std.specs.Prelude.{sum_by, if◌then◌else◌, Option, None}
use Rattle.std.proofs.lemmas.List.{take-append-drop, length-replicate}
use Rattle.std.proofs.lemmas.List.Sums.{sum_by-cons, sum_by-append, sum_by_push}
use mathlib.Core.Logic.{dite}
use mathlib.Core.Option.{none, some, some-injective, some-ne-none}
use native.Mathlib.Decide.{ℕ_discrete}
use lib.ListN.{get_elem?}
use lib.Seq.{set-get_or}
use Rattle.atomic_table.specs.Table.{State, Me, step, gives, takes, chain, put_back, stepped, rest, opening, Valid, Allows, Splits, Joins}
use Rattle.atomic_table.proofs.Lists.{at_set, at_snoc, set_here, set_else}
use Rattle.shared_row.specs.Spread.{spot}
use Rattle.shared_row.proofs.Lists.{sum_by-change, sum_by-member, first-value}
use Rattle.exchange_shelf.specs.declared.passing.Sheet.{Sheet}
use Rattle.exchange_shelf.specs.Passing.{IsShelf, CountsNothing, holders, takers, times, same_as, one_if, blank, first_sheet, spots_of, one_less, first_of, added, with_slots, after_swap, of_slot, exchanged, drew, returned}
use Rattle.exchange_shelf.proofs.Slots.{same-here, same-else, times-none, times-same, times-one, below, none-before, one-at-most, inside-all, bare-at}

abbrev pick : Bool → ℕ
pick b = if b then 1 else 0

head-same : (k j : ℕ) (xs ks : List ℕ) → xs ≡ k ∷ ks → xs ≡ j ∷ ks → k ≡ j
head-same k j xs ks e f = ap head (sym e ∙ f)
  where
    head : List ℕ → ℕ
    head [] = k
    head (x ∷ xs) = x

module _ {T : Type 0} (slots hands : ℕ) where
  -- a sheet that is a hand has taken the place of one
  still-idle : (st : State (Option T) Sheet) → IsShelf slots hands st → (id : ℕ) (w : Sheet) → 0 < w.parts → (j : ℕ) (u : Sheet)
      → get_elem? (set st.views id w) j ≡ some u → u.parts ≡ 0 → CountsNothing u
  still-idle st r id w some_parts j u is no_part =
      ⊎_elim (λ e. let p = ap (λ (s : Sheet). s.parts) e.1 in absurd (omega arith)) (λ e. r.idle j u e.1 no_part) (at_set st.views id j w u is)

  -- one sheet changes, with as many hands
  parts-kept : (st : State (Option T) Sheet) → IsShelf slots hands st → (id : ℕ) (v w : Sheet) → get_elem? st.views id ≡ some v
      → w.parts ≡ v.parts → sum_by (λ (u : Sheet). u.parts) (set st.views id w) ≡ hands
  parts-kept st r id v w at same = let c = sum_by-change (λ (u : Sheet). u.parts) st.views id v w at in let p = r.parts in omega arith

  -- and with what it put and got
  counts-kept : (st : State (Option T) Sheet) (r : IsShelf slots hands st) (id : ℕ) (v w : Sheet) → get_elem? st.views id ≡ some v → w.puts ≡ v.puts
      → w.gets ≡ v.gets → sum_by (λ (u : Sheet). u.puts) (set st.views id w) ≡ sum_by (λ (u : Sheet). u.gets) (set st.views id w) + one_if r.there.0
  counts-kept st r id v w at puts gets =
      let a = sum_by-change (λ (u : Sheet). u.puts) st.views id v w at in
      let b = sum_by-change (λ (u : Sheet). u.gets) st.views id v w at in
      let e = r.there.2 in
      omega arith

  pub exchanging : (homes id : ℕ) (me : Me (Option T) Sheet) (k : ℕ) (v : Option T) → me.1 ≡ (k, v) ∷ [] → me.0.held ≡ k ∷ [] → 0 < me.0.parts
      → Allows (IsShelf {T = T} slots hands) homes id me 16 (λ _. k) (exchanged (step homes 16 k 0 none) me)
  exchanging homes id me k v has own some_parts st r _ at _ =
      let w : ℕ = get_or st.words 16 0 in
      let y : Option T = r.there.0 in
      let now : Sheet = after_swap me.0 (one_if v) (one_if y) w in
      let wide = r.wide in
      let m = sum_by-member (λ (u : Sheet). times k u.held) st.views id me.0 at in
      let o = times-same k k me.0.held own in
      let s = same-here k in
      let q = r.one k in
      let inside : k < slots = r.inside k (omega arith) in
      let apart : w ≢ k = λ e. let z = ap (λ i. same_as i k) e in absurd (omega arith) in
      let word : get_or (set st.words 16 k) 16 0 ≡ k = get_or-set_same st.words 16 k 0 (omega arith) in
      let after = set (set st.homes k (some v)) w none in (
        now,
        chain gives (takes w y),
        subst (λ (c : List (ℕ × Option T)). Valid st.homes c (chain gives (takes w y))) (sym has) (tt, set_else st.homes k w (some v) apart ∙ r.there.1),
        subst (λ (c : List (ℕ × Option T)). IsShelf slots hands (stepped st 16 k id c now (chain gives (takes w y)))) (sym has) (record {
          wide = (length-set st.words 16 k ∙ r.wide.0, length-set (set st.homes k (some v)) w none ∙ (length-set st.homes k (some v) ∙ r.wide.1));
          there = (
            v,
            ap (λ (i : ℕ). get_elem? after i) word
                ∙ (set_else (set st.homes k (some v)) w k none (λ e. apart (sym e)) ∙ set_here st.homes k (some v) (omega arith)),
            let a = sum_by-change (λ (u : Sheet). u.puts) st.views id me.0 now at in
                let b = sum_by-change (λ (u : Sheet). u.gets) st.views id me.0 now at in
                let e = r.there.2 in
                omega arith,
          );
          one = λ j.
              let a = sum_by-change (λ (u : Sheet). times j u.held) st.views id me.0 now at in
              let b = sum_by-change (λ (u : Sheet). times j u.due) st.views id me.0 now at in
              let c = times-one j w in
              let d = times-same j k me.0.held own in
              let e = r.one j in
              let f = ap (λ (i : ℕ). same_as i j) word in
              omega arith;
          inside = λ j some_held.
              let a = sum_by-change (λ (u : Sheet). times j u.held) st.views id me.0 now at in
              let b = sum_by-change (λ (u : Sheet). times j u.due) st.views id me.0 now at in
              let c = times-one j w in
              dite (ℕ_discrete w j) (λ e. omega (arith, below st.homes w (some y) r.there.1)) (λ ne. let d = same-else w j ne in r.inside j (omega arith));
          bare = λ j short none_has other.
              let a = sum_by-change (λ (u : Sheet). times j u.held) st.views id me.0 now at in
              let c = times-one j w in
              let d = times-same j k me.0.held own in
              let not_own : k ≢ j = λ e. other (word ∙ e) in
              let n = same-else k j not_own in
              let not_found : w ≢ j = λ e. let z = ap (λ i. same_as i j) e in let h = same-here j in absurd (omega arith) in
              set_else (set st.homes k (some v)) w j none (λ e. not_found (sym e))
              ∙ (set_else st.homes k j (some v) (λ e. not_own (sym e)) ∙ r.bare j short (omega arith) not_found);
          parts = parts-kept st r id me.0 now at refl;
          idle = still-idle st r id now some_parts;
        }),
        λ x e f. let one : v ≡ x = first-value (sym has ∙ e) in (y, λ i. (after_swap me.0 (one_if (one i)) (one_if y) w, (w, y) ∷ ap rest has i)),
      )

  pub drawing : (homes id : ℕ) (me : Me (Option T) Sheet) (k : ℕ) → me.1 ≡ [] → me.0.held ≡ [] → me.0.due ≡ k ∷ [] → 0 < me.0.parts
      → Allows (IsShelf {T = T} slots hands) homes id me 16 (λ n. n) (drew (step homes 16 0 0 none) me)
  drawing homes id me k has own due some_parts st r _ at _ =
      let w : ℕ = get_or st.words 16 0 in
      let now : Sheet = with_slots me.0 (k ∷ []) [] in
      let wide = r.wide in
      let m = sum_by-member (λ (u : Sheet). times k u.due) st.views id me.0 at in
      let o = times-same k k me.0.due due in
      let s = same-here k in
      let q = r.one k in
      let inside : k < slots = r.inside k (omega arith) in
      let apart : w ≢ k = λ e. let z = ap (λ i. same_as i k) e in absurd (omega arith) in
      let home = r.bare k inside (omega arith) apart in (
        now,
        takes k None,
        home,
        subst (λ (ws : List ℕ). IsShelf slots hands record { words = ws; homes = set st.homes k none; views = set st.views id now })
            (sym (set-get_or st.words 16 0)) (record {
              wide = (r.wide.0, length-set st.homes k none ∙ r.wide.1);
              there = (
                r.there.0,
                set_else st.homes k w none apart ∙ r.there.1,
                counts-kept st r id me.0 now at refl refl,
              );
              one = λ j.
                  let a = sum_by-change (λ (u : Sheet). times j u.held) st.views id me.0 now at in
                  let b = sum_by-change (λ (u : Sheet). times j u.due) st.views id me.0 now at in
                  let c = times-none j me.0.held own in
                  let d = times-same j k me.0.due due in
                  let f = times-one j k in
                  let e = r.one j in
                  omega arith;
              inside = λ j some_held.
                  let a = sum_by-change (λ (u : Sheet). times j u.held) st.views id me.0 now at in
                  let b = sum_by-change (λ (u : Sheet). times j u.due) st.views id me.0 now at in
                  let c = times-none j me.0.held own in
                  let d = times-same j k me.0.due due in
                  let f = times-one j k in
                  r.inside j (omega arith);
              bare = λ j short none_has other.
                  let a = sum_by-change (λ (u : Sheet). times j u.held) st.views id me.0 now at in
                  let c = times-none j me.0.held own in
                  let f = times-one j k in
                  let not_own : k ≢ j = λ e. let z = ap (λ i. same_as i j) e in let h = same-here j in absurd (omega arith) in
                  set_else st.homes k j none (λ e. not_own (sym e)) ∙ r.bare j short (omega arith) other;
              parts = parts-kept st r id me.0 now at refl;
              idle = still-idle st r id now some_parts;
            }),
        λ j e f also. let same : k ≡ j = head-same k j me.0.due [] due also in λ i. (with_slots me.0 (same i ∷ []) [], (same i, None) ∷ has i),
      )

  pub returning : (homes id : ℕ) (me : Me (Option T) Sheet) (k : ℕ) → me.1 ≡ (k, None) ∷ [] → me.0.held ≡ k ∷ [] → 0 < me.0.parts
      → Allows (IsShelf {T = T} slots hands) homes id me 16 (λ n. n) (returned (step homes 16 0 0 none) me)
  returning homes id me k has own some_parts st r _ at _ =
      let w : ℕ = get_or st.words 16 0 in
      let now : Sheet = with_slots me.0 [] me.0.due in
      let wide = r.wide in
      let m = sum_by-member (λ (u : Sheet). times k u.held) st.views id me.0 at in
      let o = times-same k k me.0.held own in
      let s = same-here k in
      let q = r.one k in
      let inside : k < slots = r.inside k (omega arith) in
      let apart : w ≢ k = λ e. let z = ap (λ i. same_as i k) e in absurd (omega arith) in (
        now,
        gives,
        tt,
        subst
            (λ (c : List ℕ × List (ℕ × Option T)).
            IsShelf slots hands record { words = c.0; homes = put_back st.homes c.1; views = set st.views id now })
            (λ i. (sym (set-get_or st.words 16 0) i, sym has i)) (record {
              wide = (r.wide.0, length-set st.homes k (some None) ∙ r.wide.1);
              there = (
                r.there.0,
                set_else st.homes k w (some None) apart ∙ r.there.1,
                counts-kept st r id me.0 now at refl refl,
              );
              one = λ j.
                  let a = sum_by-change (λ (u : Sheet). times j u.held) st.views id me.0 now at in
                  let b = sum_by-change (λ (u : Sheet). times j u.due) st.views id me.0 now at in
                  let e = r.one j in
                  omega arith;
              inside = λ j some_held.
                  let a = sum_by-change (λ (u : Sheet). times j u.held) st.views id me.0 now at in
                  let b = sum_by-change (λ (u : Sheet). times j u.due) st.views id me.0 now at in
                  r.inside j (omega arith);
              bare = λ j short none_has other.
                  let a = sum_by-change (λ (u : Sheet). times j u.held) st.views id me.0 now at in
                  let d = times-same j k me.0.held own in
                  dite (ℕ_discrete j k)
                  (λ e. ap (λ (i : ℕ). get_elem? (set st.homes k (some None)) i) e ∙ set_here st.homes k (some None) (omega arith))
                  (λ ne. let n = same-else k j (λ e. ne (sym e)) in set_else st.homes k j (some None) ne ∙ r.bare j short (omega arith) other);
              parts = parts-kept st r id me.0 now at refl;
              idle = still-idle st r id now some_parts;
            }),
        λ j e f. λ i. (now, ap rest has i),
      )

  pub splitting : (id : ℕ) (v : Sheet) (n d : ℕ) → v ≡ first_sheet n d → 0 < n → Splits (IsShelf {T = T} slots hands) id v (one_less v) (first_of v)
  splitting id v n d is more st r at =
      let w : Sheet = one_less v in
      let n-parts = ap (λ (s : Sheet). s.parts) is in
      let n-puts = ap (λ (s : Sheet). s.puts) is in
      let n-gets = ap (λ (s : Sheet). s.gets) is in
      let n-held = ap (λ (s : Sheet). s.held) is in
      let still : (u : Sheet) → w ≡ u → CountsNothing u = λ u e. subst CountsNothing e (n-puts, n-gets, n-held) in
      let has : (k : ℕ) → holders k (set st.views id w ++ first_of v ∷ []) ≡ holders k st.views = λ k.
      let a = sum_by-change (λ (u : Sheet). times k u.held) st.views id v w at in
      let b = sum_by_push (λ (u : Sheet). times k u.held) (set st.views id w) (first_of v) in
      omega arith in
      let is_due : (k : ℕ) → takers k (set st.views id w ++ first_of v ∷ []) ≡ takers k st.views = λ k.
      let a = sum_by-change (λ (u : Sheet). times k u.due) st.views id v w at in
      let b = sum_by_push (λ (u : Sheet). times k u.due) (set st.views id w) (first_of v) in
      let c = sum_by-append (λ (i : ℕ). pick (eqb i k)) (take 1 v.due) (drop 1 v.due) in
      let e = ap (times k) (take-append-drop 1 v.due) in
      omega arith in record {
        wide = r.wide;
        there = (
          r.there.0,
          r.there.1,
          let a = sum_by-change (λ (u : Sheet). u.puts) st.views id v w at in
              let b = sum_by_push (λ (u : Sheet). u.puts) (set st.views id w) (first_of v) in
              let c = sum_by-change (λ (u : Sheet). u.gets) st.views id v w at in
              let f = sum_by_push (λ (u : Sheet). u.gets) (set st.views id w) (first_of v) in
              let e = r.there.2 in
              omega arith,
        );
        one = λ j. let a = has j in let b = is_due j in let e = r.one j in omega arith;
        inside = λ j some_there. let a = has j in let b = is_due j in r.inside j (omega arith);
        bare = λ j short none_has other. let a = has j in r.bare j short (omega arith) other;
        parts =
            let a = sum_by-change (λ (u : Sheet). u.parts) st.views id v w at in
            let b = sum_by_push (λ (u : Sheet). u.parts) (set st.views id w) (first_of v) in
            let q = r.parts in
            omega arith;
        idle = λ j u there no_part.
            ⊎_elim
            (λ e. ⊎_elim (λ f. still u f.1) (λ f. r.idle j u f.1 no_part) (at_set st.views id j w u e))
            (λ e. let p = ap (λ (s : Sheet). s.parts) e in absurd (omega arith))
            (at_snoc (set st.views id w) (first_of v) u j there);
      }

  pub joining : (id : ℕ) (v : Sheet) (other : ℕ) (w : Sheet) → 0 < v.parts → Joins (IsShelf {T = T} slots hands) id v other w (added v w) blank
  joining id v other w some_parts st r at apart there =
      let both : Sheet = added v w in
      let has : (k : ℕ) → holders k (set (set st.views id both) other blank) ≡ holders k st.views = λ k.
      let a = sum_by-change (λ (u : Sheet). times k u.held) st.views id v both at in
      let b = sum_by-change (λ (u : Sheet). times k u.held) (set st.views id both) other w blank there in
      let c = sum_by-append (λ (i : ℕ). pick (eqb i k)) v.held w.held in
      omega arith in
      let is_due : (k : ℕ) → takers k (set (set st.views id both) other blank) ≡ takers k st.views = λ k.
      let a = sum_by-change (λ (u : Sheet). times k u.due) st.views id v both at in
      let b = sum_by-change (λ (u : Sheet). times k u.due) (set st.views id both) other w blank there in
      let c = sum_by-append (λ (i : ℕ). pick (eqb i k)) v.due w.due in
      omega arith in record {
        wide = r.wide;
        there = (
          r.there.0,
          r.there.1,
          let a = sum_by-change (λ (u : Sheet). u.puts) st.views id v both at in
              let b = sum_by-change (λ (u : Sheet). u.puts) (set st.views id both) other w blank there in
              let c = sum_by-change (λ (u : Sheet). u.gets) st.views id v both at in
              let d = sum_by-change (λ (u : Sheet). u.gets) (set st.views id both) other w blank there in
              let e = r.there.2 in
              omega arith,
        );
        one = λ j. let a = has j in let b = is_due j in let e = r.one j in omega arith;
        inside = λ j some_there. let a = has j in let b = is_due j in r.inside j (omega arith);
        bare = λ j short none_has far. let a = has j in r.bare j short (omega arith) far;
        parts =
            let a = sum_by-change (λ (u : Sheet). u.parts) st.views id v both at in
            let b = sum_by-change (λ (u : Sheet). u.parts) (set st.views id both) other w blank there in
            let q = r.parts in
            omega arith;
        idle = λ j u here no_part.
            ⊎_elim (λ e. subst CountsNothing e.1 (refl, refl, refl))
            (λ e. still-idle st r id both (omega arith) j u e.1 no_part)
            (at_set (set st.views id both) other j blank u here);
      }

  -- at the start the first slot is the shelf's, and all are empty
  pub begins : (words : List ℕ) → words ≡ replicate 32 16 → slots ≡ spot (hands + 1)
      → IsShelf {T = T} slots hands (opening words (replicate slots None) (first_sheet hands 0))
  begins words same many =
      let word : get_or words 16 0 ≡ 16 = ap (λ (ws : List ℕ). get_or ws 16 0) same in record {
        wide = (ap length same, length-mapped (replicate slots None) ∙ length-replicate slots None);
        there = (None, ap (λ (k : ℕ). get_elem? (map some (replicate slots None)) k) word ∙ bare-at slots 16 (omega arith), refl);
        one = λ k.
            let a = one-at-most hands 0 k in
            let b = sum_by-cons (λ (u : Sheet). times k u.held) (first_sheet hands 0) [] in
            let c = sum_by-cons (λ (u : Sheet). times k u.due) (first_sheet hands 0) [] in
            dite (ℕ_discrete (get_or words 16 0) k)
            (λ e.
            let d = none-before hands 0 k (omega arith) in
            let f = ap (λ (i : ℕ). same_as i k) e ∙ same-here k in
            omega arith)
            (λ ne. let d = same-else (get_or words 16 0) k ne in omega arith);
        inside = λ k some_there.
            let b = sum_by-cons (λ (u : Sheet). times k u.held) (first_sheet hands 0) [] in
            let c = sum_by-cons (λ (u : Sheet). times k u.due) (first_sheet hands 0) [] in
            let d = inside-all hands 0 k (omega arith) in
            omega arith;
        bare = λ k short none_has other. bare-at slots k short;
        parts = let c = sum_by-cons (λ (u : Sheet). u.parts) (first_sheet hands 0) [] in omega arith;
        idle = λ id v at no_part. first-idle id v at;
      }
    where
      length-mapped : (xs : List (Option T)) → length (map some xs) ≡ length xs
      length-mapped [] = refl
      length-mapped (x ∷ xs) = ap suc (length-mapped xs)

      first-idle : (id : ℕ) (v : Sheet) → get_elem? (first_sheet hands 0 ∷ []) id ≡ some v → CountsNothing v
      first-idle zero v at = subst CountsNothing (some-injective (first_sheet hands 0) v at) (refl, refl, refl)
      first-idle (suc id) v at = absurd (some-ne-none v (sym at))

-- what is left, and what a hand is, after one was dealt
pub one-dealt : (n m d e : ℕ) → n ≡ m + 1 → e ≡ d + 1 → one_less (first_sheet n d) ≡ first_sheet m e
one-dealt n m d e is next =
    let n-suc : n ≡ suc m = omega arith in
    let fewer : suc m - 1 ≡ m = omega arith in
    ap (λ (k : ℕ). one_less (first_sheet k d)) n-suc
    ∙ (ap (λ (k : ℕ). record { parts = k; swaps = 0; puts = 0; gets = 0; held = []; due = spots_of m (d + 1) }) fewer ∙ ap (first_sheet m) (sym next))

pub first-dealt : (v : Sheet) (n m d k : ℕ) → v ≡ first_sheet n d → n ≡ m + 1 → k ≡ spot (d + 1) → first_of v ≡ of_slot k
first-dealt v n m d k same is slot =
    let n-suc : n ≡ suc m = omega arith in
    ap first_of same ∙ (ap (λ (i : ℕ). first_of (first_sheet i d)) n-suc ∙ ap of_slot (sym slot))
