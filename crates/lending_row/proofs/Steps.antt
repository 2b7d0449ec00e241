-- Each step keeps the rule of a row.
use Rattle.std.proofs.Common.{◌≡◌, ◌≢◌, ℕ, zero, suc, ◌+◌, ◌<◌, ◌≤◌, Bool, eq-eqb, ne_eqb, true, List, [], ◌∷◌, ◌++◌, All, map, replicate, length, get_or, set, sym, refl, ap, ◌∙◌, ⊎_elim, subst, arith, length-set, get_or-set_same, get_or-set_other}
use Rattle.std.specs.Prelude.{if◌then◌else◌, Option, Some}
use Rattle.std.proofs.lemmas.List.{length-replicate, length-map, get_or-replicate}
use Rattle.std.proofs.lemmas.Bool.{false≢true}
use Rattle.std.proofs.lemmas.List.Sums.{sum_by-cons, sum_by_push}
use Rattle.shared_row.proofs.Lists.{sum_by-change}
use mathlib.Core.Logic.{dite}
use mathlib.Core.Option.{Option as Maybe, none, some, some-injective, some-ne-none}
use native.Mathlib.Decide.{ℕ_discrete}
use lib.ListN.{get_elem?}
use Rattle.atomic_table.specs.Table.{State, Me, step, keeps, takes, gives, stepped, rest, opening, Allows, Arrives}
use Rattle.atomic_table.proofs.Lists.{set_here, set_else, at_set, at_longer, at_last, at_snoc}
use Rattle.lending_row.specs.declared.lending.Entry.{Entry}
use Rattle.lending_row.specs.Lending.{IsLending, WasTaken, first_entry, taker, returner, comer, has, holders, lent, took, put}
use Rattle.lending_row.proofs.Moving.{each-there}

abbrev nought : ℕ
nought = 0

lent-none : (n : ℕ) → n ≡ 0 → lent n ≡ 0
lent-none n e = ap (λ (b : Bool). if b then 0 else 1) (eq-eqb n 0 e)

lent-one : (n : ℕ) → n ≢ 0 → lent n ≡ 1
lent-one n e = ap (λ (b : Bool). if b then 0 else 1) (ne_eqb n 0 e)

lent-most : (n : ℕ) → lent n ≤ 1
lent-most n = dite (ℕ_discrete n 0) (λ e. let z = lent-none n e in omega arith) (λ ne. let o = lent-one n ne in omega arith)

module _ {K : Type 0} where
  has-here : (j : ℕ) (v : Entry K) → v.place ≡ j → has j v ≡ v.out
  has-here j v e = ap (λ (b : Bool). if b then v.out else 0) (eq-eqb v.place j e)

  has-else : (j : ℕ) (v : Entry K) → v.place ≢ j → has j v ≡ 0
  has-else j v e = ap (λ (b : Bool). if b then v.out else 0) (ne_eqb v.place j e)

  has-none : (j : ℕ) (v : Entry K) → v.out ≡ 0 → has j v ≡ 0
  has-none j v e = dite (ℕ_discrete v.place j) (λ here. has-here j v here ∙ e) (λ other. has-else j v other)

  at-set : (l : List (Entry K)) (i : ℕ) (v w : Entry K) → get_elem? l i ≡ some v → get_elem? (set l i w) i ≡ some w
  at-set [] i v w e = absurd (some-ne-none v (sym e))
  at-set (x ∷ xs) zero v w e = refl
  at-set (x ∷ xs) (suc i) v w e = at-set xs i v w e

  -- one seat knows something else
  taken-set : (views : List (Entry K)) (id : ℕ) (v w : Entry K) → get_elem? views id ≡ some v → w.took ≡ true → w.place ≡ v.place
      → (j : ℕ) → WasTaken views j → WasTaken (set views id w) j
  taken-set views id v w at yes_taken same j t =
      dite (ℕ_discrete t.0 id)
      (λ e.
      let one : v ≡ t.1 = some-injective v t.1 (sym at ∙ (ap (λ (k : ℕ). get_elem? views k) (sym e) ∙ t.2)) in
      (id, w, at-set views id v w at, yes_taken, same ∙ (ap (λ (u : Entry K). u.place) one ∙ t.4)))
      (λ ne. (t.0, t.1, set_else views id t.0 w ne ∙ t.2, t.3, t.4))

  -- one seat more
  still-taken : (views more : List (Entry K)) (j : ℕ) → WasTaken views j → WasTaken (views ++ more) j
  still-taken views more j t = (t.0, t.1, at_longer views more t.0 t.1 t.2, t.3, t.4)

  now-taken : (views : List (Entry K)) (key : K) (j : ℕ) → WasTaken (views ++ taker key j ∷ []) j
  now-taken views key j = (length views, taker key j, at_last views (taker key j) (length views) refl, refl, refl)

module _ {T K : Type 0} (fits : K → T → Type 0) (key : K) where
  abbrev Row : Type 0
  Row = State (Option T) (Entry K)

  abbrev MetIsTaken : List (Entry K) → Type 0
  MetIsTaken views = (id : ℕ) (v : Entry K) → get_elem? views id ≡ some v → v.met ≡ true → WasTaken views v.place

  -- one seat more, of which the rule holds
  met-more : (st : Row) → IsLending fits key st → (w : Entry K) → (w.met ≡ true → WasTaken st.views w.place) → MetIsTaken (st.views ++ w ∷ [])
  met-more st r w new id v at met =
      ⊎_elim
      (λ e. still-taken st.views (w ∷ []) v.place (r.met id v e met))
      (λ e. subst (λ (u : Entry K). WasTaken (st.views ++ w ∷ []) u.place) e
      (still-taken st.views (w ∷ []) w.place (new (ap (λ (u : Entry K). u.met) e ∙ met))))
      (at_snoc st.views w v id at)

  -- a word changes, and one seat is there more
  held-more : (st : Row) → IsLending fits key st → (i n : ℕ) → i < length st.words → (w : Entry K)
      → holders i st.views + has i w ≡ lent n → ((j : ℕ) → j ≢ i → has j w ≡ 0)
      → (j : ℕ) → j < length (set st.words i n) → holders j (st.views ++ w ∷ []) ≡ lent (get_or (set st.words i n) j 0)
  held-more st r i n inside w here other j below =
      let more = sum_by_push (has j) st.views w in
      dite (ℕ_discrete j i)
      (λ e.
      let now = ap (λ (k : ℕ). lent (get_or (set st.words i n) k 0)) e ∙ ap lent (get_or-set_same st.words i n 0 inside) in
      let a = ap (λ (k : ℕ). holders k st.views + has k w) e in
      omega arith)
      (λ ne.
      let now = ap lent (get_or-set_other st.words i j n 0 ne) in
      let a = other j ne in
      let h = r.held j (omega (arith, length-set st.words i n)) in
      omega arith)

  -- a word becomes 0, and the seat that had the value has it no longer
  held-less : (st : Row) → IsLending fits key st → (i id : ℕ) → i < length st.words → (v : Entry K) → v ≡ taker v.key i
      → get_elem? st.views id ≡ some v
      → (j : ℕ) → j < length (set st.words i 0) → holders j (set st.views id (returner v.key i)) ≡ lent (get_or (set st.words i 0) j 0)
  held-less st r i id inside v is at j below =
      let w : Entry K = returner v.key i in
      let less = sum_by-change (has j) st.views id v w at in
      let place = ap (λ (u : Entry K). u.place) is in
      let out = ap (λ (u : Entry K). u.out) is in
      let none = has-none j w refl in
      let h = r.held j (omega (arith, length-set st.words i 0)) in
      dite (ℕ_discrete j i)
      (λ e.
      let now = ap (λ (k : ℕ). lent (get_or (set st.words i 0) k 0)) e ∙ ap lent (get_or-set_same st.words i 0 0 inside) in
      let zero = lent-none 0 refl in
      let one = has-here j v (place ∙ sym e) in
      let most = lent-most (get_or st.words j 0) in
      omega arith)
      (λ ne.
      let now = ap lent (get_or-set_other st.words i j 0 0 ne) in
      let none_there = has-else j v (λ e. ne (sym e ∙ place)) in
      omega arith)

  -- a word and its home change
  changed : (st : Row) → IsLending fits key st → (i n : ℕ) → i < length st.words → (h : Maybe (Option T)) (views : List (Entry K))
      → (n ≡ 0 → (x : T) × (h ≡ some (Some x)) × fits key x)
      → (n ≢ 0 → WasTaken views i)
      → ((j : ℕ) → WasTaken st.views j → WasTaken views j)
      → ((j : ℕ) → j < length (set st.words i n) → holders j views ≡ lent (get_or (set st.words i n) j 0))
      → MetIsTaken views
      → IsLending fits key record { words = set st.words i n; homes = set st.homes i h; views = views }
  changed st r i n inside h views now gone kept has_one met =
      let wide = r.wide in
      let word_here : get_or (set st.words i n) i 0 ≡ n = get_or-set_same st.words i n 0 inside in
      let home_here : get_elem? (set st.homes i h) i ≡ some h = set_here st.homes i h (omega arith) in record {
        wide = length-set st.homes i h ∙ (r.wide ∙ sym (length-set st.words i n));
        there = λ j below zero.
            dite (ℕ_discrete j i)
            (λ e. let t = now (sym (ap (λ (k : ℕ). get_or (set st.words i n) k 0) e ∙ word_here) ∙ zero) in
            (t.0, ap (λ (k : ℕ). get_elem? (set st.homes i h) k) e ∙ (home_here ∙ ap some t.1), t.2))
            (λ ne. let t = r.there j (omega (arith, length-set st.words i n)) (sym (get_or-set_other st.words i j n 0 ne) ∙ zero) in
            (t.0, set_else st.homes i j h ne ∙ t.1, t.2));
        held = has_one;
        taken = λ j below other.
            dite (ℕ_discrete j i)
            (λ e. subst (WasTaken views) (sym e) (gone (λ z. other (ap (λ (k : ℕ). get_or (set st.words i n) k 0) e ∙ (word_here ∙ z)))))
            (λ ne. kept j (r.taken j (omega (arith, length-set st.words i n)) (λ z. other (get_or-set_other st.words i j n 0 ne ∙ z))));
        met = met;
      }

  -- a word that was not 0 is marked, and all homes stay
  marked : (st : Row) → IsLending fits key st → (i : ℕ) → i < length st.words → get_or st.words i 0 ≢ 0
      → IsLending fits key record { words = set st.words i 1; homes = st.homes; views = st.views ++ comer key i ∷ [] }
  marked st r i inside busy =
      let w : Entry K = comer key i in
      let was = r.taken i inside busy in record {
        wide = r.wide ∙ sym (length-set st.words i 1);
        there = λ j below zero.
            dite (ℕ_discrete j i)
            (λ e. let one = ap (λ (k : ℕ). get_or (set st.words i 1) k 0) e ∙ get_or-set_same st.words i 1 0 inside in absurd (omega arith))
            (λ ne. r.there j (omega (arith, length-set st.words i 1)) (sym (get_or-set_other st.words i j 1 0 ne) ∙ zero));
        held = held-more st r i 1 inside w
            (let h = r.held i inside in let o = lent-one (get_or st.words i 0) busy in let z = has-none i w refl in omega arith)
            (λ j ne. has-none j w refl);
        taken = λ j below other.
            dite (ℕ_discrete j i)
            (λ e. subst (WasTaken (st.views ++ w ∷ [])) (sym e) (still-taken st.views (w ∷ []) i was))
            (λ ne. still-taken st.views (w ∷ []) j
            (r.taken j (omega (arith, length-set st.words i 1)) (λ z. other (get_or-set_other st.words i j 1 0 ne ∙ z))));
        met = met-more st r w (λ _. was);
      }

  pub taking : (slots i : ℕ) → i < slots → Arrives (IsLending fits key) slots i (λ _. 1) (took fits (step slots i 1 0 none) (first_entry key, []))
  taking slots i inside st r many _ =
      let wide = r.wide in
      dite (ℕ_discrete (get_or st.words i 0) 0)
      (λ free. let t = r.there i (omega arith) free in let w : Entry K = taker key i in (
        w,
        takes i (Some t.0),
        t.1,
        changed st r i 1 (omega arith) none (st.views ++ w ∷ []) (λ e. absurd (omega arith)) (λ _. now-taken st.views key i)
            (λ j was. still-taken st.views (w ∷ []) j was)
            (held-more st r i 1 (omega arith) w
            (let h = r.held i (omega arith) in let z = lent-none (get_or st.words i 0) free in let o = has-here i w refl in omega arith)
            (λ j ne. has-else j w (λ e. ne (sym e)))) (met-more st r w (λ e. absurd (false≢true e))),
        ((λ _. (t.0, refl, t.2)), (λ busy. absurd (busy free))),
      ))
      (λ busy. (comer key i, keeps, tt, marked st r i (omega arith) busy, ((λ free. absurd (busy free)), (λ _. refl))))

  pub putting : (slots id : ℕ) (me : Me (Option T) (Entry K)) (i : ℕ) (x : T) → i < slots → me.1 ≡ (i, Some x) ∷ [] → me.0 ≡ taker me.0.key i
      → fits key x
      → Allows (IsLending fits key) slots id me i (λ _. 0) (λ _. put (step slots i 0 0 none) me 0)
  putting slots id me i x inside holds is good st r many at _ =
      let wide = r.wide in
      let w : Entry K = returner me.0.key i in
      let kept = taken-set st.views id me.0 w at refl (sym (ap (λ (u : Entry K). u.place) is)) in (
        w,
        gives,
        tt,
        subst (λ (c : List (ℕ × Option T)). IsLending fits key (stepped st i 0 id c w gives)) (sym holds)
            (changed st r i 0 (omega arith) (some (Some x)) (set st.views id w) (λ _. (x, refl, good)) (λ other. absurd (other refl)) kept
            (held-less st r i id (omega arith) me.0 is at)
            (λ j v there met. ⊎_elim
            (λ e. absurd (false≢true (ap (λ (u : Entry K). u.met) e.1 ∙ met)))
            (λ e. kept v.place (r.met j v e.1 met))
            (at_set st.views id j w v there))),
        (λ y own same. ap (λ c. (w, rest c)) holds),
      )

  -- at the start all values are in their places
  pub begins : (words : List ℕ) (slots : List (Option T)) (values : List T) (places : ℕ) → words ≡ replicate places 0 → slots ≡ map Some values
      → places ≡ length values → All (fits key) values
      → IsLending fits key (opening words slots (first_entry key))
  begins words slots values places zeros full many all =
      let long = ap (λ (ws : List ℕ). length ws) zeros ∙ length-replicate places 0 in
      subst (λ (os : List (Option T)). IsLending fits key (opening words os (first_entry key))) (sym full) (record {
        wide = length-map (map Some values) some ∙ (length-map values Some ∙ sym (long ∙ many));
        there = λ j below zero. each-there (fits key) values j (omega arith) all;
        held = λ j below.
            let c = sum_by-cons (has j) (first_entry key) [] in
            let none = has-none j (first_entry key) refl in
            let z = lent-none (get_or words j nought)
            (ap (λ (ws : List ℕ). get_or ws j nought) zeros ∙ get_or-replicate places j nought nought (omega arith)) in
            omega arith;
        taken = λ j below other. absurd (other (ap (λ (ws : List ℕ). get_or ws j nought) zeros ∙ get_or-replicate places j nought nought (omega arith)));
        met = λ id v at met. absurd (not-met id v at met);
      })
    where
      not-met : (id : ℕ) (v : Entry K) → get_elem? (first_entry key ∷ []) id ≡ some v → v.met ≡ true → ⊥
      not-met zero v at met = false≢true (ap (λ (u : Entry K). u.met) (some-injective (first_entry key) v at) ∙ met)
      not-met (suc id) v at met = some-ne-none v (sym at)
