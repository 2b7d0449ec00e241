-- Each step keeps the rule of the owners.
use Rattle.std.proofs.Common.{◌≡◌, ◌≢◌, ℕ, ◌+◌, ◌<◌, ◌≤◌, Bool, eqb, List, [], ◌∷◌, ◌++◌, length, get_or, set, take, drop, sym, refl, ap, ◌∙◌}
use Rattle.std.proofs.Common.{subst, arith, length-set, get_or-set_same, get_or-set_other, eq-eqb, ne_eqb}
use Rattle.std.specs.Prelude.{if◌then◌else◌, sum_by}
use Rattle.std.proofs.lemmas.List.Sums.{sum_by-cons, sum_by-append}
use mathlib.Core.Logic.{dite}
use mathlib.Core.Option.{none, some}
use native.Mathlib.Decide.{ℕ_discrete, dec_le}
use lib.ListN.{get_elem?}
use lib.Seq.{set-get_or}
use prog.Atomic.{either}
use Rattle.atomic_table.specs.declared.shared.Seat.{Seat}
use Rattle.atomic_table.specs.Table.{State, Me, step, keeps, stepped, Allows, Splits, Joins}
use Rattle.atomic_table.proofs.Lists.{set_again, exchanged}
use Rattle.owners_table.specs.declared.mark.Owner.{Owner}
use Rattle.owners_table.specs.declared.mark.Owner.TheVariants.{Run, Shelf}
use Rattle.owners_table.specs.declared.mark.TheConstants.{SHELVES}
use Rattle.owners_table.specs.declared.owning.OwnerSheet.{OwnerSheet}
use Rattle.owners_table.specs.Marking.{IsMarkWord}
use Rattle.owners_table.specs.Owning.{SeatView, seat_view, IsSlotWord, IsOwn, owner_word, Owned, Holds, word_at, without, weigh, by_place}
use Rattle.owners_table.specs.Owning.{weigh_word, weigh_words, weigh_shelf, blank, gained, after_claim, after_release, after_shelve, after_fetch}
use Rattle.owners_table.specs.Owning.{claimed, released, was_shelved, fetched, looked}
use Rattle.owners_table.specs.Place.{place, slot_at}
use Rattle.owners_table.specs.Sheets.{first_or, sheet_of}
use Rattle.owners_table.proofs.PlaceLemmas.{inside}
use Rattle.owners_table.proofs.Sums.{sum_by-change, sum_by-member, sum_by-split, sum_by-join, sum-is_additive, length-is_additive}
use Rattle.owners_table.proofs.Lists.{only, once, differs, differs-same, word-none, word-some, words-change, shelf-none, shelf-free, shelf-some}
use Rattle.owners_table.proofs.Lists.{shelves-change, words-of_run, words-of_none, words-once, words-place, words-slot, weigh-without}
use Rattle.owners_table.proofs.Lists.{word_at-same}

abbrev pub View : Type 0
View = List OwnerSheet

abbrev Table : Type 0
Table = State (Unit {0}) View

-- what one sheet's list weighs
abbrev pub listed : (ℕ → ℕ → ℕ) → OwnerSheet → ℕ
listed h t = weigh h t.held

abbrev pub put : (ℕ → ℕ → ℕ) → OwnerSheet → ℕ
put h t = weigh h t.shelved

abbrev pub taken : (ℕ → ℕ → ℕ) → OwnerSheet → ℕ
taken h t = weigh h t.got

single : (f : OwnerSheet → ℕ) (t : OwnerSheet) → sum_by f (t ∷ []) ≡ f t
single f t = omega arith

-- a step that changes the word of a slot, at a place, and the one sheet of a seat
placed : (slots seats : ℕ) (st : Table) → Owned slots seats st → (id : ℕ) (t u : OwnerSheet) (p x : ℕ) (carried : List (ℕ × Unit {0}))
    → get_elem? st.views id ≡ some (t ∷ []) → slot_at p < slots → IsSlotWord x
    → ((h : ℕ → ℕ → ℕ) → weigh h u.held + weigh_word h (slot_at p) (get_or st.words p 0) ≡ weigh h t.held + weigh_word h (slot_at p) x)
    → ((h : ℕ → ℕ → ℕ) → weigh h u.shelved + weigh_shelf h (slot_at p) (get_or st.words p 0) + weigh h t.got ≡ weigh h t.shelved + weigh_shelf h (slot_at p) x + weigh h u.got)
    → Owned slots seats (stepped st p x id carried (u ∷ []) keeps)
placed slots seats st r id t u p x carried at low ok moved passed =
    let wide = r.wide in let there = inside slots p low in let within : p < length st.words = omega (arith, wide, there) in record {
      wide = length-set st.words p x ∙ r.wide;
      spare = λ k past. get_or-set_other st.words p k x 0 (λ e. let same = ap slot_at e in omega (arith, same, past, low)) ∙ r.spare k past;
      words = λ k. dite (ℕ_discrete k p)
          (λ e. subst IsSlotWord (sym (ap (λ (j : ℕ). get_or (set st.words p x) j 0) e ∙ get_or-set_same st.words p x 0 within)) ok)
          (λ ne. subst IsSlotWord (sym (get_or-set_other st.words p k x 0 ne)) (r.words k));
      sheets = let c = sum_by-change (λ (v : View). length v) st.views id (t ∷ []) (u ∷ []) at in let q = r.sheets in omega (arith, c, q);
      listed = λ h.
          let c = sum_by-change (sum_by (listed h)) st.views id (t ∷ []) (u ∷ []) at in
          let s = words-change (by_place h) st.words p x within in
          omega (arith, c, s, r.listed h, moved h, single (listed h) t, single (listed h) u);
      shelved = λ h.
          let c = sum_by-change (sum_by (put h)) st.views id (t ∷ []) (u ∷ []) at in
          let d = sum_by-change (sum_by (taken h)) st.views id (t ∷ []) (u ∷ []) at in
          let s = shelves-change (by_place h) st.words p x within in
          omega (arith, c, d, s, r.shelved h, passed h, single (put h) t, single (put h) u, single (taken h) t, single (taken h) u);
    }

-- what a seat holds weighs no more than the words
below : (slots seats : ℕ) (st : Table) → Owned slots seats st → (h : ℕ → ℕ → ℕ) (id : ℕ) (v : View) → get_elem? st.views id ≡ some v
    → sum_by (listed h) v ≤ weigh_words (by_place h) 0 st.words
below slots seats st r h id v at = let a = sum_by-member (sum_by (listed h)) st.views id v at in let q = r.listed h in omega arith

-- what the rule says of a slot that a seat holds, at its place: its word is a run's, and the one in the list
mine : (slots seats : ℕ) (st : Table) → Owned slots seats st → (id : ℕ) (t : OwnerSheet) (p : ℕ)
    → get_elem? st.views id ≡ some (t ∷ []) → slot_at p < slots → Holds (slot_at p) t.held
    → (4096 ≤ get_or st.words p 0) × (word_at (slot_at p) t.held ≡ get_or st.words p 0)
mine slots seats st r id t p at low has =
    let wide = r.wide in
    let there = inside slots p low in
    let within : p < length st.words = omega (arith, wide, there) in
    let slot : ℕ = slot_at p in
    let n : ℕ = get_or st.words p 0 in
    let a = below slots seats st r (only slot once) id (t ∷ []) at in
    let s = single (listed (only slot once)) t in
    let e = words-place p once 0 st.words in
    let run : 4096 ≤ n = dite (dec_le 4096 n) (λ run. run) (λ free. let z = words-of_none p once st.words within (omega arith) in absurd (omega (arith, a, s, e, z, has))) in
    let b = below slots seats st r (only slot (differs n)) id (t ∷ []) at in
    let u = single (listed (only slot (differs n))) t in
    let f = words-place p (differs n) 0 st.words in
    let z = words-of_run p (differs n) st.words within run in
    let d = differs-same n in
    (run, word_at-same slot n t.held has (omega (arith, b, u, f, z, d)))

-- the list after an exchange that found the word that it looked for, and after one that did not
pub held-won : (slot from word n : ℕ) (es : List (ℕ × ℕ)) → n ≡ from → gained slot from word n es ≡ (slot, word) ∷ es
held-won slot from word n es found = ap (λ (b : Bool). if b then (slot, word) ∷ es else es) (eq-eqb n from found)

pub held-lost : (slot from word n : ℕ) (es : List (ℕ × ℕ)) → n ≢ from → gained slot from word n es ≡ es
held-lost slot from word n es other = ap (λ (b : Bool). if b then (slot, word) ∷ es else es) (ne_eqb n from other)

-- a compare-exchange from a word that is no run's to that of a mark, after which the seat's one sheet has the list that is due
takes : (slots seats : ℕ) (st : Table) → Owned slots seats st
    → (id : ℕ) (t u : OwnerSheet) (p from word : ℕ) (carried : List (ℕ × Unit {0})) → get_elem? st.views id ≡ some (t ∷ [])
    → slot_at p < slots → from < 4096 → IsMarkWord word
    → u.held ≡ gained (slot_at p) from word (get_or st.words p 0) t.held
    → u.shelved ≡ t.shelved
    → (get_or st.words p 0 ≡ from → (h : ℕ → ℕ → ℕ) → weigh h u.got ≡ weigh h t.got + weigh_shelf h (slot_at p) from)
    → (get_or st.words p 0 ≢ from → u.got ≡ t.got)
    → Owned slots seats (stepped st p (either (eqb (get_or st.words p 0) from) word (get_or st.words p 0)) id carried (u ∷ []) keeps)
takes slots seats st r id t u p from word carried here inside low run is stays won lost =
    let n : ℕ = get_or st.words p 0 in
    exchanged n from word (λ z. Owned slots seats (stepped st p z id carried (u ∷ []) keeps))
    (λ found. placed slots seats st r id t u p word carried here inside (λ _. run)
    (λ h.
    let a = word-none h (slot_at p) n (omega arith) in
    let b = word-some h (slot_at p) word run.0 in
    let c = ap (weigh h) (is ∙ held-won (slot_at p) from word n t.held found) in
    let d = sum_by-cons (λ e. h e.0 e.1) (slot_at p, word) t.held in
    omega arith)
    (λ h.
    let a = ap (weigh_shelf h (slot_at p)) found in
    let b = shelf-none h (slot_at p) word run.0 in
    let c = won found h in
    let d = ap (weigh h) stays in
    omega arith))
    (λ other. placed slots seats st r id t u p n carried here inside (r.words p)
    (λ h. let c = ap (weigh h) (is ∙ held-lost (slot_at p) from word n t.held other) in omega arith)
    (λ h. let c = ap (weigh h) (lost other) in let d = ap (weigh h) stays in omega arith))

-- an exchange to a word that is no run's, after which the seat's one sheet lacks the slot that it held
leaves : (slots seats : ℕ) (st : Table) → Owned slots seats st
    → (id : ℕ) (t u : OwnerSheet) (p word : ℕ) (carried : List (ℕ × Unit {0})) → get_elem? st.views id ≡ some (t ∷ [])
    → slot_at p < slots → word ≤ SHELVES → Holds (slot_at p) t.held
    → u.held ≡ without (slot_at p) t.held
    → u.got ≡ t.got
    → ((h : ℕ → ℕ → ℕ) → weigh h u.shelved ≡ weigh h t.shelved + weigh_shelf h (slot_at p) word)
    → Owned slots seats (stepped st p word id carried (u ∷ []) keeps)
leaves slots seats st r id t u p word carried here inside low has is stays adds =
    let n : ℕ = get_or st.words p 0 in
    let m = mine slots seats st r id t p here inside has in
    placed slots seats st r id t u p word carried here inside (λ l. absurd (omega arith))
    (λ h.
    let a = word-some h (slot_at p) n m.0 in
    let z = word-none h (slot_at p) word (omega arith) in
    let e = weigh-without h (slot_at p) t.held has in
    let f = ap (h (slot_at p)) m.1 in
    let g = ap (weigh h) is in
    omega arith)
    (λ h. let a = shelf-none h (slot_at p) n m.0 in let c = adds h in let d = ap (weigh h) stays in omega arith)

-- what a claim or a fetch finds where the seat's one sheet has the slot
own : (slots seats : ℕ) (st : Table) → Owned slots seats st → (id : ℕ) (t : OwnerSheet) (p : ℕ)
    → get_elem? st.views id ≡ some (t ∷ []) → slot_at p < slots → IsOwn (slot_at p) (get_or st.words p 0) t.held
own slots seats st r id t p at inside has = let m = mine slots seats st r id t p at inside has in (m.0, sym m.1)

pub claims : (slots seats homes id : ℕ) (me : Me (Unit {0}) View) (p word : ℕ) (t : OwnerSheet) → me.0 ≡ t ∷ [] → slot_at p < slots → IsMarkWord word
    → Allows (Owned slots seats) homes id me p (λ n. either (eqb n 0) word n) (claimed (step homes p 0 word none) me)
claims slots seats homes id me p word t one inside run st r _ at _ =
    let n : ℕ = get_or st.words p 0 in (
      after_claim (slot_at p) word n t ∷ [],
      keeps,
      tt,
      takes slots seats st r id t (after_claim (slot_at p) word n t) p 0 word me.1 (at ∙ ap some one) inside (omega arith) run refl refl (λ _ h. let z = shelf-free h (slot_at p) in omega arith) (λ _. refl),
      (
        refl,
        r.words p,
        λ u e. let same : t ≡ u = ap (first_or blank) (sym one ∙ e) in (ap (λ (x : OwnerSheet). after_claim (slot_at p) word n x ∷ []) same, own slots seats st r id u p (at ∙ ap some e) inside),
      ),
    )

pub fetches : (slots seats homes id : ℕ) (me : Me (Unit {0}) View) (p from word : ℕ) (t : OwnerSheet) → me.0 ≡ t ∷ []
    → slot_at p < slots → 0 < from → from ≤ SHELVES → IsMarkWord word
    → Allows (Owned slots seats) homes id me p (λ n. either (eqb n from) word n) (fetched (step homes p from word none) me)
fetches slots seats homes id me p from word t one inside some_shelf low run st r _ at _ =
    let n : ℕ = get_or st.words p 0 in (
      after_fetch (slot_at p) from word n t ∷ [],
      keeps,
      tt,
      takes slots seats st r id t (after_fetch (slot_at p) from word n t) p from word me.1 (at ∙ ap some one) inside (omega arith) run refl refl
          (λ won h.
          let a = ap (weigh h) (held-won (slot_at p) from from n t.got won) in
          let b = sum_by-cons (λ e. h e.0 e.1) (slot_at p, from) t.got in
          let c = shelf-some h (slot_at p) from some_shelf (omega arith) in
          omega arith)
          (λ lost. held-lost (slot_at p) from from n t.got lost),
      (
        refl,
        r.words p,
        λ u e. let same : t ≡ u = ap (first_or blank) (sym one ∙ e) in (ap (λ (x : OwnerSheet). after_fetch (slot_at p) from word n x ∷ []) same, own slots seats st r id u p (at ∙ ap some e) inside),
      ),
    )

pub releases : (slots seats homes id : ℕ) (me : Me (Unit {0}) View) (p : ℕ) (t : OwnerSheet) → me.0 ≡ t ∷ [] → slot_at p < slots → Holds (slot_at p) t.held
    → Allows (Owned slots seats) homes id me p (λ _. 0) (released (step homes p 0 0 none) me)
releases slots seats homes id me p t one inside has st r _ at _ = (
  after_release (slot_at p) t ∷ [],
  keeps,
  tt,
  leaves slots seats st r id t (after_release (slot_at p) t) p 0 me.1 (at ∙ ap some one) inside (omega arith) has refl refl (λ h. let z = shelf-free h (slot_at p) in omega arith),
  (refl, λ u e. let same : t ≡ u = ap (first_or blank) (sym one ∙ e) in ap (λ (x : OwnerSheet). after_release (slot_at p) x ∷ []) same),
)

pub shelves : (slots seats homes id : ℕ) (me : Me (Unit {0}) View) (p word : ℕ) (t : OwnerSheet) → me.0 ≡ t ∷ [] → slot_at p < slots
    → 0 < word → word ≤ SHELVES → Holds (slot_at p) t.held
    → Allows (Owned slots seats) homes id me p (λ _. word) (was_shelved (step homes p word 0 none) me)
shelves slots seats homes id me p word t one inside some_shelf low has st r _ at _ = (
  after_shelve (slot_at p) word t ∷ [],
  keeps,
  tt,
  leaves slots seats st r id t (after_shelve (slot_at p) word t) p word me.1 (at ∙ ap some one) inside low has refl refl
      (λ h.
      let a = sum_by-append (λ (e : ℕ × ℕ). h e.0 e.1) t.shelved ((slot_at p, word) ∷ []) in
      let b = sum_by-cons (λ (e : ℕ × ℕ). h e.0 e.1) (slot_at p, word) [] in
      let c = shelf-some h (slot_at p) word some_shelf (omega arith) in
      omega arith),
  (refl, λ u e. let same : t ≡ u = ap (first_or blank) (sym one ∙ e) in ap (λ (x : OwnerSheet). after_shelve (slot_at p) word x ∷ []) same),
)

pub splits : (slots seats id : ℕ) (v : View) → Splits (Owned slots seats) id v (drop 1 v) (take 1 v)
splits slots seats id v st r at = record {
  wide = r.wide;
  spare = r.spare;
  words = r.words;
  sheets = sum_by-split (λ (u : View). length u) length-is_additive st.views id v at ∙ r.sheets;
  listed = λ h. sum_by-split (sum_by (listed h)) (sum-is_additive (listed h)) st.views id v at ∙ r.listed h;
  shelved = λ h. let a = sum_by-split (sum_by (put h)) (sum-is_additive (put h)) st.views id v at in let b = sum_by-split (sum_by (taken h)) (sum-is_additive (taken h)) st.views id v at in let c = r.shelved h in omega arith;
}

pub joins : (slots seats id : ℕ) (v : View) (other : ℕ) (w : View) → Joins (Owned slots seats) id v other w (v ++ w) []
joins slots seats id v other w st r at apart there = record {
  wide = r.wide;
  spare = r.spare;
  words = r.words;
  sheets = sum_by-join (λ (u : View). length u) length-is_additive st.views id v other w at there ∙ r.sheets;
  listed = λ h. sum_by-join (sum_by (listed h)) (sum-is_additive (listed h)) st.views id v other w at there ∙ r.listed h;
  shelved = λ h. let a = sum_by-join (sum_by (put h)) (sum-is_additive (put h)) st.views id v other w at there in let b = sum_by-join (sum_by (taken h)) (sum-is_additive (taken h)) st.views id v other w at there in let c = r.shelved h in omega arith;
}

pub looks : (slots seats homes id : ℕ) (me : Me (Unit {0}) View) (i : ℕ) → Allows (Owned slots seats) homes id me i (λ n. n) (looked (step homes i 0 0 none) me)
looks slots seats homes id me i st r _ at _ = (
  me.0,
  keeps,
  tt,
  subst (λ (x : List ℕ × List View). Owned slots seats record { words = x.0; homes = st.homes; views = x.1 }) (λ k. (sym (set-get_or st.words i 0) k, sym (set_again st.views id me.0 at) k)) r,
  (
    refl,
    λ t u e slot has too.
        let a = below slots seats st r (only slot once) id (t ∷ u ∷ []) (at ∙ ap some e) in
        let c = sum_by-cons (listed (only slot once)) t (u ∷ []) in
        let s = single (listed (only slot once)) u in
        let b = words-once (place slot) st.words in
        let f = words-slot slot once st.words in
        omega (arith, a, c, s, b, f, has, too),
  ),
)
