-- What the words of a closed table are, by the lists of its seats.
use Rattle.std.proofs.Common.{◌≡◌, ℕ, zero, suc, ◌+◌, ◌<◌, ◌≤◌, List, [], ◌∷◌, ◌++◌, length, get_or, map, reverse, All, sym, refl, ap, ◌∙◌, subst, arith}
use Rattle.std.specs.Prelude.{sum_by}
use Rattle.std.proofs.lemmas.Bool.Decides.{nat_tests}
use Rattle.std.proofs.Math.ListN.{get_or-append}
use Rattle.std.proofs.Math.Seq.{get_or-append_seam}
use mathlib.Core.Logic.{dite}
use mathlib.Core.Option.{some, some-injective, some-ne-none}
use native.Mathlib.Decide.{ℕ_discrete, dec_le}
use lib.ListN.{get_elem?}
use Rattle.atomic_table.specs.Table.{State}
use Rattle.owners_table.specs.declared.mark.TheConstants.{SHELVES}
use Rattle.owners_table.specs.Owning.{SeatView, OwnersView, Owned, IsLeft, IsSlotWord, Holds, HasOneOwner, weigh, word_at, run_word, held_by, owner_of, sheet}
use Rattle.owners_table.specs.Place.{place}
use Rattle.owners_table.proofs.PlaceLemmas.{slot_at-place, slot-inside}
use Rattle.owners_table.proofs.Sums.{sum_by-none, sum_by-member, sum_by-whole}
use Rattle.owners_table.proofs.Joining.{sum_by-joined, length-joined}
use Rattle.owners_table.proofs.Lists.{only, once, differs, differs-same, words-of_run, words-of_none, words-outside, words-slot, weigh-flat_map}
use Rattle.owners_table.proofs.Lists.{word_at-same, word_at-none}
use Rattle.owners_table.proofs.OwningSteps.{View, listed}
use Rattle.owners_table.proofs.OwningLaw.{entries-words}

-- the last state, in which one seat has the sheets of these
pub left-by : (o : OwnersView) (seats : List SeatView) (st : State (Unit {0}) View) (id : ℕ) → Owned o.slots o.seats st
    → get_elem? st.views id ≡ some (reverse (map sheet seats)) → IsLeft o seats st.words
left-by o seats st id r at = record {
  wide = r.wide;
  words = r.words;
  spare = r.spare;
  some = λ h. let a = same h in let b = sum_by-member (sum_by (listed h)) st.views id (reverse (map sheet seats)) at in let c = r.listed h in omega arith;
  all = λ whole h.
      let a = same h in
      let n = length-joined sheet seats in
      let q = r.sheets in
      let b = sum_by-whole (listed h) st.views id (reverse (map sheet seats)) at (omega arith) in
      let c = r.listed h in
      omega arith;
}
  where
    same : (h : ℕ → ℕ → ℕ) → weigh h (held_by seats) ≡ sum_by (listed h) (reverse (map sheet seats))
    same h = weigh-flat_map h (λ (s : SeatView). s.held) seats ∙ sym (sum_by-joined sheet (listed h) seats)

-- the last state, with no seat
pub left-none : (o : OwnersView) (seats : List SeatView) (st : State (Unit {0}) View) → Owned o.slots o.seats st → seats ≡ [] → IsLeft o seats st.words
left-none o seats st r empty = record {
  wide = r.wide;
  words = r.words;
  spare = r.spare;
  some = λ h. let a = nothing h in omega arith;
  all = λ whole h. let a = nothing h in let n = ap length empty in let q = r.sheets in let z = sum_by-none (listed h) st.views (omega arith) in let c = r.listed h in omega arith;
}
  where
    nothing : (h : ℕ → ℕ → ℕ) → weigh h (held_by seats) ≡ 0
    nothing h = ap (λ (ss : List SeatView). weigh h (held_by ss)) empty

-- seats that hold nothing have no entry
pub all-empty : (seats : List SeatView) → All (λ s. s.held ≡ []) seats → held_by seats ≡ []
all-empty [] none = refl
all-empty (s ∷ ss) none = λ i. none zero s (omega arith) i ++ all-empty ss (λ k d l. none (suc k) d (omega arith)) i

-- a list of words of which each is at most n
all-at_most : (n : ℕ) (xs : List ℕ) → ((k : ℕ) → k < length xs → get_or xs k 0 ≤ n) → All (λ w. w ≤ n) xs
all-at_most n [] each k d l = absurd (omega arith)
all-at_most n (x ∷ xs) each zero d l = each zero (omega arith)
all-at_most n (x ∷ xs) each (suc k) d l = all-at_most n xs (λ j m. each (suc j) (omega arith)) k d (omega arith)

-- the word of a slot that is a run's, and of one that isn't
run_word-run : (w : ℕ) → 4096 ≤ w → run_word w ≡ w
run_word-run w run = grind (arith, nat_tests)

run_word-none : (w : ℕ) → w < 4096 → run_word w ≡ 0
run_word-none w low = grind (arith, nat_tests)

-- a word that is no run's is at most the last shelf's
low-word : (w : ℕ) → IsSlotWord w → run_word w ≡ 0 → w ≤ SHELVES
low-word w is none = dite (dec_le w SHELVES) (λ low. low) (λ high. let m = is (omega arith) in let r = run_word-run w m.0 in absurd (omega arith))

module _ (o : OwnersView) (seats : List SeatView) (ws : List ℕ) (left : IsLeft o seats ws) where
  abbrev entries : List (ℕ × ℕ)
  entries = held_by seats

  there : (slot : ℕ) → slot < o.slots → place slot < length ws
  there slot inside = let wide = left.wide in let t = slot-inside o.slots slot inside in omega (arith, wide, t)

  -- a slot that some seat holds is a run's
  owned : (slot : ℕ) → Holds slot entries → (slot < o.slots) × (4096 ≤ get_or ws (place slot) 0)
  owned slot has =
      let a = left.some (only slot once) in
      let e = words-slot slot once ws in
      let p : ℕ = place slot in
      let within : p < length ws =
      dite (dec_le (length ws) p) (λ out. let z = words-outside p once 0 ws (omega (arith, out)) in absurd (omega (arith, a, e, z, has))) (λ inside. omega (arith, inside)) in
      let run : 4096 ≤ get_or ws p 0 =
      dite (dec_le 4096 (get_or ws p 0)) (λ run. run) (λ free. let z = words-of_none p once ws within (omega (arith, free)) in absurd (omega (arith, a, e, z, has))) in
      let back = slot_at-place slot in (
        dite (dec_le o.slots slot) (λ out. let w = left.spare p (omega (arith, out, back)) in absurd (omega (arith, w, run))) (λ inside. omega (arith, inside)),
        run,
      )

  left-held : (slot : ℕ) → Holds slot entries → (slot < o.slots) × (get_or ws (place slot) 0 ≡ word_at slot entries)
  left-held slot has =
      let own = owned slot has in
      let w : ℕ = get_or ws (place slot) 0 in
      let a = left.some (only slot (differs w)) in
      let b = words-slot slot (differs w) ws ∙ (words-of_run (place slot) (differs w) ws (there slot own.0) own.1 ∙ differs-same w) in
      (own.0, sym (word_at-same slot w entries has (omega (arith, a, b))))

  module _ (whole : length seats ≡ o.seats) where
    left-one : (slot : ℕ) → slot < o.slots → HasOneOwner (get_or ws (place slot) 0) entries slot
    left-one slot inside = entries-words entries ws (left.all whole) slot (there slot inside)

    left-words : (slot : ℕ) → slot < o.slots → run_word (get_or ws (place slot) 0) ≡ word_at slot entries
    left-words slot inside =
        let a = left.all whole (only slot once) ∙ words-slot slot once ws in
        let w : ℕ = get_or ws (place slot) 0 in
        dite (dec_le 4096 w)
        (λ run. let b = words-of_run (place slot) once ws (there slot inside) run in run_word-run w run ∙ (left-held slot (omega (arith, a, b))).1)
        (λ free.
        let low : w < 4096 = omega (arith, free) in
        run_word-none w low ∙ sym (word_at-none slot entries (a ∙ words-of_none (place slot) once ws (there slot inside) low)))

    left-low : All (λ s. s.held ≡ []) seats → (slot : ℕ) → slot < o.slots → get_or ws (place slot) 0 ≤ SHELVES
    left-low none slot inside =
        low-word (get_or ws (place slot) 0) (left.words (place slot)) (left-words slot inside ∙ ap (word_at slot) (all-empty seats none))

  -- the same of the words that were read of all slots
  module _ (xs : List ℕ) (as_many : length xs ≡ o.slots) (at : (slot : ℕ) → slot < o.slots → get_or xs slot 0 ≡ get_or ws (place slot) 0) where
    pub read-marks : (slot : ℕ) → slot < o.slots → IsSlotWord (get_or xs slot 0)
    read-marks slot inside = subst IsSlotWord (sym (at slot inside)) (left.words (place slot))

    pub read-held : (slot : ℕ) → Holds slot entries → (slot < o.slots) × (get_or xs slot 0 ≡ word_at slot entries)
    read-held slot has = let l = left-held slot has in (l.0, at slot l.0 ∙ l.1)

    pub read-words : length seats ≡ o.seats → (slot : ℕ) → slot < o.slots → run_word (get_or xs slot 0) ≡ word_at slot entries
    read-words whole slot inside = ap run_word (at slot inside) ∙ left-words whole slot inside

    pub read-one : length seats ≡ o.seats → (slot : ℕ) → slot < o.slots → HasOneOwner (get_or xs slot 0) entries slot
    read-one whole slot inside = left-one whole slot inside ∙ ap (owner_of slot) (sym (at slot inside))

    pub read-low : length seats ≡ o.seats → All (λ s. s.held ≡ []) seats → All (λ w. w ≤ SHELVES) xs
    read-low whole none =
        all-at_most SHELVES xs (λ slot within. let inside : slot < o.slots = omega (arith, within, as_many) in let same = at slot inside in let low = left-low whole none slot inside in omega (arith, same, low))

-- the words of the first k slots were read
abbrev pub AreRead : List ℕ → ℕ → List ℕ → Type 0
AreRead ws k xs = (slot : ℕ) → slot < k → get_or xs slot 0 ≡ get_or ws (place slot) 0

-- no word was read yet
pub none-read : (ws xs : List ℕ) → AreRead ws 0 xs
none-read ws xs slot l = absurd (omega arith)

-- what a list has at a place
pub elem-get_or : (ws : List ℕ) (k w : ℕ) → get_elem? ws k ≡ some w → get_or ws k 0 ≡ w
elem-get_or [] k w e = absurd (some-ne-none w (sym e))
elem-get_or (x ∷ xs) zero w e = some-injective x w e
elem-get_or (x ∷ xs) (suc k) w e = elem-get_or xs k w e

-- one more word is read
pub next-read : (ws : List ℕ) (k w : ℕ) (xs : List ℕ) → length xs ≡ k → AreRead ws k xs → get_elem? ws (place k) ≡ some w → AreRead ws (k + 1) (xs ++ w ∷ [])
next-read ws k w xs len read e slot l = dite (ℕ_discrete slot k)
    (λ last. ap (λ (i : ℕ). get_or (xs ++ w ∷ []) i 0) (last ∙ sym len) ∙ (get_or-append_seam xs w [] 0 ∙ (sym (elem-get_or ws (place k) w e) ∙ ap (λ (i : ℕ). get_or ws (place i) 0) (sym last))))
    (λ other. get_or-append xs (w ∷ []) 0 slot (omega (arith, len, l, other)) ∙ read slot (omega (arith, l, other)))

-- the words of all slots were read
pub read-all : (ws : List ℕ) (k : ℕ) (xs : List ℕ) (n : ℕ) {slots : ℕ} → length xs ≡ k → AreRead ws k xs → n ≡ slots → k ≤ n → n ≤ k
    → (length xs ≡ slots) × ((slot : ℕ) → slot < slots → get_or xs slot 0 ≡ get_or ws (place slot) 0)
read-all ws k xs n len read same le ge = (omega (arith, len, same, le, ge), λ slot l. read slot (omega (arith, l, same, le, ge)))
