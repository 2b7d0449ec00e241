-- Lists of entries, and the words of slots, by what they weigh.
use Rattle.std.proofs.Common.{◌≡◌, ◌≢◌, ℕ, zero, suc, ◌+◌, ◌<◌, ◌≤◌, Bool, true, false, List, [], ◌∷◌, length, get_or, set, sym, refl, ap, ◌∙◌, subst, arith}
use Rattle.std.specs.Prelude.{if◌then◌else◌, cond, ◌==◌, nat_lt, sum_by, flat_map}
use Rattle.std.proofs.lemmas.Bool.Decides.{nat_tests}
use Rattle.std.proofs.lemmas.List.Sums.{sum_by-cons, sum_by-append}
use mathlib.Core.Logic.{dite}
use native.Mathlib.Decide.{ℕ_discrete, dec_le}
use Rattle.owners_table.specs.Owning.{entries_of, Holds, word_at, without, weigh, by_place, weigh_word, weigh_words, weigh_shelf, weigh_shelves}
use Rattle.owners_table.specs.Place.{place, slot_at}
use Rattle.owners_table.proofs.PlaceLemmas.{slot_at-place, slot_at-injective}

-- only the entries of the slot count
abbrev pub only : ℕ → (ℕ → ℕ) → ℕ → ℕ → ℕ
only slot g k w = if k == slot then g w else 0

-- each counts once
abbrev pub once : ℕ → ℕ
once w = 1

-- the words that are not this one count
abbrev pub differs : ℕ → ℕ → ℕ
differs word w = if w == word then 0 else 1

only-same : (slot : ℕ) (g : ℕ → ℕ) (k w : ℕ) → k ≡ slot → only slot g k w ≡ g w
only-same slot g k w e = grind (arith, nat_tests)

only-other : (slot : ℕ) (g : ℕ → ℕ) (k w : ℕ) → k ≢ slot → only slot g k w ≡ 0
only-other slot g k w e = grind (arith, nat_tests)

same-word : (word w : ℕ) → differs word w ≡ 0 → w ≡ word
same-word word w e = grind (arith, nat_tests)

pub differs-same : (word : ℕ) → differs word word ≡ 0
differs-same word = grind (arith, nat_tests)

test-true : (a b : ℕ) → (a == b) ≡ true → a ≡ b
test-true a b e = grind (arith, nat_tests)

test-false : (a b : ℕ) → (a == b) ≡ false → a ≢ b
test-false a b e = grind (arith, nat_tests)

pub word-none : (h : ℕ → ℕ → ℕ) (k w : ℕ) → w < 4096 → weigh_word h k w ≡ 0
word-none h k w l = grind (arith, nat_tests)

pub word-some : (h : ℕ → ℕ → ℕ) (k w : ℕ) → 4096 ≤ w → weigh_word h k w ≡ h k w
word-some h k w l = grind (arith, nat_tests)

word-other : (slot : ℕ) (g : ℕ → ℕ) (k w : ℕ) → k ≢ slot → weigh_word (only slot g) k w ≡ 0
word-other slot g k w e = let o = only-other slot g k w e in grind (arith, nat_tests)

-- one word changes, of words that weigh f each, and together what they add up to
change : (f : ℕ → ℕ → ℕ) (all : ℕ → List ℕ → ℕ) → ((k w : ℕ) (ws : List ℕ) → all k (w ∷ ws) ≡ f k w + all (suc k) ws)
    → (k : ℕ) (ws : List ℕ) (i x : ℕ) → i < length ws → all k (set ws i x) + f (k + i) (get_or ws i 0) ≡ all k ws + f (k + i) x
change f all adds k [] i x l = absurd (omega arith)
change f all adds k (w ∷ ws) zero x l =
    let e : k + 0 ≡ k = omega arith in let a = adds k w ws in let b = adds k x ws in rw e (omega (arith, a, b))
change f all adds k (w ∷ ws) (suc i) x l =
    let e : suc k + i ≡ k + suc i = omega arith in
    let r = change f all adds (suc k) ws i x (omega arith) in
    let r' = rw e at r in
    let a = adds k w ws in
    let b = adds k w (set ws i x) in
    omega (arith, r', a, b)

pub words-change : (h : ℕ → ℕ → ℕ) (ws : List ℕ) (i x : ℕ) → i < length ws
    → weigh_words h 0 (set ws i x) + weigh_word h i (get_or ws i 0) ≡ weigh_words h 0 ws + weigh_word h i x
words-change h ws i x l =
    let e : 0 + i ≡ i = omega arith in let c = change (weigh_word h) (weigh_words h) (λ k w ws. refl) 0 ws i x l in rw e at c

pub shelf-none : (h : ℕ → ℕ → ℕ) (k w : ℕ) → 4096 ≤ w → weigh_shelf h k w ≡ 0
shelf-none h k w l = grind (arith, nat_tests)

pub shelf-free : (h : ℕ → ℕ → ℕ) (k : ℕ) → weigh_shelf h k 0 ≡ 0
shelf-free h k = grind (arith, nat_tests)

pub shelf-some : (h : ℕ → ℕ → ℕ) (k w : ℕ) → 0 < w → w < 4096 → weigh_shelf h k w ≡ h k w
shelf-some h k w p l = grind (arith, nat_tests)

pub shelves-change : (h : ℕ → ℕ → ℕ) (ws : List ℕ) (i x : ℕ) → i < length ws
    → weigh_shelves h 0 (set ws i x) + weigh_shelf h i (get_or ws i 0) ≡ weigh_shelves h 0 ws + weigh_shelf h i x
shelves-change h ws i x l =
    let e : 0 + i ≡ i = omega arith in let c = change (weigh_shelf h) (weigh_shelves h) (λ k w ws. refl) 0 ws i x l in rw e at c

words-past : (slot : ℕ) (g : ℕ → ℕ) (k : ℕ) (ws : List ℕ) → slot < k → weigh_words (only slot g) k ws ≡ 0
words-past slot g k [] l = refl
words-past slot g k (w ∷ ws) l = let e = word-other slot g k w (λ (e : k ≡ slot). omega arith) in omega (arith, words-past slot g (suc k) ws (omega arith))

-- what the words weigh where one slot counts
words-only : (slot : ℕ) (g : ℕ → ℕ) (k : ℕ) (ws : List ℕ) (i : ℕ) → slot ≡ k + i → i < length ws
    → weigh_words (only slot g) k ws ≡ weigh_word (only slot g) slot (get_or ws i 0)
words-only slot g k [] i e l = absurd (omega arith)
words-only slot g k (w ∷ ws) zero e l = let e' : slot ≡ k = omega arith in let p = words-past slot g (suc k) ws (omega arith) in ap (λ (z : ℕ). z + weigh_words (only slot g) (suc k) ws) (ap (λ (j : ℕ). weigh_word (only slot g) j w) (sym e')) ∙ omega (arith, p)
words-only slot g k (w ∷ ws) (suc i) e l =
    let t = word-other slot g k w (λ (x : k ≡ slot). omega arith) in omega (arith, words-only slot g (suc k) ws i (omega arith) (omega arith))

-- the words weigh what the slot's word weighs, where it is a run's
pub words-of_run : (slot : ℕ) (g : ℕ → ℕ) (ws : List ℕ) → slot < length ws → 4096 ≤ get_or ws slot 0 → weigh_words (only slot g) 0 ws ≡ g (get_or ws slot 0)
words-of_run slot g ws l run =
    words-only slot g 0 ws slot (omega arith) l ∙ (word-some (only slot g) slot (get_or ws slot 0) run ∙ only-same slot g slot (get_or ws slot 0) refl)

-- and nothing where it is no run's
pub words-of_none : (slot : ℕ) (g : ℕ → ℕ) (ws : List ℕ) → slot < length ws → get_or ws slot 0 < 4096 → weigh_words (only slot g) 0 ws ≡ 0
words-of_none slot g ws l free = words-only slot g 0 ws slot (omega arith) l ∙ word-none (only slot g) slot (get_or ws slot 0) free

-- past the last slot there is nothing
pub words-outside : (slot : ℕ) (g : ℕ → ℕ) (k : ℕ) (ws : List ℕ) → k + length ws ≤ slot → weigh_words (only slot g) k ws ≡ 0
words-outside slot g k [] l = refl
words-outside slot g k (w ∷ ws) l =
    let t = word-other slot g k w (λ (x : k ≡ slot). omega arith) in omega (arith, words-outside slot g (suc k) ws (omega arith))

-- a slot has one word
pub words-once : (slot : ℕ) (ws : List ℕ) → weigh_words (only slot once) 0 ws ≤ 1
words-once slot ws = dite (dec_le (length ws) slot)
    (λ out. let z = words-outside slot once 0 ws (omega arith) in omega arith)
    (λ within. let e = words-only slot once 0 ws slot (omega arith) (omega arith) in let m = at_most slot (get_or ws slot 0) in omega arith)
  where
    at_most : (slot w : ℕ) → weigh_word (only slot once) slot w ≤ 1
    at_most slot w = grind (arith, nat_tests)

-- where one slot counts, its place does
only-place : (p : ℕ) (g : ℕ → ℕ) (k w : ℕ) → by_place (only (slot_at p) g) k w ≡ only p g k w
only-place p g k w = dite (ℕ_discrete k p)
    (λ e. only-same (slot_at p) g (slot_at k) w (ap slot_at e) ∙ sym (only-same p g k w e))
    (λ ne. only-other (slot_at p) g (slot_at k) w (λ e. ne (slot_at-injective k p e)) ∙ sym (only-other p g k w ne))

pub words-place : (p : ℕ) (g : ℕ → ℕ) (k : ℕ) (ws : List ℕ) → weigh_words (by_place (only (slot_at p) g)) k ws ≡ weigh_words (only p g) k ws
words-place p g k [] = refl
words-place p g k (w ∷ ws) =
    λ i. (if nat_lt w 4096 then 0 else only-place p g k w i) + words-place p g (suc k) ws i

-- the same of a slot
pub words-slot : (slot : ℕ) (g : ℕ → ℕ) (ws : List ℕ) → weigh_words (by_place (only slot g)) 0 ws ≡ weigh_words (only (place slot) g) 0 ws
words-slot slot g ws =
    subst (λ (s : ℕ). weigh_words (by_place (only s g)) 0 ws ≡ weigh_words (only (place slot) g) 0 ws) (slot_at-place slot) (words-place (place slot) g 0 ws)

-- an entry of the slot that is taken out
pub weigh-without : (h : ℕ → ℕ → ℕ) (slot : ℕ) (es : List (ℕ × ℕ)) → Holds slot es → weigh h (without slot es) + h slot (word_at slot es) ≡ weigh h es
weigh-without h slot [] has = absurd (omega arith)
weigh-without h slot (e ∷ es) has = go (λ has. weigh-without h slot es has) (e.0 == slot) refl
  where
    go : (Holds slot es → weigh h (without slot es) + h slot (word_at slot es) ≡ weigh h es) → (b : Bool) → (e.0 == slot) ≡ b
        → weigh h (if b then es else e ∷ without slot es) + h slot (if b then e.1 else word_at slot es) ≡ weigh h (e ∷ es)
    go again true is = let f = ap (λ (z : ℕ). h z e.1) (test-true e.0 slot is) in let c = sum_by-cons (λ e. h e.0 e.1) e es in omega (arith, f)
    go again false is =
        let c = sum_by-cons (λ e. h e.0 e.1) e es in
        let d = sum_by-cons (λ e. h e.0 e.1) e (without slot es) in
        let k = sum_by-cons (λ e. if e.0 == slot then 1 else 0) e es in
        let o = only-other slot once e.0 e.1 (test-false e.0 slot is) in
        let r = again (omega arith) in
        omega (arith, r)

-- a word that every entry of the slot has is the first one's
pub word_at-same : (slot word : ℕ) (es : List (ℕ × ℕ)) → Holds slot es → weigh (only slot (differs word)) es ≡ 0 → word_at slot es ≡ word
word_at-same slot word [] has none = absurd (omega arith)
word_at-same slot word (e ∷ es) has none = go (λ has none. word_at-same slot word es has none) (e.0 == slot) refl
  where
    go : (Holds slot es → weigh (only slot (differs word)) es ≡ 0 → word_at slot es ≡ word) → (b : Bool) → (e.0 == slot) ≡ b
        → (if b then e.1 else word_at slot es) ≡ word
    go again true is =
        let c = sum_by-cons (λ e. only slot (differs word) e.0 e.1) e es in
        let s = only-same slot (differs word) e.0 e.1 (test-true e.0 slot is) in
        same-word word e.1 (omega arith)
    go again false is =
        let c = sum_by-cons (λ e. only slot (differs word) e.0 e.1) e es in
        let k = sum_by-cons (λ e. if e.0 == slot then 1 else 0) e es in
        let o = only-other slot once e.0 e.1 (test-false e.0 slot is) in
        again (omega arith) (omega arith)

-- the lists weigh together what each weighs
pub weigh-flat_map : {A : Type 0} (h : ℕ → ℕ → ℕ) (f : A → List (ℕ × ℕ)) (xs : List A) → weigh h (flat_map f xs) ≡ sum_by (λ x. weigh h (f x)) xs
weigh-flat_map h f [] = refl
weigh-flat_map h f (x ∷ xs) =
    let a = sum_by-append (λ e. h e.0 e.1) (f x) (flat_map f xs) in
    let c = sum_by-cons (λ x. weigh h (f x)) x xs in
    omega (arith, weigh-flat_map h f xs)

-- a list with no entry of the slot: what holds of none holds of it, where one of another slot keeps it
with_none : (slot : ℕ) (P : List (ℕ × ℕ) → Type 0) → P [] → ((e : ℕ × ℕ) (es : List (ℕ × ℕ)) → (e.0 == slot) ≡ false → P es → P (e ∷ es))
    → (es : List (ℕ × ℕ)) → weigh (only slot once) es ≡ 0 → P es
with_none slot P empty more [] none = empty
with_none slot P empty more (e ∷ es) none = go (λ none. with_none slot P empty more es none) (e.0 == slot) refl
  where
    go : (weigh (only slot once) es ≡ 0 → P es) → (b : Bool) → (e.0 == slot) ≡ b → P (e ∷ es)
    go again true is =
        let c = sum_by-cons (λ e. only slot once e.0 e.1) e es in
        let s = only-same slot once e.0 e.1 (test-true e.0 slot is) in
        absurd (omega arith)
    go again false is =
        let c = sum_by-cons (λ e. only slot once e.0 e.1) e es in
        let o = only-other slot once e.0 e.1 (test-false e.0 slot is) in
        more e es is (again (omega arith))

-- it has no entry of the slot
pub entries-none : (slot : ℕ) (es : List (ℕ × ℕ)) → weigh (only slot once) es ≡ 0 → entries_of slot es ≡ []
entries-none slot es none =
    with_none slot (λ es. entries_of slot es ≡ []) refl (λ e es other h. ap (λ b. cond b (e ∷ entries_of slot es) (entries_of slot es)) other ∙ h) es none

-- and no word of it
pub word_at-none : (slot : ℕ) (es : List (ℕ × ℕ)) → weigh (only slot once) es ≡ 0 → word_at slot es ≡ 0
word_at-none slot es none =
    with_none slot (λ es. word_at slot es ≡ 0) refl (λ e es other h. ap (λ b. if b then e.1 else word_at slot es) other ∙ h) es none

-- a slot of one entry
pub entries-one : (slot word : ℕ) (es : List (ℕ × ℕ)) → weigh (only slot once) es ≡ 1 → weigh (only slot (differs word)) es ≡ 0
    → entries_of slot es ≡ (slot, word) ∷ []
entries-one slot word [] one none = absurd (omega arith)
entries-one slot word (e ∷ es) one none = go (λ one none. entries-one slot word es one none) (e.0 == slot) refl
  where
    go : (weigh (only slot once) es ≡ 1 → weigh (only slot (differs word)) es ≡ 0 → entries_of slot es ≡ (slot, word) ∷ []) → (b : Bool) → (e.0 == slot) ≡ b
        → cond b (e ∷ entries_of slot es) (entries_of slot es) ≡ (slot, word) ∷ []
    go again true is =
        let c = sum_by-cons (λ e. only slot once e.0 e.1) e es in
        let d = sum_by-cons (λ e. only slot (differs word) e.0 e.1) e es in
        let here = test-true e.0 slot is in
        let s = only-same slot once e.0 e.1 here in
        let t = only-same slot (differs word) e.0 e.1 here in
        let w = same-word word e.1 (omega arith) in
        let rest = entries-none slot es (omega arith) in
        λ i. (here i, w i) ∷ rest i
    go again false is =
        let c = sum_by-cons (λ e. only slot once e.0 e.1) e es in
        let d = sum_by-cons (λ e. only slot (differs word) e.0 e.1) e es in
        let away = test-false e.0 slot is in
        let o = only-other slot once e.0 e.1 away in
        let p = only-other slot (differs word) e.0 e.1 away in
        again (omega arith) (omega arith)
