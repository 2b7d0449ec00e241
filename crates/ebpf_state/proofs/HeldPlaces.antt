-- The place of a new reference among those that are held, in the order of their calls.
use Rattle.std.proofs.Common.{◌≡◌, ℕ, zero, suc, ◌<◌, ◌≤◌, Bool, true, false, List, [], ◌∷◌, ◌++◌, length, get_or, set, Result, Ok, Err, refl, sym}
use Rattle.std.proofs.Common.{ap, ◌∙◌, subst, arith}
use Rattle.std.specs.Prelude.{filter, nat_lt, All}
use Rattle.std.specs.List.{AllWithin, insert}
use Rattle.std.specs.List.Sorted.{IsNonDecreasingBy, IsSearchInRange, IsBinarySearchResult}
use Rattle.std.specs.Ordering.{nat_cmp, ordering_index}
use Rattle.std.specs.declared.cmp.Ordering.TheVariants.{Less, Equal, Greater}
use Rattle.std.proofs.lemmas.Cmp.{ranked}
use Rattle.std.proofs.lemmas.Bool.{lt-ltb, ltb-true}
use Rattle.std.proofs.lemmas.Bool.Decides.{nat_tests}
use Rattle.std.proofs.lemmas.List.{map-append}
use Rattle.std.proofs.lemmas.List.Elements.{All-nil, All-cons, All-head, All-tail, filter_passes}
use Rattle.ebpf_state.specs.declared.held.Held.{Held}
use Rattle.ebpf_state.specs.Ascending.{IsAscending}
use Rattle.ebpf_state.specs.References.{held_with}
use Rattle.ebpf_state.proofs.HeldLists.{calls_of, IsBelowFirst, ascending-cons, tail_ascends, first_below, lower_first, ascending-filter}

not_below : (a b : ℕ) → b ≤ a → nat_lt a b ≡ false
not_below a b le = grind (arith, nat_tests)

filter_all : (p : Held → Bool) (held : List Held) → All (λ h. p h ≡ true) held → filter p held ≡ held
filter_all p [] h = refl
filter_all p (x ∷ held) h = rw (All-head (λ y. p y ≡ true) x held h, filter_all p held (All-tail (λ y. p y ≡ true) x held h)) refl

filter_nothing : (p : Held → Bool) (held : List Held) → All (λ h. p h ≡ false) held → filter p held ≡ []
filter_nothing p [] h = refl
filter_nothing p (x ∷ held) h = rw (All-head (λ y. p y ≡ false) x held h, filter_nothing p held (All-tail (λ y. p y ≡ false) x held h)) refl

-- ---- what `held_with` leaves, reference by reference

with-before : (new : Held) (held : List Held) → All (λ h. new.call < h.call) held → held_with new held ≡ new ∷ held
with-before new held above =
    let none = filter_nothing (λ h. nat_lt h.call new.call) held (λ k d lt. not_below (get_or held k d).call new.call (omega (arith, above k d lt))) in
    let all = filter_all (λ h. nat_lt new.call h.call) held (λ k d lt. lt-ltb new.call (get_or held k d).call (above k d lt)) in
    rw (none, all) refl

with-behind : (new x : Held) (held : List Held) → x.call < new.call → held_with new (x ∷ held) ≡ x ∷ held_with new held
with-behind new x held lt = rw (lt-ltb x.call new.call lt, not_below new.call x.call (omega (arith, lt))) refl

with-same : (new x : Held) (held : List Held) → x.call ≡ new.call → held_with new (x ∷ held) ≡ held_with new held
with-same new x held e = rw (not_below x.call new.call (omega (arith, e)), not_below new.call x.call (omega (arith, e))) refl

-- ---- where it is

-- what is below the first of an ascending list is below all of it
all_above : (n : ℕ) (held : List Held) → IsBelowFirst n (calls_of held) → IsAscending (calls_of held) → All (λ h. n < h.call) held
all_above n [] below h = All-nil (λ (x : Held). n < x.call)
all_above n (x ∷ held) below h =
    let rest = tail_ascends x.call (calls_of held) h in
    All-cons (λ (y : Held). n < y.call) x held below (all_above n held (lower_first n x.call (calls_of held) below (first_below x.call (calls_of held) h)) rest)

first_above : (x : Held) (held : List Held) → IsAscending (calls_of (x ∷ held)) → All (λ h. x.call < h.call) held
first_above x held h = all_above x.call held (first_below x.call (calls_of held) h) (tail_ascends x.call (calls_of held) h)

-- written over the one of its call
held_with-set : (new : Held) (held : List Held) (i : ℕ) → IsAscending (calls_of held) → i < length held
    → (get_or held i new).call ≡ new.call → set held i new ≡ held_with new held
held_with-set new [] i h lt e = absurd (omega (arith, lt))
held_with-set new (x ∷ held) zero h lt e =
    sym (with-same new x held e ∙ with-before new held (λ k d inside. omega (arith, e, first_above x held h k d inside)))
held_with-set new (x ∷ held) (suc i) h lt e =
    let inside : i < length held = omega (arith, lt) in
    let below : x.call < new.call = omega (arith, e, first_above x held h i new inside) in
    ap (λ (l : List Held). x ∷ l) (held_with-set new held i (tail_ascends x.call (calls_of held) h) inside e) ∙ sym (with-behind new x held below)

-- put between those of earlier and those of later calls
held_with-insert : (new : Held) (held : List Held) (i : ℕ) → AllWithin (λ h. h.call < new.call) held 0 i
    → AllWithin (λ h. new.call < h.call) held i (length held) → insert held i new ≡ held_with new held
held_with-insert new held zero earlier later = sym (with-before new held (λ k d inside. later k d (omega arith) inside))
held_with-insert new [] (suc i) earlier later = refl
held_with-insert new (x ∷ held) (suc i) earlier later =
    ap (λ (l : List Held). x ∷ l) (held_with-insert new held i (λ k d low lt. earlier (suc k) d (omega arith) (omega (arith, lt))) (λ k d low lt. later (suc k) d (omega (arith, low)) (omega (arith, lt))))
    ∙ sym (with-behind new x held (earlier 0 x (omega arith) (omega arith)))

-- ---- the references still ascend

below-append : (n m : ℕ) (ks ns : List ℕ) → n < m → IsBelowFirst n ks → IsBelowFirst n (ks ++ (m ∷ ns))
below-append n m [] ns lt below = lt
below-append n m (k ∷ ks) ns lt below = below

ascending-append : (m : ℕ) (held : List Held) (ns : List ℕ) → All (λ h. h.call < m) held → IsAscending (calls_of held)
    → IsAscending (m ∷ ns) → IsAscending (calls_of held ++ (m ∷ ns))
ascending-append m [] ns lower h last = last
ascending-append m (x ∷ held) ns lower h last =
    ascending-cons x.call (calls_of held ++ (m ∷ ns))
    (below-append x.call m (calls_of held) ns (All-head (λ (y : Held). y.call < m) x held lower) (first_below x.call (calls_of held) h))
    (ascending-append m held ns (All-tail (λ (y : Held). y.call < m) x held lower) (tail_ascends x.call (calls_of held) h) last)

first_passes : (n : ℕ) (held : List Held) → All (λ h. nat_lt n h.call ≡ true) held → IsBelowFirst n (calls_of held)
first_passes n [] h = tt
first_passes n (x ∷ held) h = ltb-true n x.call (All-head (λ y. nat_lt n y.call ≡ true) x held h)

pub ascending-held_with : (new : Held) (held : List Held) → IsAscending (calls_of held) → IsAscending (calls_of (held_with new held))
ascending-held_with new held h =
    let earlier = filter (λ (x : Held). nat_lt x.call new.call) held in
    let later = filter (λ (x : Held). nat_lt new.call x.call) held in
    let last = ascending-cons new.call (calls_of later) (first_passes new.call later (filter_passes (λ (x : Held). nat_lt new.call x.call) held)) (ascending-filter (λ (x : Held). nat_lt new.call x.call) held h) in
    let lower : All (λ (x : Held). x.call < new.call) earlier =
    λ k d lt. ltb-true (get_or earlier k d).call new.call (filter_passes (λ (x : Held). nat_lt x.call new.call) held k d lt) in
    subst IsAscending (sym (map-append (λ (x : Held). x.call) earlier (new ∷ later))) (ascending-append new.call earlier (calls_of later) lower (ascending-filter (λ (x : Held). nat_lt x.call new.call) held h) last)

-- ---- what a search finds

calls_rise : (held : List Held) → IsAscending (calls_of held) → (i j : ℕ) (d : Held) → i < j → j < length held → (get_or held i d).call < (get_or held j d).call
calls_rise [] h i j d lt inside = absurd (omega (arith, inside))
calls_rise (x ∷ held) h i zero d lt inside = absurd (omega (arith, lt))
calls_rise (x ∷ held) h zero (suc j) d lt inside = first_above x held h j d (omega (arith, inside))
calls_rise (x ∷ held) h (suc i) (suc j) d lt inside = calls_rise held (tail_ascends x.call (calls_of held) h) i j d (omega (arith, lt)) (omega (arith, inside))

-- the comparisons with a call rise along the list, as a binary search asks
comparisons_rise : (held : List Held) (call : ℕ) → IsAscending (calls_of held) → IsNonDecreasingBy (λ h. ordering_index (nat_cmp h.call call)) held
comparisons_rise held call h i j d le inside =
    let rise : (get_or held i d).call ≤ (get_or held j d).call =
    grind (arith, calls_rise held h i j d, λ (same : i ≡ j). ap (λ (k : ℕ). (get_or held k d).call) same) in
    grind (arith, nat_tests)

-- the new one is written over the one that a search found, or else put in the gap
abbrev pub placed : Held → List Held → Result ℕ ℕ → List Held
placed new held (Ok i) = set held i new
placed new held (Err i) = insert held i new

pub held_with-placed : (new : Held) (held : List Held) (found : Result ℕ ℕ) → IsAscending (calls_of held)
    → IsSearchInRange found (length held) → IsBinarySearchResult (λ h. nat_cmp h.call new.call) held found
    → placed new held found ≡ held_with new held
held_with-placed new held (Ok i) h inside same =
    held_with-set new held i h inside (ranked (get_or held i new).call new.call Equal (sym (same new)))
held_with-placed new held (Err i) h inside gap =
    let parted = gap (comparisons_rise held new.call h) in
    held_with-insert new held i
    (λ k d low lt. ranked (get_or held k d).call new.call Less (sym (parted.0 k d low lt)))
    (λ k d low lt. ranked (get_or held k d).call new.call Greater (sym (parted.1 k d low lt)))
