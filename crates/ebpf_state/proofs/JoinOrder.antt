-- The order in which states are joined doesn't matter: the two of a join may change places (`commutes`), and so may the second
-- and the third that come (`exchanges`), which together give every order.
use Rattle.std.proofs.Common.{◌≡◌, ℕ, ℤ, Bool, true, false, cond, eqb, List, [], ◌∷◌, Some, None, refl, sym, ap, ◌∙◌, subst, arith, rules}
use Rattle.std.specs.Prelude.{bit_and}
use Rattle.std.specs.Ordering.{int_eq}
use Rattle.std.specs.Cmp.{both_ways}
use Rattle.std.specs.Int.{int_min, int_max}
use Rattle.std.specs.Int.Bits.{and_zero_l}
use Rattle.std.proofs.lemmas.Nat.{and_assoc, and_comm}
use Rattle.std.proofs.Math.Nat.{min_comm, max_comm}
use Rattle.std.proofs.lemmas.Bool.{and_parts, eqb-true}
use Rattle.std.proofs.lemmas.Bool.Decides.{nat_tests, Decides-int_eq}
use Rattle.std.proofs.lemmas.Int.{ints}
use Rattle.ebpf_range.specs.declared.range.Range.{Range}
use Rattle.ebpf_range.specs.Interval.{hull}
use Rattle.ebpf_range.proofs.Spans.{same_ends}
use Rattle.ebpf_state.specs.declared.value.Abs.{Abs}
use Rattle.ebpf_state.specs.declared.value.Abs.TheVariants.{Unset, Num, Stk, Ctx, Ob, May}
use Rattle.ebpf_state.specs.declared.word.Word.{Word}
use Rattle.ebpf_state.specs.declared.word.Word.TheVariants.{Spill, Bytes}
use Rattle.ebpf_state.specs.declared.held.Held.{Held}
use Rattle.ebpf_state.specs.Abstract.{joined_value}
use Rattle.ebpf_state.specs.Words.{joined_word, spill_or_nothing}
use Rattle.ebpf_state.specs.StateView.{StateView}
use Rattle.ebpf_state.specs.States.{joined_list, is_same_held, is_same_reference, joined_state, then_joined}
use Rattle.ebpf_state.proofs.Stacks.{joined_nothing}

-- the ends of ranges, in any order
hull_commutes : (a b : Range) → hull a b ≡ hull b a
hull_commutes a b = same_ends (hull a b) (hull b a) (min_comm a.lo b.lo) (max_comm a.hi b.hi)

hull_exchanges : (a b c : Range) → hull (hull a b) c ≡ hull (hull a c) b
hull_exchanges a b c = same_ends (hull (hull a b) c) (hull (hull a c) b) (omega arith) (omega arith)

min_commutes : (a b : ℤ) → int_min a b ≡ int_min b a
min_commutes a b = grind (arith, ints)

max_commutes : (a b : ℤ) → int_max a b ≡ int_max b a
max_commutes a b = grind (arith, ints)

min_exchanges : (a b c : ℤ) → int_min (int_min a b) c ≡ int_min (int_min a c) b
min_exchanges a b c = grind (arith, ints)

max_exchanges : (a b c : ℤ) → int_max (int_max a b) c ≡ int_max (int_max a c) b
max_exchanges a b c = grind (arith, ints)

-- what a test keeps is what another keeps that answers alike
kept_alike : {X : Type 0} (s t : Bool) (x y none : X) → s ≡ t → (s ≡ true → x ≡ y) → cond s x none ≡ cond t y none
kept_alike true true x y none e same = same refl
kept_alike false false x y none e same = refl
kept_alike true false x y none e same = absurd (cc)
kept_alike false true x y none e same = absurd (cc)

int_eq-commutes : (a b : ℤ) → int_eq a b ≡ int_eq b a
int_eq-commutes a b = grind (arith, ints)

eqb-commutes : (a b : ℕ) → eqb a b ≡ eqb b a
eqb-commutes a b = grind (arith, nat_tests)

value_commutes : (a b : Abs) → joined_value a b ≡ joined_value b a
value_commutes (Num a) (Num b) = ap Num (hull_commutes a b)
value_commutes (Stk a) (Stk b) = kept_alike (int_eq a b) (int_eq b a) (Stk a) (Stk b) Unset (int_eq-commutes a b) (λ e. ap Stk ((Decides-int_eq a b).0 e))
value_commutes (Ctx a b) (Ctx c d) = rw (min_commutes a c, max_commutes b d) refl
value_commutes (Ob r a b) (Ob q c d) = kept_alike (eqb r q) (eqb q r) (Ob r (int_min a c) (int_max b d)) (Ob q (int_min c a) (int_max d b)) Unset (eqb-commutes r q) (λ e. rw (eqb-true r q e, min_commutes a c, max_commutes b d) refl)
value_commutes (May r) (May q) = kept_alike (eqb r q) (eqb q r) (May r) (May q) Unset (eqb-commutes r q) (λ e. ap May (eqb-true r q e))
value_commutes _ _ = search rules

-- what a test keeps, joined
joined_kept : (s : Bool) (x c : Abs) → joined_value (cond s x Unset) c ≡ cond s (joined_value x c) Unset
joined_kept true x c = refl
joined_kept false x c = refl

-- two tests, in either order
kept_twice : (s t : Bool) (x y : Abs) → x ≡ y → cond s (cond t x Unset) Unset ≡ cond t (cond s y Unset) Unset
kept_twice true true x y e = e
kept_twice true false x y e = refl
kept_twice false true x y e = refl
kept_twice false false x y e = refl

value_exchanges : (a b c : Abs) → joined_value (joined_value a b) c ≡ joined_value (joined_value a c) b
value_exchanges (Num a) (Num b) (Num c) = ap Num (hull_exchanges a b c)
value_exchanges (Stk a) (Stk b) (Stk c) =
    joined_kept (int_eq a b) (Stk a) (Stk c) ∙ kept_twice (int_eq a b) (int_eq a c) (Stk a) (Stk a) refl ∙ sym (joined_kept (int_eq a c) (Stk a) (Stk b))
value_exchanges (Ctx a l) (Ctx b m) (Ctx c n) = rw (min_exchanges a b c, max_exchanges l m n) refl
value_exchanges (Ob r a l) (Ob q b m) (Ob s c n) = joined_kept (eqb r q) (Ob r (int_min a b) (int_max l m)) (Ob s c n) ∙
    kept_twice (eqb r q) (eqb r s) (Ob r (int_min (int_min a b) c) (int_max (int_max l m) n))
    (Ob r (int_min (int_min a c) b) (int_max (int_max l n) m)) (rw (min_exchanges a b c, max_exchanges l m n) refl) ∙ sym
    (joined_kept (eqb r s) (Ob r (int_min a c) (int_max l n)) (Ob q b m))
value_exchanges (May r) (May q) (May s) =
    joined_kept (eqb r q) (May r) (May s) ∙ kept_twice (eqb r q) (eqb r s) (May r) (May r) refl ∙ sym (joined_kept (eqb r s) (May r) (May q))
value_exchanges _ _ _ = search rules

abbrev is_number : Abs → Bool
is_number (Num a) = true
is_number _ = false

-- the join of a spill and a mask is a mask: the same one where a number was spilled, whose bytes are all set
abbrev masked : Abs → ℕ → ℕ
masked x m = cond (is_number x) m 0

spill_mask : (x : Abs) (m : ℕ) → joined_word (Spill x) (Bytes m) ≡ Bytes (masked x m)
spill_mask x m = search rules

mask_spill : (x : Abs) (m : ℕ) → joined_word (Bytes m) (Spill x) ≡ Bytes (masked x m)
mask_spill x m = search rules

two_spills : (x y : Abs) → joined_word (Spill x) (Spill y) ≡ spill_or_nothing (joined_value x y)
two_spills x y = search rules

word_commutes : (u v : Word) → joined_word u v ≡ joined_word v u
word_commutes (Spill x) (Spill y) = two_spills x y ∙ ap spill_or_nothing (value_commutes x y) ∙ sym (two_spills y x)
word_commutes (Spill x) (Bytes m) = spill_mask x m ∙ sym (mask_spill x m)
word_commutes (Bytes m) (Spill x) = mask_spill x m ∙ sym (spill_mask x m)
word_commutes (Bytes m) (Bytes n) = ap Bytes (and_comm m n)

-- a spill or nothing, joined
spilled_mask : (x : Abs) (m : ℕ) → joined_word (spill_or_nothing x) (Bytes m) ≡ Bytes (masked x m)
spilled_mask Unset m = ap Bytes (and_zero_l m)
spilled_mask x m = search rules

spilled_spill : (x y : Abs) → joined_word (spill_or_nothing x) (Spill y) ≡ spill_or_nothing (joined_value x y)
spilled_spill Unset y = joined_nothing (Spill y)
spilled_spill x y = search rules

masked_kept : (s : Bool) (x : Abs) (m : ℕ) → is_number x ≡ false → masked (cond s x Unset) m ≡ 0
masked_kept true x m e = rw e refl
masked_kept false x m e = refl

masked_both : (x y : Abs) (m : ℕ) → masked (joined_value x y) m ≡ masked y (masked x m)
masked_both (Stk a) (Stk b) m = masked_kept (int_eq a b) (Stk a) m refl
masked_both (Ob r a b) (Ob q c d) m = masked_kept (eqb r q) (Ob r (int_min a c) (int_max b d)) m refl
masked_both (May r) (May q) m = masked_kept (eqb r q) (May r) m refl
masked_both _ _ m = search rules

bits_exchange : (a b c : ℕ) → bit_and (bit_and a b) c ≡ bit_and (bit_and a c) b
bits_exchange a b c = and_assoc c a b ∙ ap (bit_and a) (and_comm b c) ∙ sym (and_assoc b a c)

masks_exchange : (s t : Bool) (m : ℕ) → cond s (cond t m 0) 0 ≡ cond t (cond s m 0) 0
masks_exchange true t m = refl
masks_exchange false true m = refl
masks_exchange false false m = refl

mask_and : (s : Bool) (m n : ℕ) → bit_and (cond s m 0) n ≡ cond s (bit_and m n) 0
mask_and true m n = refl
mask_and false m n = and_zero_l n

-- three words, of which some are spills
spill_two_masks : (x : Abs) (m n : ℕ) → joined_word (joined_word (Spill x) (Bytes m)) (Bytes n) ≡ Bytes (masked x (bit_and m n))
spill_two_masks x m n = ap (λ w. joined_word w (Bytes n)) (spill_mask x m) ∙ ap Bytes (mask_and (is_number x) m n)

mask_two_spills : (m : ℕ) (x y : Abs) → joined_word (joined_word (Bytes m) (Spill x)) (Spill y) ≡ Bytes (masked y (masked x m))
mask_two_spills m x y = ap (λ w. joined_word w (Spill y)) (mask_spill x m) ∙ mask_spill y (masked x m)

two_spills_mask : (x y : Abs) (m : ℕ) → joined_word (joined_word (Spill x) (Spill y)) (Bytes m) ≡ joined_word (joined_word (Spill x) (Bytes m)) (Spill y)
two_spills_mask x y m =
    ap (λ w. joined_word w (Bytes m)) (two_spills x y) ∙ spilled_mask (joined_value x y) m ∙ ap Bytes (masked_both x y m)
    ∙ sym (ap (λ w. joined_word w (Spill y)) (spill_mask x m) ∙ mask_spill y (masked x m))

two_masks_spill : (m n : ℕ) (x : Abs) → joined_word (joined_word (Bytes m) (Bytes n)) (Spill x) ≡ joined_word (joined_word (Bytes m) (Spill x)) (Bytes n)
two_masks_spill m n x = mask_spill x (bit_and m n) ∙ sym (ap (λ w. joined_word w (Bytes n)) (mask_spill x m) ∙ ap Bytes (mask_and (is_number x) m n))

three_spills : (x y z : Abs) → joined_word (joined_word (Spill x) (Spill y)) (Spill z) ≡ spill_or_nothing (joined_value (joined_value x y) z)
three_spills x y z = ap (λ w. joined_word w (Spill z)) (two_spills x y) ∙ spilled_spill (joined_value x y) z

word_exchanges : (u v w : Word) → joined_word (joined_word u v) w ≡ joined_word (joined_word u w) v
word_exchanges (Spill x) (Spill y) (Spill z) = three_spills x y z ∙ ap spill_or_nothing (value_exchanges x y z) ∙ sym (three_spills x z y)
word_exchanges (Spill x) (Spill y) (Bytes m) = two_spills_mask x y m
word_exchanges (Spill x) (Bytes m) (Spill y) = sym (two_spills_mask x y m)
word_exchanges (Spill x) (Bytes m) (Bytes n) = spill_two_masks x m n ∙ ap (λ k. Bytes (masked x k)) (and_comm m n) ∙ sym (spill_two_masks x n m)
word_exchanges (Bytes m) (Spill x) (Spill y) = mask_two_spills m x y ∙ ap Bytes (masks_exchange (is_number y) (is_number x) m) ∙ sym (mask_two_spills m y x)
word_exchanges (Bytes m) (Spill x) (Bytes n) = sym (two_masks_spill m n x)
word_exchanges (Bytes m) (Bytes n) (Spill x) = two_masks_spill m n x
word_exchanges (Bytes m) (Bytes n) (Bytes k) = ap Bytes (bits_exchange m n k)

-- what holds of the elements holds of the lists
list_commutes : {X : Type 0} (join : X → X → X) → ((x y : X) → join x y ≡ join y x) → (xs ys : List X) → joined_list join xs ys ≡ joined_list join ys xs
list_commutes join h [] [] = refl
list_commutes join h [] (y ∷ ys) = refl
list_commutes join h (x ∷ xs) [] = refl
list_commutes join h (x ∷ xs) (y ∷ ys) = rw (h x y, list_commutes join h xs ys) refl

list_exchanges : {X : Type 0} (join : X → X → X) → ((x y z : X) → join (join x y) z ≡ join (join x z) y) → (xs ys zs : List X)
    → joined_list join (joined_list join xs ys) zs ≡ joined_list join (joined_list join xs zs) ys
list_exchanges join h [] ys zs = refl
list_exchanges join h (x ∷ xs) [] [] = refl
list_exchanges join h (x ∷ xs) [] (z ∷ zs) = refl
list_exchanges join h (x ∷ xs) (y ∷ ys) [] = refl
list_exchanges join h (x ∷ xs) (y ∷ ys) (z ∷ zs) = rw (h x y z, list_exchanges join h xs ys zs) refl

-- references that are the same are equal
same_reference-equal : (a b : Held) → is_same_reference a b ≡ true → a ≡ b
same_reference-equal a b e = grind (arith, nat_tests)

same_reference-self : (a : Held) → is_same_reference a a ≡ true
same_reference-self a = grind (arith, nat_tests)

same_held-equal : (a b : List Held) → is_same_held a b ≡ true → a ≡ b
same_held-equal [] [] e = refl
same_held-equal [] (b ∷ bs) e = absurd (cc)
same_held-equal (a ∷ as') [] e = absurd (cc)
same_held-equal (a ∷ as') (b ∷ bs) e =
    let both = and_parts (is_same_reference a b) (is_same_held as' bs) e in rw (same_reference-equal a b both.0, same_held-equal as' bs both.1) refl

same_held-self : (a : List Held) → is_same_held a a ≡ true
same_held-self [] = refl
same_held-self (a ∷ as') = rw (same_reference-self a, same_held-self as') refl

same_held_commutes : (a b : List Held) → is_same_held a b ≡ is_same_held b a
same_held_commutes a b = both_ways (is_same_held a b) (is_same_held b a) (one_way a b) (one_way b a)
  where
    one_way : (a b : List Held) → is_same_held a b ≡ true → is_same_held b a ≡ true
    one_way a b e = subst (λ (h : List Held). is_same_held h a ≡ true) (same_held-equal a b e) (same_held-self a)

-- what is known where two states hold the same references
abbrev joined_facts : StateView → StateView → StateView
joined_facts a b = record { registers = joined_list joined_value a.registers b.registers; words = joined_list joined_word a.words b.words; held = a.held }

facts_commute : (a b : StateView) → is_same_held a.held b.held ≡ true → joined_facts a b ≡ joined_facts b a
facts_commute a b e = rw (list_commutes joined_value value_commutes a.registers b.registers, list_commutes joined_word word_commutes a.words b.words, same_held-equal a.held b.held e) refl

pub state_commutes : (a b : StateView) → joined_state a b ≡ joined_state b a
state_commutes a b = kept_alike (is_same_held a.held b.held) (is_same_held b.held a.held) (Some (joined_facts a b)) (Some (joined_facts b a)) None (same_held_commutes a.held b.held) (λ e. ap Some (facts_commute a b e))

facts_exchange : (a b c : StateView) → joined_facts (joined_facts a b) c ≡ joined_facts (joined_facts a c) b
facts_exchange a b c =
    rw (list_exchanges joined_value value_exchanges a.registers b.registers c.registers, list_exchanges joined_word word_exchanges a.words b.words c.words) refl

-- the join holds the first state's references: so two tests on those decide, in either order
then_twice : (s t : Bool) (a b c : StateView) → s ≡ is_same_held a.held b.held → t ≡ is_same_held a.held c.held
    → then_joined (cond s (Some (joined_facts a b)) None) c ≡ then_joined (cond t (Some (joined_facts a c)) None) b
then_twice true true a b c es et = rw (sym es, sym et, facts_exchange a b c) refl
then_twice true false a b c es et = rw (sym et) refl
then_twice false true a b c es et = rw (sym es) refl
then_twice false false a b c es et = refl

pub state_exchanges : (a b c : StateView) → then_joined (joined_state a b) c ≡ then_joined (joined_state a c) b
state_exchanges a b c = then_twice (is_same_held a.held b.held) (is_same_held a.held c.held) a b c refl refl
