-- The table of ranges after a branch keeps each pair of numbers for which the branch goes that way.
use Rattle.std.proofs.Common.{◌≡◌, ℕ, ◌+◌, ◌-◌, ◌/◌, ◌^◌, ◌<◌, ◌≤◌, ℤ, pos, negsuc, Bool, true, false, cond, not, eqb, nat_lt, nat_le, ◌==◌, ◌&&◌}
use Rattle.std.proofs.Common.{◌||◌, min, max, Option, Some, None, IfSome, IsSomeAnd, ◌⊎◌, inl, inr, ⊎_elim, refl, sym, ap, ap₂, ◌∙◌, arith}
use Rattle.std.proofs.Common.{ltb-true, leb-true, ltb-false, leb-false, eqb-true, eq-eqb, le-leb, lt-ltb, int_lt, int_le}
use Rattle.std.proofs.Math.Nat.{mod-eq_of_lt}
use Rattle.std.proofs.lemmas.Bool.{and_parts, and_from, cond_both, or_cases, cases_lt, not-true, not-false, true≢false}
use Rattle.ebpf_insn.specs.declared.insn.Width.{Width}
use Rattle.ebpf_insn.specs.declared.insn.Width.TheVariants.{W32, W64}
use Rattle.ebpf_insn.specs.declared.insn.Cond.{Cond}
use Rattle.ebpf_insn.specs.declared.insn.Cond.TheVariants as on
use Rattle.ebpf_insn.specs.Arithmetic.{modulus, kept_at, signed_at, comparison, is_met}
use Rattle.ebpf_range.specs.declared.range.Range.{Range}
use Rattle.ebpf_range.specs.Interval.{IsWithin, span}
use Rattle.ebpf_range.specs.Results.{is_constant}
use Rattle.ebpf_range.specs.Refinements.{after_eq, without, after_ne, after_gt, after_ge, exchange, unless_false, have_no_sign, after, after_not}
use Rattle.ebpf_range.specs.Refinements.{fits, refinement}
use Rattle.ebpf_range.proofs.OperationLemmas.{signed_at-low}
use Rattle.ebpf_range.proofs.RowLemmas.{same_end}

-- both numbers stay
abbrev pub Keeps : ℕ → ℕ → Option (Range × Range) → Type 0
Keeps x y known = IsSomeAnd known (λ p. IsWithin x p.0 × IsWithin y p.1)

-- ---- rows

eq-keeps : (a b : Range) (x y : ℕ) → x ≡ y → IsWithin x a → IsWithin y b → Keeps x y (after_eq a b)
eq-keeps a b x y e h k =
    cond_both (nat_lt a.hi b.lo || nat_lt b.hi a.lo) None (Some (span (max a.lo b.lo) (min a.hi b.hi), span (max a.lo b.lo) (min a.hi b.hi))) (Keeps x y)
    (λ t. apart (or_cases (nat_lt a.hi b.lo) (nat_lt b.hi a.lo) t))
    (λ t. ((omega arith, omega arith), (omega arith, omega arith)))
  where
    apart : (nat_lt a.hi b.lo ≡ true) ⊎ (nat_lt b.hi a.lo ≡ true) → Keeps x y None
    apart (inl t) = let far = ltb-true a.hi b.lo t in absurd (omega arith)
    apart (inr t) = let far = ltb-true b.hi a.lo t in absurd (omega arith)

without-keeps : (a : Range) (n x : ℕ) → (x ≡ n → ⊥) → IsWithin x a → IsWithin x (without n a)
without-keeps a n x other h = by (eqb a.lo n) (eqb a.hi n) refl refl
  where
    by : (s t : Bool) → eqb a.lo n ≡ s → eqb a.hi n ≡ t → IsWithin x (cond s (span (a.lo + 1) a.hi) (cond t (span a.lo (a.hi - 1)) a))
    by true t e f = let low = eqb-true a.lo n e in let above : a.lo < x = from_other low in (omega arith, h.1)
      where
        from_other : a.lo ≡ n → a.lo < x
        from_other low = ⊎_elim (λ (o : a.lo < x). o) (λ (o : x ≤ a.lo). absurd (other (omega arith))) (cases_lt a.lo x)
    by false true e f = let high = eqb-true a.hi n f in let under : x < a.hi = from_other high in (omega arith, omega arith)
      where
        from_other : a.hi ≡ n → x < a.hi
        from_other high = ⊎_elim (λ (o : x < a.hi). o) (λ (o : a.hi ≤ x). absurd (other (omega arith))) (cases_lt x a.hi)
    by false false e f = h

ne-keeps : (a b : Range) (x y : ℕ) → (x ≡ y → ⊥) → IsWithin x a → IsWithin y b → Keeps x y (after_ne a b)
ne-keeps a b x y other h k =
    cond_both (is_constant a && is_constant b && (a.lo == b.lo)) None (cond (is_constant b) (Some (without b.lo a, b)) (cond (is_constant a) (Some (a, without a.lo b)) (Some (a, b)))) (Keeps x y)
    (λ t. let parts = and_parts (is_constant a && is_constant b) (a.lo == b.lo) t in
    let both = and_parts (is_constant a) (is_constant b) parts.0 in
    let left = same_end a x both.0 h in
    let right = same_end b y both.1 k in
    let one = eqb-true a.lo b.lo parts.1 in
    absurd (other (omega arith)))
    (λ t. cond_both (is_constant b) (Some (without b.lo a, b)) (cond (is_constant a) (Some (a, without a.lo b)) (Some (a, b))) (Keeps x y)
    (λ e. let right = same_end b y e k in (without-keeps a b.lo x (λ f. other (omega arith)) h, k))
    (λ e. cond_both (is_constant a) (Some (a, without a.lo b)) (Some (a, b)) (Keeps x y)
    (λ f. let left = same_end a x f h in (h, without-keeps b a.lo y (λ g. other (omega arith)) k))
    (λ f. (h, k))))

gt-keeps : (a b : Range) (x y : ℕ) → y < x → IsWithin x a → IsWithin y b → Keeps x y (after_gt a b)
gt-keeps a b x y o h k =
    cond_both (nat_le a.hi b.lo) None (Some (span (max a.lo (b.lo + 1)) a.hi, span b.lo (min b.hi (a.hi - 1)))) (Keeps x y)
    (λ t. let under = leb-true a.hi b.lo t in absurd (omega arith))
    (λ t. ((omega arith, h.1), (omega arith, omega arith)))

ge-keeps : (a b : Range) (x y : ℕ) → y ≤ x → IsWithin x a → IsWithin y b → Keeps x y (after_ge a b)
ge-keeps a b x y o h k =
    cond_both (nat_lt a.hi b.lo) None (Some (span (max a.lo b.lo) a.hi, span b.lo (min b.hi a.hi))) (Keeps x y)
    (λ t. let under = ltb-true a.hi b.lo t in absurd (omega arith))
    (λ t. ((omega arith, h.1), (omega arith, omega arith)))

exchange-keeps : (known : Option (Range × Range)) (x y : ℕ) → Keeps y x known → Keeps x y (exchange known)
exchange-keeps None x y h = h
exchange-keeps (Some p) x y h = (h.1, h.0)

-- a test that holds of the two numbers holds of the two ends of constant ranges
unless-keeps : (test : ℕ → ℕ → Bool) (a b : Range) (x y : ℕ) → test x y ≡ true → IsWithin x a → IsWithin y b → Keeps x y (unless_false (test a.lo b.lo) a b)
unless-keeps test a b x y met h k =
    cond_both (is_constant a && is_constant b && not (test a.lo b.lo)) None (Some (a, b)) (Keeps x y)
    (λ t. let parts = and_parts (is_constant a && is_constant b) (not (test a.lo b.lo)) t in
    let both = and_parts (is_constant a) (is_constant b) parts.0 in
    let same : test a.lo b.lo ≡ true = ap₂ test (sym (same_end a x both.0 h)) (sym (same_end b y both.1 k)) ∙ met in
    absurd (true≢false (sym same ∙ not-true (test a.lo b.lo) parts.1)))
    (λ t. (h, k))

-- ---- conditions of numbers of a width

-- numbers of ranges that a width compares are kept by it
is_kept : (w : Width) (a b : Range) (x : ℕ) → a.hi < 2 ^ 64 → fits w a b ≡ true → IsWithin x a → kept_at w x ≡ x
is_kept W32 a b x p f h = let left = ltb-true a.hi (2 ^ 32) (and_parts (nat_lt a.hi (2 ^ 32)) (nat_lt b.hi (2 ^ 32)) f).0 in let small : x < 2 ^ 32 = omega arith in mod-eq_of_lt small
is_kept W64 a b x p f h = let small : x < 2 ^ 64 = omega arith in mod-eq_of_lt small

fits-exchange : (w : Width) (a b : Range) → fits w a b ≡ true → fits w b a ≡ true
fits-exchange W32 a b f =
    let both = and_parts (nat_lt a.hi (2 ^ 32)) (nat_lt b.hi (2 ^ 32)) f in and_from (nat_lt b.hi (2 ^ 32)) (nat_lt a.hi (2 ^ 32)) both.1 both.0
fits-exchange W64 a b f = refl

compared : (c : Cond) (w : Width) (a b : Range) (x y : ℕ) → a.hi < 2 ^ 64 → b.hi < 2 ^ 64 → fits w a b ≡ true → IsWithin x a
    → IsWithin y b → is_met c w x y ≡ comparison c w x y
compared c w a b x y p q f h k = ap₂ (comparison c w) (is_kept w a b x p f h) (is_kept w b a y q (fits-exchange w a b f) k)

-- without the sign signed numbers are compared as unsigned ones
low_numbers : (w : Width) (a b : Range) (x y : ℕ) → have_no_sign w a b ≡ true → IsWithin x a → IsWithin y b → (signed_at w x ≡ pos x) × (signed_at w y ≡ pos y)
low_numbers w a b x y t h k =
    let both = and_parts (nat_lt a.hi (modulus w / 2)) (nat_lt b.hi (modulus w / 2)) t in
    let left = ltb-true a.hi (modulus w / 2) both.0 in
    let right = ltb-true b.hi (modulus w / 2) both.1 in
    (signed_at-low w x (omega arith), signed_at-low w y (omega arith))

-- ---- the table

-- a signed row: as the unsigned one, or as that of a test
signed-keeps : (w : Width) (a b : Range) (x y : ℕ) (unsigned : Option (Range × Range)) (test : ℕ → ℕ → Bool) → test x y ≡ true → IsWithin x a → IsWithin y b
    → (signed_at w x ≡ pos x → signed_at w y ≡ pos y → Keeps x y unsigned) → Keeps x y (cond (have_no_sign w a b) unsigned (unless_false (test a.lo b.lo) a b))
signed-keeps w a b x y unsigned test met h k plain =
    cond_both (have_no_sign w a b) unsigned (unless_false (test a.lo b.lo) a b) (Keeps x y)
    (λ t. let low = low_numbers w a b x y t h k in plain low.0 low.1)
    (λ t. unless-keeps test a b x y met h k)

pub after-keeps : (c : Cond) (w : Width) (a b : Range) (x y : ℕ) → is_met c w x y ≡ true → comparison c w x y ≡ true → IsWithin x a
    → IsWithin y b → Keeps x y (after c w a b)
after-keeps on.Eq w a b x y m e h k = eq-keeps a b x y (eqb-true x y e) h k
after-keeps on.Ne w a b x y m e h k = ne-keeps a b x y (λ f. true≢false (sym (eq-eqb x y f) ∙ not-true (eqb x y) e)) h k
after-keeps on.Gt w a b x y m e h k = gt-keeps a b x y (ltb-true y x e) h k
after-keeps on.Ge w a b x y m e h k = ge-keeps a b x y (leb-true y x e) h k
after-keeps on.Lt w a b x y m e h k = exchange-keeps (after_gt b a) x y (gt-keeps b a y x (ltb-true x y e) k h)
after-keeps on.Le w a b x y m e h k = exchange-keeps (after_ge b a) x y (ge-keeps b a y x (leb-true x y e) k h)
after-keeps on.Set w a b x y m e h k = unless-keeps (is_met on.Set w) a b x y m h k
after-keeps on.SGt w a b x y m e h k =
    signed-keeps w a b x y (after_gt a b) (is_met on.SGt w) m h k (λ p q. gt-keeps a b x y (ltb-true y x (sym (ap₂ int_lt q p) ∙ e)) h k)
after-keeps on.SGe w a b x y m e h k =
    signed-keeps w a b x y (after_ge a b) (is_met on.SGe w) m h k (λ p q. ge-keeps a b x y (leb-true y x (sym (ap₂ int_le q p) ∙ e)) h k)
after-keeps on.SLt w a b x y m e h k = signed-keeps w a b x y (exchange (after_gt b a)) (is_met on.SLt w) m h k (λ p q. exchange-keeps (after_gt b a) x y (gt-keeps b a y x (ltb-true x y (sym (ap₂ int_lt p q) ∙ e)) k h))
after-keeps on.SLe w a b x y m e h k = signed-keeps w a b x y (exchange (after_ge b a)) (is_met on.SLe w) m h k (λ p q. exchange-keeps (after_ge b a) x y (ge-keeps b a y x (leb-true x y (sym (ap₂ int_le p q) ∙ e)) k h))

-- ---- opposites

not_under : (x y : ℕ) → nat_lt x y ≡ false → nat_le y x ≡ true
not_under x y e = le-leb y x (ltb-false x y e)

not_up_to : (x y : ℕ) → nat_le x y ≡ false → nat_lt y x ≡ true
not_up_to x y e = lt-ltb y x (leb-false x y e)

not_less : (x y : ℤ) → int_lt x y ≡ false → int_le y x ≡ true
not_less (pos a) (pos b) e = not_under a b e
not_less (pos a) (negsuc b) e = refl
not_less (negsuc a) (pos b) e = absurd (true≢false e)
not_less (negsuc a) (negsuc b) e = not_under b a e

not_most : (x y : ℤ) → int_le x y ≡ false → int_lt y x ≡ true
not_most (pos a) (pos b) e = not_up_to a b e
not_most (pos a) (negsuc b) e = refl
not_most (negsuc a) (pos b) e = absurd (true≢false e)
not_most (negsuc a) (negsuc b) e = not_up_to b a e

-- the opposite of a condition that has one
opposite_met : (w : Width) (a b : Range) (x y : ℕ) (c d : Cond) → a.hi < 2 ^ 64 → b.hi < 2 ^ 64 → fits w a b ≡ true → IsWithin x a → IsWithin y b
    → ((m n : ℕ) → comparison c w m n ≡ false → comparison d w m n ≡ true) → is_met c w x y ≡ false → Keeps x y (after d w a b)
opposite_met w a b x y c d p q f h k turn e =
    let met : is_met d w x y ≡ true = turn (kept_at w x) (kept_at w y) e in
    after-keeps d w a b x y met (sym (compared d w a b x y p q f h k) ∙ met) h k

pub after_not-keeps : (c : Cond) (w : Width) (a b : Range) (x y : ℕ) → a.hi < 2 ^ 64 → b.hi < 2 ^ 64 → fits w a b ≡ true
    → is_met c w x y ≡ false → IsWithin x a → IsWithin y b → Keeps x y (after_not c w a b)
after_not-keeps on.Eq w a b x y p q f e h k = opposite_met w a b x y on.Eq on.Ne p q f h k (λ m n t. ap not t) e
after_not-keeps on.Ne w a b x y p q f e h k = opposite_met w a b x y on.Ne on.Eq p q f h k (λ m n t. not-false (eqb m n) t) e
after_not-keeps on.Gt w a b x y p q f e h k = opposite_met w a b x y on.Gt on.Le p q f h k (λ m n t. not_under n m t) e
after_not-keeps on.Ge w a b x y p q f e h k = opposite_met w a b x y on.Ge on.Lt p q f h k (λ m n t. not_up_to n m t) e
after_not-keeps on.Lt w a b x y p q f e h k = opposite_met w a b x y on.Lt on.Ge p q f h k (λ m n t. not_under m n t) e
after_not-keeps on.Le w a b x y p q f e h k = opposite_met w a b x y on.Le on.Gt p q f h k (λ m n t. not_up_to m n t) e
after_not-keeps on.Set w a b x y p q f e h k = unless-keeps (λ m n. not (is_met on.Set w m n)) a b x y (ap not e) h k
after_not-keeps on.SGt w a b x y p q f e h k = opposite_met w a b x y on.SGt on.SLe p q f h k (λ m n t. not_less (signed_at w n) (signed_at w m) t) e
after_not-keeps on.SGe w a b x y p q f e h k = opposite_met w a b x y on.SGe on.SLt p q f h k (λ m n t. not_most (signed_at w n) (signed_at w m) t) e
after_not-keeps on.SLt w a b x y p q f e h k = opposite_met w a b x y on.SLt on.SGe p q f h k (λ m n t. not_less (signed_at w m) (signed_at w n) t) e
after_not-keeps on.SLe w a b x y p q f e h k = opposite_met w a b x y on.SLe on.SGt p q f h k (λ m n t. not_most (signed_at w m) (signed_at w n) t) e

pub refinement-keeps : (c : Cond) (w : Width) (a b : Range) (taken : Bool) (x y : ℕ) → a.hi < 2 ^ 64 → b.hi < 2 ^ 64 → IsWithin x a
    → IsWithin y b → is_met c w x y ≡ taken → Keeps x y (refinement c w a b taken)
refinement-keeps c w a b taken x y p q h k e =
    cond_both (not (fits w a b)) (Some (a, b)) (cond taken (after c w a b) (after_not c w a b)) (Keeps x y)
    (λ t. (h, k))
    (λ t. let f = not-false (fits w a b) t in by taken f e)
  where
    by : (t : Bool) → fits w a b ≡ true → is_met c w x y ≡ t → Keeps x y (cond t (after c w a b) (after_not c w a b))
    by true f m = after-keeps c w a b x y m (sym (compared c w a b x y p q f h k) ∙ m) h k
    by false f m = after_not-keeps c w a b x y p q f m h k

-- ---- the high ends

abbrev pub AreBelow : ℕ → Option (Range × Range) → Type 0
AreBelow m known = IfSome known (λ p. (p.0.hi < m) × (p.1.hi < m))

without-below : (m : ℕ) (a : Range) (n : ℕ) → a.hi < m → (without n a).hi < m
without-below m a n o =
    cond_both (eqb a.lo n) (span (a.lo + 1) a.hi) (cond (eqb a.hi n) (span a.lo (a.hi - 1)) a) (λ (r : Range). r.hi < m)
    (λ t. o)
    (λ t. cond_both (eqb a.hi n) (span a.lo (a.hi - 1)) a (λ (r : Range). r.hi < m) (λ u. omega arith) (λ u. o))

ne-below : (m : ℕ) (a b : Range) → a.hi < m → b.hi < m → AreBelow m (after_ne a b)
ne-below m a b o p =
    cond_both (is_constant a && is_constant b && (a.lo == b.lo)) None (cond (is_constant b) (Some (without b.lo a, b)) (cond (is_constant a) (Some (a, without a.lo b)) (Some (a, b)))) (AreBelow m)
    (λ t. tt)
    (λ t. cond_both (is_constant b) (Some (without b.lo a, b)) (cond (is_constant a) (Some (a, without a.lo b)) (Some (a, b))) (AreBelow m)
    (λ e. (without-below m a b.lo o, p))
    (λ e. cond_both (is_constant a) (Some (a, without a.lo b)) (Some (a, b)) (AreBelow m) (λ f. (o, without-below m b a.lo p)) (λ f. (o, p))))

eq-below : (m : ℕ) (a b : Range) → a.hi < m → b.hi < m → AreBelow m (after_eq a b)
eq-below m a b o p =
    cond_both (nat_lt a.hi b.lo || nat_lt b.hi a.lo) None (Some (span (max a.lo b.lo) (min a.hi b.hi), span (max a.lo b.lo) (min a.hi b.hi))) (AreBelow m)
    (λ t. tt) (λ t. (omega arith, omega arith))

gt-below : (m : ℕ) (a b : Range) → a.hi < m → b.hi < m → AreBelow m (after_gt a b)
gt-below m a b o p =
    cond_both (nat_le a.hi b.lo) None (Some (span (max a.lo (b.lo + 1)) a.hi, span b.lo (min b.hi (a.hi - 1)))) (AreBelow m)
    (λ t. tt) (λ t. (o, omega arith))

ge-below : (m : ℕ) (a b : Range) → a.hi < m → b.hi < m → AreBelow m (after_ge a b)
ge-below m a b o p =
    cond_both (nat_lt a.hi b.lo) None (Some (span (max a.lo b.lo) a.hi, span b.lo (min b.hi a.hi))) (AreBelow m)
    (λ t. tt) (λ t. (o, omega arith))

exchange-below : (m : ℕ) (known : Option (Range × Range)) → AreBelow m known → AreBelow m (exchange known)
exchange-below m None h = h
exchange-below m (Some p) h = (h.1, h.0)

unless-below : (m : ℕ) (holds : Bool) (a b : Range) → a.hi < m → b.hi < m → AreBelow m (unless_false holds a b)
unless-below m holds a b o p = cond_both (is_constant a && is_constant b && not holds) None (Some (a, b)) (AreBelow m) (λ t. tt) (λ t. (o, p))

signed-below : (m : ℕ) (w : Width) (a b : Range) (unsigned : Option (Range × Range)) (holds : Bool) → a.hi < m → b.hi < m
    → AreBelow m unsigned → AreBelow m (cond (have_no_sign w a b) unsigned (unless_false holds a b))
signed-below m w a b unsigned holds o p h =
    cond_both (have_no_sign w a b) unsigned (unless_false holds a b) (AreBelow m) (λ t. h) (λ t. unless-below m holds a b o p)

after-below : (m : ℕ) (c : Cond) (w : Width) (a b : Range) → a.hi < m → b.hi < m → AreBelow m (after c w a b)
after-below m on.Eq w a b o p = eq-below m a b o p
after-below m on.Ne w a b o p = ne-below m a b o p
after-below m on.Gt w a b o p = gt-below m a b o p
after-below m on.Ge w a b o p = ge-below m a b o p
after-below m on.Lt w a b o p = exchange-below m (after_gt b a) (gt-below m b a p o)
after-below m on.Le w a b o p = exchange-below m (after_ge b a) (ge-below m b a p o)
after-below m on.Set w a b o p = unless-below m (is_met on.Set w a.lo b.lo) a b o p
after-below m on.SGt w a b o p = signed-below m w a b (after_gt a b) (is_met on.SGt w a.lo b.lo) o p (gt-below m a b o p)
after-below m on.SGe w a b o p = signed-below m w a b (after_ge a b) (is_met on.SGe w a.lo b.lo) o p (ge-below m a b o p)
after-below m on.SLt w a b o p =
    signed-below m w a b (exchange (after_gt b a)) (is_met on.SLt w a.lo b.lo) o p (exchange-below m (after_gt b a) (gt-below m b a p o))
after-below m on.SLe w a b o p =
    signed-below m w a b (exchange (after_ge b a)) (is_met on.SLe w a.lo b.lo) o p (exchange-below m (after_ge b a) (ge-below m b a p o))

after_not-below : (m : ℕ) (c : Cond) (w : Width) (a b : Range) → a.hi < m → b.hi < m → AreBelow m (after_not c w a b)
after_not-below m on.Eq w a b o p = after-below m on.Ne w a b o p
after_not-below m on.Ne w a b o p = after-below m on.Eq w a b o p
after_not-below m on.Gt w a b o p = after-below m on.Le w a b o p
after_not-below m on.Ge w a b o p = after-below m on.Lt w a b o p
after_not-below m on.Lt w a b o p = after-below m on.Ge w a b o p
after_not-below m on.Le w a b o p = after-below m on.Gt w a b o p
after_not-below m on.Set w a b o p = unless-below m (not (is_met on.Set w a.lo b.lo)) a b o p
after_not-below m on.SGt w a b o p = after-below m on.SLe w a b o p
after_not-below m on.SGe w a b o p = after-below m on.SLt w a b o p
after_not-below m on.SLt w a b o p = after-below m on.SGe w a b o p
after_not-below m on.SLe w a b o p = after-below m on.SGt w a b o p

pub refinement-below : (m : ℕ) (c : Cond) (w : Width) (a b : Range) (taken : Bool) → a.hi < m → b.hi < m → AreBelow m (refinement c w a b taken)
refinement-below m c w a b taken o p =
    cond_both (not (fits w a b)) (Some (a, b)) (cond taken (after c w a b) (after_not c w a b)) (AreBelow m) (λ t. (o, p))
    (λ t. cond_both taken (after c w a b) (after_not c w a b) (AreBelow m) (λ e. after-below m c w a b o p) (λ e. after_not-below m c w a b o p))
