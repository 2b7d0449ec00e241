-- One bundle more is put in its place.
use Rattle.std.proofs.Common.{◌≡◌, ◌≢◌, ◌⊎◌, inl, inr, ◌<◌, ◌≤◌, ◌+◌, ◌==◌, if◌then◌else◌, Bool, true, false, ℕ, zero, suc, All, Contains, Some}
use Rattle.std.proofs.Common.{List, [], ◌∷◌, ◌++◌, length, refl, sym, ap, subst, ◌∙◌, arith, append_assoc}
use Rattle.std.specs.Prelude.{sum_by}
use Rattle.std.specs.List.{slice_get, slice_set}
use Rattle.std.proofs.Math.ListN.{get_or}
use Rattle.std.proofs.lemmas.Bool.{cases_eq}
use Rattle.std.proofs.lemmas.Bool.Decides.{nat_tests}
use Rattle.std.proofs.lemmas.List.{length-set, nil_from_length}
use Rattle.std.proofs.lemmas.List.Elements.{All-contains, Contains-append_left, Contains-push, Contains-push_cases}
use Rattle.std.proofs.lemmas.List.Sums.{sum_by-cons, sum_by-set, sum_by_push}
use Rattle.std.proofs.lemmas.Option.{slice_get-get_or}
use Rattle.ebpf_machine.specs.declared.report.Report.{Report}
use Rattle.ebpf_machine.proofs.Lists.ListLemmas.{All-by_contains, Contains-head, Contains-tail, get_set_other, get_set_same}
use Rattle.worker_pool.specs.declared.answered.Answered.{Answered}
use Rattle.worker_pool.specs.declared.answered.Bundle.{Bundle}
use Rattle.worker_pool.specs.Numbering.{times_of}
use Rattle.job_list.specs.ReportLists.{Kept}
use Rattle.worker_pool.specs.Places.{AreBlank, ArePlaced, IsLeft, IsThere, bundles_of, filled, filled_at, weight, weight_in}
use Rattle.worker_pool.proofs.Bundles.{one_if, times_more}
use Rattle.worker_pool.proofs.Flat.{flat_last}

one_same : (k : ℕ) → one_if k k ≡ 1
one_same k = grind (arith, nat_tests)

one_other : (k x : ℕ) → x ≢ k → one_if k x ≡ 0
one_other k x other = grind (arith, nat_tests)

-- a place counts once at most, and one that does not count has no report
at_most_one : (k : Kept) → filled_at (Some k) ≤ 1
at_most_one k = by (length k.items == 0) where
  by : (t : Bool) → (if t then 0 else 1) ≤ 1
  by true = omega arith
  by false = omega arith

none_at : (k : Kept) → filled_at (Some k) ≡ 0 → k.items ≡ []
none_at k none = by (length k.items == 0) refl where
  by : (t : Bool) → (length k.items == 0) ≡ t → k.items ≡ []
  by true e = nil_from_length k.items (grind (arith, nat_tests))
  by false e = let one : filled_at (Some k) ≡ 1 = ap (λ (t : Bool). if t then 0 else 1) e in absurd (omega (arith, one, none))

module _ (count : ℕ) (all : List Bundle) (places : List Kept) (left rest : List Bundle) (b : Bundle) (is : left ≡ rest ++ b ∷ []) (h : ArePlaced count all places left) where
  in_left : Contains left b
  in_left = subst (λ (l : List Bundle). Contains l b) (sym is) (Contains-push rest b)

  still : (c : Bundle) → Contains rest c → Contains left c
  still c there = subst (λ (l : List Bundle). Contains l c) (sym is) (Contains-append_left rest (b ∷ []) c there)

  below : b.number < count
  below = h.inside b in_left

  next_inside : b.number < length places
  next_inside = let lt = below in omega (arith, lt, h.len)

  abbrev there_was : Kept
  there_was = get_or places b.number b.reports

  was : slice_get places b.number ≡ Some there_was
  was = slice_get-get_or places b.number b.reports next_inside

  none : there_was.items ≡ []
  none = none_at there_was (ap filled_at (sym was) ∙ omega (arith, h.once b.number below, times_more b.number rest left b is, one_same b.number))

  abbrev after : List Kept
  after = slice_set places b.number b.reports

  written : slice_get after b.number ≡ Some b.reports
  written = get_set_same places b.number there_was b.reports was

  once : (x : ℕ) → x < count → filled after x + times_of x rest ≤ 1
  once x lt = by (cases_eq x b.number) where
    by : (x ≡ b.number) ⊎ (x ≢ b.number) → filled after x + times_of x rest ≤ 1
    by (inl same) =
        let at = ap filled_at (ap (slice_get after) same ∙ written) in
        let one = ap (one_if b.number) same ∙ one_same b.number in
        omega (arith, at, one, at_most_one b.reports, h.once x lt, times_more x rest left b is)
    by (inr other) =
        let at = ap filled_at (get_set_other places b.number x b.reports other) in
        omega (arith, at, one_other b.number x other, h.once x lt, times_more x rest left b is)

  there : (x : ℕ) → x < count → IsLeft rest x ⊎ IsThere all after x
  there x lt = by (cases_eq x b.number) where
    by : (x ≡ b.number) ⊎ (x ≢ b.number) → IsLeft rest x ⊎ IsThere all after x
    by (inl same) = inr (record { bundle = b; one = h.within b in_left; number = sym same; at = ap (slice_get after) same ∙ written })
    by (inr other) = or (h.there x lt) where
      or : IsLeft left x ⊎ IsThere all places x → IsLeft rest x ⊎ IsThere all after x
      or (inr t) = inr (record { bundle = t.bundle; one = t.one; number = t.number; at = get_set_other places b.number x b.reports other ∙ t.at })
      or (inl l) = of (Contains-push_cases rest b l.bundle (subst (λ (m : List Bundle). Contains m l.bundle) is l.one)) where
        of : Contains rest l.bundle ⊎ (b ≡ l.bundle) → IsLeft rest x ⊎ IsThere all after x
        of (inl one) = inl (record { bundle = l.bundle; one = one; number = l.number })
        of (inr it) = absurd (other (sym l.number ∙ sym (ap (λ (c : Bundle). c.number) it)))

  weighed : (f : Report → ℕ) → weight f after + weight_in f rest ≡ weight_in f all
  weighed f =
      let changed = sum_by-set (λ (k : Kept). sum_by f k.items) places b.number b.reports b.reports next_inside in
      let nothing = ap (sum_by f) none in
      let split = ap (weight_in f) is ∙ sum_by_push (λ (c : Bundle). sum_by f c.reports.items) rest b in
      omega (arith, changed, nothing, split, h.weighed f)

  pub one_placed : ArePlaced count all after rest
  one_placed = record {
    len = length-set places b.number b.reports ∙ h.len;
    within = λ c one. h.within c (still c one);
    inside = λ c one. h.inside c (still c one);
    once = once;
    there = there;
    weighed = weighed;
  }

-- of a worker's bundles one more
pub one_of_theirs : (count : ℕ) (theirs left rest : List Bundle) (places now : List Kept) (b : Bundle) → left ≡ rest ++ b ∷ []
    → ((all others : List Bundle) → ArePlaced count all places (others ++ theirs) → ArePlaced count all now (others ++ left))
    → (all others : List Bundle) → ArePlaced count all places (others ++ theirs) → ArePlaced count all (slice_set now b.number b.reports) (others ++ rest)
one_of_theirs count theirs left rest places now b is h all others start =
    let split = ap (λ (l : List Bundle). others ++ l) is ∙ sym (append_assoc others rest (b ∷ [])) in
    one_placed count all now (others ++ left) (others ++ rest) b split (h all others start)

-- ---- before the first, and after the last

-- a bundle with a number is there, where one has it
left_next : (x : ℕ) (b : Bundle) (bs : List Bundle) → (times_of x bs ≡ 1 → IsLeft bs x) → times_of x (b ∷ bs) ≡ 1 → IsLeft (b ∷ bs) x
left_next x b bs rest one = by (cases_eq x b.number) where
  sum : times_of x (b ∷ bs) ≡ one_if b.number x + times_of x bs
  sum = sum_by-cons (λ (c : Bundle). one_if c.number x) b bs

  by : (x ≡ b.number) ⊎ (x ≢ b.number) → IsLeft (b ∷ bs) x
  by (inl same) = record { bundle = b; one = Contains-head b bs; number = sym same }
  by (inr other) =
      let l = rest (omega (arith, sum, one, one_other b.number x other)) in
      record { bundle = l.bundle; one = Contains-tail b l.bundle bs l.one; number = l.number }

left_of : (x : ℕ) (bundles : List Bundle) → times_of x bundles ≡ 1 → IsLeft bundles x
left_of x [] one = absurd (omega (arith, one))
left_of x (b ∷ bs) one = left_next x b bs (left_of x bs) one

blank_filled : (places : List Kept) (x : ℕ) → All (λ kept. kept.items ≡ []) places → filled places x ≡ 0
blank_filled [] x h = refl
blank_filled (k ∷ ks) zero h = let none = ap (λ (l : List Report). length l) (h 0 k (omega arith)) in ap (λ (n : ℕ). if n == 0 then 0 else 1) none
blank_filled (k ∷ ks) (suc x) h = blank_filled ks x (λ i d l. h (suc i) d (omega (arith, l)))

blank_weight : (f : Report → ℕ) (places : List Kept) → All (λ kept. kept.items ≡ []) places → weight f places ≡ 0
blank_weight f [] h = refl
blank_weight f (k ∷ ks) h =
    let here = ap (sum_by f) (h 0 k (omega arith)) in
    omega (arith, sum_by-cons (λ (kept : Kept). sum_by f kept.items) k ks, here, blank_weight f ks (λ i d l. h (suc i) d (omega (arith, l))))

pub none_placed : (count : ℕ) (places : List Kept) (all : List Bundle) → AreBlank count places → All (λ b. b.number < count) all
    → ((x : ℕ) → x < count → times_of x all ≡ 1) → ArePlaced count all places all
none_placed count places all blank inside once = record {
  len = blank.0;
  within = λ b one. one;
  inside = λ b one. All-contains (λ c. c.number < count) all b inside one;
  once = λ x lt. omega (arith, blank_filled places x blank.1, once x lt);
  there = λ x lt. inl (left_of x all (once x lt));
  weighed = λ f. omega (arith, blank_weight f places blank.1);
}

pub all_there : (count : ℕ) (places : List Kept) (all left : List Bundle) → left ≡ [] → ArePlaced count all places left
    → (x : ℕ) → x < count → IsThere all places x
all_there count places all left none h x lt = by (h.there x lt) where
  nothing : (b : Bundle) → Contains [] b → ⊥
  nothing b (k, l, e) = absurd (omega (arith, l))

  by : IsLeft left x ⊎ IsThere all places x → IsThere all places x
  by (inr there) = there
  by (inl l) = absurd (nothing l.bundle (subst (λ (m : List Bundle). Contains m l.bundle) none l.one))

pub all_weighed : (count : ℕ) (places : List Kept) (all left : List Bundle) → left ≡ [] → ArePlaced count all places left
    → (f : Report → ℕ) → weight f places ≡ weight_in f all
all_weighed count places all left none h f = let nothing = ap (weight_in f) none in omega (arith, nothing, h.weighed f)

-- ---- the bundles of a worker

pub last_bundles : (left rest : List Answered) (one : Answered) → left ≡ rest ++ one ∷ [] → bundles_of left ≡ bundles_of rest ++ one.bundles.items
last_bundles left rest one is = ap bundles_of is ∙ flat_last (λ (a : Answered). a.bundles.items) rest one

pub theirs_inside : (count : ℕ) (places : List Kept) (all left rest theirs : List Bundle) → left ≡ rest ++ theirs → ArePlaced count all places left
    → All (λ b. b.number < count) theirs
theirs_inside count places all left rest theirs is h =
    All-by_contains (λ b. b.number < count) theirs (λ b one. h.inside b (subst (λ (l : List Bundle). Contains l b) (sym is) (after rest b one)))
  where
    after : (rest : List Bundle) (b : Bundle) → Contains theirs b → Contains (rest ++ theirs) b
    after [] b one = one
    after (c ∷ cs) b one = Contains-tail c b (cs ++ theirs) (after cs b one)
