-- What a call makes of the counts of a stock, by which its answer is counted.
use Rattle.std.proofs.Common.{◌≡◌, inl, inr, ℕ, ◌+◌, ◌≤◌, ◌^◌, ◌==◌, if◌then◌else◌, ◌-◌, Bool, true, false, refl, sym, subst, ap, ◌∙◌, arith}
use Rattle.std.proofs.lemmas.Bool.Decides.{nat_tests}
use Rattle.exchange_shelf.specs.Views as views
use Rattle.shared_cache.specs.HandView.{Counts, gets_back, lends, one_more, refuses}
use Rattle.shared_cache.specs.declared.fault.TakeFault.{TakeFault}
use Rattle.shared_cache.specs.declared.fault.TakeFault.TheVariants.{Busy, Full, NoSpan, NoMemory}
use Rattle.owners_table.specs.Owning.{SeatView}
use Rattle.shared_store.specs.Stock.{Answers, CountsOn, IsStock, StockView, Stays, fetched_by, granted_by, refused_by}

-- ---- counts that stop

pub goes_on : (a b by : ℕ) → b ≡ a + by → CountsOn a b by
goes_on a b by is = (omega (arith, is), inl is)

-- with as much beside it before as after
pub goes_on_beside : (a b by rest : ℕ) → CountsOn a b by → CountsOn (a + rest) (b + rest) by
goes_on_beside a b by rest on = (
  omega (arith, on.0),
  elim on.1 [ inl is ↦ inl (omega (arith, is)) | inr end ↦ inr (omega (arith, end)) ],
)

one_more_on : (n : ℕ) → CountsOn n (one_more n) 1
one_more_on n = by (n == 2 ^ 56) refl where
  by : (b : Bool) → (n == 2 ^ 56) ≡ b → CountsOn n (if b then n else n + 1) 1
  by true e = let is : n ≡ 2 ^ 56 = grind (arith, nat_tests) in (omega arith, inr (omega (arith, is)))
  by false e = goes_on n (n + 1) 1 refl

-- ---- a refusal

-- it is among the nulls or the busy calls, and no other count changes
pub record IsRefused (a b : Counts) : Type 0 where
  pub lent : b.lent ≡ a.lent
  pub frees : b.frees ≡ a.frees
  pub allocs : b.allocs ≡ a.allocs
  pub passed : b.passed ≡ a.passed
  pub adopted : b.adopted ≡ a.adopted
  pub counted : CountsOn (a.nulls + a.busy) (b.nulls + b.busy) 1

null_on : (a : Counts) → CountsOn (a.nulls + a.busy) (one_more a.nulls + a.busy) 1
null_on a = goes_on_beside a.nulls (one_more a.nulls) 1 a.busy (one_more_on a.nulls)

busy_on : (n : ℕ) (b c : ℕ) → CountsOn b c 1 → CountsOn (n + b) (n + c) 1
busy_on n b c on = (
  omega (arith, on.0),
  elim on.1 [ inl is ↦ inl (omega (arith, is)) | inr end ↦ inr (omega (arith, end)) ],
)

pub is_refused : (fault : TakeFault) (a : Counts) → IsRefused a (refuses fault a)
is_refused Busy a = record { lent = refl; frees = refl; allocs = refl; passed = refl; adopted = refl; counted = busy_on a.nulls a.busy (one_more a.busy) (one_more_on a.busy) }
is_refused NoSpan a = record { lent = refl; frees = refl; allocs = refl; passed = refl; adopted = refl; counted = null_on a }
is_refused NoMemory a = record { lent = refl; frees = refl; allocs = refl; passed = refl; adopted = refl; counted = null_on a }
is_refused Full a = record { lent = refl; frees = refl; allocs = refl; passed = refl; adopted = refl; counted = null_on a }

-- ---- what a stock was answered

-- as many times
pub as_many : (o t : StockView) (n m : ℕ) → n ≡ m → Answers o t 0 0 n → Answers o t 0 0 m
as_many o t n m same on = subst (λ (k : ℕ). Answers o t 0 0 k) same on

-- of a stock that is seen as another
pub as_seen : (o s t : StockView) (a b d : ℕ) → s ≡ o → Answers s t a b d → Answers o t a b d
as_seen o s t a b d is on = subst (λ (v : StockView). Answers v t a b d) is on

-- that many objects less were granted than the hand gave, before as after
granted_are : (allocs clashes allocs' clashes' given lost : ℕ) → clashes ≤ allocs → allocs' ≡ allocs + given + lost → clashes' ≡ clashes + lost
    → allocs' - clashes' ≡ allocs - clashes + given
granted_are allocs clashes allocs' clashes' given lost few more gone = omega (arith, few, more, gone)

module _ (s t : StockView) (i : IsStock s) (stays : Stays s t) (strays : t.strays ≡ s.strays) (gets : t.shelf_hand.gets ≡ s.shelf_hand.gets) where
  same_fetched : t.shelf_hand.gets - t.strays ≡ s.shelf_hand.gets - s.strays + 0
  same_fetched = granted_are s.shelf_hand.gets s.strays t.shelf_hand.gets t.strays 0 0 (omega (arith, i.strayed, i.shelved.1)) (omega (arith, gets)) (omega (arith, strays))

  pub took_answers : t.hand.counts ≡ lends s.hand.counts → t.clashes ≡ s.clashes → Answers s t 1 0 0
  took_answers counts clashes = record {
    stays = stays;
    granted_are = granted_are s.hand.counts.allocs s.clashes t.hand.counts.allocs t.clashes 1 0 i.clashed.1 (omega (arith, ap (λ (k : Counts). k.allocs) counts)) (omega (arith, clashes));
    refused_are = goes_on _ _ 0 (omega (arith, ap (λ (k : Counts). k.nulls) counts, ap (λ (k : Counts). k.busy) counts, clashes));
    fetched_are = same_fetched;
  }

  pub clashed_answers : (mid : Counts) → mid ≡ lends s.hand.counts → t.hand.counts ≡ gets_back mid → t.clashes ≡ s.clashes + 1 → Answers s t 0 1 0
  clashed_answers mid went back clashes = record {
    stays = stays;
    granted_are = granted_are s.hand.counts.allocs s.clashes t.hand.counts.allocs t.clashes 0 1 i.clashed.1
        (omega (arith, ap (λ (k : Counts). k.allocs) went, ap (λ (k : Counts). k.allocs) back)) (omega (arith, clashes));
    refused_are = goes_on _ _ 1 (omega (arith, ap (λ (k : Counts). k.nulls) went, ap (λ (k : Counts). k.busy) went, ap (λ (k : Counts). k.nulls) back, ap (λ (k : Counts). k.busy) back, clashes));
    fetched_are = same_fetched;
  }

  pub refused_answers : (fault : TakeFault) → t.hand.counts ≡ refuses fault s.hand.counts → t.clashes ≡ s.clashes → Answers s t 0 1 0
  refused_answers fault counts clashes =
      let is = subst (IsRefused s.hand.counts) (sym counts) (is_refused fault s.hand.counts) in
      record {
        stays = stays;
        granted_are = granted_are s.hand.counts.allocs s.clashes t.hand.counts.allocs t.clashes 0 0 i.clashed.1 (omega (arith, is.allocs)) (omega (arith, clashes));
        refused_are = subst (λ (n : ℕ). CountsOn (s.hand.counts.nulls + s.hand.counts.busy + s.clashes) (t.hand.counts.nulls + t.hand.counts.busy + n) 1) (sym clashes)
            (goes_on_beside _ _ 1 s.clashes is.counted);
        fetched_are = same_fetched;
      }

  pub gave_answers : t.hand.counts ≡ gets_back s.hand.counts → t.clashes ≡ s.clashes → Answers s t 0 0 0
  gave_answers counts clashes = record {
    stays = stays;
    granted_are = granted_are s.hand.counts.allocs s.clashes t.hand.counts.allocs t.clashes 0 0 i.clashed.1 (omega (arith, ap (λ (k : Counts). k.allocs) counts)) (omega (arith, clashes));
    refused_are = goes_on _ _ 0 (omega (arith, ap (λ (k : Counts). k.nulls) counts, ap (λ (k : Counts). k.busy) counts, clashes));
    fetched_are = same_fetched;
  }

-- ---- an exchange over the shelf

-- that many objects came off the shelf, of which that many went back as strays
pub exchange_answers : (s t : StockView) (put got back answer : ℕ) → IsStock s → Stays s t → t.hand.counts.allocs ≡ s.hand.counts.allocs
    → t.hand.counts.nulls ≡ s.hand.counts.nulls → t.hand.counts.busy ≡ s.hand.counts.busy → t.clashes ≡ s.clashes
    → t.shelf_hand ≡ views.swapped s.shelf_hand put got → t.strays ≡ s.strays + back → answer + back ≡ got → Answers s t 0 0 answer
exchange_answers s t put got back answer i stays allocs nulls busy clashes swapped strays sum = record {
  stays = stays;
  granted_are = granted_are s.hand.counts.allocs s.clashes t.hand.counts.allocs t.clashes 0 0 i.clashed.1 (omega (arith, allocs)) (omega (arith, clashes));
  refused_are = goes_on _ _ 0 (omega (arith, nulls, busy, clashes));
  fetched_are = granted_are s.shelf_hand.gets s.strays t.shelf_hand.gets t.strays answer back (omega (arith, i.strayed, i.shelved.1))
      (omega (arith, ap (λ (v : views.HandView). v.gets) swapped, sum)) strays;
}

-- ---- a stock that goes on as it was

-- all but what its hand has and notes is as it was
pub record IsAlike (s t : StockView) : Type 0 where
  pub hand : (t.hand.table ≡ s.hand.table) × (t.hand.counts ≡ s.hand.counts)
  pub rest : (t.shelf_hand ≡ s.shelf_hand) × (t.seat ≡ s.seat) × (t.clashes ≡ s.clashes) × (t.strays ≡ s.strays)

module _ (s t : StockView) (is : IsAlike s t) where
  alike_granted : granted_by t ≡ granted_by s
  alike_granted = λ i. (is.hand.1 i).allocs - is.rest.2 i

  alike_refused : refused_by t ≡ refused_by s
  alike_refused = λ i. (is.hand.1 i).nulls + (is.hand.1 i).busy + is.rest.2 i

  alike_fetched : fetched_by t ≡ fetched_by s
  alike_fetched = λ i. (is.rest.0 i).gets - is.rest.3 i

  alike_stays : Stays s t
  alike_stays = record { hand = is.hand.0; shelf_hand = ap (λ (v : views.HandView). v.table) is.rest.0; seat = ap (λ (v : SeatView). v.table) is.rest.1 }

  pub alike_answers : Answers s t 0 0 0
  alike_answers = record {
    stays = alike_stays;
    granted_are = omega (arith, alike_granted);
    refused_are = goes_on (refused_by s) (refused_by t) 0 (omega (arith, alike_refused));
    fetched_are = omega (arith, alike_fetched);
  }

  -- a call after that is answered so from before it on
  pub answered_since : (u : StockView) (a b d : ℕ) → Answers t u a b d → Answers s u a b d
  answered_since u a b d on = record {
    stays = record { hand = on.stays.hand ∙ alike_stays.hand; shelf_hand = on.stays.shelf_hand ∙ alike_stays.shelf_hand; seat = on.stays.seat ∙ alike_stays.seat };
    granted_are = on.granted_are ∙ ap (λ n. n + a) alike_granted;
    refused_are = subst (λ n. CountsOn n (refused_by u) b) alike_refused on.refused_are;
    fetched_are = on.fetched_are ∙ ap (λ n. n + d) alike_fetched;
  }
