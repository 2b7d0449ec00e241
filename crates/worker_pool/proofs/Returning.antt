-- The first of the hands and of the seats gave back what the shelves held.
use Rattle.std.proofs.Common.{◌≡◌, inl, inr, ◌≤◌, ◌<◌, ◌+◌, Option, Some, None, ℕ, zero, suc, All, List, [], ◌∷◌, length, slice_index_or, refl}
use Rattle.std.proofs.Common.{sym, ap, subst, ◌∙◌, arith}
use Rattle.std.specs.Prelude.{sum_by, slice_set}
use Rattle.std.proofs.lemmas.List.Sums.{sum_by-cons}
use Rattle.object_cache.specs.HandView.{HandView}
use Rattle.object_cache.specs.ShelfView.{ShelfHandView, new_hand, one_if}
use Rattle.slab_layer.specs.Kinds.{Row, IsRow}
use Rattle.owners_table.specs.Owning.{OwnersView, SeatView}
use Rattle.ebpf_owned.specs.Claims.{lost, HasFetched}
use Rattle.ebpf_owned.proofs.Claiming.{fetched_on}
use Rattle.worker_pool.specs.Supplies.{HasReturned}
use Rattle.worker_pool.specs.Outcomes.{IsIdle, noted_by, lost_by, fetches_by}

-- a kind's number is that of a shelf
pub number_below : (r : Row) → IsRow r → r.number < 3
number_below r (inl is) = let n = ap (λ (r : Row). r.number) is in omega (arith, n)
number_below r (inr (inl is)) = let n = ap (λ (r : Row). r.number) is in omega (arith, n)
number_below r (inr (inr is)) = let n = ap (λ (r : Row). r.number) is in omega (arith, n)

-- there is one at most
pub one_at_most : {X : Type 0} (o : Option X) → one_if o ≤ 1
one_at_most None = omega arith
one_at_most (Some x) = omega arith

-- nothing was put on a shelf by hands that did nothing
pub untouched_puts : (hands : List ShelfHandView) → All (λ h. h ≡ new_hand) hands → sum_by (λ h. h.puts) hands ≡ 0
untouched_puts [] all = refl
untouched_puts (h ∷ hands) all =
    let here : h.puts ≡ 0 = ap (λ (k : ShelfHandView). k.puts) (all 0 h (omega arith)) in
    omega (arith, sum_by-cons (λ (k : ShelfHandView). k.puts) h hands, here, untouched_puts hands (λ i d l. all (suc i) d (omega (arith, l))))

module _ {X : Type 0} where
  -- another first element
  first_sum : (f : X → ℕ) (xs : List X) (x y : X) → 0 < length xs → x ≡ slice_index_or xs 0 x → sum_by f (slice_set xs 0 y) + f x ≡ sum_by f xs + f y
  first_sum f [] x y some is = absurd (omega (arith, some))
  first_sum f (z ∷ xs) x y some is =
      let e : f x ≡ f z = ap f is in
      omega (arith, sum_by-cons f y xs, sum_by-cons f z xs, e)

  first_length : (xs : List X) (y : X) → length (slice_set xs 0 y) ≡ length xs
  first_length [] y = refl
  first_length (z ∷ xs) y = refl

  pub first_is : (P : X → Type 0) (xs : List X) (x : X) → 0 < length xs → x ≡ slice_index_or xs 0 x → All P xs → P x
  first_is P [] x some is all = absurd (omega (arith, some))
  first_is P (z ∷ xs) x some is all = subst P (sym is) (all 0 z (omega arith))

  first_all : (P : X → Type 0) (xs : List X) (y : X) → All P xs → P y → All P (slice_set xs 0 y)
  first_all P [] y all py k d l = absurd (omega (arith, l))
  first_all P (z ∷ xs) y all py zero d l = py
  first_all P (z ∷ xs) y all py (suc k) d l = all (suc k) d (omega (arith, l))

-- the first hand gave that many objects back
module _ (left : ℕ) (hands : List HandView) (h h' : HandView) (some : 0 < length hands) (is : h ≡ slice_index_or hands 0 h) (r : HasReturned left h h') where
  pub same_allocs : sum_by (λ h. h.allocs) (slice_set hands 0 h') ≡ sum_by (λ h. h.allocs) hands
  same_allocs = let s = first_sum (λ k. k.allocs) hands h h' some is in omega (arith, s, r.allocs)

  pub more_frees : sum_by (λ h. h.frees) (slice_set hands 0 h') ≡ sum_by (λ h. h.frees) hands + left
  more_frees = let s = first_sum (λ k. k.frees) hands h h' some is in omega (arith, s, r.frees)

  pub same_nulls : sum_by (λ h. h.nulls) (slice_set hands 0 h') ≡ sum_by (λ h. h.nulls) hands
  same_nulls = let s = first_sum (λ k. k.nulls) hands h h' some is in omega (arith, s, r.nulls)

-- three fetches one after another
pub all_fetched : (a b c : ℕ) (s t u v : SeatView) → HasFetched a s t → HasFetched b t u → HasFetched c u v → HasFetched (a + b + c) s v
all_fetched a b c s t u v x y z = fetched_on (a + b) c s u v (fetched_on a b s t u x y) z

pub idle_after : (o : OwnersView) (count : ℕ) (s s' : SeatView) → HasFetched count s s' → IsIdle o s → IsIdle o s'
idle_after o count s s' f i = record { table = f.table ∙ i.table; held = f.held ∙ i.held }

module _ (o : OwnersView) (count : ℕ) (seats : List SeatView) (s s' : SeatView) (some : 0 < length seats) (is : s ≡ slice_index_or seats 0 s) (f : HasFetched count s s') where
  pub seats_all : length (slice_set seats 0 s') ≡ length seats
  seats_all = first_length seats s'

  pub seats_idle : All (IsIdle o) seats → IsIdle o s → All (IsIdle o) (slice_set seats 0 s')
  seats_idle all idle = first_all (IsIdle o) seats s' all (idle_after o count s s' f idle)

  pub seats_noted : noted_by (slice_set seats 0 s') ≡ noted_by seats
  seats_noted = let e = first_sum (λ v. length v.notes) seats s s' some is in let n = ap length f.notes in omega (arith, e, n)

  pub seats_lost : lost_by (slice_set seats 0 s') ≡ lost_by seats
  seats_lost = let e = first_sum (λ v. lost v.notes) seats s s' some is in let n = ap lost f.notes in omega (arith, e, n)

  pub seats_fetched : fetches_by (slice_set seats 0 s') ≡ fetches_by seats + count
  seats_fetched = let e = first_sum (λ v. length v.fetches) seats s s' some is in omega (arith, e, f.fetches)
