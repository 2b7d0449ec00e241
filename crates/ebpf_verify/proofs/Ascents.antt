-- Numbers in order: those before one more, and those that a test keeps.
use Rattle.std.proofs.Common.{ℕ, ◌<◌, Bool, true, false, cond, List, [], ◌∷◌, ◌++◌, arith}
use Rattle.std.specs.Prelude.{All, filter}
use Rattle.std.proofs.lemmas.List.Elements.{All-nil, All-cons, All-head, All-tail}
use Rattle.ebpf_state.specs.Ascending.{IsAscending}
use Rattle.ebpf_state.proofs.HeldLists.{IsBelowFirst, ascending-cons, tail_ascends, first_below, lower_first}

-- what is below the first is below all
pub all_above : (n : ℕ) (ms : List ℕ) → IsAscending (n ∷ ms) → All (λ m. n < m) ms
all_above n [] h = All-nil (λ (m : ℕ). n < m)
all_above n (m ∷ ms) h = All-cons (λ (k : ℕ). n < k) m ms h.0 (λ k d lt. let more = all_above m ms h.1 k d lt in let first = h.0 in omega (arith, more, first))

pub ascending_push : (n : ℕ) (ms : List ℕ) → All (λ m. m < n) ms → IsAscending ms → IsAscending (ms ++ n ∷ [])
ascending_push n [] below h = tt
ascending_push n (m ∷ ms) below h =
    ascending-cons m (ms ++ n ∷ []) (first ms (first_below m ms h)) (ascending_push n ms (All-tail (λ (k : ℕ). k < n) m ms below) (tail_ascends m ms h))
  where
    first : (ks : List ℕ) → IsBelowFirst m ks → IsBelowFirst m (ks ++ n ∷ [])
    first [] f = All-head (λ (k : ℕ). k < n) m ms below
    first (k ∷ ks) f = f

below_kept : (p : ℕ → Bool) (n : ℕ) (ms : List ℕ) → IsBelowFirst n ms → IsAscending ms → IsBelowFirst n (filter p ms)
below_kept p n [] below h = tt
below_kept p n (m ∷ ms) below h = by (p m) (below_kept p n ms (lower_first n m ms below (first_below m ms h)) (tail_ascends m ms h)) where
  by : (t : Bool) → IsBelowFirst n (filter p ms) → IsBelowFirst n (cond t (m ∷ filter p ms) (filter p ms))
  by true rest = below
  by false rest = rest

pub ascending_kept : (p : ℕ → Bool) (ms : List ℕ) → IsAscending ms → IsAscending (filter p ms)
ascending_kept p [] h = tt
ascending_kept p (m ∷ ms) h = by (p m) (below_kept p m ms (first_below m ms h) (tail_ascends m ms h)) (ascending_kept p ms (tail_ascends m ms h)) where
  by : (t : Bool) → IsBelowFirst m (filter p ms) → IsAscending (filter p ms) → IsAscending (cond t (m ∷ filter p ms) (filter p ms))
  by true below rest = ascending-cons m (filter p ms) below rest
  by false below rest = rest
