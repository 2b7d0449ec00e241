-- Lists of references, in the order of their calls.
use Rattle.std.proofs.Common.{◌≡◌, ℕ, ◌<◌, Bool, true, false, cond, List, [], ◌∷◌, refl, arith}
use Rattle.std.specs.Prelude.{map, filter, ◌==◌}
use Rattle.ebpf_state.specs.declared.held.Held.{Held}
use Rattle.ebpf_state.specs.Ascending.{IsAscending}
use Rattle.ebpf_state.specs.References.{tested_reference}

abbrev pub calls_of : List Held → List ℕ
calls_of held = map (λ (h : Held). h.call) held

same_call : (call : ℕ) (h : Held) → (tested_reference call h).call ≡ h.call
same_call call h = chosen (h.call == call) where
  chosen : (t : Bool) → (cond t (record h { tested = true }) h).call ≡ h.call
  chosen true = refl
  chosen false = refl

-- a test changes no call
pub calls-tested : (call : ℕ) (held : List Held) → calls_of (map (tested_reference call) held) ≡ calls_of held
calls-tested call [] = refl
calls-tested call (h ∷ held) = rw (same_call call h, calls-tested call held) refl

-- a number before an ascending list, which it is below
abbrev pub IsBelowFirst : ℕ → List ℕ → Type 0
IsBelowFirst n [] = Unit {0}
IsBelowFirst n (m ∷ ms) = n < m

pub ascending-cons : (n : ℕ) (ms : List ℕ) → IsBelowFirst n ms → IsAscending ms → IsAscending (n ∷ ms)
ascending-cons n [] below h = tt
ascending-cons n (m ∷ ms) below h = (below, h)

pub tail_ascends : (n : ℕ) (ms : List ℕ) → IsAscending (n ∷ ms) → IsAscending ms
tail_ascends n [] h = tt
tail_ascends n (m ∷ ms) h = h.1

pub first_below : (n : ℕ) (ms : List ℕ) → IsAscending (n ∷ ms) → IsBelowFirst n ms
first_below n [] h = tt
first_below n (m ∷ ms) h = h.0

pub lower_first : (n m : ℕ) (ms : List ℕ) → n < m → IsBelowFirst m ms → IsBelowFirst n ms
lower_first n m [] lt below = tt
lower_first n m (k ∷ ms) lt below = omega (arith, lt, below)

-- the calls of a list that one more reference may come before
abbrev kept_calls : Bool → Held → List Held → List ℕ
kept_calls keeps x held = calls_of (cond keeps (x ∷ held) held)

below_kept : (keeps : Bool) (n : ℕ) (x : Held) (held : List Held) → n < x.call → IsBelowFirst n (calls_of held) → IsBelowFirst n (kept_calls keeps x held)
below_kept true n x held lt below = lt
below_kept false n x held lt below = below

-- what is below the first of an ascending list is below the first of those that a test keeps
filter_below : (p : Held → Bool) (n : ℕ) (held : List Held) → IsBelowFirst n (calls_of held) → IsAscending (calls_of held)
    → IsBelowFirst n (calls_of (filter p held))
filter_below p n [] below h = tt
filter_below p n (x ∷ held) below h =
    below_kept (p x) n x (filter p held) below (filter_below p n held (lower_first n x.call (calls_of held) below (first_below x.call (calls_of held) h)) (tail_ascends x.call (calls_of held) h))

ascending_kept : (keeps : Bool) (x : Held) (held : List Held) → IsBelowFirst x.call (calls_of held) → IsAscending (calls_of held)
    → IsAscending (kept_calls keeps x held)
ascending_kept true x held below h = ascending-cons x.call (calls_of held) below h
ascending_kept false x held below h = h

-- the references that a test keeps ascend
pub ascending-filter : (p : Held → Bool) (held : List Held) → IsAscending (calls_of held) → IsAscending (calls_of (filter p held))
ascending-filter p [] h = tt
ascending-filter p (x ∷ held) h =
    let rest = tail_ascends x.call (calls_of held) h in
    ascending_kept (p x) x (filter p held) (filter_below p x.call held (first_below x.call (calls_of held) h) rest) (ascending-filter p held rest)
