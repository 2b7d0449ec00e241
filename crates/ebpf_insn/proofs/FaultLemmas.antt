-- What is known where no test gives a code, and of the lowest slot that has one.
use Rattle.std.proofs.Common.{◌≡◌, ℕ, zero, suc, ◌+◌, ◌<◌, ◌≤◌, Bool, true, false, cond, Option, Some, None, refl, sym, ◌∙◌, add-one, arith, inl, inr}
use Rattle.std.proofs.lemmas.Option.{none-some, some_pair_parts}
use Rattle.std.proofs.lemmas.Bool.{cases_lt}
use Rattle.ebpf_insn.specs.Faults.{lowest, lowest_with}

-- where no test of several holds, the first doesn't, nor do the rest
pub none_first : {C : Type 0} (t : Bool) (c : C) (rest : Option C) → cond t (Some c) rest ≡ None → (t ≡ false) × (rest ≡ None)
none_first true c rest e = absurd (cc)
none_first false c rest e = (refl, e)

-- One slot more.
lowest-suc : {C : Type 0} (f : ℕ → Option C) (n : ℕ) → lowest f (suc n) ≡ lowest_with (lowest f n) n (f n)
unfolding lowest
lowest-suc f n = refl

pub lowest-zero : {C : Type 0} (f : ℕ → Option C) → lowest f 0 ≡ None
unfolding lowest
lowest-zero f = refl

pub lowest-more : {C : Type 0} (f : ℕ → Option C) (n : ℕ) → lowest f (n + 1) ≡ lowest_with (lowest f n) n (f n)
lowest-more f n = rw add-one (lowest-suc f n)

-- no code so far, and none here
pub lowest-more_none : {C : Type 0} (f : ℕ → Option C) (n : ℕ) → lowest f n ≡ None → f n ≡ None → lowest f (n + 1) ≡ None
lowest-more_none f n before here = rw (lowest-more f n, before, here) refl

-- no code so far, and one here
pub lowest-more_some : {C : Type 0} (f : ℕ → Option C) (n : ℕ) (c : C) → lowest f n ≡ None → f n ≡ Some c → lowest f (n + 1) ≡ Some (n, c)
lowest-more_some f n c before here = rw (lowest-more f n, before, here) refl

-- what was found stays
pub lowest_stays : {C : Type 0} (f : ℕ → Option C) (m n : ℕ) (x : ℕ × C) → lowest f m ≡ Some x → m ≤ n → lowest f n ≡ Some x
lowest_stays f m zero x found le = let e : m ≡ 0 = omega arith in rw e at found
lowest_stays f m (suc n) x found le =
    elim (cases_lt n m) [
      | inl lt ↦ let e : m ≡ suc n = omega arith in rw e at found
      | inr below ↦ rw (lowest-suc f n, lowest_stays f m n x found below) refl
    ]

-- the lowest slot that has a code decides, however many follow
pub lowest_at : {C : Type 0} (f : ℕ → Option C) (slot n : ℕ) (c : C) → lowest f slot ≡ None → f slot ≡ Some c → slot < n → lowest f n ≡ Some (slot, c)
lowest_at f slot n c before here lt = lowest_stays f (slot + 1) n (slot, c) (lowest-more_some f slot c before here) (omega arith)

-- no slot below has a code
pub lowest_none : {C : Type 0} (f : ℕ → Option C) (n : ℕ) → ((k : ℕ) → k < n → f k ≡ None) → lowest f n ≡ None
lowest_none f zero each = lowest-zero f
lowest_none f (suc n) each =
    rw (lowest-suc f n, lowest_none f n (λ k lt. each k (omega arith)), each n (omega arith)) refl

-- a slot more left nothing found
none_with : {C : Type 0} (before : Option (ℕ × C)) (n : ℕ) (here : Option C) → lowest_with before n here ≡ None → (before ≡ None) × (here ≡ None)
none_with (Some found) n here e = absurd (none-some found (sym e))
none_with None n (Some c) e = absurd (none-some (n, c) (sym e))
none_with None n None e = (refl, refl)

-- where none was found, no slot has a code
pub none_below : {C : Type 0} (f : ℕ → Option C) (n : ℕ) → lowest f n ≡ None → (k : ℕ) → k < n → f k ≡ None
none_below f zero none k lt = absurd (omega arith)
none_below f (suc n) none k lt =
    let last = none_with (lowest f n) n (f n) (sym (lowest-suc f n) ∙ none) in
    elim (cases_lt k n) [
      | inl below ↦ none_below f n last.0 k below
      | inr above ↦ let e : k ≡ n = omega arith in rw e last.1
    ]

-- what is found is a slot's code, and no lower slot has one
pub record IsLowest {C : Type 0} (f : ℕ → Option C) (n slot : ℕ) (c : C) : Type 0 where
  pub inside : slot < n
  pub here : f slot ≡ Some c
  pub before : lowest f slot ≡ None

found_with : {C : Type 0} (f : ℕ → Option C) (n slot : ℕ) (c : C) (before : Option (ℕ × C)) (here : Option C) → lowest f n ≡ before → f n ≡ here
    → (lowest f n ≡ Some (slot, c) → IsLowest f n slot c) → lowest_with before n here ≡ Some (slot, c) → IsLowest f (suc n) slot c
found_with f n slot c (Some found) here was at below e =
    let h = below (was ∙ e) in
    record { inside = let lt : slot < n = h.inside in omega arith; here = h.here; before = h.before }
found_with f n slot c None (Some d) was at below e =
    let parts = some_pair_parts n slot d c e in
    record { inside = let same : n ≡ slot = parts.0 in omega arith; here = rw (← parts.0, ← parts.1) at; before = rw (← parts.0) was }
found_with f n slot c None None was at below e = absurd (none-some (slot, c) e)

pub lowest_is : {C : Type 0} (f : ℕ → Option C) (n slot : ℕ) (c : C) → lowest f n ≡ Some (slot, c) → IsLowest f n slot c
lowest_is f zero slot c found = absurd (none-some (slot, c) (sym (lowest-zero f) ∙ found))
lowest_is f (suc n) slot c found =
    found_with f n slot c (lowest f n) (f n) refl refl (lowest_is f n slot c) (sym (lowest-suc f n) ∙ found)

-- two functions with the same codes below a slot have the same lowest one
pub lowest_agree : {C : Type 0} (f g : ℕ → Option C) (n : ℕ) → ((k : ℕ) → k < n → f k ≡ g k) → lowest f n ≡ lowest g n
lowest_agree f g zero same = lowest-zero f ∙ sym (lowest-zero g)
lowest_agree f g (suc n) same =
    rw (lowest-suc f n, lowest-suc g n, lowest_agree f g n (λ k lt. same k (omega arith)), same n (omega arith)) refl
