-- What an exchange over a shelf does to the list of a seat.
use Rattle.std.proofs.Common.{◌≡◌, ◌≢◌, ℕ, ◌+◌, Bool, true, false, Option, Some, None, IfSome, List, ◌∷◌, length, refl, sym, ap, subst, ◌∙◌, arith}
use Rattle.std.specs.Prelude.{◌==◌, option_map}
use Rattle.std.proofs.lemmas.Bool.Decides.{nat_tests}
use Rattle.owners_table.specs.Owning.{Holds, without}
use Rattle.ebpf_owned.specs.Claims.{count_of, Once}
use Rattle.ebpf_owned.specs.Exchanges.{less, more, one_if, HasPassed}
use Rattle.ebpf_owned.proofs.Holding.{one_at, count_of-cons, same, length-without, held_before, held_after, once_released, once_same}

-- ---- the list of the seat

pub less_length : (given : Option ℕ) (held : List (ℕ × ℕ)) → IfSome given (λ s. Holds s held) → length (less given held) + one_if given ≡ length held
less_length None held has = omega arith
less_length (Some s) held has = length-without s held has

-- each slot is there once at most after it
pub once_less : (given : Option ℕ) (held held' : List (ℕ × ℕ)) → IfSome given (λ s. Holds s held) → held' ≡ less given held → Once held → Once held'
once_less None held held' has are once = once_same held held' are once
once_less (Some s) held held' has are once = once_released s s held held' refl are has once

more_length : (got : Option ℕ) (word : ℕ) (held : List (ℕ × ℕ)) → length (more got word held) ≡ length held + one_if got
more_length None word held = omega arith
more_length (Some s) word held = omega arith

-- another slot that was held is held by what is left
pub held_less : (given : Option ℕ) (x : ℕ) (held : List (ℕ × ℕ)) → IfSome given (λ s. Holds s held) → Holds x held
    → IfSome given (λ s. x ≢ s) → Holds x (less given held)
held_less None x held has now apart = now
held_less (Some s) x held has now apart = held_after s s x held (without s held) refl refl has now apart

pub held_more : (got : Option ℕ) (word x : ℕ) (held : List (ℕ × ℕ)) → Holds x held → Holds x (more got word held)
held_more None word x held now = now
held_more (Some s) word x held now = let c = count_of-cons x (s, word) held in omega (arith, c, now)

pub held_got : (slot word : ℕ) (held : List (ℕ × ℕ)) → Holds slot (more (Some slot) word held)
held_got slot word held =
    let c = count_of-cons slot (slot, word) held in
    let o : one_at (slot == slot) ≡ 1 = ap one_at (same slot) in
    omega (arith, c, o)

-- what was not held before
pub not_held : (given : Option ℕ) (slot : ℕ) (held : List (ℕ × ℕ)) → IfSome given (λ s. Holds s held) → (given ≢ Some slot)
    → (Holds slot (less given held) → ⊥) → Holds slot held → ⊥
not_held None slot held has apart none now = none now
not_held (Some s) slot held has apart none now = none (held_after s s slot held (without s held) refl refl has now (λ e. apart (ap (λ k. Some k) (sym e))))

pub passed : (given got : Option ℕ) (word : ℕ) (held held' : List (ℕ × ℕ)) → IfSome given (λ s. Holds s held)
    → held' ≡ more got word (less given held) → IfSome got (λ s. Holds s held → ⊥)
    → HasPassed given got word held held'
passed given got word held held' has are fresh = record {
  are = are;
  fresh = fresh;
  balance = let l = less_length given held has in let m = more_length got word (less given held) in let e = ap length are in omega (arith, l, m, e);
}

-- what was given up is no longer held
pub gone : (s word : ℕ) (got : Option ℕ) (held held' : List (ℕ × ℕ)) → Holds s held → Once held → HasPassed (Some s) got word held held' → Holds s held' → ⊥
gone s word got held held' has once p now = by got p.are p.fresh where
  left_none : Holds s (without s held) → ⊥
  left_none l = (held_before s s s held (without s held) refl refl has once l).1 refl

  by : (got : Option ℕ) → held' ≡ more got word (without s held) → IfSome got (λ slot. Holds slot held → ⊥) → ⊥
  by None are fresh = left_none (subst (Holds s) are now)
  by (Some g) are fresh = at (g == s) refl where
    at : (b : Bool) → (g == s) ≡ b → ⊥
    at true e = let eq : g ≡ s = grind (arith, nat_tests) in fresh (rw eq has)
    at false e =
        let c = count_of-cons s (g, word) (without s held) in
        let o : one_at (g == s) ≡ 0 = ap one_at e in
        let n = ap (count_of s) are in
        left_none (omega (arith, c, o, n, now))

-- ---- an exchange of objects

module _ {X : Type 0} (slot : X → ℕ) (given : Option X) (left : Option ℕ) (held : List (ℕ × ℕ)) (is : left ≡ option_map slot given) (has : IfSome given (λ x. Holds (slot x) held)) where
  by_slot : (given : Option X) (P : ℕ → Type 0) → IfSome given (λ x. P (slot x)) → IfSome (option_map slot given) P
  by_slot None P h = tt
  by_slot (Some x) P h = h

  slot_has : IfSome left (λ s. Holds s held)
  slot_has = subst (λ l. IfSome l (λ s. Holds s held)) (sym is) (by_slot given (λ s. Holds s held) has)

  -- an object in this slot was got
  pub passed_some : (s s' word word' : ℕ) (base held' : List (ℕ × ℕ)) → base ≡ less left held → s' ≡ s → word' ≡ word
      → held' ≡ (s', word') ∷ base → (Holds s' base → ⊥) → left ≢ Some s'
      → HasPassed (option_map slot given) (Some s) word held held'
  passed_some s s' word word' base held' base_is s_is word_is are none apart =
      let all : held' ≡ more (Some s) word (less left held) =
      are ∙ ap (λ l. (s', word') ∷ l) base_is ∙ ap (λ k. (k, word') ∷ less left held) s_is ∙ ap (λ w. (s, w) ∷ less left held) word_is in
      let fresh : Holds s' held → ⊥ = not_held left s' held slot_has apart (λ now. none (subst (Holds s') (sym base_is) now)) in
      subst (λ l. HasPassed l (Some s) word held held') is (passed left (Some s) word held held' slot_has all (λ now. fresh (subst (λ k. Holds k held) (sym s_is) now)))
