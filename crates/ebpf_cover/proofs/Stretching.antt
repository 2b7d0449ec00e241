-- Stretches of a program: where one ends, and what one more adds to the counts of slots.
use Rattle.std.proofs.Common.{◌≡◌, ◌≢◌, ℕ, zero, suc, ◌+◌, ◌-◌, ◌<◌, ◌≤◌, ◌==◌, ◌&&◌, nat_le, cond, Bool, true, false, List, Option, get_or, refl}
use Rattle.std.proofs.Common.{sym, ap, ◌∙◌, inl, inr, ◌⊎◌, arith}
use Rattle.std.proofs.lemmas.Bool.Decides.{nat_tests}
use Rattle.ebpf_insn.specs.declared.insn.Insn.{Insn}
use Rattle.ebpf_cover.specs.Stretches.{goes_on, AreStraight, passed}

-- ---- where a stretch ends

-- a slot is one of n from another on
abbrev pub is_within : (first n slot : ℕ) → Bool
is_within first n slot = nat_le first slot && nat_le (slot + 1) (first + n)

-- from a slot on n instructions go straight on, and the one after them doesn't
pub record IsStretch (on : ℕ → Bool) (first n : ℕ) : Type 0 where
  pub straight : (k : ℕ) → k < n → on (first + k) ≡ true
  pub ends : on (first + n) ≡ false

none_more : (on : ℕ → Bool) (first : ℕ) → on first ≡ false → IsStretch on first 0
none_more on first off = record {
  straight = λ k below. absurd (omega (arith, below));
  ends = let none : first + 0 ≡ first = omega arith in ap on none ∙ off;
}

one_longer : (on : ℕ → Bool) (first n : ℕ) → on first ≡ true → IsStretch on (first + 1) n → IsStretch on first (suc n)
one_longer on first n here rest = record { straight = straight; ends = let same : first + suc n ≡ first + 1 + n = omega arith in ap on same ∙ rest.ends } where
  straight : (k : ℕ) → k < suc n → on (first + k) ≡ true
  straight zero below = let same : first + 0 ≡ first = omega arith in ap on same ∙ here
  straight (suc k) below = let same : first + suc k ≡ first + 1 + k = omega arith in ap on same ∙ rest.straight k (omega (arith, below))

-- a slot goes straight on where its number is some
number_is : (b : Bool) (n more : ℕ) → n ≡ cond {A = ℕ} b (more + 1) 0 → ((n ≡ 0) × (b ≡ false)) ⊎ ((n ≡ more + 1) × (b ≡ true))
number_is true n more e = inr (e, refl)
number_is false n more e = inl (e, refl)

pub stretch_at : (p : List (Option Insn)) (numbers : List ℕ) → AreStraight p numbers → (n first : ℕ) → get_or numbers first 0 ≡ n → IsStretch (goes_on p) first n
stretch_at p numbers are zero first is = by (number_is (goes_on p first) (get_or numbers first 0) (get_or numbers (first + 1) 0) (are first)) where
  by : ((get_or numbers first 0 ≡ 0) × (goes_on p first ≡ false)) ⊎ ((get_or numbers first 0 ≡ get_or numbers (first + 1) 0 + 1) × (goes_on p first ≡ true)) → IsStretch (goes_on p) first 0
  by (inl off) = none_more (goes_on p) first off.1
  by (inr on) = absurd (omega (arith, on.0, is))
stretch_at p numbers are (suc n) first is = by (number_is (goes_on p first) (get_or numbers first 0) (get_or numbers (first + 1) 0) (are first)) (stretch_at p numbers are n (first + 1)) where
  by : ((get_or numbers first 0 ≡ 0) × (goes_on p first ≡ false)) ⊎ ((get_or numbers first 0 ≡ get_or numbers (first + 1) 0 + 1) × (goes_on p first ≡ true))
      → (get_or numbers (first + 1) 0 ≡ n → IsStretch (goes_on p) (first + 1) n) → IsStretch (goes_on p) first (suc n)
  by (inl off) rest = absurd (omega (arith, off.0, is))
  by (inr on) rest = one_longer (goes_on p) first n on.1 (rest (omega (arith, on.0, is)))

-- ---- what one more adds

-- a slot after another is in a stretch where it begins there, or where the other is and goes straight on
is_later : (on : ℕ → Bool) (first n slot : ℕ) (b : Bool) → IsStretch on first n → on slot ≡ b
    → cond {A = ℕ} (first == suc slot) 1 0 + cond {A = ℕ} b (cond {A = ℕ} (is_within first (n + 1) slot) 1 0) 0 ≡ cond {A = ℕ} (is_within first (n + 1) (suc slot)) 1 0
is_later on first n slot true h e =
    let ne : slot ≢ first + n = λ same. (let both : true ≡ false = sym e ∙ ap on same ∙ h.ends in cc) in
    grind (arith, nat_tests)
is_later on first n slot false h e =
    let ne : first ≤ slot → slot < first + n → ⊥ = λ low high. (let at : first + (slot - first) ≡ slot = omega (arith, low) in let both : false ≡ true = sym e ∙ ap on (sym at) ∙ h.straight (slot - first) (omega (arith, low, high)) in cc) in
    outside ne
  where
    outside : (first ≤ slot → slot < first + n → ⊥) → cond {A = ℕ} (first == suc slot) 1 0 + 0 ≡ cond {A = ℕ} (is_within first (n + 1) (suc slot)) 1 0
    outside ne = grind (arith, nat_tests, ne)

split : (b : Bool) (x y : ℕ) → cond {A = ℕ} b (x + y) 0 ≡ cond {A = ℕ} b x 0 + cond {A = ℕ} b y 0
split true x y = refl
split false x y = refl

first_within : (first n : ℕ) → cond {A = ℕ} (first == 0) 1 0 ≡ cond {A = ℕ} (is_within first (n + 1) 0) 1 0
first_within first n = grind (arith, nat_tests)

pub passed_more : (on : ℕ → Bool) (was is : ℕ → ℕ) (first n : ℕ) → IsStretch on first n → ((slot : ℕ) → is slot ≡ was slot + cond (first == slot) 1 0)
    → (slot : ℕ) → passed on is slot ≡ passed on was slot + cond (is_within first (n + 1) slot) 1 0
unfolding passed
passed_more on was is first n h noted zero = let one = noted 0 in let same = first_within first n in omega (arith, one, same)
passed_more on was is first n h noted (suc slot) =
    let one = noted (suc slot) in
    let earlier = passed_more on was is first n h noted slot in
    let both = ap (λ (x : ℕ). cond {A = ℕ} (on slot) x 0) earlier ∙ split (on slot) (passed on was slot) (cond (is_within first (n + 1) slot) 1 0) in
    let later = is_later on first n slot (on slot) h refl in
    omega (arith, one, both, later)
