-- The spans that are out, as the table's tags change.
use Rattle.std.proofs.Common.{◌≡◌, ℕ, zero, suc, ◌+◌, ◌<◌, Bool, true, false, cond, ◌⊎◌, inl, inr, List, [], ◌∷◌, length, set, refl, ap, subst, arith}
use Rattle.std.specs.List.{Contains}
use Rattle.std.specs.List.Sorted.{IsPermutation}
use Rattle.std.proofs.lemmas.List.Sorted.{IsPermutation-refl, IsPermutation-cons, IsPermutation-trans, IsPermutation-middle, Contains-permutation}
use Rattle.vmem_arena.specs.Spans.{Pages}
use Rattle.vmem_arena.specs.declared.segment.Tag.{Tag}
use Rattle.vmem_arena.specs.Segments.{inside, tag_at, free_len, outs, with_before, without, IsOut}
use Rattle.vmem_arena.proofs.Tiling.{out_tag, free_from_some}

abbrev pub span : ℕ → ℕ → Pages
span first len = record { first = first; len = len }

pub outs-before : (ts : List Tag) (at page len : ℕ) → outs at (with_before ts page len) ≡ outs at ts
outs-before [] at page len = refl
outs-before (t ∷ ts) at zero len = refl
outs-before (t ∷ ts) at (suc page) len = ap (λ ps. cond t.is_out (span at t.len ∷ ps) ps) (outs-before ts (suc at) page len)

-- a tag of no span, for another of none
pub outs-free : (ts : List Tag) (at page : ℕ) (t : Tag) → (tag_at ts page).is_out ≡ false → t.is_out ≡ false → outs at (set ts page t) ≡ outs at ts
outs-free [] at page t old new = refl
outs-free (s ∷ ss) at zero t old new = rw (old, new) refl
outs-free (s ∷ ss) at (suc page) t old new = ap (λ ps. cond s.is_out (span at s.len ∷ ps) ps) (outs-free ss (suc at) page t old new)

pub outs-without : (ts : List Tag) (at page len : ℕ) → free_len ts page ≡ len → outs at (without ts page len) ≡ outs at ts
outs-without ts at page zero free = refl
outs-without ts at page (suc len) free = outs-free ts at page inside (free_from_some (tag_at ts page).is_out (tag_at ts page).len len free).0 refl

-- one span more, whatever comes before it
adds_past : (b : Bool) (p q : Pages) (xs ys : List Pages) → IsPermutation (p ∷ xs) ys → IsPermutation (p ∷ cond b (q ∷ xs) xs) (cond b (q ∷ ys) ys)
adds_past true p q xs ys h = IsPermutation-trans _ _ _ (IsPermutation-middle (p ∷ []) q xs) (IsPermutation-cons q _ _ h)
adds_past false p q xs ys h = h

pub outs-taken : (ts : List Tag) (at page first n before : ℕ) → page < length ts → (tag_at ts page).is_out ≡ false
    → first ≡ at + page → IsPermutation (span first n ∷ outs at ts) (outs at (set ts page (out_tag n before)))
outs-taken [] at page first n before within free e = absurd (omega arith)
outs-taken (s ∷ ss) at zero first n before within free e =
    let P : ℕ → Type 0 = λ f. IsPermutation (span f n ∷ outs (suc at) ss) (span at n ∷ outs (suc at) ss) in
    let same : at ≡ first = omega arith in
    rw free (subst P same (IsPermutation-refl _))
outs-taken (s ∷ ss) at (suc page) first n before within free e =
    adds_past s.is_out _ (span at s.len) _ _ (outs-taken ss (suc at) page first n before (omega arith) free (omega arith))

pub outs-given : (ts : List Tag) (at page first n : ℕ) (t : Tag) → page < length ts → (tag_at ts page).is_out ≡ true
    → (tag_at ts page).len ≡ n → t.is_out ≡ false → first ≡ at + page
    → IsPermutation (span first n ∷ outs at (set ts page t)) (outs at ts)
outs-given [] at page first n t within out long free e = absurd (omega arith)
outs-given (s ∷ ss) at zero first n t within out long free e =
    let P : ℕ → Type 0 = λ f. IsPermutation (span f n ∷ outs (suc at) ss) (span at s.len ∷ outs (suc at) ss) in
    let Q : ℕ → Type 0 = λ m. IsPermutation (span at m ∷ outs (suc at) ss) (span at s.len ∷ outs (suc at) ss) in
    let same : at ≡ first = omega arith in
    rw (out, free) (subst P same (subst Q long (IsPermutation-refl _)))
outs-given (s ∷ ss) at (suc page) first n t within out long free e =
    adds_past s.is_out _ (span at s.len) _ _ (outs-given ss (suc at) page first n t (omega arith) out long free (omega arith))

-- ---- a span of the list is one of the table
contains_cases : (b : Bool) (p q : Pages) (ps : List Pages) → Contains (cond b (q ∷ ps) ps) p → ((b ≡ true) × (q ≡ p)) ⊎ Contains ps p
contains_cases false p q ps h = inr h
contains_cases true p q ps (zero, within, is) = inl (refl, is)
contains_cases true p q ps (suc k, within, is) = inr (k, omega arith, is)

pub outs_of : (ts : List Tag) (at first len : ℕ) → Contains (outs at ts) (span first len) → (page : ℕ) × (at + page ≡ first) × IsOut ts page len
outs_of [] at first len (k, within, is) = absurd (omega arith)
outs_of (t ∷ ts) at first len h = elim (contains_cases t.is_out (span first len) (span at t.len) (outs (suc at) ts) h) [
  | inl here ↦
      let place : at ≡ first = ap (λ (p : Pages). p.first) here.1 in
      (0, omega arith, record { within = omega arith; out = here.0; long = ap (λ (p : Pages). p.len) here.1 })
  | inr later ↦
      let rest = outs_of ts (suc at) first len later in
      (suc rest.0, omega (arith, rest.1), record { within = omega (arith, rest.2.within); out = rest.2.out; long = rest.2.long })
]

pub outs_has : (ts : List Tag) (first len : ℕ) → IsOut ts first len → Contains (outs 0 ts) (span first len)
outs_has ts first len is =
    Contains-permutation _ _ _ (outs-given ts 0 first first len inside is.within is.out is.long refl (omega arith)) (0, omega arith, refl)
