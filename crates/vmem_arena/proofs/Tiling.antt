-- What taking a span and giving one back make of the table.
use Rattle.std.proofs.Common.{◌≡◌, ℕ, zero, suc, ◌+◌, ◌-◌, ◌<◌, ◌≤◌, Bool, true, false, cond, ◌⊎◌, inl, inr, List, [], ◌∷◌, length, set, refl, sym}
use Rattle.std.proofs.Common.{ap, subst, ◌∙◌, arith}
use Rattle.std.proofs.lemmas.Bool.{false≢true}
use Rattle.vmem_arena.specs.declared.segment.Tag.{Tag}
use Rattle.vmem_arena.specs.Segments.{inside, tag_at, free_len, IsTiled, with_before, without}

abbrev pub free_tag : ℕ → ℕ → Tag
free_tag len before = record { len = len; before = before; is_out = false }

abbrev pub out_tag : ℕ → ℕ → Tag
out_tag len before = record { len = len; before = before; is_out = true }

-- ---- where a segment lies
fits : (ts : List Tag) (left len : ℕ) (out : Bool) → IsTiled left len out ts → left ≤ length ts
fits [] left len out h = omega (arith, h)
fits (t ∷ ts) zero len out h = omega arith
fits (t ∷ ts) (suc left) len out h = omega (arith, fits ts left len out h.1)

pub no_pages : (t : Tag) → t ≡ inside → t.len ≡ 0
no_pages t is = ap (λ (s : Tag). s.len) is

-- a segment begins where none is under way, and ends with the table at the latest
pub extent : (ts : List Tag) (page left len : ℕ) (out : Bool) → IsTiled left len out ts → 0 < (tag_at ts page).len
    → (left ≤ page) × (page + (tag_at ts page).len ≤ length ts)
extent [] page left len out h some = absurd (omega arith)
extent (t ∷ ts) zero zero len out h some = (omega arith, omega (arith, fits ts (t.len - 1) t.len t.is_out h.3))
extent (t ∷ ts) zero (suc left) len out h some = absurd (omega (arith, no_pages t h.0))
extent (t ∷ ts) (suc page) zero len out h some = let rest = extent ts page (t.len - 1) t.len t.is_out h.3 some in (omega arith, omega (arith, rest.1))
extent (t ∷ ts) (suc page) (suc left) len out h some = let rest = extent ts page left len out h.1 some in (omega (arith, rest.0), omega (arith, rest.1))

-- the segment before one is as long as the tag says
pub before_is : (ts : List Tag) (page left len : ℕ) (out : Bool) → IsTiled left len out ts → 0 < (tag_at ts page).len
    → ((page ≡ left) × ((tag_at ts page).before ≡ len)) ⊎ ((q : ℕ) × (q + (tag_at ts page).before ≡ page) × ((tag_at ts q).len ≡ (tag_at ts page).before) × (0 < (tag_at ts page).before))
before_is [] page left len out h some = absurd (omega arith)
before_is (t ∷ ts) zero zero len out h some = inl (refl, h.0)
before_is (t ∷ ts) zero (suc left) len out h some = absurd (omega (arith, no_pages t h.0))
before_is (t ∷ ts) (suc page) zero len out h some = elim (before_is ts page (t.len - 1) t.len t.is_out h.3 some) [
  | inl first ↦ let long = h.1 in inr (0, omega (arith, first.0, first.1), sym first.1, omega (arith, first.1))
  | inr later ↦ inr (suc later.0, omega (arith, later.1), later.2, later.3)
]
before_is (t ∷ ts) (suc page) (suc left) len out h some = elim (before_is ts page left len out h.1 some) [
  | inl first ↦ inl (omega (arith, first.0), first.1)
  | inr later ↦ inr (suc later.0, omega (arith, later.1), later.2, later.3)
]

-- ---- the rest of a segment, where the segment is another
with_length : (ts : List Tag) (left len to : ℕ) (out : Bool) → IsTiled left len out ts → IsTiled left to out (with_before ts left to)
with_length [] left len to out h = h
with_length (t ∷ ts) zero len to out h = (refl, h.1, h.2, h.3)
with_length (t ∷ ts) (suc left) len to out h = (h.0, with_length ts left len to out h.1)

now_out : (ts : List Tag) (left len : ℕ) → IsTiled left len false ts → IsTiled left len true ts
now_out [] left len h = h
now_out (t ∷ ts) zero len h = (h.0, h.1, (λ e. absurd (false≢true (sym e))), h.3)
now_out (t ∷ ts) (suc left) len h = (h.0, now_out ts left len h.1)

out_from_none : (b : Bool) (n : ℕ) → 0 < n → cond b 0 n ≡ 0 → b ≡ true
out_from_none true n some none = refl
out_from_none false n some none = absurd (omega arith)

pub free_from_some : (b : Bool) (n m : ℕ) → cond b 0 n ≡ suc m → (b ≡ false) × (n ≡ suc m)
free_from_some true n m some = absurd (omega arith)
free_from_some false n m some = (refl, some)

-- it is free now, and the segment above it is out
above_apart : (ts : List Tag) (left len to : ℕ) → IsTiled left len true ts → free_len ts left ≡ 0 → IsTiled left to false (with_before ts left to)
above_apart [] left len to h none = h
above_apart (t ∷ ts) zero len to h none = (refl, h.1, (λ _. out_from_none t.is_out t.len h.1 none), h.3)
above_apart (t ∷ ts) (suc left) len to h none = (h.0, above_apart ts left len to h.1 none)

-- or is free too, and becomes a part of it
above_joined : (ts : List Tag) (left len high to k : ℕ) → IsTiled left len true ts → free_len ts left ≡ suc high
    → k ≡ left + suc high → IsTiled k to false (with_before (set ts left inside) k to)
above_joined (t ∷ ts) zero len high to (suc k) h free e =
    let is = free_from_some t.is_out t.len high free in
    let P : ℕ → Type 0 = λ n. IsTiled n t.len t.is_out ts in
    let Q : Bool → Type 0 = λ b. IsTiled k t.len b ts in
    let same : t.len - 1 ≡ k = omega (arith, is.1) in
    (refl, with_length ts k t.len to false (subst Q is.0 (subst P same h.3)))
above_joined (t ∷ ts) (suc left) len high to (suc k) h free e = (h.0, above_joined ts left len high to k h.1 free (omega arith))
above_joined ts left len high to k h free e = absurd (omega arith)

pub above : (ts : List Tag) (left len high to k : ℕ) → IsTiled left len true ts → free_len ts left ≡ high → k ≡ left + high
    → IsTiled k to false (with_before (without ts left high) k to)
above ts left len zero to k h free e =
    let P : ℕ → Type 0 = λ n. IsTiled n to false (with_before ts n to) in
    let same : left ≡ k = omega arith in
    subst P same (above_apart ts left len to h free)
above ts left len (suc high) to k h free e = above_joined ts left len high to k h free e

pub without-cons : (t : Tag) (ts : List Tag) (page len : ℕ) → without (t ∷ ts) (suc page) len ≡ t ∷ without ts page len
without-cons t ts page zero = refl
without-cons t ts page (suc len) = refl

-- ---- a span is taken
pub all_taken : (ts : List Tag) (page left len n : ℕ) (out : Bool) → IsTiled left len out ts → (tag_at ts page).is_out ≡ false
    → (tag_at ts page).len ≡ n → 0 < n → IsTiled left len out (set ts page (out_tag n (tag_at ts page).before))
all_taken [] page left len n out h free long some = h
all_taken (t ∷ ts) zero zero len n out h free long some =
    let P : Bool → Type 0 = λ b. IsTiled (t.len - 1) t.len b ts in
    let Q : ℕ → Type 0 = λ m. IsTiled (m - 1) m true ts in
    (h.0, some, (λ _. refl), subst Q long (now_out ts (t.len - 1) t.len (subst P free h.3)))
all_taken (t ∷ ts) zero (suc left) len n out h free long some = absurd (omega (arith, no_pages t h.0))
all_taken (t ∷ ts) (suc page) zero len n out h free long some = (h.0, h.1, h.2, all_taken ts page (t.len - 1) t.len n t.is_out h.3 free long some)
all_taken (t ∷ ts) (suc page) (suc left) len n out h free long some = (h.0, all_taken ts page left len n out h.1 free long some)

rest_free : (ts : List Tag) (i left len n rest : ℕ) → IsTiled left len false ts → i + rest ≡ left → 0 < rest
    → IsTiled i n true (with_before (set ts i (free_tag rest n)) left rest)
rest_free (t ∷ ts) zero (suc left) len n rest h e some =
    let P : ℕ → Type 0 = λ m. IsTiled m rest false (with_before ts left rest) in
    let same : left ≡ rest - 1 = omega arith in
    (refl, some, (λ f. absurd (false≢true (sym f))), subst P same (with_length ts left len rest false h.1))
rest_free (t ∷ ts) (suc i) (suc left) len n rest h e some = (h.0, rest_free ts i left len n rest h.1 (omega arith) some)
rest_free [] i left len n rest h e some = absurd (omega (arith, h))
rest_free ts i left len n rest h e some = absurd (omega arith)

pub part_taken : (ts : List Tag) (page next end left len n rest : ℕ) (out : Bool) → IsTiled left len out ts
    → (tag_at ts page).is_out ≡ false → n + rest ≡ (tag_at ts page).len → 0 < n → 0 < rest → next ≡ page + n → end ≡ next + rest
    → IsTiled left len out (with_before (set (set ts page (out_tag n (tag_at ts page).before)) next (free_tag rest n)) end rest)
part_taken (t ∷ ts) zero (suc next) (suc end) zero len n rest out h free long some more e f =
    let P : Bool → Type 0 = λ b. IsTiled (t.len - 1) t.len b ts in
    let Q : ℕ → Type 0 = λ m. IsTiled m t.len false ts in
    let R : ℕ → Type 0 = λ m. IsTiled m n true (with_before (set ts next (free_tag rest n)) end rest) in
    let left_is : t.len - 1 ≡ end = omega arith in
    let next_is : next ≡ n - 1 = omega arith in
    (h.0, some, (λ _. refl), subst R next_is (rest_free ts next end t.len n rest (subst Q left_is (subst P free h.3)) (omega arith) more))
part_taken (t ∷ ts) zero next end (suc left) len n rest out h free long some more e f = absurd (omega (arith, no_pages t h.0))
part_taken (t ∷ ts) (suc page) (suc next) (suc end) zero len n rest out h free long some more e f =
    (h.0, h.1, h.2, part_taken ts page next end (t.len - 1) t.len n rest t.is_out h.3 free long some more (omega arith) (omega arith))
part_taken (t ∷ ts) (suc page) (suc next) (suc end) (suc left) len n rest out h free long some more e f =
    (h.0, part_taken ts page next end left len n rest out h.1 free long some more (omega arith) (omega arith))
part_taken ts page next end left len n rest out h free long some more e f = absurd (omega arith)

-- ---- a span is given back
-- the segment before a page is out
abbrev pub IsBelowOut : List Tag → ℕ → ℕ → Bool → Type 0
IsBelowOut ts page left out = ((page ≡ left) × (out ≡ true)) ⊎ ((q : ℕ) × (q < page) × (q + (tag_at ts q).len ≡ page) × ((tag_at ts q).is_out ≡ true))

below_past : (t : Tag) (ts : List Tag) (page : ℕ) (out : Bool) → IsBelowOut (t ∷ ts) (suc page) zero out → IsBelowOut ts page (t.len - 1) t.is_out
below_past t ts page out (inl first) = absurd (omega (arith, first.0))
below_past t ts page out (inr (zero, low, reach, is)) = inl (omega arith, is)
below_past t ts page out (inr (suc q, low, reach, is)) = inr (q, omega arith, omega arith, is)

below_within : (t : Tag) (ts : List Tag) (page left : ℕ) (out : Bool) → t ≡ inside → IsBelowOut (t ∷ ts) (suc page) (suc left) out → IsBelowOut ts page left out
below_within t ts page left out within (inl first) = inl (omega (arith, first.0), first.1)
below_within t ts page left out within (inr (zero, low, reach, is)) = absurd (false≢true (sym (ap (λ (s : Tag). s.is_out) within) ∙ is))
below_within t ts page left out within (inr (suc q, low, reach, is)) = inr (q, omega arith, omega arith, is)

below_here : (ts : List Tag) (out : Bool) → IsBelowOut ts zero zero out → out ≡ true
below_here ts out (inl first) = first.1
below_here ts out (inr (q, low, reach, is)) = absurd (omega arith)

-- it is a segment by itself, or one with the segment above it
pub freed_apart : (ts : List Tag) (page end k left len n high whole : ℕ) (out : Bool) → IsTiled left len out ts → 0 < n
    → (tag_at ts page).len ≡ n → (tag_at ts page).is_out ≡ true → IsBelowOut ts page left out → end ≡ page + n
    → free_len ts end ≡ high → k ≡ end + high → whole ≡ n + high
    → IsTiled left len out (with_before (set (without ts end high) page (free_tag whole (tag_at ts page).before)) k whole)
freed_apart (t ∷ ts) zero (suc end) (suc k) zero len n high whole out h some long is below e free f w =
    let X : List Tag → Type 0 = λ us. IsTiled zero len out (with_before (set us zero (free_tag whole t.before)) (suc k) whole) in
    let P : Bool → Type 0 = λ b. IsTiled (t.len - 1) t.len b ts in
    let Q : ℕ → Type 0 = λ m. IsTiled m t.len true ts in
    let R : ℕ → Type 0 = λ m. IsTiled m whole false (with_before (without ts end high) k whole) in
    let end_is : t.len - 1 ≡ end = omega arith in
    let k_is : k ≡ whole - 1 = omega arith in
    let rest = subst R k_is (above ts end t.len high whole k (subst Q end_is (subst P is h.3)) free (omega arith)) in
    let first = below_here (t ∷ ts) out below in
    subst X (sym (without-cons t ts end high)) (h.0, omega arith, (λ g. absurd (false≢true (sym g ∙ first))), rest)
freed_apart (t ∷ ts) zero end k (suc left) len n high whole out h some long is below e free f w = absurd (omega (arith, no_pages t h.0))
freed_apart (t ∷ ts) (suc page) (suc end) (suc k) zero len n high whole out h some long is below e free f w =
    let X : List Tag → Type 0 = λ us. IsTiled zero len out (with_before (set us (suc page) (free_tag whole (tag_at ts page).before)) (suc k) whole) in
    subst X (sym (without-cons t ts end high)) (h.0, h.1, h.2, freed_apart ts page end k (t.len - 1) t.len n high whole t.is_out h.3 some long is (below_past t ts page out below) (omega arith) free (omega arith) w)
freed_apart (t ∷ ts) (suc page) (suc end) (suc k) (suc left) len n high whole out h some long is below e free f w =
    let X : List Tag → Type 0 = λ us. IsTiled (suc left) len out (with_before (set us (suc page) (free_tag whole (tag_at ts page).before)) (suc k) whole) in
    subst X (sym (without-cons t ts end high)) (h.0, freed_apart ts page end k left len n high whole out h.1 some long is (below_within t ts page left out h.0 below) (omega arith) free (omega arith) w)
freed_apart ts page end k left len n high whole out h some long is below e free f w = absurd (omega arith)

-- the rest of the segment below it, of which it becomes a part
seam_closed : (ts : List Tag) (left end k len n high whole : ℕ) → IsTiled left len false ts → 0 < n → (tag_at ts left).len ≡ n
    → (tag_at ts left).is_out ≡ true → end ≡ left + n → free_len ts end ≡ high → k ≡ end + high
    → IsTiled k whole false (with_before (set (without ts end high) left inside) k whole)
seam_closed (t ∷ ts) zero (suc end) (suc k) len n high whole h some long is e free f =
    let X : List Tag → Type 0 = λ us. IsTiled (suc k) whole false (with_before (set us zero inside) (suc k) whole) in
    let P : Bool → Type 0 = λ b. IsTiled (t.len - 1) t.len b ts in
    let Q : ℕ → Type 0 = λ m. IsTiled m t.len true ts in
    let end_is : t.len - 1 ≡ end = omega arith in
    subst X (sym (without-cons t ts end high)) (refl, above ts end t.len high whole k (subst Q end_is (subst P is h.3)) free (omega arith))
seam_closed (t ∷ ts) (suc left) (suc end) (suc k) len n high whole h some long is e free f =
    let X : List Tag → Type 0 = λ us. IsTiled (suc k) whole false (with_before (set us (suc left) inside) (suc k) whole) in
    subst X (sym (without-cons t ts end high)) (h.0, seam_closed ts left end k len n high whole h.1 some long is (omega arith) free (omega arith))
seam_closed ts left end k len n high whole h some long is e free f = absurd (omega arith)

pub freed_joined : (ts : List Tag) (at page end k left len low n high whole : ℕ) (out : Bool) → IsTiled left len out ts → 0 < low
    → (tag_at ts at).len ≡ low → (tag_at ts at).is_out ≡ false → page ≡ at + low → 0 < n → (tag_at ts page).len ≡ n
    → (tag_at ts page).is_out ≡ true → end ≡ page + n → free_len ts end ≡ high → k ≡ end + high → whole ≡ low + n + high
    → IsTiled left len out (with_before (set (set (without ts end high) page inside) at (free_tag whole (tag_at ts at).before)) k whole)
freed_joined (t ∷ ts) zero (suc page) (suc end) (suc k) zero len low n high whole out h lows low_is low_free p some long is e free f w =
    let X : List Tag → Type 0 = λ us. IsTiled zero len out (with_before (set (set us (suc page) inside) zero (free_tag whole t.before)) (suc k) whole) in
    let P : Bool → Type 0 = λ b. IsTiled (t.len - 1) t.len b ts in
    let Q : ℕ → Type 0 = λ m. IsTiled m t.len false ts in
    let R : ℕ → Type 0 = λ m. IsTiled m whole false (with_before (set (without ts end high) page inside) k whole) in
    let page_is : t.len - 1 ≡ page = omega arith in
    let k_is : k ≡ whole - 1 = omega arith in
    let rest =
    subst R k_is (seam_closed ts page end k t.len n high whole (subst Q page_is (subst P low_free h.3)) some long is (omega arith) free (omega arith)) in
    subst X (sym (without-cons t ts end high)) (h.0, omega arith, (λ g. absurd (false≢true (sym low_free ∙ h.2 g))), rest)
freed_joined (t ∷ ts) zero page end k (suc left) len low n high whole out h lows low_is low_free p some long is e free f w =
    absurd (omega (arith, no_pages t h.0))
freed_joined (t ∷ ts) (suc at) (suc page) (suc end) (suc k) zero len low n high whole out h lows low_is low_free p some long is e free f w =
    let X : List Tag → Type 0 =
    λ us. IsTiled zero len out (with_before (set (set us (suc page) inside) (suc at) (free_tag whole (tag_at ts at).before)) (suc k) whole) in
    subst X (sym (without-cons t ts end high)) (h.0, h.1, h.2, freed_joined ts at page end k (t.len - 1) t.len low n high whole t.is_out h.3 lows low_is low_free (omega arith) some long is (omega arith) free (omega arith) w)
freed_joined (t ∷ ts) (suc at) (suc page) (suc end) (suc k) (suc left) len low n high whole out h lows low_is low_free p some long is e free f w =
    let X : List Tag → Type 0 =
    λ us. IsTiled (suc left) len out (with_before (set (set us (suc page) inside) (suc at) (free_tag whole (tag_at ts at).before)) (suc k) whole) in
    subst X (sym (without-cons t ts end high)) (h.0, freed_joined ts at page end k left len low n high whole out h.1 lows low_is low_free (omega arith) some long is (omega arith) free (omega arith) w)
freed_joined ts at page end k left len low n high whole out h lows low_is low_free p some long is e free f w = absurd (omega arith)
