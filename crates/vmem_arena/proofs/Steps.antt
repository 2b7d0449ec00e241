-- The steps of the arena: the first table, a span taken, and one given back.
use Rattle.std.proofs.Common.{◌≡◌, ℕ, zero, suc, ◌+◌, ◌-◌, ◌<◌, ◌≤◌, Bool, true, false, cond, inl, inr, List, [], ◌∷◌, length, set, replicate}
use Rattle.std.proofs.Common.{refl, sym, ap, subst, ◌∙◌, arith}
use Rattle.std.specs.List.Sorted.{IsPermutation}
use Rattle.std.proofs.lemmas.Bool.{false≢true, cases_lt, cases_eq}
use Rattle.std.proofs.lemmas.List.{length-set, length-replicate, get_or-set_same, get_or-set_other, set-set}
use Rattle.vmem_arena.specs.Spans.{Pages, AnyCovers}
use Rattle.vmem_arena.specs.declared.segment.Tag.{Tag}
use Rattle.vmem_arena.specs.Segments.{inside, tag_at, free_len, outs, IsTiled, IsTable, IsOut, with_before, without, whole, taken, freed}
use Rattle.vmem_arena.specs.Classes.{SameBut}
use Rattle.vmem_arena.proofs.Tiling.{free_tag, out_tag, no_pages, extent, before_is, all_taken, part_taken, IsBelowOut, freed_apart, freed_joined}
use Rattle.vmem_arena.proofs.Outs.{span, outs-before, outs-free, outs-without, outs-taken, outs-given}
use Rattle.vmem_arena.proofs.Runs.{free_here, run_le}
use Rattle.vmem_arena.proofs.Listing.{free_of, free-set_other, free-set_same, free-set_inside, free-before, tag-without, free-without_other}
use Rattle.vmem_arena.proofs.Listing.{free-without_here, length-without, length-before}

-- ---- what a free segment's length says
free_is : (b : Bool) (n : ℕ) → 0 < cond b 0 n → (b ≡ false) × (n ≡ cond b 0 n)
free_is true n some = absurd (omega arith)
free_is false n some = (refl, refl)

-- where it lies
pub within_table : (ts : List Tag) (page : ℕ) → IsTable ts → 0 < free_len ts page → page + free_len ts page ≤ length ts
within_table ts page table some =
    let is = (free_is (tag_at ts page).is_out (tag_at ts page).len some).1 in
    let ends = extent ts page 0 0 true table (omega arith) in
    omega (arith, ends.1)

pub short : (ts : List Tag) (page : ℕ) → IsTable ts → length ts ≤ 256 → 0 < free_len ts page → page + free_len ts page ≤ 256
short ts page table few some = omega (arith, within_table ts page table some)

-- its pages are free
pub free_pages : (ts : List Tag) (first n page : ℕ) → IsTable ts → n ≤ free_len ts first → first ≤ page → page < first + n
    → (page < length ts) × (AnyCovers (outs 0 ts) page → ⊥)
free_pages ts first n page table fits low high =
    let is = free_is (tag_at ts first).is_out (tag_at ts first).len (omega arith) in
    let long = is.1 in
    let ends = within_table ts first table (omega arith) in
    (omega arith, free_here ts 0 first 0 0 page true table is.0 (omega arith) (omega arith))

-- a run of free pages is no longer than every free segment
pub no_run : (ts : List Tag) (first n most : ℕ) → IsTable ts → ((page : ℕ) → free_len ts page ≤ most)
    → ((page : ℕ) → first ≤ page → page < first + n → (page < length ts) × (AnyCovers (outs 0 ts) page → ⊥)) → n ≤ most
no_run ts first n most table fits free = run_le ts 0 0 0 first n most (length ts) true table (omega arith) fits (omega arith) free

-- ---- the first table
insides : (n len : ℕ) (out : Bool) → IsTiled n len out (replicate n inside)
insides zero len out = refl
insides (suc n) len out = (refl, insides n len out)

pub free-insides : (n q : ℕ) → free_len (replicate n inside) q ≡ 0
free-insides zero q = refl
free-insides (suc n) zero = refl
free-insides (suc n) (suc q) = free-insides n q

outs-insides : (n at : ℕ) → outs at (replicate n inside) ≡ []
outs-insides zero at = refl
outs-insides (suc n) at = outs-insides n (suc at)

pub whole_table : (pages : ℕ) → 0 < pages → IsTable (whole pages)
whole_table pages some = (refl, some, (λ e. absurd (false≢true (sym e))), insides (pages - 1) pages false)

pub length-whole : (pages : ℕ) → 0 < pages → length (whole pages) ≡ pages
length-whole pages some = omega (arith, length-replicate (pages - 1) inside)

pub outs-whole : (pages : ℕ) → outs 0 (whole pages) ≡ []
outs-whole pages = outs-insides (pages - 1) 1

pub whole_same : (pages : ℕ) → SameBut 0 [] (whole pages)
whole_same pages zero other = absurd (other refl)
whole_same pages (suc q) other = free-insides (pages - 1) q

-- ---- a span is taken
-- a free segment has no segment of its own inside, and none that is free after it
rest_none : (ts : List Tag) (left len x : ℕ) → IsTiled left len false ts → x ≤ left → free_len ts x ≡ 0
rest_none [] left len x h le = refl
rest_none (t ∷ ts) zero len zero h le = ap (λ b. cond b 0 t.len) (h.2 refl)
rest_none (t ∷ ts) (suc left) len zero h le = ap free_of h.0
rest_none (t ∷ ts) zero len (suc x) h le = absurd (omega arith)
rest_none (t ∷ ts) (suc left) len (suc x) h le = rest_none ts left len x h.1 (omega arith)

after_none : (ts : List Tag) (page x left len : ℕ) (out : Bool) → IsTiled left len out ts → (tag_at ts page).is_out ≡ false
    → page < x → x ≤ page + (tag_at ts page).len → free_len ts x ≡ 0
after_none [] page x left len out h free low high = refl
after_none (t ∷ ts) page zero left len out h free low high = absurd (omega arith)
after_none (t ∷ ts) zero (suc x) zero len out h free low high =
    let P : Bool → Type 0 = λ b. IsTiled (t.len - 1) t.len b ts in
    rest_none ts (t.len - 1) t.len x (subst P free h.3) (omega arith)
after_none (t ∷ ts) zero (suc x) (suc left) len out h free low high = absurd (omega (arith, no_pages t h.0))
after_none (t ∷ ts) (suc page) (suc x) zero len out h free low high = after_none ts page x (t.len - 1) t.len t.is_out h.3 free (omega arith) (omega arith)
after_none (t ∷ ts) (suc page) (suc x) (suc left) len out h free low high = after_none ts page x left len out h.1 free (omega arith) (omega arith)

inside_rest : (ts : List Tag) (left len x : ℕ) (out : Bool) → IsTiled left len out ts → x < left → tag_at ts x ≡ inside
inside_rest [] left len x out h low = refl
inside_rest (t ∷ ts) zero len x out h low = absurd (omega arith)
inside_rest (t ∷ ts) (suc left) len zero out h low = h.0
inside_rest (t ∷ ts) (suc left) len (suc x) out h low = inside_rest ts left len x out h.1 (omega arith)

inside_within : (ts : List Tag) (page x left len : ℕ) (out : Bool) → IsTiled left len out ts → page < x → x < page + (tag_at ts page).len → tag_at ts x ≡ inside
inside_within [] page x left len out h low high = refl
inside_within (t ∷ ts) page zero left len out h low high = absurd (omega arith)
inside_within (t ∷ ts) zero (suc x) zero len out h low high = inside_rest ts (t.len - 1) t.len x t.is_out h.3 (omega arith)
inside_within (t ∷ ts) zero (suc x) (suc left) len out h low high = absurd (omega (arith, no_pages t h.0))
inside_within (t ∷ ts) (suc page) (suc x) zero len out h low high = inside_within ts page x (t.len - 1) t.len t.is_out h.3 (omega arith) (omega arith)
inside_within (t ∷ ts) (suc page) (suc x) (suc left) len out h low high = inside_within ts page x left len out h.1 (omega arith) (omega arith)

abbrev pub with_span : List Tag → ℕ → ℕ → List Tag
with_span ts page n = set ts page (out_tag n (tag_at ts page).before)

pub length-taken : (ts : List Tag) (page n rest : ℕ) → length (taken ts page n rest) ≡ length ts
length-taken ts page n zero = length-set ts page (out_tag n (tag_at ts page).before)
length-taken ts page n (suc rest) =
    length-before (set (with_span ts page n) (page + n) (free_tag (suc rest) n)) (page + n + suc rest) (suc rest) ∙ length-set (with_span ts page n) (page + n) (free_tag (suc rest) n) ∙ length-set ts page (out_tag n (tag_at ts page).before)

pub taken_table : (ts : List Tag) (page n rest : ℕ) → IsTable ts → 0 < n → n + rest ≡ free_len ts page → IsTable (taken ts page n rest)
taken_table ts page n zero table some e =
    let is = free_is (tag_at ts page).is_out (tag_at ts page).len (omega arith) in
    all_taken ts page 0 0 n true table is.0 (omega (arith, is.1)) some
taken_table ts page n (suc rest) table some e =
    let is = free_is (tag_at ts page).is_out (tag_at ts page).len (omega arith) in
    part_taken ts page (page + n) (page + n + suc rest) 0 0 n (suc rest) true table is.0 (omega (arith, is.1)) some (omega arith) refl refl

pub taken_out : (ts : List Tag) (page n rest : ℕ) → IsTable ts → 0 < n → n + rest ≡ free_len ts page
    → IsPermutation (span page n ∷ outs 0 ts) (outs 0 (taken ts page n rest))
taken_out ts page n zero table some e =
    let is = free_is (tag_at ts page).is_out (tag_at ts page).len (omega arith) in
    let ends = within_table ts page table (omega arith) in
    outs-taken ts 0 page page n (tag_at ts page).before (omega arith) is.0 (omega arith)
taken_out ts page n (suc rest) table some e =
    let is = free_is (tag_at ts page).is_out (tag_at ts page).len (omega arith) in
    let ends = within_table ts page table (omega arith) in
    let us = with_span ts page n in
    let there : tag_at us (page + n) ≡ inside = get_or-set_other ts page (page + n) (out_tag n (tag_at ts page).before) inside (omega arith) ∙ inside_within ts page (page + n) 0 0 true table (omega arith) (omega (arith, is.1)) in
    let same = outs-before (set us (page + n) (free_tag (suc rest) n)) 0 (page + n + suc rest) (suc rest) ∙ outs-free us 0 (page + n) (free_tag (suc rest) n) (ap (λ (t : Tag). t.is_out) there) refl in
    let P : List Pages → Type 0 = λ ps. IsPermutation (span page n ∷ outs 0 ts) ps in
    subst P (sym same) (outs-taken ts 0 page page n (tag_at ts page).before (omega arith) is.0 (omega arith))

-- the free segments: first the one at the page goes, then what is left of it comes
pub first_goes : (ts : List Tag) (page n : ℕ) → page < length ts → (free_len (with_span ts page n) page ≡ 0) × SameBut page ts (with_span ts page n)
first_goes ts page n within =
    (free-set_same ts page (out_tag n (tag_at ts page).before) within, λ q other. free-set_other ts page q (out_tag n (tag_at ts page).before) other)

pub rest_comes : (ts : List Tag) (page n rest : ℕ) → IsTable ts → 0 < n → n + rest ≡ free_len ts page
    → (free_len (with_span ts page n) (page + n) ≡ 0) × (free_len (taken ts page n rest) (page + n) ≡ rest) × SameBut (page + n) (with_span ts page n) (taken ts page n rest)
rest_comes ts page n rest table some e = (none, there rest e, same rest)
  where
    none : free_len (with_span ts page n) (page + n) ≡ 0
    none =
        let is = free_is (tag_at ts page).is_out (tag_at ts page).len (omega arith) in
        free-set_other ts page (page + n) (out_tag n (tag_at ts page).before) (omega arith) ∙ after_none ts page (page + n) 0 0 true table is.0 (omega arith) (omega (arith, is.1))

    there : (m : ℕ) → n + m ≡ free_len ts page → free_len (taken ts page n m) (page + n) ≡ m
    there zero f = none
    there (suc m) f =
        let ends = within_table ts page table (omega arith) in
        let long = length-set ts page (out_tag n (tag_at ts page).before) in
        free-before (set (with_span ts page n) (page + n) (free_tag (suc m) n)) (page + n + suc m) (suc m) (page + n) ∙ free-set_same (with_span ts page n) (page + n) (free_tag (suc m) n) (omega arith)

    same : (m : ℕ) → SameBut (page + n) (with_span ts page n) (taken ts page n m)
    same zero q other = refl
    same (suc m) q other = free-before (set (with_span ts page n) (page + n) (free_tag (suc m) n)) (page + n + suc m) (suc m) q ∙ free-set_other (with_span ts page n) (page + n) q (free_tag (suc m) n) other

-- ---- a span is given back
-- what is below a segment: a free segment, or none
pub record IsLow (ts : List Tag) (page low : ℕ) : Type 0 where
  pub back : low ≤ page
  pub is : free_len ts (page - low) ≡ low
  pub apart : low ≡ 0 → IsBelowOut ts page 0 true

pub record IsBefore (ts : List Tag) (page before : ℕ) : Type 0 where
  pub back : before ≤ page
  pub low : IsLow ts page (free_len ts (page - before))

no_less : (page : ℕ) → page - 0 ≡ page
no_less page = omega arith

low_by : (b : Bool) (ts : List Tag) (page q n : ℕ) → (tag_at ts q).is_out ≡ b → (tag_at ts q).len ≡ n → q + n ≡ page → 0 < n
    → free_len ts page ≡ 0 → IsLow ts page (cond b 0 n)
low_by true ts page q n out long e some none = record {
  back = omega arith;
  is = ap (free_len ts) (no_less page) ∙ none;
  apart = λ _. inr (q, omega arith, omega arith, out);
}
low_by false ts page q n free long e some none =
    let at : page - n ≡ q = omega arith in
    record {
      back = omega arith;
      is = ap (free_len ts) at ∙ ap (λ b. cond b 0 (tag_at ts q).len) free ∙ long;
      apart = λ zero_pages. absurd (omega arith);
    }

pub low_is : (ts : List Tag) (page len : ℕ) → IsTable ts → IsOut ts page len → 0 < len → IsBefore ts page (tag_at ts page).before
low_is ts page len table out some =
    let none : free_len ts page ≡ 0 = ap (λ b. cond b 0 (tag_at ts page).len) out.out in
    let begins : 0 < (tag_at ts page).len = omega (arith, out.long) in
    elim (before_is ts page 0 0 true table begins) [
      | inl first ↦
          let here : page - (tag_at ts page).before ≡ page = omega (arith, first.0, first.1) in
          let P : ℕ → Type 0 = λ n. IsLow ts page n in
          record {
            back = omega (arith, first.1);
            low = subst P (sym (ap (free_len ts) here ∙ none)) (record { back = omega arith; is = ap (free_len ts) (no_less page) ∙ none; apart = λ _. inl (first.0, refl) });
          }
      | inr later ↦
          let q = later.0 in
          let here : page - (tag_at ts page).before ≡ q = omega (arith, later.1) in
          let P : ℕ → Type 0 = λ n. IsLow ts page n in
          let is : cond (tag_at ts q).is_out 0 (tag_at ts page).before ≡ free_len ts (page - (tag_at ts page).before) =
          ap (λ n. cond (tag_at ts q).is_out 0 n) (sym later.2) ∙ sym (ap (free_len ts) here) in
          record {
            back = omega (arith, later.1);
            low = subst P is (low_by (tag_at ts q).is_out ts page q (tag_at ts page).before refl later.2 later.1 later.3 none);
          }
    ]

-- the same of the numbers as they are read
pub low_read : (ts : List Tag) (page len before low : ℕ) → IsTable ts → IsOut ts page len → 0 < len
    → before ≡ (tag_at ts page).before → low ≡ free_len ts (page - before) → (before ≤ page) × IsLow ts page low
low_read ts page len before low table out some read is =
    let below = low_is ts page len table out some in
    let P : ℕ → Type 0 = λ n. IsLow ts page n in
    (omega (arith, below.back), subst P (sym (is ∙ ap (λ n. free_len ts (page - n)) read)) below.low)

-- what is above it lies in the table
pub high_within : (ts : List Tag) (page len : ℕ) → IsTable ts → IsOut ts page len → 0 < len → page + len + free_len ts (page + len) ≤ length ts
high_within ts page len table out some = elim (cases_lt 0 (free_len ts (page + len))) [
  | inl free ↦ within_table ts (page + len) table free
  | inr none ↦ let long = out.long in let ends = extent ts page 0 0 true table (omega arith) in omega (arith, ends.1)
]

abbrev pub merged : List Tag → ℕ → ℕ → ℕ → ℕ → ℕ → ℕ → List Tag
merged ts page at end high k all = with_before (set (set (without ts end high) page inside) at (free_tag all (tag_at ts at).before)) k all

pub length-freed : (ts : List Tag) (page low len high : ℕ) → length (freed ts page low len high) ≡ length ts
length-freed ts page low len high =
    let us = without ts (page + len) high in
    let t = free_tag (low + len + high) (tag_at ts (page - low)).before in
    length-before (set (set us page inside) (page - low) t) (page - low + (low + len + high)) (low + len + high) ∙ length-set (set us page inside) (page - low) t ∙ length-set us page inside ∙ length-without ts (page + len) high

pub freed_table : (ts : List Tag) (page low len high : ℕ) → IsTable ts → IsOut ts page len → 0 < len → IsLow ts page low
    → free_len ts (page + len) ≡ high → IsTable (freed ts page low len high)
freed_table ts page zero len high table out some low free =
    let P : ℕ → Type 0 = λ at. IsTable (merged ts page at (page + len) high (at + (0 + len + high)) (0 + len + high)) in
    let Q : List Tag → Type 0 = λ us. IsTable (with_before us (page + (0 + len + high)) (0 + len + high)) in
    let here : page ≡ page - 0 = omega arith in
    let us = without ts (page + len) high in
    let t = free_tag (0 + len + high) (tag_at ts page).before in
    subst P here (subst Q (sym (set-set us page inside t)) (freed_apart ts page (page + len) (page + (0 + len + high)) 0 0 len high (0 + len + high) true table some out.long out.out (low.apart refl) refl free (omega arith) (omega arith)))
freed_table ts page (suc low) len high table out some below free =
    let is = free_is (tag_at ts (page - suc low)).is_out (tag_at ts (page - suc low)).len (omega (arith, below.is)) in
    freed_joined ts (page - suc low) page (page + len) (page - suc low + (suc low + len + high)) 0 0 (suc low) len high (suc low + len + high) true table (omega arith) (is.1 ∙ below.is) is.0 (omega (arith, below.back)) some out.long out.out refl free (omega (arith, below.back)) refl

pub freed_back : (ts : List Tag) (page low len high : ℕ) → IsTable ts → IsOut ts page len → 0 < len → IsLow ts page low
    → free_len ts (page + len) ≡ high → IsPermutation (span page len ∷ outs 0 (freed ts page low len high)) (outs 0 ts)
freed_back ts page low len high table out some below free =
    let us = without ts (page + len) high in
    let vs = set us page inside in
    let t = free_tag (low + len + high) (tag_at ts (page - low)).before in
    let here : tag_at us page ≡ tag_at ts page = tag-without ts (page + len) high page (omega arith) in
    let within : page < length us = omega (arith, out.within, length-without ts (page + len) high) in
    let same =
    outs-before (set vs (page - low) t) 0 (page - low + (low + len + high)) (low + len + high) ∙ outs-free vs 0 (page - low) t (low_free low below) refl in
    let P : List Pages → Type 0 = λ ps. IsPermutation (span page len ∷ ps) (outs 0 ts) in
    let Q : List Pages → Type 0 = λ ps. IsPermutation (span page len ∷ outs 0 vs) ps in
    subst P (sym same) (subst Q (outs-without ts 0 (page + len) high free) (outs-given us 0 page page len inside within (ap (λ (s : Tag). s.is_out) here ∙ out.out) (ap (λ (s : Tag). s.len) here ∙ out.long) refl (omega arith)))
  where
    low_free : (n : ℕ) → IsLow ts page n → (tag_at (set (without ts (page + len) high) page inside) (page - n)).is_out ≡ false
    low_free zero is =
        let at : page - 0 ≡ page = omega arith in
        let within : page < length (without ts (page + len) high) = omega (arith, out.within, length-without ts (page + len) high) in
        ap (λ q. (tag_at (set (without ts (page + len) high) page inside) q).is_out) at ∙ ap (λ (s : Tag). s.is_out) (get_or-set_same (without ts (page + len) high) page inside inside within)
    low_free (suc n) is =
        let free_there = free_is (tag_at ts (page - suc n)).is_out (tag_at ts (page - suc n)).len (omega (arith, is.is)) in
        ap (λ (s : Tag). s.is_out) (get_or-set_other (without ts (page + len) high) page (page - suc n) inside inside (omega (arith, is.back)) ∙ tag-without ts (page + len) high (page - suc n) (omega (arith, is.back))) ∙ free_there.0

-- the free segments: the neighbours go, and the whole comes
pub low_goes : (ts : List Tag) (at low : ℕ) → free_len ts at ≡ low → (free_len (without ts at low) at ≡ 0) × SameBut at ts (without ts at low)
low_goes ts at low is = (free-without_here ts at low is, λ q other. free-without_other ts at low q other)

pub whole_comes : (ts : List Tag) (page low len high : ℕ) → IsOut ts page len → 0 < len → IsLow ts page low
    → free_len ts (page + len) ≡ high
    → (free_len (without (without ts (page - low) low) (page + len) high) (page - low) ≡ 0) × (free_len (freed ts page low len high) (page - low) ≡ low + len + high) × SameBut (page - low) (without (without ts (page - low) low) (page + len) high) (freed ts page low len high)
whole_comes ts page low len high out some below free = (none, all, same)
  where
    none : free_len (without (without ts (page - low) low) (page + len) high) (page - low) ≡ 0
    none = free-without_other (without ts (page - low) low) (page + len) high (page - low) (omega arith) ∙ free-without_here ts (page - low) low below.is

    all : free_len (freed ts page low len high) (page - low) ≡ low + len + high
    all =
        let us = without ts (page + len) high in
        let t = free_tag (low + len + high) (tag_at ts (page - low)).before in
        let within : page - low < length (set us page inside) = omega (arith, out.within, length-without ts (page + len) high, length-set us page inside) in
        free-before (set (set us page inside) (page - low) t) (page - low + (low + len + high)) (low + len + high) (page - low) ∙ free-set_same (set us page inside) (page - low) t within

    end_none : (us : List Tag) → free_len us (page + len) ≡ high → (q : ℕ) → q ≡ page + len → free_len (without us (page + len) high) q ≡ 0
    end_none us is q e = ap (free_len (without us (page + len) high)) e ∙ free-without_here us (page + len) high is

    same : SameBut (page - low) (without (without ts (page - low) low) (page + len) high) (freed ts page low len high)
    same q other =
        let us = without ts (page + len) high in
        let ws = without ts (page - low) low in
        let t = free_tag (low + len + high) (tag_at ts (page - low)).before in
        free-before (set (set us page inside) (page - low) t) (page - low + (low + len + high)) (low + len + high) q ∙ free-set_other (set us page inside) (page - low) q t other ∙ elim (cases_eq q page) [
          | inl here ↦
              let out_here : free_len ts q ≡ 0 = ap (free_len ts) here ∙ ap (λ b. cond b 0 (tag_at ts page).len) out.out in
              ap (free_len (set us page inside)) here ∙ free-set_inside us page ∙ sym (free-without_other ws (page + len) high q (omega arith) ∙ free-without_other ts (page - low) low q other ∙ out_here)
          | inr away ↦ free-set_other us page q inside away ∙ elim (cases_eq q (page + len)) [
            | inl end ↦ end_none ts free q end ∙ sym (end_none ws (free-without_other ts (page - low) low (page + len) (omega arith) ∙ free) q end)
            | inr past ↦ free-without_other ts (page + len) high q past ∙ sym (free-without_other ws (page + len) high q past ∙ free-without_other ts (page - low) low q other)
          ]
        ]
