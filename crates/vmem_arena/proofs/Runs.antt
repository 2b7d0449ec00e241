-- Neighbouring free pages lie in one free segment.
use Rattle.std.proofs.Common.{◌≡◌, ℕ, zero, suc, ◌+◌, ◌-◌, ◌<◌, ◌≤◌, Bool, true, false, cond, ◌⊎◌, inl, inr, List, [], ◌∷◌, length, refl, sym, ap, ◌∙◌, arith}
use Rattle.std.proofs.lemmas.Bool.{false≢true, cases_lt}
use Rattle.vmem_arena.specs.Spans.{Pages, Covers, AnyCovers}
use Rattle.vmem_arena.specs.declared.segment.Tag.{Tag}
use Rattle.vmem_arena.specs.Segments.{inside, tag_at, free_len, outs, IsTiled}
use Rattle.vmem_arena.proofs.Tiling.{no_pages, extent}
use Rattle.vmem_arena.proofs.Outs.{span}

-- a page is out here, or in a later span
cover_cases : (b : Bool) (s : Pages) (ps : List Pages) (page : ℕ) → AnyCovers (cond b (s ∷ ps) ps) page → ((b ≡ true) × Covers s page) ⊎ AnyCovers ps page
cover_cases false s ps page h = inr h
cover_cases true s ps page (inl h) = inl (refl, h)
cover_cases true s ps page (inr h) = inr h

cover_later : (b : Bool) (s : Pages) (ps : List Pages) (page : ℕ) → AnyCovers ps page → AnyCovers (cond b (s ∷ ps) ps) page
cover_later true s ps page h = inr h
cover_later false s ps page h = h

cover_first : (b : Bool) (s : Pages) (ps : List Pages) (page : ℕ) → b ≡ true → Covers s page → AnyCovers (cond b (s ∷ ps) ps) page
cover_first true s ps page e h = inl h
cover_first false s ps page e h = absurd (false≢true e)

no_span : (t : Tag) → t ≡ inside → t.is_out ≡ true → ⊥
no_span t is out = false≢true (sym (ap (λ (s : Tag). s.is_out) is) ∙ out)

-- a page that is out lies past the segment that is under way
covers_after : (ts : List Tag) (at left len page : ℕ) (out : Bool) → IsTiled left len out ts → AnyCovers (outs at ts) page → at + left ≤ page
covers_after [] at left len page out h covers = absurd covers
covers_after (t ∷ ts) at zero len page out h covers = elim (cover_cases t.is_out (span at t.len) (outs (suc at) ts) page covers) [
  | inl here ↦ omega (arith, here.1.0)
  | inr later ↦ omega (arith, covers_after ts (suc at) (t.len - 1) t.len page t.is_out h.3 later)
]
covers_after (t ∷ ts) at (suc left) len page out h covers = elim (cover_cases t.is_out (span at t.len) (outs (suc at) ts) page covers) [
  | inl here ↦ absurd (no_span t h.0 here.0)
  | inr later ↦ omega (arith, covers_after ts (suc at) left len page out h.1 later)
]

-- a page of a free segment is in no span that is out
pub free_here : (ts : List Tag) (at i left len page : ℕ) (out : Bool) → IsTiled left len out ts → (tag_at ts i).is_out ≡ false
    → at + i ≤ page → page < at + i + (tag_at ts i).len → AnyCovers (outs at ts) page → ⊥
free_here [] at i left len page out h free low high covers = covers
free_here (t ∷ ts) at zero zero len page out h free low high covers = elim (cover_cases t.is_out (span at t.len) (outs (suc at) ts) page covers) [
  | inl here ↦ false≢true (sym free ∙ here.0)
  | inr later ↦ absurd (omega (arith, h.1, covers_after ts (suc at) (t.len - 1) t.len page t.is_out h.3 later))
]
free_here (t ∷ ts) at zero (suc left) len page out h free low high covers = absurd (omega (arith, no_pages t h.0))
free_here (t ∷ ts) at (suc i) zero len page out h free low high covers = elim (cover_cases t.is_out (span at t.len) (outs (suc at) ts) page covers) [
  | inl here ↦ let later = extent ts i (t.len - 1) t.len t.is_out h.3 (omega arith) in absurd (omega (arith, here.1.1, later.0))
  | inr later ↦ free_here ts (suc at) i (t.len - 1) t.len page t.is_out h.3 free (omega arith) (omega arith) later
]
free_here (t ∷ ts) at (suc i) (suc left) len page out h free low high covers = elim (cover_cases t.is_out (span at t.len) (outs (suc at) ts) page covers) [
  | inl here ↦ no_span t h.0 here.0
  | inr later ↦ free_here ts (suc at) i left len page out h.1 free (omega arith) (omega arith) later
]

-- the page right after a free segment is out
next_covered : (ts : List Tag) (at left len page : ℕ) → IsTiled left len false ts → left < length ts → page ≡ at + left → AnyCovers (outs at ts) page
next_covered [] at left len page h within e = absurd (omega arith)
next_covered (t ∷ ts) at zero len page h within e = cover_first t.is_out (span at t.len) (outs (suc at) ts) page (h.2 refl) (omega arith, omega (arith, h.1))
next_covered (t ∷ ts) at (suc left) len page h within e =
    cover_later t.is_out (span at t.len) (outs (suc at) ts) page (next_covered ts (suc at) left len page h.1 (omega arith) (omega arith))

-- a run that begins in the first segment ends in it
run_here : (b : Bool) (t : Tag) (ts : List Tag) (at first n most to : ℕ) → t.is_out ≡ b → IsTiled (t.len - 1) t.len b ts → 0 < t.len
    → at + suc (length ts) ≡ to → cond b 0 t.len ≤ most → at ≤ first → first < at + t.len
    → ((page : ℕ) → first ≤ page → page < first + n → (page < to) × (AnyCovers (outs at (t ∷ ts)) page → ⊥)) → n ≤ most
run_here true t ts at first n most to e h some end fits low high free = elim (cases_lt 0 n) [
  | inl more ↦ absurd ((free first (omega arith) (omega arith)).1 (cover_first t.is_out (span at t.len) (outs (suc at) ts) first e (omega arith, omega arith)))
  | inr none ↦ omega arith
]
run_here false t ts at first n most to e h some end fits low high free = elim (cases_lt (at + t.len) (first + n)) [
  | inl past ↦
      let next = free (at + t.len) (omega arith) past in
      let inside = next.0 in
      absurd (next.1 (cover_later t.is_out (span at t.len) (outs (suc at) ts) (at + t.len) (next_covered ts (suc at) (t.len - 1) t.len (at + t.len) h (omega arith) (omega arith))))
  | inr within ↦ omega arith
]

-- a run of free pages is no longer than the longest free segment
pub run_le : (ts : List Tag) (at left len first n most to : ℕ) (out : Bool) → IsTiled left len out ts → at + length ts ≡ to
    → ((i : ℕ) → free_len ts i ≤ most) → at + left ≤ first
    → ((page : ℕ) → first ≤ page → page < first + n → (page < to) × (AnyCovers (outs at ts) page → ⊥)) → n ≤ most
run_le [] at left len first n most to out h end fits low free = elim (cases_lt most n) [
  | inl more ↦ let inside = (free first (omega arith) (omega arith)).0 in absurd (omega arith)
  | inr fits ↦ fits
]
run_le (t ∷ ts) at zero len first n most to out h end fits low free = elim (cases_lt first (at + t.len)) [
  | inl here ↦ run_here t.is_out t ts at first n most to refl h.3 h.1 (omega arith) (fits 0) (omega arith) here free
  | inr later ↦ run_le ts (suc at) (t.len - 1) t.len first n most to t.is_out h.3 (omega arith) (λ i. fits (suc i)) (omega (arith, h.1)) (λ page lo hi. ((free page lo hi).0, λ covers. (free page lo hi).1 (cover_later t.is_out (span at t.len) (outs (suc at) ts) page covers)))
]
run_le (t ∷ ts) at (suc left) len first n most to out h end fits low free = run_le ts (suc at) left len first n most to out h.1
    (omega arith) (λ i. fits (suc i)) (omega arith) (λ page lo hi.
    ((free page lo hi).0, λ covers. (free page lo hi).1 (cover_later t.is_out (span at t.len) (outs (suc at) ts) page covers)))
