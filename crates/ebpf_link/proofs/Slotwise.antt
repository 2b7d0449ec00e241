-- What is written, slot by slot.
use Rattle.std.proofs.Common.{◌≡◌, ℕ, zero, suc, ◌+◌, ◌<◌, ◌≤◌, ℤ, List, [], ◌∷◌, ◌++◌, length, drop, Option, Some, None, refl, sym, ap, ◌∙◌, subst, arith, inl, inr, ◌⊎◌}
use Rattle.std.specs.List.{flat_map}
use Rattle.std.proofs.Common.{below_more}
use Rattle.std.proofs.lemmas.List.{append_assoc, append-nil, length-append}
use Rattle.ebpf_insn.specs.declared.register.Reg.{Reg}
use Rattle.ebpf_insn.specs.declared.insn.Insn.{Insn}
use Rattle.ebpf_insn.specs.declared.insn.Insn.TheVariants as insn
use Rattle.ebpf_insn.specs.Program.{instructions, placed, insn_at}
use Rattle.ebpf_insn.specs.Encoding.{IsWellFormed}
use Rattle.ebpf_link.proofs.Codes.{well_formed}
use Rattle.ebpf_layout.specs.EdgeFaults.{edge_fault_at}
use Rattle.ebpf_link.specs.Linking.{offset_at, saves, IsLinked, IsReplaced}
use Rattle.ebpf_link.specs.Written.{linked_wide, linked_insn, linked_slot, linked_from, linked_slots, Fits, IsCode, IsSoFar}

-- the slots from one on
pub drop_next : (p : List (Option Insn)) (k : ℕ) → k < length p → drop k p ≡ insn_at p k ∷ drop (suc k) p
drop_next [] k lt = absurd (omega arith)
drop_next (o ∷ p) zero lt = refl
drop_next (o ∷ p) (suc k) lt = drop_next p k (omega arith)

pub drop_all : (p : List (Option Insn)) (k : ℕ) → length p ≤ k → drop k p ≡ []
drop_all [] zero lt = refl
drop_all [] (suc k) lt = refl
drop_all (o ∷ p) zero lt = absurd (omega arith)
drop_all (o ∷ p) (suc k) lt = drop_all p k (omega arith)

insn_at-drop : (p : List (Option Insn)) (k j : ℕ) → insn_at (drop k p) j ≡ insn_at p (k + j)
insn_at-drop [] zero j = let e : j ≡ 0 + j = omega arith in ap (λ (n : ℕ). insn_at [] n) e
insn_at-drop [] (suc k) j = insn_at-none j (suc k + j)
  where
    insn_at-none : (m n : ℕ) → insn_at [] m ≡ insn_at [] n
    insn_at-none zero zero = refl
    insn_at-none zero (suc n) = refl
    insn_at-none (suc m) zero = refl
    insn_at-none (suc m) (suc n) = refl
insn_at-drop (o ∷ p) zero j = let e : j ≡ 0 + j = omega arith in ap (λ (n : ℕ). insn_at (o ∷ p) n) e
insn_at-drop (o ∷ p) (suc k) j = let e : suc (k + j) ≡ suc k + j = omega arith in insn_at-drop p k j ∙ ap (λ (n : ℕ). insn_at (o ∷ p) n) e

head : (x : Insn) (p : List (Option Insn)) → insn_at (placed x ++ p) 0 ≡ Some x
head (insn.Wide dst value) p = refl
head _ p = refl

module _ (offsets : List (Option ℤ)) (declared : ℕ) (word : ℤ) where
  wide_drop : (offset : Option ℤ) (dst : Reg) (value k : ℕ) (rest : List (Option Insn)) → drop (suc (suc k)) (linked_wide offset declared word dst value ++ rest) ≡ drop k rest
  wide_drop None dst value k rest = refl
  wide_drop (Some offset) dst value k rest = refl

  wide_long : (offset : Option ℤ) (dst : Reg) (value : ℕ) (rest : List (Option Insn)) → length (linked_wide offset declared word dst value ++ rest) ≡ suc (suc (length rest))
  wide_long None dst value rest = refl
  wide_long (Some offset) dst value rest = refl

  -- as many slots as before
  long : (is : List Insn) (slot : ℕ) → length (linked_from offsets declared word slot (flat_map placed is)) ≡ length (flat_map placed is)
  unfolding linked_from
  long [] slot = refl
  long (insn.Wide dst value ∷ is) slot = wide_long (offset_at offsets slot) dst value _ ∙ ap (λ (n : ℕ). suc (suc n)) (long is (suc (suc slot)))
  long (_ ∷ is) slot = ap suc (long is (suc slot))

  first_written : (x : Insn) (slot : ℕ) (p : List (Option Insn))
      → (n : ℕ) × (linked_from offsets declared word slot (placed x ++ p) ≡ linked_insn x (offset_at offsets slot) declared word ++ linked_from offsets declared word n p)
  unfolding linked_from
  first_written (insn.Wide dst value) slot p = (suc (suc slot), refl)
  first_written _ slot p = (suc slot, refl)

  -- what begins from the place of an instruction on
  abbrev pub Begins : ℕ → ℕ → List (Option Insn) → Insn → Type 0
  Begins slot k p i = (rest : List (Option Insn)) × (drop k (linked_from offsets declared word slot p) ≡ linked_insn i (offset_at offsets (slot + k)) declared word ++ rest)

  begins : (is : List Insn) (slot k : ℕ) (i : Insn) → insn_at (flat_map placed is) k ≡ Some i → Begins slot k (flat_map placed is) i
  unfolding linked_from
  begins [] slot k i at = absurd (cc)
  begins (x ∷ is) slot zero i at =
      let f = first_written x slot (flat_map placed is) in
      let h = head x (flat_map placed is) in
      let same : x ≡ i = cc in
      let here : slot ≡ slot + 0 = omega arith in
      let rest = linked_from offsets declared word f.0 (flat_map placed is) in
      (rest, f.1 ∙ ap (λ (y : Insn). linked_insn y (offset_at offsets slot) declared word ++ rest) same ∙ ap (λ (n : ℕ). linked_insn i (offset_at offsets n) declared word ++ rest) here)
  begins (insn.Wide dst value ∷ is) slot (suc zero) i at = absurd (cc)
  begins (insn.Wide dst value ∷ is) slot (suc (suc k)) i at =
      let more = begins is (suc (suc slot)) k i at in
      let same : suc (suc slot) + k ≡ slot + suc (suc k) = omega arith in
      (more.0, wide_drop (offset_at offsets slot) dst value k _ ∙ more.1 ∙ ap (λ (n : ℕ). linked_insn i (offset_at offsets n) declared word ++ more.0) same)
  begins (_ ∷ is) slot (suc k) i at =
      let more = begins is (suc slot) k i at in
      let same : suc slot + k ≡ slot + suc k = omega arith in
      (more.0, more.1 ∙ ap (λ (n : ℕ). linked_insn i (offset_at offsets n) declared word ++ more.0) same)

  begins_in : (p : List (Option Insn)) → IsWellFormed p → (k : ℕ) (i : Insn) → insn_at p k ≡ Some i → Begins 0 k p i
  begins_in p h = subst (λ (q : List (Option Insn)). (k : ℕ) (i : Insn) → insn_at q k ≡ Some i → Begins 0 k q i) (sym h.placed) (begins (instructions p) 0)

  long_in : (p : List (Option Insn)) → IsWellFormed p → length (linked_from offsets declared word 0 p) ≡ length p
  long_in p h = subst (λ (q : List (Option Insn)). length (linked_from offsets declared word 0 q) ≡ length q) (sym h.placed) (long (instructions p) 0)

  kept_head : (i : Insn) (rest : List (Option Insn)) → insn_at (linked_insn i None declared word ++ rest) 0 ≡ Some i
  kept_head (insn.Wide dst value) rest = refl
  kept_head _ rest = refl

  -- what is at a slot, where it is known what begins from there on
  from_there : (l : List (Option Insn)) (k j : ℕ) (code : List (Option Insn)) → drop k l ≡ code → insn_at l (k + j) ≡ insn_at code j
  from_there l k j code e = sym (insn_at-drop l k j) ∙ ap (λ (c : List (Option Insn)). insn_at c j) e

  -- what is written at a slot is what was there, or replaces an immediate
  abbrev Comes : ℕ → ℕ → List (Option Insn) → Insn → Type 0
  Comes slot k p i = (insn_at p k ≡ Some i) ⊎ IsReplaced offsets (slot + k)

  wide_first : (slot : ℕ) (dst : Reg) (value : ℕ) (rest : List (Option Insn)) (i : Insn) (o : Option ℤ) → offset_at offsets slot ≡ o
      → insn_at (linked_wide o declared word dst value ++ rest) 0 ≡ Some i → (Some (insn.Wide dst value) ≡ Some i) ⊎ IsReplaced offsets (slot + 0)
  wide_first slot dst value rest i None here at = inl at
  wide_first slot dst value rest i (Some offset) here at = let same : slot + 0 ≡ slot = omega arith in inr (slot, offset, here, inl same)

  wide_second : (slot : ℕ) (dst : Reg) (value : ℕ) (rest : List (Option Insn)) (i : Insn) (o : Option ℤ) → offset_at offsets slot ≡ o
      → insn_at (linked_wide o declared word dst value ++ rest) 1 ≡ Some i → IsReplaced offsets (slot + 1)
  wide_second slot dst value rest i None here at = absurd (cc)
  wide_second slot dst value rest i (Some offset) here at = let next : slot + 1 ≡ suc slot = omega arith in (slot, offset, here, inr next)

  wide_rest : (o : Option ℤ) (dst : Reg) (value k : ℕ) (rest : List (Option Insn)) → insn_at rest k ≡ insn_at (linked_wide o declared word dst value ++ rest) (suc (suc k))
  wide_rest None dst value k rest = refl
  wide_rest (Some offset) dst value k rest = refl

  comes : (is : List Insn) (slot k : ℕ) (i : Insn) → insn_at (linked_from offsets declared word slot (flat_map placed is)) k ≡ Some i → Comes slot k (flat_map placed is) i
  unfolding linked_from
  comes [] slot k i at = absurd (cc)
  comes (insn.Wide dst value ∷ is) slot zero i at =
      wide_first slot dst value (linked_from offsets declared word (suc (suc slot)) (flat_map placed is)) i (offset_at offsets slot) refl at
  comes (insn.Wide dst value ∷ is) slot (suc zero) i at =
      inr (wide_second slot dst value (linked_from offsets declared word (suc (suc slot)) (flat_map placed is)) i (offset_at offsets slot) refl at)
  comes (insn.Wide dst value ∷ is) slot (suc (suc k)) i at =
      let rest = linked_from offsets declared word (suc (suc slot)) (flat_map placed is) in
      let same : suc (suc slot) + k ≡ slot + suc (suc k) = omega arith in
      elim (comes is (suc (suc slot)) k i (wide_rest (offset_at offsets slot) dst value k rest ∙ at)) [
        | inl there ↦ inl there
        | inr replaced ↦ inr (subst (IsReplaced offsets) same replaced)
      ]
  comes (_ ∷ is) slot zero i at = inl at
  comes (_ ∷ is) slot (suc k) i at =
      let same : suc slot + k ≡ slot + suc k = omega arith in
      elim (comes is (suc slot) k i at) [
        | inl there ↦ inl there
        | inr replaced ↦ inr (subst (IsReplaced offsets) same replaced)
      ]

  comes_in : (p : List (Option Insn)) → IsWellFormed p → (k : ℕ) (i : Insn) → insn_at (linked_from offsets declared word 0 p) k ≡ Some i → Comes 0 k p i
  comes_in p h = subst (λ (q : List (Option Insn)). (k : ℕ) (i : Insn) → insn_at (linked_from offsets declared word 0 q) k ≡ Some i → Comes 0 k q i) (sym h.placed)
      (comes (instructions p) 0)

  pub is_linked : (p : List (Option Insn)) → IsWellFormed p → ((slot : ℕ) → edge_fault_at p slot ≡ None) → ((k : ℕ) → k < length p → Fits p offsets declared k)
      → IsLinked p offsets declared word (linked_slots p offsets declared word)
  is_linked p h led fits =
      let l = linked_from offsets declared word 0 p in
      let at : (slot : ℕ) (i : Insn) (o : Option ℤ) → insn_at p slot ≡ Some i → offset_at offsets slot ≡ o
      → (rest : List (Option Insn)) × (drop slot l ≡ linked_insn i o declared word ++ rest) =
      λ slot i o is here.
      let s = begins_in p h slot i is in
      let e : 0 + slot ≡ slot = omega arith in
      (s.0, s.1 ∙ ap (λ (n : ℕ). linked_insn i (offset_at offsets n) declared word ++ s.0) e ∙ ap (λ (x : Option ℤ). linked_insn i x declared word ++ s.0) here) in
      record {
        led = led;
        long = ap suc (long_in p h);
        first = refl;
        kept = λ slot i is here.
            let a = at slot i None is here in
            let e : slot ≡ slot + 0 = omega arith in
            ap (λ (n : ℕ). insn_at l n) e ∙ from_there l slot 0 _ a.1 ∙ kept_head i a.0;
        wide = λ slot offset lt here. (fits slot lt offset here).0;
        near = λ slot offset lt here. (fits slot lt offset here).1;
        fetched = λ slot offset dst value is here.
            let a = at slot (insn.Wide dst value) (Some offset) is here in
            let e : slot ≡ slot + 0 = omega arith in
            ap (λ (n : ℕ). insn_at l n) e ∙ from_there l slot 0 _ a.1;
        moved = λ slot offset dst value is here.
            let a = at slot (insn.Wide dst value) (Some offset) is here in
            let e : suc slot ≡ slot + 1 = omega arith in
            ap (λ (n : ℕ). insn_at l n) e ∙ from_there l slot 1 _ a.1;
        only = λ slot i at. let none : 0 + slot ≡ slot = omega arith in subst (λ (n : ℕ). (insn_at p slot ≡ Some i) ⊎ IsReplaced offsets n) none (comes_in p h slot i at);
      }

slot_short : (o : Option Insn) (offset : Option ℤ) (declared : ℕ) (word : ℤ) → length (linked_slot o offset declared word) ≤ 2
slot_short None offset declared word = omega arith
slot_short (Some (insn.Wide dst value)) None declared word = omega arith
slot_short (Some (insn.Wide dst value)) (Some offset) declared word = omega arith
slot_short (Some _) offset declared word = omega arith

module _ (p : List (Option Insn)) (offsets : List (Option ℤ)) (declared : ℕ) (word : ℤ) where
  pub first_so_far : IsCode (Some (saves word) ∷ []) 1 → IsSoFar p offsets declared word 0 (Some (saves word) ∷ []) 1
  first_so_far h = record { code = h; whole = refl; short = omega arith; fits = λ k lt. absurd (omega (arith, lt)) }

  -- one slot more
  pub so_far_more : (slot : ℕ) (code new : List (Option Insn)) (count newer : ℕ) → IsSoFar p offsets declared word slot code count → slot < length p
      → IsCode new newer → new ≡ code ++ linked_slot (insn_at p slot) (offset_at offsets slot) declared word → Fits p offsets declared slot
      → IsSoFar p offsets declared word (slot + 1) new newer
  unfolding linked_from
  so_far_more slot code new count newer h lt coded written fits =
      let part = linked_slot (insn_at p slot) (offset_at offsets slot) declared word in
      let one : suc slot ≡ slot + 1 = omega arith in
      let rest = linked_from offsets declared word (suc slot) (drop (suc slot) p) in
      let next : linked_from offsets declared word slot (drop slot p) ≡ part ++ rest = ap (linked_from offsets declared word slot) (drop_next p slot lt) in
      record {
        code = coded;
        whole = h.whole ∙ ap (λ (x : List (Option Insn)). code ++ x) next ∙ sym (append_assoc code part rest) ∙ ap (λ (x : List (Option Insn)). x ++ rest) (sym written)
            ∙ ap (λ (n : ℕ). new ++ linked_from offsets declared word n (drop n p)) one;
        short = rw written (omega (arith, length-append code part, slot_short (insn_at p slot) (offset_at offsets slot) declared word, h.short));
        fits = below_more _ slot h.fits fits;
      }

  -- all of them
  all_written : (slot : ℕ) (code : List (Option Insn)) (count : ℕ) → IsSoFar p offsets declared word slot code count → length p ≤ slot → code ≡ linked_slots p offsets declared word
  unfolding linked_from
  all_written slot code count h all =
      sym (h.whole ∙ ap (λ (x : List (Option Insn)). code ++ linked_from offsets declared word slot x) (drop_all p slot all) ∙ append-nil code)

  pub all_linked : (slot : ℕ) (code : List (Option Insn)) (count : ℕ) → IsWellFormed p → ((slot : ℕ) → edge_fault_at p slot ≡ None) → IsSoFar p offsets declared word slot code count → length p ≤ slot
      → IsLinked p offsets declared word code
  all_linked slot code count formed led h all =
      subst (IsLinked p offsets declared word) (sym (all_written slot code count h all))
      (is_linked offsets declared word p formed led (λ k lt. h.fits k (omega (arith, lt, all))))

  pub all_formed : (slot : ℕ) (code : List (Option Insn)) (count : ℕ) → IsWellFormed p → ((slot : ℕ) → edge_fault_at p slot ≡ None) → length p < 4096 → IsSoFar p offsets declared word slot code count → length p ≤ slot
      → IsWellFormed code
  all_formed slot code count formed led few h all =
      let l = (all_linked slot code count formed led h all).long in
      well_formed code count h.code (omega (arith, l)) (omega (arith, l, few))
