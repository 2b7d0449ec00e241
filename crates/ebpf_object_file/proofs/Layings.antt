-- The data of one more slot.
use Rattle.std.proofs.Common.{rules, ◌≡◌, ◌≢◌, ◌≤◌, ◌<◌, ◌+◌, ◌++◌, ℕ, Bool, true, false, ◌&&◌, not, List, [], ◌∷◌, length, map, filter, take, Option, Some, None, is_some, slice_index_or, slice_set, zero, suc, refl, sym, ap, subst, ◌∙◌, arith, inl, inr, All, add-one, ℤ, pos, ◌+ℤ◌}
use Rattle.std.specs.Prelude.{sum_by}
use Rattle.std.specs.List.{range_with_len, flat_map}
use Rattle.std.proofs.lemmas.Grind.{flat_map-append}
use Rattle.std.proofs.lemmas.Bool.{cases_lt}
use Rattle.std.proofs.lemmas.Bool.Decides.{eqb_tells}
use Rattle.std.proofs.lemmas.List.{length-set, get_or-set_same, get_or-set_other, get_or_append_left, take-append-le, map-append, length_push, take_more, get_or_default}
use Rattle.std.proofs.lemmas.List.Elements.{All-push, filter-append}
use Rattle.std.proofs.lemmas.List.Sums.{sum_by-append, sum_by-take-le, sum_by_more_le}
use Rattle.std.proofs.Math.Seq.{take-append_seam, get_or-append_seam}
use Rattle.ebpf_object_file.specs.declared.data_use.DataUse.{DataUse}
use Rattle.ebpf_object_file.specs.declared.data_parts.Part.{Part}
use Rattle.ebpf_object_file.specs.declared.data_parts.Laying.{Laying}
use Rattle.ebpf_object_file.specs.declared.data_parts.TheConstants.{MOST_BYTES}
use Rattle.ebpf_object_file.specs.Section.{sections_in, bytes_of}
use Rattle.ebpf_object_file.specs.Data.{any_below}
use Rattle.ebpf_object_file.specs.DataParts.{is_of, section_used, section_at, is_first_use, used_sections, no_part, part_at, IsPart, IsOffset, AreWhole}
use Rattle.ebpf_object_file.specs.Laying.{IsLayingIn, next_part, with_part, IsPlaced, IsLaidBelow}
use Rattle.ebpf_object_file.proofs.Objects.{eq, eq_test}
use Rattle.ebpf_object_file.proofs.Slots.{isnt}
use Rattle.ebpf_object_file.proofs.Below.{any_now, any_kept, any_zero}

-- ---- a part more

pub next_whole : (file : List ℕ) (parts : List Part) (section from : ℕ) → AreWhole file parts → from ≡ sum_by (λ (p : Part). p.size) parts
    → AreWhole file (parts ++ (next_part file section from ∷ []))
next_whole file parts section from h total = record {
  sizes = All-push (λ (p : Part). p.size ≡ length (bytes_of file p.section)) parts p h.sizes refl;
  begins = λ k lt. elim (cases_lt k (length parts)) [
    | inl below ↦ ap (λ (x : Part). x.from) (get_or_append_left parts (p ∷ []) no_part k below) ∙ h.begins k below
        ∙ ap (sum_by (λ (x : Part). x.size)) (sym (take-append-le k parts (p ∷ []) (omega (arith, below))))
    | inr above ↦
        let few : k < length parts + 1 = subst (λ (x : ℕ). k < x) (length_push parts p) lt in
        let e : k ≡ length parts = omega (arith, few, above) in
        ap (λ (x : ℕ). (part_at (parts ++ (p ∷ [])) x).from) e ∙ ap (λ (x : Part). x.from) (get_or-append_seam parts p [] no_part) ∙ total
        ∙ ap (sum_by (λ (x : Part). x.size)) (sym (take-append_seam parts (p ∷ []))) ∙ ap (λ (x : ℕ). sum_by (λ (y : Part). y.size) (take x (parts ++ (p ∷ [])))) (sym e)
  ];
} where
  p : Part
  p = next_part file section from

-- a part stays where it is
pub still_part : (parts : List Part) (p : Part) (section from : ℕ) → IsPart parts section from → IsPart (parts ++ (p ∷ [])) section from
still_part parts p section from h = record {
  number = h.number;
  there = rw (length_push parts p) (let lt : h.number < length parts = h.there in omega (arith, lt));
  section_is = ap (λ (x : Part). x.section) (get_or_append_left parts (p ∷ []) no_part h.number h.there) ∙ h.section_is;
  from_is = ap (λ (x : Part). x.from) (get_or_append_left parts (p ∷ []) no_part h.number h.there) ∙ h.from_is;
}

pub last_part : (parts : List Part) (p : Part) → IsPart (parts ++ (p ∷ [])) p.section p.from
last_part parts p = record {
  number = length parts;
  there = rw (length_push parts p) (omega arith);
  section_is = ap (λ (x : Part). x.section) (get_or-append_seam parts p [] no_part);
  from_is = ap (λ (x : Part). x.from) (get_or-append_seam parts p [] no_part);
}

-- a part begins within the data
pub part_near : (file : List ℕ) (l : Laying) (section from : ℕ) → IsLayingIn file l → IsPart l.parts.items section from → from ≤ MOST_BYTES
part_near file l section from h part =
    let begin : from ≡ sum_by (λ (p : Part). p.size) (take part.number l.parts.items) = sym part.from_is ∙ h.whole.begins part.number part.there in
    let less = sum_by-take-le (λ (p : Part). p.size) l.parts.items part.number in
    let total : l.size ≡ sum_by (λ (p : Part). p.size) l.parts.items = h.size in
    let most : l.size ≤ MOST_BYTES = h.most in
    omega (arith, begin, less, total, most)

-- a section that has a part
pub placed_before : (file : List ℕ) (section : ℕ) (l : Laying) (from : ℕ) → IsLayingIn file l → slice_index_or l.begins.items section None ≡ Some from
    → IsPlaced file section l l from
placed_before file section l from h here = record {
  laying = h;
  parts = sym (ap (λ (x : Option ℕ). with_part file section x l) here);
  here = here;
  others = λ i other. refl;
  near = part_near file l section from h (h.known section from here);
  part = h.known section from here;
}

-- one that gets the next part
pub placed_now : (file : List ℕ) (section : ℕ) (old new : Laying) → IsLayingIn file old → section < sections_in file
    → slice_index_or old.begins.items section None ≡ None → new.parts.items ≡ old.parts.items ++ (next_part file section old.size ∷ [])
    → new.begins.items ≡ slice_set old.begins.items section (Some old.size) → new.size ≡ old.size + length (bytes_of file section) → new.size ≤ MOST_BYTES
    → IsPlaced file section old new old.size
placed_now file section old new h inside free parts begins size most = record {
  laying = record {
    rooms = ap length begins ∙ length-set old.begins.items section (Some old.size) ∙ h.rooms;
    most = most;
    size = size ∙ ap (λ (x : ℕ). x + length (bytes_of file section)) h.size ∙ sym (more old.parts.items) ∙ ap (sum_by (λ (x : Part). x.size)) (sym parts);
    whole = subst (λ (x : List Part). AreWhole file x) (sym parts) (next_whole file old.parts.items section old.size h.whole h.size);
    inside = subst (λ (x : List Part). All (λ (y : Part). y.section < sections_in file) x) (sym parts)
        (All-push (λ (y : Part). y.section < sections_in file) old.parts.items p h.inside inside);
    known = λ i from some. subst (λ (x : List Part). IsPart x i from) (sym parts) (elim (eqb_tells i section) [
      | inl e ↦
          let at : Some from ≡ Some old.size = sym some ∙ ap (λ (x : ℕ). slice_index_or new.begins.items x None) e.1 ∙ here in
          let same : old.size ≡ from = cc in
          subst (λ (x : ℕ). IsPart (old.parts.items ++ (p ∷ [])) x from) (sym e.1)
          (subst (λ (x : ℕ). IsPart (old.parts.items ++ (p ∷ [])) section x) same (last_part old.parts.items p))
      | inr e ↦ still_part old.parts.items p i from (h.known i from (sym (others i e.1) ∙ some))
    ]);
  };
  parts = parts ∙ sym (ap (λ (x : Option ℕ). with_part file section x old) free);
  here = here;
  others = others;
  near = let m : old.size ≤ MOST_BYTES = h.most in m;
  part = subst (λ (x : List Part). IsPart x section old.size) (sym parts) (last_part old.parts.items p);
} where
  p : Part
  p = next_part file section old.size

  room : section < length old.begins.items
  room = subst (λ (x : ℕ). section < x) (sym h.rooms) inside

  here : slice_index_or new.begins.items section None ≡ Some old.size
  here = ap (λ (x : List (Option ℕ)). slice_index_or x section None) begins ∙ get_or-set_same old.begins.items section (Some old.size) None room

  others : (i : ℕ) → i ≢ section → slice_index_or new.begins.items i None ≡ slice_index_or old.begins.items i None
  others i other = ap (λ (x : List (Option ℕ)). slice_index_or x i None) begins ∙ get_or-set_other old.begins.items section i (Some old.size) None other

  more : (ps : List Part) → sum_by (λ (x : Part). x.size) (ps ++ (p ∷ [])) ≡ sum_by (λ (x : Part). x.size) ps + length (bytes_of file section)
  more ps = sum_by-append (λ (x : Part). x.size) ps (p ∷ []) ∙ omega arith

-- ---- a slot more

range_more : (a n : ℕ) → range_with_len a (n + 1) ≡ range_with_len a n ++ ((a + n) ∷ [])
range_more a n = ap (range_with_len a) (add-one n) ∙ go a n where
  go : (a n : ℕ) → range_with_len a (suc n) ≡ range_with_len a n ++ ((a + n) ∷ [])
  go a zero = let e : a ≡ a + 0 = omega arith in ap (λ (x : ℕ). x ∷ []) e
  go a (suc n) = let e : a + 1 + n ≡ a + suc n = omega arith in
      ap (λ (x : List ℕ). a ∷ x) (go (a + 1) n ∙ ap (λ (x : ℕ). range_with_len (a + 1) n ++ (x ∷ [])) e)

sections_more : (uses : List (Option DataUse)) (n : ℕ) → used_sections uses (n + 1) ≡ used_sections uses n ++ map (section_at uses) (filter (is_first_use uses) (n ∷ []))
sections_more uses n =
    let e : 0 + n ≡ n = omega arith in
    ap (λ (x : List ℕ). map (section_at uses) (filter (is_first_use uses) x)) (range_more 0 n ∙ ap (λ (x : ℕ). range_with_len 0 n ++ (x ∷ [])) e)
    ∙ ap (map (section_at uses)) (filter-append (is_first_use uses) (range_with_len 0 n) (n ∷ []))
    ∙ map-append (section_at uses) (filter (is_first_use uses) (range_with_len 0 n)) (filter (is_first_use uses) (n ∷ []))

append_none : (xs : List ℕ) → xs ++ [] ≡ xs
append_none [] = refl
append_none (x ∷ xs) = ap (λ (y : List ℕ). x ∷ y) (append_none xs)

not_first : (f : ℕ → ℕ) (test : ℕ → Bool) (n : ℕ) → test n ≡ false → map f (filter test (n ∷ [])) ≡ []
not_first f test n e = rw e refl

one_first : (f : ℕ → ℕ) (test : ℕ → Bool) (n : ℕ) → test n ≡ true → map f (filter test (n ∷ [])) ≡ f n ∷ []
one_first f test n e = rw e refl

same_sections : (uses : List (Option DataUse)) (n : ℕ) → is_first_use uses n ≡ false → used_sections uses (n + 1) ≡ used_sections uses n
same_sections uses n e = sections_more uses n ∙ ap (λ (x : List ℕ). used_sections uses n ++ x) (not_first (section_at uses) (is_first_use uses) n e)
    ∙ append_none (used_sections uses n)

more_sections : (uses : List (Option DataUse)) (n : ℕ) → is_first_use uses n ≡ true
    → used_sections uses (n + 1) ≡ used_sections uses n ++ (section_at uses n ∷ [])
more_sections uses n e = sections_more uses n ∙ ap (λ (x : List ℕ). used_sections uses n ++ x) (one_first (section_at uses) (is_first_use uses) n e)

-- whether a slot that uses data is the first that uses its section
first_is : (uses : List (Option DataUse)) (n : ℕ) (u : DataUse) → slice_index_or uses n None ≡ Some u
    → is_first_use uses n ≡ not (any_below (λ k. is_of u.section (slice_index_or uses k None)) n)
first_is uses n u used =
    ap (λ (x : Option DataUse). is_some x && not (any_below (λ (k : ℕ). is_of (section_used x) (slice_index_or uses k None)) n)) used

parts_kept : (file : List ℕ) (section : ℕ) (o : Option ℕ) (old : Laying) (parts : List Part) → parts ≡ with_part file section o old
    → (i from : ℕ) → IsPart old.parts.items i from → IsPart parts i from
parts_kept file section None old parts is i from h =
    subst (λ (x : List Part). IsPart x i from) (sym is) (still_part old.parts.items (next_part file section old.size) i from h)
parts_kept file section (Some f) old parts is i from h = subst (λ (x : List Part). IsPart x i from) (sym is) h

offset_kept : (ps qs : List Part) → ((i from : ℕ) → IsPart ps i from → IsPart qs i from) → (u : Option DataUse) (o : Option ℤ) → IsOffset ps u o → IsOffset qs u o
offset_kept ps qs keeps None o h = h
offset_kept ps qs keeps (Some u) o h = (h.0, keeps u.section h.0 h.1, h.2)

-- the parts of one more slot are of one more section, if its section has none
sections_kept : (file : List ℕ) (uses : List (Option DataUse)) (n : ℕ) (u : DataUse) (old : Laying) (parts : List Part) (o : Option ℕ)
    → slice_index_or uses n None ≡ Some u → is_some o ≡ any_below (λ k. is_of u.section (slice_index_or uses k None)) n
    → parts ≡ with_part file u.section o old → map (λ (p : Part). p.section) old.parts.items ≡ used_sections uses n
    → map (λ (p : Part). p.section) parts ≡ used_sections uses (n + 1)
sections_kept file uses n u old parts None used begun is before =
    ap (map (λ (p : Part). p.section)) is ∙ map-append (λ (p : Part). p.section) old.parts.items (next_part file u.section old.size ∷ [])
    ∙ ap (λ (x : List ℕ). x ++ (u.section ∷ [])) before ∙ ap (λ (x : Option DataUse). used_sections uses n ++ (section_used x ∷ [])) (sym used)
    ∙ sym (more_sections uses n (first_is uses n u used ∙ ap not (sym begun)))
sections_kept file uses n u old parts (Some from) used begun is before =
    ap (map (λ (p : Part). p.section)) is ∙ before ∙ sym (same_sections uses n (first_is uses n u used ∙ ap not (sym begun)))

-- before the first slot
pub none_laid : (file : List ℕ) (uses : List (Option DataUse)) (l : Laying) (offsets : List (Option ℤ)) → l.parts.items ≡ [] → l.size ≡ 0
    → length l.begins.items ≡ sections_in file → ((i : ℕ) → slice_index_or l.begins.items i None ≡ None) → length offsets ≡ length uses
    → ((slot : ℕ) → slice_index_or offsets slot None ≡ None) → IsLaidBelow file uses 0 l offsets
none_laid file uses l offsets parts size rooms fresh slots empty = record {
  laying = record {
    rooms = rooms;
    most = rw size (omega arith);
    size = size ∙ ap (sum_by (λ (x : Part). x.size)) (sym parts);
    whole = subst (λ (x : List Part). AreWhole file x) (sym parts) (record { sizes = search rules; begins = λ k lt. absurd (omega (arith, lt)) });
    inside = subst (λ (x : List Part). All (λ (y : Part). y.section < sections_in file) x) (sym parts) (search rules);
    known = λ i from some. absurd (none_some _ from (fresh i) some);
  };
  sections = ap (map (λ (p : Part). p.section)) parts;
  begun = λ i lt. ap (λ (x : Option ℕ). is_some x) (fresh i) ∙ sym (any_zero (λ (k : ℕ). is_of i (slice_index_or uses k None)));
  slots = slots;
  laid = λ slot lt. absurd (omega (arith, lt));
  rest = λ slot le. empty slot;
} where
  none_some : (o : Option ℕ) (from : ℕ) → o ≡ None → o ≡ Some from → ⊥
  none_some o from none some = absurd (cc)

-- a slot that uses no data
pub laid_none : (file : List ℕ) (uses : List (Option DataUse)) (n : ℕ) (l : Laying) (offsets : List (Option ℤ)) → slice_index_or uses n None ≡ None
    → IsLaidBelow file uses n l offsets → IsLaidBelow file uses (n + 1) l offsets
laid_none file uses n l offsets none h = record {
  laying = h.laying;
  sections = h.sections ∙ sym (same_sections uses n (ap (λ (x : Option DataUse). is_some x && not (any_below (λ (k : ℕ). is_of (section_at uses n) (slice_index_or uses k None)) n)) none));
  begun = λ i lt. h.begun i lt ∙ sym (any_kept (λ (k : ℕ). is_of i (slice_index_or uses k None)) n (ap (is_of i) none));
  slots = h.slots;
  laid = λ slot lt. elim (cases_lt slot n) [
    | inl below ↦ h.laid slot below
    | inr above ↦ let e : slot ≡ n = omega (arith, lt, above) in
        subst (λ (x : ℕ). IsOffset l.parts.items (slice_index_or uses x None) (slice_index_or offsets x None)) (sym e)
        (subst (λ (x : Option DataUse). IsOffset l.parts.items x (slice_index_or offsets n None)) (sym none) (h.rest n (omega arith)))
  ];
  rest = λ slot le. h.rest slot (omega (arith, le));
}

-- a slot that uses data
pub laid_more : (file : List ℕ) (uses : List (Option DataUse)) (n : ℕ) (u : DataUse) (old new : Laying) (from : ℕ) (offsets after : List (Option ℤ))
    → slice_index_or uses n None ≡ Some u → n < length uses → u.section < sections_in file → IsPlaced file u.section old new from
    → after ≡ slice_set offsets n (Some (pos from +ℤ u.offset)) → IsLaidBelow file uses n old offsets → IsLaidBelow file uses (n + 1) new after
laid_more file uses n u old new from offsets after used room inside placed set h = record {
  laying = placed.laying;
  sections = sections_kept file uses n u old new.parts.items (slice_index_or old.begins.items u.section None) used (h.begun u.section inside) placed.parts
      h.sections;
  begun = λ i lt. elim (eqb_tells i u.section) [
    | inl e ↦ ap (λ (x : ℕ). is_some (slice_index_or new.begins.items x None)) e.1 ∙ ap (λ (x : Option ℕ). is_some x) placed.here
        ∙ sym (any_now (λ (k : ℕ). is_of i (slice_index_or uses k None)) n (ap (is_of i) used ∙ eq_test _ _ (sym e.1)))
    | inr e ↦ ap (λ (x : Option ℕ). is_some x) (placed.others i e.1) ∙ h.begun i lt
        ∙ sym (any_kept (λ (k : ℕ). is_of i (slice_index_or uses k None)) n (ap (is_of i) used ∙ isnt _ (λ t. e.1 (sym (eq _ _ t)))))
  ];
  slots = ap length set ∙ length-set offsets n value ∙ h.slots;
  laid = λ slot lt. elim (cases_lt slot n) [
    | inl below ↦ let other : slot ≢ n = λ e. omega (arith, below, e) in
        subst (λ (x : Option ℤ). IsOffset new.parts.items (slice_index_or uses slot None) x)
        (sym (ap (λ (x : List (Option ℤ)). slice_index_or x slot None) set ∙ get_or-set_other offsets n slot value None other))
        (offset_kept old.parts.items new.parts.items
        (parts_kept file u.section (slice_index_or old.begins.items u.section None) old new.parts.items placed.parts)
        (slice_index_or uses slot None) (slice_index_or offsets slot None) (h.laid slot below))
    | inr above ↦ let e : slot ≡ n = omega (arith, lt, above) in
        subst (λ (x : ℕ). IsOffset new.parts.items (slice_index_or uses x None) (slice_index_or after x None)) (sym e)
        (subst (λ (x : Option DataUse). IsOffset new.parts.items x (slice_index_or after n None)) (sym used) (
          from,
          placed.part,
          ap (λ (x : List (Option ℤ)). slice_index_or x n None) set ∙ get_or-set_same offsets n value None (subst (λ (x : ℕ). n < x) (sym h.slots) room),
        ))
  ];
  rest = λ slot le. let other : slot ≢ n = λ e. omega (arith, le, e) in
      ap (λ (x : List (Option ℤ)). slice_index_or x slot None) set ∙ get_or-set_other offsets n slot value None other ∙ h.rest slot (omega (arith, le));
} where
  value : Option ℤ
  value = Some (pos from +ℤ u.offset)

pub none_by : (o : Option ℕ) → ((x : ℕ) → o ≡ Some x → ⊥) → o ≡ None
none_by None no_value = refl
none_by (Some x) no_value = absurd (no_value x refl)

pub none_used : (o : Option DataUse) → ((x : DataUse) → o ≡ Some x → ⊥) → o ≡ None
none_used None no_value = refl
none_used (Some x) no_value = absurd (no_value x refl)

-- the bytes of one more part
pub bytes_more : (file : List ℕ) (parts : List Part) (k : ℕ) → k < length parts
    → flat_map (λ (p : Part). bytes_of file p.section) (take (k + 1) parts)
    ≡ flat_map (λ (p : Part). bytes_of file p.section) (take k parts) ++ bytes_of file (part_at parts k).section
bytes_more file parts k lt =
    ap (flat_map bytes) (take_more parts k no_part lt) ∙ flat_map-append bytes (take k parts) (part_at parts k ∷ [])
    ∙ ap (λ (x : List ℕ). flat_map bytes (take k parts) ++ x) (append_none (bytes (part_at parts k))) where
      bytes : Part → List ℕ
      bytes p = bytes_of file p.section

-- each part ends within what all of them may have
pub parts_near : (file : List ℕ) (l : Laying) → IsLayingIn file l → All (λ (p : Part). p.from + p.size ≤ MOST_BYTES) l.parts.items
parts_near file l is k d lt =
    let parts = l.parts.items in
    let size : Part → ℕ = λ p. p.size in
    let from : (part_at parts k).from ≡ sum_by size (take k parts) = is.whole.begins k lt in
    let within = sum_by_more_le size parts k no_part lt in
    let total = is.size in
    let most = is.most in
    let near : (part_at parts k).from + (part_at parts k).size ≤ MOST_BYTES = omega (arith, from, within, total, most) in
    subst (λ (p : Part). p.from + p.size ≤ MOST_BYTES) (get_or_default parts k no_part d lt) near
