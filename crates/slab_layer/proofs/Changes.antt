-- The slabs' map of slots, and what is kept beside it, after a change of one page.
use Rattle.std.proofs.Common.{not, map, ◌≡◌, ◌≢◌, ℕ, zero, suc, ◌-◌, take, ◌+◌, ◌*◌, ◌/◌, ◌%◌, ◌<◌, ◌≤◌, ◌==◌, if◌then◌else◌, Bool, true, false}
use Rattle.std.proofs.Common.{cond, List, [], ◌∷◌, ◌++◌, length, get_or, set, replicate, Some, refl, sym, ap, subst, ◌∙◌, arith, inl, inr, ◌⊎◌}
use Rattle.std.specs.Prelude.{slice_get, None}
use Rattle.std.proofs.lemmas.Bool.{cases_eq, cases_lt}
use Rattle.std.proofs.lemmas.List.{length_push, length-set, get_or-set_same, get_or-set_other, get_or_past, get_or_default, get_or-map, map-set}
use Rattle.std.proofs.lemmas.List.{set-get_or, length-map, take_all, take_more, length-replicate}
use Rattle.std.proofs.lemmas.List.Folds.{list_any_at}
use Rattle.std.proofs.lemmas.Option.{slice_get_within, slice_get_past, get_or_from_slice_get, slice_get-get_or}
use Rattle.slab_layer.specs.declared.place.Place.{Place}
use Rattle.slab_layer.specs.declared.place.Place.TheVariants.{Home, Out}
use Rattle.slab_layer.specs.Stacks.{times, HasSame, selected}
use Rattle.slab_layer.specs.Slots.{Pages, place_of, IsHome, is_home, has_home, outs_in, out_count, Moves, AddsPage, RemovesPage}
use Rattle.slab_layer.specs.PartialStack.{IsPartialStack}
use Rattle.slab_layer.specs.declared.kind.Kind.{Ghosts}
use Rattle.slab_layer.specs.declared.slab.Slab.{Slab}
use Rattle.slab_layer.specs.SlabTable.{places_of, page_of, pages_in, IsSlabTable}
use Rattle.slab_layer.proofs.Selecting.{hit, one, times-selected-set, length-selected-set, length-selected-le, found, selected_some, popped_each, popped_here}

slice_get-set_same : {A : Type 0} (xs : List A) (i : ℕ) (a : A) → i < length xs → slice_get (set xs i a) i ≡ Some a
slice_get-set_same {A = A} xs i a within =
    slice_get-get_or (set xs i a) i a (omega (arith, length-set xs i a)) ∙ ap (λ (x : A). Some x) (get_or-set_same xs i a a within)

slice_get-set_other : {A : Type 0} (xs : List A) (i j : ℕ) (a : A) → j ≢ i → slice_get (set xs i a) j ≡ slice_get xs j
slice_get-set_other [] i j a other = refl
slice_get-set_other (x ∷ xs) zero zero a other = absurd (other refl)
slice_get-set_other (x ∷ xs) zero (suc j) a other = refl
slice_get-set_other (x ∷ xs) (suc i) zero a other = refl
slice_get-set_other (x ∷ xs) (suc i) (suc j) a other = slice_get-set_other xs i j a (λ same. other (ap suc same))

-- the map after a change of one page
pub place_of-set_here : (pages : Pages) (p x : ℕ) (ps : List Place) → p < length pages → x / 256 ≡ p → place_of (set pages p ps) x ≡ slice_get ps (x % 256)
place_of-set_here pages p x ps within here =
    ap (λ qs. slice_get qs (x % 256)) (ap (λ k. get_or (set pages p ps) k []) here ∙ get_or-set_same pages p ps [] within)

pub place_of-set_other : (pages : Pages) (p x : ℕ) (ps : List Place) → x / 256 ≢ p → place_of (set pages p ps) x ≡ place_of pages x
place_of-set_other pages p x ps other = ap (λ qs. slice_get qs (x % 256)) (get_or-set_other pages p (x / 256) ps [] other)

-- one object moves
pub moved : (pages : Pages) (p s : ℕ) (a : Place) → p < length pages → s / 256 ≡ p → s % 256 < length (get_or pages p [])
    → Moves pages (set pages p (set (get_or pages p []) (s % 256) a)) s a
moved pages p s a within here inside = record {
  moved = place_of-set_here pages p s _ within here ∙ slice_get-set_same (get_or pages p []) (s % 256) a inside;
  others = λ x other. elim (cases_eq (x / 256) p) [
    | inl same ↦
        let apart : x % 256 ≢ s % 256 = λ e. other (omega arith) in
        place_of-set_here pages p x _ within same ∙ (slice_get-set_other (get_or pages p []) (s % 256) (x % 256) a apart ∙ sym (ap (λ k. slice_get (get_or pages k []) (x % 256)) same))
    | inr differ ↦ place_of-set_other pages p x _ differ
  ];
}

-- a page is removed
pub removed : (pages : Pages) (p : ℕ) → p < length pages → RemovesPage pages (set pages p []) p
removed pages p within = record {
  removed = λ x here. place_of-set_here pages p x [] within here;
  others = λ x other. place_of-set_other pages p x [] other;
}

slice_get-replicate : (n i : ℕ) (a : Place) → i < n → slice_get (replicate n a) i ≡ Some a
slice_get-replicate zero i a within = absurd (omega arith)
slice_get-replicate (suc n) zero a within = refl
slice_get-replicate (suc n) (suc i) a within = slice_get-replicate n i a (omega arith)

-- a page is added
pub added : (pages olds : Pages) (p n : ℕ) → n ≤ 256 → p < length pages → ((k : ℕ) → get_or pages k [] ≡ get_or olds k [])
    → AddsPage olds (set pages p (replicate n Home)) p n
added pages olds p n few within same = record {
  added = λ i inside.
      let x = p * 256 + i in
      let here : x / 256 ≡ p = omega arith in
      let index : x % 256 ≡ i = omega arith in
      place_of-set_here pages p x (replicate n Home) within here ∙ (ap (λ k. slice_get (replicate n Home) k) index ∙ slice_get-replicate n i Home inside);
  only = λ i past low.
      let x = p * 256 + i in
      let here : x / 256 ≡ p = omega arith in
      let index : x % 256 ≡ i = omega arith in
      let short = length-replicate n Home in
      place_of-set_here pages p x (replicate n Home) within here ∙ (ap (λ k. slice_get (replicate n Home) k) index ∙ slice_get_past (replicate n Home) i (omega arith));
  others = λ x other. place_of-set_other pages p x _ other ∙ ap (λ qs. slice_get qs (x % 256)) (same (x / 256));
}

-- counts
abbrev out_weight : Place → ℕ
out_weight p = cond (is_home p) 0 1

outs_in-set : (ps : List Place) (i : ℕ) (a d : Place) → i < length ps → outs_in (set ps i a) + out_weight (get_or ps i d) ≡ outs_in ps + out_weight a
outs_in-set [] i a d within = absurd (omega arith)
outs_in-set (Home ∷ ps) zero Home d within = refl
outs_in-set (Home ∷ ps) zero Out d within = omega arith
outs_in-set (Out ∷ ps) zero Home d within = omega arith
outs_in-set (Out ∷ ps) zero Out d within = omega arith
outs_in-set (Home ∷ ps) (suc i) a d within = outs_in-set ps i a d (omega arith)
outs_in-set (Out ∷ ps) (suc i) a d within = omega (arith, outs_in-set ps i a d (omega arith))

pub outs_in-out : (ps : List Place) (i : ℕ) → slice_get ps i ≡ Some Home → outs_in (set ps i Out) ≡ outs_in ps + 1
outs_in-out ps i was =
    let e = outs_in-set ps i Out Home (slice_get_within ps i Home was) in
    let f : out_weight (get_or ps i Home) ≡ 0 = ap out_weight (get_or_from_slice_get ps i Home Home was) in
    omega arith

pub outs_in-home : (ps : List Place) (i : ℕ) → slice_get ps i ≡ Some Out → outs_in (set ps i Home) + 1 ≡ outs_in ps
outs_in-home ps i was =
    let e = outs_in-set ps i Home Out (slice_get_within ps i Out was) in
    let f : out_weight (get_or ps i Out) ≡ 1 = ap out_weight (get_or_from_slice_get ps i Out Out was) in
    omega arith

pub outs_in-homes : (n : ℕ) → outs_in (replicate n Home) ≡ 0
outs_in-homes zero = refl
outs_in-homes (suc n) = outs_in-homes n

outs_in-le : (ps : List Place) → outs_in ps ≤ length ps
outs_in-le [] = omega arith
outs_in-le (Home ∷ ps) = omega (arith, outs_in-le ps)
outs_in-le (Out ∷ ps) = omega (arith, outs_in-le ps)

pub out_count-set : (pages : Pages) (p : ℕ) (ps : List Place) → p < length pages
    → out_count (set pages p ps) + outs_in (get_or pages p []) ≡ out_count pages + outs_in ps
out_count-set [] p ps within = absurd (omega arith)
out_count-set (qs ∷ qss) zero ps within = omega arith
out_count-set (qs ∷ qss) (suc p) ps within = omega (arith, out_count-set qss p ps (omega arith))

out_count-le : (pages : Pages) → ((p : ℕ) → length (get_or pages p []) ≤ 256) → out_count pages ≤ 256 * length pages
out_count-le [] small = omega arith
out_count-le (qs ∷ qss) small = omega (arith, outs_in-le qs, small 0, out_count-le qss (λ p. small (suc p)))

-- homes
has_home_at : (ps : List Place) (i : ℕ) → slice_get ps i ≡ Some Home → has_home ps ≡ true
has_home_at ps i at = list_any_at is_home ps i Home (slice_get_within ps i Home at) (ap is_home (get_or_from_slice_get ps i Home Home at))

pub has_home-set : (ps : List Place) (i : ℕ) → i < length ps → has_home (set ps i Home) ≡ true
has_home-set ps i within = has_home_at (set ps i Home) i (slice_get-set_same ps i Home within)

pub has_home-homes : (n : ℕ) → 0 < n → has_home (replicate n Home) ≡ true
has_home-homes zero some = absurd (omega arith)
has_home-homes (suc n) some = refl

-- what is kept, after a change of one page
pub partial-set : (pages : Pages) (numbers partial after : List ℕ) (out left p : ℕ) (ps : List Place)
    → IsPartialStack pages numbers partial out → p < length pages → length ps ≤ 256
    → HasSame after (selected has_home 0 (set pages p ps)) → left + outs_in (get_or pages p []) ≡ out + outs_in ps
    → IsPartialStack (set pages p ps) numbers after left
partial-set pages numbers partial after out left p ps stack within few stacked counted = record {
  sized = elim stack.sized [ inl none ↦ inl (omega (arith, length-set pages p ps)) | inr all ↦ inr (omega (arith, length-set pages p ps)) ];
  small = λ q. elim (cases_eq q p) [
    | inl same ↦ rw (same, get_or-set_same pages p ps [] within) few
    | inr other ↦ rw (get_or-set_other pages p q ps [] other) (stack.small q)
  ];
  numbered = λ q inside. stack.numbered q (omega (arith, length-set pages p ps));
  stacked = stacked;
  counted = omega (arith, out_count-set pages p ps within, stack.counted);
}

-- no page begins or ends to have an object at home
pub stack-same : (pages : Pages) (partial : List ℕ) (p : ℕ) (ps : List Place) → HasSame partial (selected has_home 0 pages)
    → p < length pages → has_home ps ≡ has_home (get_or pages p []) → HasSame partial (selected has_home 0 (set pages p ps))
stack-same pages partial p ps same within is = record {
  count = let e = length-selected-set has_home pages 0 p ps [] within in let f = ap one is in omega (arith, same.count);
  each = λ x. let e = times-selected-set has_home pages 0 p p x ps [] (omega arith) within in let f = ap (λ b. hit b p x) is in omega (arith, same.each x);
}

-- the page's last object at home is gone
pub stack-less : (pages : Pages) (partial rest : List ℕ) (p : ℕ) (ps : List Place) → HasSame partial (selected has_home 0 pages)
    → p < length pages → has_home ps ≡ false → has_home (get_or pages p []) ≡ true → length rest + 1 ≡ length partial
    → ((x : ℕ) → times x rest + (if p == x then 1 else 0) ≡ times x partial) → HasSame rest (selected has_home 0 (set pages p ps))
stack-less pages partial rest p ps same within now was count each = record {
  count = let e = length-selected-set has_home pages 0 p ps [] within in let f = ap one now in let h = ap one was in omega (arith, same.count);
  each = λ x. let e = times-selected-set has_home pages 0 p p x ps [] (omega arith) within in let f = ap (λ b. hit b p x) now in let h = ap (λ b. hit b p x) was in omega (arith, same.each x, each x);
}

-- the page's first object is home
pub stack-more : (pages : Pages) (partial : List ℕ) (p : ℕ) (ps : List Place) → HasSame partial (selected has_home 0 pages)
    → p < length pages → has_home ps ≡ true → has_home (get_or pages p []) ≡ false
    → HasSame (partial ++ p ∷ []) (selected has_home 0 (set pages p ps)) × (length partial < length pages)
stack-more pages partial p ps same within now was = (record { count = count; each = each }, room)
  where
    count : length (partial ++ p ∷ []) ≡ length (selected has_home 0 (set pages p ps))
    count = let e = length-selected-set has_home pages 0 p ps [] within in let f = ap one now in let h = ap one was in omega (arith, same.count, length_push partial p)

    each : (x : ℕ) → times x (partial ++ p ∷ []) ≡ times x (selected has_home 0 (set pages p ps))
    each x = let e = times-selected-set has_home pages 0 p p x ps [] (omega arith) within in let f = ap (λ b. hit b p x) now in let h = ap (λ b. hit b p x) was in omega (arith, same.each x, popped_each partial p x)

    room : length partial < length pages
    room = omega (arith, count, length_push partial p, length-selected-le has_home (set pages p ps) 0, length-set pages p ps)

-- the page on top of the stack has an object at home
pub top_has_home : (pages : Pages) (rest : List ℕ) (p : ℕ) → HasSame (rest ++ p ∷ []) (selected has_home 0 pages)
    → (p < length pages) × (has_home (get_or pages p []) ≡ true)
top_has_home pages rest p same =
    let some = popped_here rest p in
    let at = found has_home pages 0 p (omega (arith, same.each p)) in
    let is : p ≡ at.0 = omega (arith, at.2) in
    let P : ℕ → Type 0 = λ k. (k < length pages) × (has_home (get_or pages k []) ≡ true) in
    subst P (sym is) (at.1, at.3 [])

-- where no page is on the stack, no slot is home
pub none_home : (pages : Pages) (slot : ℕ) → length (selected has_home 0 pages) ≡ 0 → IsHome pages slot → ⊥
none_home pages slot none home = elim (cases_lt (slot / 256) (length pages)) [
  | inl within ↦ let some = selected_some has_home pages 0 (slot / 256) [] within (has_home_at (get_or pages (slot / 256) []) (slot % 256) home) in omega arith
  | inr past ↦ let e : get_or pages (slot / 256) [] ≡ [] = get_or_past pages (slot / 256) [] past in absurd (has_none e)
]
  where
    has_none : get_or pages (slot / 256) [] ≡ [] → ⊥
    has_none e = let f : slice_get [] (slot % 256) ≡ Some Home = subst (λ qs. slice_get qs (slot % 256) ≡ Some Home) e home in cc

-- an out is one of at most 256 * 256
pub partial_few : (pages : Pages) (numbers partial : List ℕ) (out : ℕ) → IsPartialStack pages numbers partial out → out ≤ 65536
partial_few pages numbers partial out stack = few stack.sized
  where
    few : (length pages ≡ 0) ⊎ (length pages ≡ 256) → out ≤ 65536
    few (inl none) = omega (arith, stack.counted, out_count-le pages stack.small)
    few (inr all) = omega (arith, stack.counted, out_count-le pages stack.small)

-- the stack after an object was taken
after_take : (b : Bool) (pages : Pages) (partial rest : List ℕ) (p : ℕ) (ps : List Place) → has_home ps ≡ b
    → HasSame partial (selected has_home 0 pages) → partial ≡ rest ++ p ∷ [] → p < length pages
    → has_home (get_or pages p []) ≡ true → HasSame (if not b then rest else partial) (selected has_home 0 (set pages p ps))
after_take true pages partial rest p ps now same top within was = stack-same pages partial p ps same within (now ∙ sym was)
after_take false pages partial rest p ps now same top within was =
    stack-less pages partial rest p ps same within now was (sym (ap length top ∙ length_push rest p)) (λ x. sym (ap (times x) top ∙ popped_each rest p x))

-- the stack after an object was given
after_give : (b : Bool) (pages : Pages) (partial : List ℕ) (p : ℕ) (ps : List Place) → has_home (get_or pages p []) ≡ b
    → HasSame partial (selected has_home 0 pages) → p < length pages → has_home ps ≡ true
    → HasSame (if not b then partial ++ p ∷ [] else partial) (selected has_home 0 (set pages p ps))
after_give true pages partial p ps was same within now = stack-same pages partial p ps same within (now ∙ sym was)
after_give false pages partial p ps was same within now = (stack-more pages partial p ps same within now was).0

-- the same of slabs
module _ {K : Type 0} {k : Ghosts K} where
  pub places_read : (xs : List (Slab K k)) (at : ℕ) (x : Slab K k) → at < length xs → x ≡ get_or xs at x → get_or (pages_in xs) at [] ≡ places_of x
  places_read xs at x within read = get_or-map places_of xs at x [] within ∙ ap places_of (sym read)

  pub partial_after : (xs : List (Slab K k)) (at : ℕ) (old new : Slab K k) (partial after : List ℕ) (out left : ℕ)
      → IsSlabTable xs partial out → at < length xs → old ≡ get_or xs at old → page_of new ≡ page_of old
      → length (places_of new) ≤ 256 → HasSame after (selected has_home 0 (set (pages_in xs) at (places_of new)))
      → left + outs_in (places_of old) ≡ out + outs_in (places_of new) → IsSlabTable (set xs at new) after left
  partial_after xs at old new partial after out left stack within read same few stacked counted =
      let inside : at < length (pages_in xs) = omega (arith, length-map xs places_of) in
      let was = places_read xs at old within read in
      let balance : left + outs_in (get_or (pages_in xs) at []) ≡ out + outs_in (places_of new) = rw was counted in
      let stays : set (map page_of xs) at (page_of new) ≡ map page_of xs =
      ap (λ n. set (map page_of xs) at n) (same ∙ (ap page_of read ∙ sym (get_or-map page_of xs at old 0 within))) ∙ set-get_or (map page_of xs) at 0 in
      let P : Pages → List ℕ → Type 0 = λ ps ns. IsPartialStack ps ns after left in
      subst (λ (ps : Pages). P ps (map page_of (set xs at new))) (sym (map-set places_of xs at new))
      (subst (λ (ns : List ℕ). P (set (pages_in xs) at (places_of new)) ns) (sym (map-set page_of xs at new ∙ stays))
      (partial-set (pages_in xs) (map page_of xs) partial after out left at (places_of new) stack inside few stacked balance))

  -- an object is taken from the page on top of the stack
  pub partial_taken : (xs : List (Slab K k)) (at i : ℕ) (old new : Slab K k) (partial rest : List ℕ) (out : ℕ) (b : Bool)
      → IsSlabTable xs partial out → partial ≡ rest ++ at ∷ [] → at < length xs → old ≡ get_or xs at old → page_of new ≡ page_of old
      → slice_get (places_of old) i ≡ Some Home → places_of new ≡ set (places_of old) i Out → b ≡ has_home (places_of new)
      → (after : List ℕ) → after ≡ (if not b then rest else partial) → IsSlabTable (set xs at new) after (out + 1)
  partial_taken xs at i old new partial rest out b stack top within read same was is now after then' =
      let inside : at < length (pages_in xs) = omega (arith, length-map xs places_of) in
      let reads = places_read xs at old within read in
      let few : length (places_of new) ≤ 256 = rw (is, length-set (places_of old) i Out, sym reads) (stack.small at) in
      let stands : has_home (get_or (pages_in xs) at []) ≡ true = rw reads (has_home_at (places_of old) i was) in
      let H : List ℕ → Type 0 = λ ns. HasSame ns (selected has_home 0 (set (pages_in xs) at (places_of new))) in
      let stacked = subst H (sym then') (after_take b (pages_in xs) partial rest at (places_of new) (sym now) stack.stacked top inside stands) in
      let count : outs_in (places_of new) ≡ outs_in (places_of old) + 1 = ap outs_in is ∙ outs_in-out (places_of old) i was in
      partial_after xs at old new partial after out (out + 1) stack within read same few stacked (omega (arith, count))

  -- and one more is out
  pub count_taken : (xs : List (Slab K k)) (at i : ℕ) (old new : Slab K k) → at < length xs → old ≡ get_or xs at old
      → slice_get (places_of old) i ≡ Some Home → places_of new ≡ set (places_of old) i Out
      → out_count (pages_in (set xs at new)) ≡ out_count (pages_in xs) + 1
  count_taken xs at i old new within read was is =
      let inside : at < length (pages_in xs) = omega (arith, length-map xs places_of) in
      let reads = ap outs_in (places_read xs at old within read) in
      let more : outs_in (places_of new) ≡ outs_in (places_of old) + 1 = ap outs_in is ∙ outs_in-out (places_of old) i was in
      rw (map-set places_of xs at new) (omega (arith, out_count-set (pages_in xs) at (places_of new) inside))

  -- an object is given back to its page
  pub partial_given : (xs : List (Slab K k)) (at i : ℕ) (old new : Slab K k) (partial : List ℕ) (out left : ℕ) (b : Bool)
      → IsSlabTable xs partial out → at < length xs → old ≡ get_or xs at old → page_of new ≡ page_of old
      → slice_get (places_of old) i ≡ Some Out → places_of new ≡ set (places_of old) i Home → b ≡ has_home (places_of old)
      → left + 1 ≡ out → (after : List ℕ) → after ≡ (if not b then partial ++ at ∷ [] else partial)
      → IsSlabTable (set xs at new) after left
  partial_given xs at i old new partial out left b stack within read same was is before less after then' =
      let inside : at < length (pages_in xs) = omega (arith, length-map xs places_of) in
      let reads = places_read xs at old within read in
      let few : length (places_of new) ≤ 256 = rw (is, length-set (places_of old) i Home, sym reads) (stack.small at) in
      let now : has_home (places_of new) ≡ true = ap has_home is ∙ has_home-set (places_of old) i (slice_get_within (places_of old) i Out was) in
      let H : List ℕ → Type 0 = λ ns. HasSame ns (selected has_home 0 (set (pages_in xs) at (places_of new))) in
      let stacked = subst H (sym then') (after_give b (pages_in xs) partial at (places_of new) (ap has_home reads ∙ sym before) stack.stacked inside now) in
      let count : outs_in (places_of new) + 1 ≡ outs_in (places_of old) = ap (λ n. n + 1) (ap outs_in is) ∙ outs_in-home (places_of old) i was in
      partial_after xs at old new partial after out left stack within read same few stacked (omega (arith, count))

  -- and one less is out
  pub count_given : (xs : List (Slab K k)) (at i : ℕ) (old new : Slab K k) → at < length xs → old ≡ get_or xs at old
      → slice_get (places_of old) i ≡ Some Out → places_of new ≡ set (places_of old) i Home
      → out_count (pages_in (set xs at new)) + 1 ≡ out_count (pages_in xs)
  count_given xs at i old new within read was is =
      let inside : at < length (pages_in xs) = omega (arith, length-map xs places_of) in
      let reads = ap outs_in (places_read xs at old within read) in
      let less : outs_in (places_of new) + 1 ≡ outs_in (places_of old) = ap (λ n. n + 1) (ap outs_in is) ∙ outs_in-home (places_of old) i was in
      rw (map-set places_of xs at new) (omega (arith, out_count-set (pages_in xs) at (places_of new) inside))

  -- the object of a slot is out
  pub out_read : (xs : List (Slab K k)) (at index : ℕ) (x : Slab K k) → at < length xs → x ≡ get_or xs at x
      → slice_get (places_of x) index ≡ Some Out → (y : Slab K k) → y ≡ get_or xs at y → slice_get (places_of y) index ≡ Some Out
  out_read xs at index x within read out y is = subst (λ z. slice_get (places_of z) index ≡ Some Out) (read ∙ (get_or_default xs at x y within ∙ sym is)) out

  -- there is room for a page that gets its first object
  pub room_given : (xs : List (Slab K k)) (at i : ℕ) (old : Slab K k) (partial : List ℕ) (out : ℕ) → IsSlabTable xs partial out
      → at < length xs → old ≡ get_or xs at old → slice_get (places_of old) i ≡ Some Out → has_home (places_of old) ≡ false
      → length partial < length xs
  room_given xs at i old partial out stack within read was none =
      let inside : at < length (pages_in xs) = omega (arith, length-map xs places_of) in
      let now = has_home-set (places_of old) i (slice_get_within (places_of old) i Out was) in
      let more =
      stack-more (pages_in xs) partial at (set (places_of old) i Home) stack.stacked inside now (ap has_home (places_read xs at old within read) ∙ none) in
      omega (arith, more.1, length-map xs places_of)

  -- the map moves one slot
  pub moves : (xs : List (Slab K k)) (s at : ℕ) (a : Place) (old new : Slab K k) → at < length xs → old ≡ get_or xs at old
      → s / 256 ≡ at → s % 256 < length (places_of old) → places_of new ≡ set (places_of old) (s % 256) a
      → Moves (pages_in xs) (pages_in (set xs at new)) s a
  moves xs s at a old new within read here inside is =
      let reads = places_read xs at old within read in
      let there : at < length (pages_in xs) = omega (arith, length-map xs places_of) in
      let L : List Place → Type 0 = λ ps. s % 256 < length ps in
      let M : List Place → Type 0 = λ ps. Moves (pages_in xs) (set (pages_in xs) at (set ps (s % 256) a)) s a in
      let made = subst M reads (moved (pages_in xs) at s a there here (subst L (sym reads) inside)) in
      rw (map-set places_of xs at new, is) made

-- the last number of a list, and all before it
split_last : (ns : List ℕ) (n : ℕ) → Some n ≡ slice_get ns (length ns - 1) → ns ≡ take (length ns - 1) ns ++ n ∷ []
split_last ns n last =
    let i = length ns - 1 in
    let within : i < length ns = slice_get_within ns i n (sym last) in
    sym (take_all (i + 1) ns (omega arith)) ∙ (take_more ns i 0 within ∙ ap (λ k. take i ns ++ k ∷ []) (get_or_from_slice_get ns i n 0 (sym last)))

-- a list with no last number is empty
no_last : (ns : List ℕ) → None ≡ slice_get ns (length ns - 1) → length ns ≡ 0
no_last [] none = refl
no_last (n ∷ ns) none =
    let within : length ns + 1 - 1 < length ns + 1 = omega arith in
    let there = slice_get-get_or (n ∷ ns) (length (n ∷ ns) - 1) 0 (omega arith) in
    absurd (let e : None ≡ Some (get_or (n ∷ ns) (length (n ∷ ns) - 1) 0) = none ∙ there in cc)

-- with an empty stack no slot is home
pub partial_none : (ds : List ℕ) (pages : Pages) (numbers partial : List ℕ) (out slot : ℕ) → ds ≡ partial
    → None ≡ slice_get ds (length ds - 1) → IsPartialStack pages numbers partial out → IsHome pages slot → ⊥
partial_none ds pages numbers partial out slot same none stack home =
    let e : length partial ≡ 0 = ap length (sym same) ∙ no_last ds none in
    none_home pages slot (omega (arith, stack.stacked.count)) home

-- the element that was written
pub read_set : {X : Type 0} (xs : List X) (at : ℕ) (new y : X) → at < length xs → y ≡ get_or (set xs at new) at y → y ≡ new
read_set xs at new y within read = read ∙ get_or-set_same xs at new y within

-- the page on top of the stack is in the table, and has an object at home
pub record IsTop {K : Type 0} {k : Ghosts K} (xs : List (Slab K k)) (partial : List ℕ) (at : ℕ) : Type 0 where
  pub last : partial ≡ take (length partial - 1) partial ++ at ∷ []
  pub within : at < length xs
  pub home : (x : Slab K k) → x ≡ get_or xs at x → has_home (places_of x) ≡ true

module _ {K : Type 0} {k : Ghosts K} where
  pub is_top : (xs : List (Slab K k)) (ds partial : List ℕ) (at out : ℕ) → IsSlabTable xs partial out → ds ≡ partial
      → Some at ≡ slice_get ds (length ds - 1) → IsTop xs partial at
  is_top xs ds partial at out stack same read =
      let last = split_last partial at (subst (λ ns. Some at ≡ slice_get ns (length ns - 1)) same read) in
      let top =
      top_has_home (pages_in xs) (take (length partial - 1) partial) at (subst (λ ns. HasSame ns (selected has_home 0 (pages_in xs))) last stack.stacked) in
      let within : at < length xs = omega (arith, length-map xs places_of, top.0) in
      record { last = last; within = within; home = λ x is. ap has_home (sym (places_read xs at x within is)) ∙ top.1 }

  -- where the object of a slot is, by its slab
  pub place_at : (xs : List (Slab K k)) (at s : ℕ) (x : Slab K k) → at < length xs → x ≡ get_or xs at x → s / 256 ≡ at
      → place_of (pages_in xs) s ≡ slice_get (places_of x) (s % 256)
  place_at xs at s x within read here = ap (λ qs. slice_get qs (s % 256)) (ap (λ k. get_or (pages_in xs) k []) here ∙ places_read xs at x within read)

  -- the slab at a place has noted that place
  pub number_is : (xs : List (Slab K k)) (at out : ℕ) (partial : List ℕ) (x : Slab K k) → IsSlabTable xs partial out
      → at < length xs → x ≡ get_or xs at x → page_of x ≡ at
  number_is xs at out partial x stack within read =
      ap page_of read ∙ (sym (get_or-map page_of xs at x 0 within) ∙ stack.numbered at (omega (arith, length-map xs places_of)))

-- two reads of one element
pub same_read : {X : Type 0} (xs : List X) (i : ℕ) (x y : X) → i < length xs → x ≡ get_or xs i x → y ≡ get_or xs i y → x ≡ y
same_read xs i x y within xs' ys = xs' ∙ (get_or_default xs i x y within ∙ sym ys)

-- where an object is out, the count isn't 0
pub out_some : {K : Type 0} {k : Ghosts K} (xs : List (Slab K k)) (at i : ℕ) (old : Slab K k) (partial : List ℕ) (out : ℕ)
    → IsSlabTable xs partial out → at < length xs → old ≡ get_or xs at old → slice_get (places_of old) i ≡ Some Out → 1 ≤ out
out_some xs at i old partial out stack within read was =
    let inside : at < length (pages_in xs) = omega (arith, length-map xs places_of) in
    let e = out_count-set (pages_in xs) at [] inside in
    let f = ap outs_in (places_read xs at old within read) in
    let h = outs_in-home (places_of old) i was in
    omega (arith, stack.counted)
