-- Pages that come and go.
use Rattle.std.proofs.Common.{map, ◌≡◌, ℕ, zero, suc, ◌+◌, ◌*◌, ◌/◌, ◌%◌, ◌<◌, ◌≤◌, ◌==◌, if◌then◌else◌, Bool, true, false, cond, List, [], ◌∷◌}
use Rattle.std.proofs.Common.{◌++◌, IsTrue, ◌↔◌, length, get_or, set, replicate, Some, is_some, refl, sym, ap, subst, ◌∙◌, arith, inl, inr, ◌⊎◌}
use Rattle.std.specs.Prelude.{slice_get, slice_index, Option, None, IsSome, IfNone}
use Rattle.std.specs.List.{All, AllWithin}
use Rattle.std.proofs.lemmas.Bool.{cases_lt, false≢true}
use Rattle.std.proofs.Math.Seq.{get_or-append_seam}
use Rattle.std.proofs.lemmas.List.{get_or_past, get_or_append_left, map-set, map_push, length-map, length-replicate, nil_from_length}
use Rattle.std.proofs.lemmas.List.Elements.{All-head, All-tail}
use Rattle.std.proofs.lemmas.Bool.Decides.{nat_tests}
use Rattle.slab_layer.specs.declared.place.Place.{Place}
use Rattle.slab_layer.specs.declared.place.Place.TheVariants.{Home, Out}
use Rattle.slab_layer.specs.Stacks.{times, HasSame, selected}
use Rattle.slab_layer.specs.Slots.{Pages, place_of, IsOut, Has, has_home, outs_in, out_count, AddsPage, RemovesPage}
use Rattle.slab_layer.specs.PartialStack.{IsPartialStack}
use Rattle.slab_layer.specs.declared.kind.Kind.{Ghosts}
use Rattle.slab_layer.specs.declared.slab.Slab.{Slab}
use Rattle.slab_layer.specs.SlabTable.{places_of, page_of, pages_in, IsSlabTable, IsBusy}
use Rattle.slab_layer.proofs.Selecting.{times-cons}
use Rattle.slab_layer.proofs.Changes.{places_read, partial_after, stack-more, stack-less, number_is, outs_in-home, outs_in-homes, has_home-homes}
use Rattle.slab_layer.proofs.Changes.{added, removed}

first_place : (pages : Pages) (p : ℕ) → place_of pages (p * 256) ≡ slice_get (get_or pages p []) 0
first_place pages p =
    let q : p * 256 / 256 ≡ p = omega arith in
    let r : p * 256 % 256 ≡ 0 = omega arith in
    ap (λ k. slice_get (get_or pages k []) (p * 256 % 256)) q ∙ ap (λ k. slice_get (get_or pages p []) k) r

first_some : (ps : List Place) → 0 < length ps → is_some (slice_get ps 0) ≡ true
first_some [] some = absurd (omega arith)
first_some (p ∷ ps) some = refl

some_first : (ps : List Place) → is_some (slice_get ps 0) ≡ true → 0 < length ps
some_first [] e = absurd (false≢true e)
some_first (p ∷ ps) e = omega arith

-- a page is had where it has slots
pub has_from : (pages : Pages) (p : ℕ) → 0 < length (get_or pages p []) → Has pages p
has_from pages p some = ap is_some (first_place pages p) ∙ first_some (get_or pages p []) some

pub from_has : (pages : Pages) (p : ℕ) → Has pages p → 0 < length (get_or pages p [])
from_has pages p has = some_first (get_or pages p []) (sym (ap is_some (first_place pages p)) ∙ has)

pub not_had : (pages : Pages) (p : ℕ) → (Has pages p → ⊥) → get_or pages p [] ≡ []
not_had pages p none = elim (cases_lt 0 (length (get_or pages p []))) [
  | inl some ↦ absurd (none (has_from pages p some))
  | inr empty ↦ nil_from_length (get_or pages p []) (omega arith)
]

pub has_within : (pages : Pages) (p : ℕ) → Has pages p → p < length pages
has_within pages p has = elim (cases_lt p (length pages)) [
  | inl within ↦ within
  | inr past ↦ let some = from_has pages p has in let e = ap length (get_or_past pages p [] past) in absurd (omega arith)
]

-- a span that is there isn't None
pub never_none : {X : Type 0} (P : Type 0) (r : Option X) → IsSome r → IfNone r P
never_none P None some = absurd (false≢true some)
never_none P (Some x) some = tt

-- a table of pages that aren't had
selected-vacant : (pages : Pages) (from : ℕ) → ((p : ℕ) → get_or pages p [] ≡ []) → selected has_home from pages ≡ []
selected-vacant [] from none = refl
selected-vacant (qs ∷ qss) from none = rw (none 0) (selected-vacant qss (suc from) (λ p. none (suc p)))

count-vacant : (pages : Pages) → ((p : ℕ) → get_or pages p [] ≡ []) → out_count pages ≡ 0
count-vacant [] none = refl
count-vacant (qs ∷ qss) none = let e = ap outs_in (none 0) in omega (arith, count-vacant qss (λ p. none (suc p)))

pub vacant_more : {K : Type 0} {k : Ghosts K} (xs : List (Slab K k)) (x : Slab K k) → ((p : ℕ) → get_or (pages_in xs) p [] ≡ [])
    → places_of x ≡ [] → (p : ℕ) → get_or (pages_in (xs ++ x ∷ [])) p [] ≡ []
vacant_more [] x none is zero = is
vacant_more [] x none is (suc p) = refl
vacant_more (y ∷ ys) x none is zero = none 0
vacant_more (y ∷ ys) x none is (suc p) = vacant_more ys x (λ q. none (suc q)) is p

pub numbered_more : {K : Type 0} {k : Ghosts K} (xs : List (Slab K k)) (x : Slab K k) (n : ℕ) → length xs ≡ n
    → ((p : ℕ) → p < n → slice_index (map page_of xs) p ≡ p) → page_of x ≡ n → (p : ℕ) → p < n + 1
    → slice_index (map page_of (xs ++ x ∷ [])) p ≡ p
numbered_more xs x n len each is p within =
    let push = ap (λ ns. slice_index ns p) (map_push page_of xs x) in
    let long = length-map xs page_of in
    elim (cases_lt p n) [
      | inl low ↦ push ∙ (get_or_append_left (map page_of xs) (page_of x ∷ []) 0 p (omega arith) ∙ each p low)
      | inr high ↦
          let last : p ≡ length (map page_of xs) = omega arith in
          let here : n ≡ p = omega arith in
          push ∙ (ap (λ k. slice_index (map page_of xs ++ page_of x ∷ []) k) last ∙ (get_or-append_seam (map page_of xs) (page_of x) [] 0 ∙ (is ∙ here)))
    ]

pub partial_filled : (olds pages : Pages) (numbers noted partial : List ℕ) (out : ℕ) → length olds ≡ 0
    → IsPartialStack olds numbers partial out → length pages ≡ 256 → ((p : ℕ) → get_or pages p [] ≡ [])
    → ((p : ℕ) → p < 256 → slice_index noted p ≡ p) → IsPartialStack pages noted partial out
partial_filled olds pages numbers noted partial out none stack all vacant numbered =
    let e : olds ≡ [] = nil_from_length olds none in
    let old : HasSame partial [] = subst (λ (ps : Pages). HasSame partial (selected has_home 0 ps)) e stack.stacked in
    let f = ap out_count e in
    record {
      sized = inr all;
      small = λ p. let g = ap length (vacant p) in omega arith;
      numbered = λ p within. numbered p (omega arith);
      stacked = subst (λ (ns : List ℕ). HasSame partial ns) (sym (selected-vacant pages 0 vacant)) old;
      counted = omega (arith, stack.counted, count-vacant pages vacant);
    }

-- a number whose element passes is selected
pub selected_times : {A : Type 0} (test : A → Bool) (xs : List A) (from i n : ℕ) (d : A) → n ≡ from + i → i < length xs
    → test (get_or xs i d) ≡ true → 0 < times n (selected test from xs)
selected_times test [] from i n d is within pass = absurd (omega arith)
selected_times test (x ∷ xs) from zero n d is within pass = rw pass (counted (omega arith))
  where
    counted : from ≡ n → 0 < times n (from ∷ selected test (suc from) xs)
    counted e = let more = times-cons n from (selected test (suc from) xs) in grind (arith, nat_tests)
selected_times test (x ∷ xs) from (suc i) n d is within pass = later (test x) (selected_times test xs (suc from) i n d (omega arith) (omega arith) pass)
  where
    later : (b : Bool) → 0 < times n (selected test (suc from) xs) → 0 < times n (cond b (from ∷ selected test (suc from) xs) (selected test (suc from) xs))
    later true h = omega (arith, times-cons n from (selected test (suc from) xs))
    later false h = h

idle_home : (ps : List Place) → 0 < length ps → outs_in ps ≡ 0 → has_home ps ≡ true
idle_home [] some idle = absurd (omega arith)
idle_home (Home ∷ ps) some idle = refl
idle_home (Out ∷ ps) some idle = absurd (omega arith)

pub no_out : (ps : List Place) (i : ℕ) → outs_in ps ≡ 0 → slice_get ps i ≡ Some Out → ⊥
no_out ps i idle out = let e = outs_in-home ps i out in omega arith

out_exists : (ps : List Place) → 0 < outs_in ps → (i : ℕ) × (i < length ps) × (slice_get ps i ≡ Some Out)
out_exists [] some = absurd (omega arith)
out_exists (Out ∷ ps) some = (0, omega arith, refl)
out_exists (Home ∷ ps) some = let rest = out_exists ps some in (suc rest.0, omega (arith, rest.1), rest.2)

-- the table has all pages, those that it had before and the one to come, which isn't had yet
pub record IsFilled {K : Type 0} {k : Ghosts K} (olds xs : List (Slab K k)) (partial : List ℕ) (out at : ℕ) : Type 0 where
  pub stack : IsSlabTable xs partial out
  pub all : length xs ≡ 256
  pub within : at < length xs
  pub same : (p : ℕ) → get_or (pages_in xs) p [] ≡ get_or (pages_in olds) p []
  pub vacant : get_or (pages_in xs) at [] ≡ []

-- the slab at a place has its page, and all objects are home
pub record IsIdleAt {K : Type 0} {k : Ghosts K} (xs : List (Slab K k)) (at : ℕ) : Type 0 where
  pub within : at < length xs
  pub had : 0 < length (get_or (pages_in xs) at [])
  pub idle : outs_in (get_or (pages_in xs) at []) ≡ 0

module _ {K : Type 0} {k : Ghosts K} where
  -- a page is grown
  pub partial_grown : (xs : List (Slab K k)) (at n out : ℕ) (old new : Slab K k) (partial : List ℕ) → IsSlabTable xs partial out
      → at < length xs → old ≡ get_or xs at old → get_or (pages_in xs) at [] ≡ [] → page_of new ≡ at
      → places_of new ≡ replicate n Home → 0 < n → n ≤ 256
      → IsSlabTable (set xs at new) (partial ++ at ∷ []) out × (length partial < length xs)
  partial_grown xs at n out old new partial stack within read vacant noted is some few =
      let inside : at < length (pages_in xs) = omega (arith, length-map xs places_of) in
      let none : places_of old ≡ [] = sym (places_read xs at old within read) ∙ vacant in
      let now : has_home (places_of new) ≡ true = ap has_home is ∙ has_home-homes n some in
      let was : has_home (get_or (pages_in xs) at []) ≡ false = ap has_home vacant in
      let more = stack-more (pages_in xs) partial at (places_of new) stack.stacked inside now was in
      let short : length (places_of new) ≤ 256 = let e = ap length is ∙ length-replicate n Home in omega arith in
      let count : out + outs_in (places_of old) ≡ out + outs_in (places_of new) =
      let e = ap outs_in none in let f = ap outs_in is ∙ outs_in-homes n in omega arith in
      (partial_after xs at old new partial (partial ++ at ∷ []) out out stack within read (noted ∙ sym (number_is xs at out partial old stack within read)) short more.0 count, omega (arith, more.1, length-map xs places_of))

  pub grown : (xs : List (Slab K k)) (olds : Pages) (at n : ℕ) (new : Slab K k) → at < length xs
      → ((k : ℕ) → get_or (pages_in xs) k [] ≡ get_or olds k []) → places_of new ≡ replicate n Home → n ≤ 256
      → AddsPage olds (pages_in (set xs at new)) at n
  grown xs olds at n new within same is few =
      let inside : at < length (pages_in xs) = omega (arith, length-map xs places_of) in
      rw (map-set places_of xs at new, is) (added (pages_in xs) olds at n few inside same)

  -- a place in the table is a page's number
  pub low_place : (xs : List (Slab K k)) (at n out : ℕ) (partial : List ℕ) → IsSlabTable xs partial out → length xs ≡ n → at < n → at < 256
  low_place xs at n out partial stack is within =
      elim stack.sized [ inl none ↦ absurd (omega (arith, length-map xs places_of)) | inr all ↦ omega (arith, length-map xs places_of) ]

  -- a page is reaped
  pub on_stack : (xs : List (Slab K k)) (at out : ℕ) (partial : List ℕ) → IsSlabTable xs partial out → IsIdleAt xs at → 0 < times at partial
  on_stack xs at out partial stack i =
      let record { within = within; had = had; idle = idle } = i in
      let inside : at < length (pages_in xs) = omega (arith, length-map xs places_of) in
      let there = selected_times has_home (pages_in xs) 0 at at [] (omega arith) inside (idle_home (get_or (pages_in xs) at []) had idle) in
      omega (arith, stack.stacked.each at)

  pub partial_reaped : (xs : List (Slab K k)) (at out : ℕ) (old new : Slab K k) (partial after : List ℕ)
      → IsSlabTable xs partial out → IsIdleAt xs at → old ≡ get_or xs at old → page_of new ≡ at → places_of new ≡ []
      → length after + 1 ≡ length partial → ((x : ℕ) → times x after + (if at == x then 1 else 0) ≡ times x partial)
      → IsSlabTable (set xs at new) after out
  partial_reaped xs at out old new partial after stack i read noted is count each =
      let record { within = within; had = had; idle = idle } = i in
      let inside : at < length (pages_in xs) = omega (arith, length-map xs places_of) in
      let was = idle_home (get_or (pages_in xs) at []) had idle in
      let less = stack-less (pages_in xs) partial after at (places_of new) stack.stacked inside (ap has_home is) was count each in
      let short : length (places_of new) ≤ 256 = let e = ap length is in omega arith in
      let reads = ap outs_in (places_read xs at old within read) in
      let balance : out + outs_in (places_of old) ≡ out + outs_in (places_of new) = let e = ap outs_in is in omega arith in
      partial_after xs at old new partial after out out stack within read (noted ∙ sym (number_is xs at out partial old stack within read)) short less balance

  pub reaped : (xs : List (Slab K k)) (at : ℕ) (new : Slab K k) → at < length xs → places_of new ≡ [] → RemovesPage (pages_in xs) (pages_in (set xs at new)) at
  reaped xs at new within is =
      let inside : at < length (pages_in xs) = omega (arith, length-map xs places_of) in
      rw (map-set places_of xs at new, is) (removed (pages_in xs) at inside)

  pub idle_page : (xs : List (Slab K k)) (at slot : ℕ) → IsIdleAt xs at → slot / 256 ≡ at → IsOut (pages_in xs) slot → ⊥
  idle_page xs at slot i here out =
      no_out (get_or (pages_in xs) at []) (slot % 256) i.idle (sym (ap (λ k. slice_get (get_or (pages_in xs) k []) (slot % 256)) here) ∙ out)

  busy_at : (xs : List (Slab K k)) (k : ℕ) → All IsBusy xs → k < length xs → 0 < length (get_or (pages_in xs) k []) → 0 < outs_in (get_or (pages_in xs) k [])
  busy_at [] k busy within had = absurd (omega arith)
  busy_at (x ∷ xs) zero busy within had = All-head IsBusy x xs busy had
  busy_at (x ∷ xs) (suc k) busy within had = busy_at xs k (All-tail IsBusy x xs busy) (omega arith) had

  busy_before : (xs : List (Slab K k)) (at k : ℕ) → AllWithin IsBusy xs 0 at → k < at → k < length xs
      → 0 < length (get_or (pages_in xs) k []) → 0 < outs_in (get_or (pages_in xs) k [])
  busy_before [] at k busy before within had = absurd (omega arith)
  busy_before (x ∷ xs) zero k busy before within had = absurd (omega arith)
  busy_before (x ∷ xs) (suc at) zero busy before within had = busy 0 x (omega arith) (omega arith) had
  busy_before (x ∷ xs) (suc at) (suc k) busy before within had =
      busy_before xs at k (λ j d low below. busy (suc j) d (omega arith) (omega arith)) (omega arith) (omega arith) had

  had_within : (xs : List (Slab K k)) (page : ℕ) → Has (pages_in xs) page → page < length xs
  had_within xs page has = omega (arith, has_within (pages_in xs) page has, length-map xs places_of)

  -- a page with an object that is out has a slot that is out
  out_slot : (xs : List (Slab K k)) (numbers partial : List ℕ) (out page : ℕ) → IsPartialStack (pages_in xs) numbers partial out
      → 0 < outs_in (get_or (pages_in xs) page []) → (slot : ℕ) × (slot / 256 ≡ page) × IsOut (pages_in xs) slot
  out_slot xs numbers partial out page stack some = found (get_or (pages_in xs) page []) refl
    where
      found : (ps : List Place) → get_or (pages_in xs) page [] ≡ ps → (slot : ℕ) × (slot / 256 ≡ page) × IsOut (pages_in xs) slot
      found ps is =
          let at = out_exists ps (subst (λ (qs : List Place). 0 < outs_in qs) is some) in
          let few : length ps ≤ 256 = subst (λ (qs : List Place). length qs ≤ 256) is (stack.small page) in
          let here : (page * 256 + at.0) / 256 ≡ page = omega (arith, at.1) in
          let index : (page * 256 + at.0) % 256 ≡ at.0 = omega (arith, at.1) in
          (page * 256 + at.0, here, ap (λ k. slice_get (get_or (pages_in xs) k []) ((page * 256 + at.0) % 256)) here ∙ (ap (λ qs. slice_get qs ((page * 256 + at.0) % 256)) is ∙ (ap (λ k. slice_get ps k) index ∙ at.2)))

  -- where no page is idle, each has a slot that is out
  pub busy_page : (xs : List (Slab K k)) (numbers partial : List ℕ) (out page : ℕ)
      → IsPartialStack (pages_in xs) numbers partial out → All IsBusy xs → Has (pages_in xs) page
      → (slot : ℕ) × (slot / 256 ≡ page) × IsOut (pages_in xs) slot
  busy_page xs numbers partial out page stack busy has =
      out_slot xs numbers partial out page stack (busy_at xs page busy (had_within xs page has) (from_has (pages_in xs) page has))

  -- where no page below one is idle, each of those has a slot that is out
  pub busy_below : (xs : List (Slab K k)) (numbers partial : List ℕ) (out at page : ℕ)
      → IsPartialStack (pages_in xs) numbers partial out → AllWithin IsBusy xs 0 at → page < at → Has (pages_in xs) page
      → (slot : ℕ) × (slot / 256 ≡ page) × IsOut (pages_in xs) slot
  busy_below xs numbers partial out at page stack busy before has =
      out_slot xs numbers partial out page stack (busy_before xs at page busy before (had_within xs page has) (from_has (pages_in xs) page has))

-- a table that was filled and one with other room have the places that they had
pub grown_same : {K : Type 0} {k : Ghosts K} (xs ys zs : List (Slab K k))
    → ((p : ℕ) → get_or (pages_in xs) p [] ≡ get_or (pages_in ys) p []) → ys ≡ zs → (p : ℕ)
    → get_or (pages_in xs) p [] ≡ get_or (pages_in zs) p []
grown_same xs ys zs filled same p = filled p ∙ ap (λ ws. get_or (pages_in ws) p []) same

-- room for all pages
pub room_for_all : (m len cap before : ℕ) → (m ≡ 0) ⊎ (m ≡ 256) → m ≡ len → (len ≡ 0 → 256 ≤ cap) → len ≤ before → before ≤ cap → 256 ≤ cap
room_for_all m len cap before (inl none) same fresh kept grew = fresh (omega arith)
room_for_all m len cap before (inr all) same fresh kept grew = omega arith

-- a page is had where its slab has slots
pub has_here : {K : Type 0} {k : Ghosts K} (xs : List (Slab K k)) (at : ℕ) (x : Slab K k) (b : Bool) → at < length xs
    → x ≡ get_or xs at x → IsTrue b ↔ (0 < length (places_of x)) → IsTrue b ↔ Has (pages_in xs) at
has_here xs at x b within read is =
    let e : length (get_or (pages_in xs) at []) ≡ length (places_of x) = ap length (places_read xs at x within read) in
    ((λ t. has_from (pages_in xs) at (let some = is.0 t in omega arith)), (λ h. is.1 (let some = from_has (pages_in xs) at h in omega arith)))
