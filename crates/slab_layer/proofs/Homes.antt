-- The stack of a slab and its table: what taking an object and giving one back keep of the two.
use Rattle.std.proofs.Common.{◌≡◌, ℕ, suc, ◌+◌, ◌*◌, ◌/◌, ◌%◌, ◌<◌, ◌≤◌, ◌==◌, not, nat_lt, nat_eq, IsTrue, if◌then◌else◌, Bool, true, false, List}
use Rattle.std.proofs.Common.{[], ◌∷◌, ◌++◌, length, get_or, set, Some, refl, sym, ap, subst, ◌∙◌, arith, inl, inr, ◌↔◌}
use Rattle.std.specs.Prelude.{slice_get}
use Rattle.std.proofs.lemmas.Bool.{false≢true}
use Rattle.std.proofs.lemmas.Bool.Decides.{nat_tests}
use Rattle.std.proofs.lemmas.List.{length_push, length-set}
use Rattle.std.proofs.lemmas.Option.{slice_get-get_or, slice_get_within, get_or_from_slice_get}
use Rattle.slab_layer.specs.declared.place.Place.{Place}
use Rattle.slab_layer.specs.declared.place.Place.TheVariants.{Home, Out}
use Rattle.slab_layer.specs.Kinds.{Row, IsRow}
use Rattle.slab_layer.specs.Stacks.{times, HasSame, selected}
use Rattle.slab_layer.specs.Slots.{is_home, has_home, outs_in}
use Rattle.slab_layer.proofs.Selecting.{hit, one, times-selected-set, length-selected-set, length-selected-le, selected-push, found, popped_each, popped_here}

home_from_test : (p : Place) → is_home p ≡ true → p ≡ Home
home_from_test Home e = refl
home_from_test Out e = absurd (false≢true e)

-- what a slab's pop leaves
pub record IsTaken (rest : List ℕ) (s page : ℕ) (places : List Place) : Type 0 where
  pub here : s / 256 ≡ page
  pub within : s % 256 < length places
  pub was_home : slice_get places (s % 256) ≡ Some Home
  pub stacked : HasSame rest (selected is_home (page * 256) (set places (s % 256) Out))

taken_at : (slots rest : List ℕ) (s page i j : ℕ) (places : List Place) → slots ≡ rest ++ s ∷ []
    → HasSame slots (selected is_home (page * 256) places) → i < length places → s ≡ page * 256 + i → i ≡ j
    → is_home (get_or places i Home) ≡ true
    → (slice_get places j ≡ Some Home) × HasSame rest (selected is_home (page * 256) (set places j Out))
taken_at slots rest s page i j places popped same within is at pass = subst P at (slice_get-get_or places i Home within ∙ ap (λ (p : Place). Some p) (home_from_test (get_or places i Home) pass), record { count = short; each = each })
  where
    P : ℕ → Type 0
    P k = (slice_get places k ≡ Some Home) × HasSame rest (selected is_home (page * 256) (set places k Out))

    short : length rest ≡ length (selected is_home (page * 256) (set places i Out))
    short =
        let e = length-selected-set is_home places (page * 256) i Out Home within in
        let f : length slots ≡ length rest + 1 = ap length popped ∙ length_push rest s in
        let g = same.count in
        let h : one (is_home (get_or places i Home)) ≡ 1 = rw pass refl in
        omega arith

    each : (x : ℕ) → times x rest ≡ times x (selected is_home (page * 256) (set places i Out))
    each x =
        let e = times-selected-set is_home places (page * 256) i s x Out Home is within in
        let f : times x slots ≡ times x rest + (if s == x then 1 else 0) = ap (times x) popped ∙ popped_each rest s x in
        let g = same.each x in
        let h : hit (is_home (get_or places i Home)) s x ≡ (if s == x then 1 else 0) = rw pass refl in
        omega arith

pub taken : (slots rest : List ℕ) (s page : ℕ) (places : List Place) → slots ≡ rest ++ s ∷ []
    → HasSame slots (selected is_home (page * 256) places) → length places ≤ 256 → IsTaken rest s page places
taken slots rest s page places popped same few =
    let some : 0 < times s slots = rw popped (popped_here rest s) in
    let more = same.each s in
    let at = found is_home places (page * 256) s (omega arith) in
    let index : at.0 ≡ s % 256 = omega (arith, at.1, at.2) in
    let both = taken_at slots rest s page at.0 (s % 256) places popped same at.1 at.2 index (at.3 Home) in
    record { here = omega (arith, at.1, at.2); within = omega (arith, at.1); was_home = both.0; stacked = both.1 }

-- what a slab's push leaves
pub given : (slots : List ℕ) (s page : ℕ) (places : List Place) → HasSame slots (selected is_home (page * 256) places)
    → s / 256 ≡ page → slice_get places (s % 256) ≡ Some Out
    → HasSame (slots ++ s ∷ []) (selected is_home (page * 256) (set places (s % 256) Home)) × (length slots < length places)
given slots s page places same at out = (record { count = longer; each = each }, room)
  where
    within : s % 256 < length places
    within = slice_get_within places (s % 256) Out out

    fail : is_home (get_or places (s % 256) Out) ≡ false
    fail = rw (get_or_from_slice_get places (s % 256) Out Out out) refl

    is : s ≡ page * 256 + s % 256
    is = omega arith

    longer : length (slots ++ s ∷ []) ≡ length (selected is_home (page * 256) (set places (s % 256) Home))
    longer =
        let e = length-selected-set is_home places (page * 256) (s % 256) Home Out within in
        let f = length_push slots s in
        let g = same.count in
        let h : one (is_home (get_or places (s % 256) Out)) ≡ 0 = rw fail refl in
        omega arith

    each : (x : ℕ) → times x (slots ++ s ∷ []) ≡ times x (selected is_home (page * 256) (set places (s % 256) Home))
    each x =
        let e = times-selected-set is_home places (page * 256) (s % 256) s x Home Out is within in
        let f = popped_each slots s x in
        let g = same.each x in
        let h : hit (is_home (get_or places (s % 256) Out)) s x ≡ 0 = rw fail refl in
        omega arith

    room : length slots < length places
    room =
        let e = length-selected-le is_home (set places (s % 256) Home) (page * 256) in
        let f = length-set places (s % 256) Home in
        let g = length_push slots s in
        let h = longer in
        omega arith

-- one more object, home
pub pushed : (slots : List ℕ) (from n : ℕ) (places : List Place) → HasSame slots (selected is_home from places)
    → n ≡ from + length places → HasSame (slots ++ n ∷ []) (selected is_home from (places ++ Home ∷ []))
pushed slots from n places same is =
    let e : selected is_home from (places ++ Home ∷ []) ≡ selected is_home from places ++ n ∷ [] = selected-push is_home places from n Home is in
    record {
      count = let g = same.count in let f = length_push slots n in let h = ap length e ∙ length_push (selected is_home from places) n in omega arith;
      each =
          λ x. let g = same.each x in let f = popped_each slots n x in let h = ap (times x) e ∙ popped_each (selected is_home from places) n x in omega arith;
    }

-- the table has a home where the stack has an object
has_home-selected : (places : List Place) (from : ℕ) → has_home places ≡ nat_lt 0 (length (selected is_home from places))
has_home-selected [] from = refl
has_home-selected (Home ∷ ps) from = lt_suc (length (selected is_home (suc from) ps))
  where
    lt_suc : (n : ℕ) → true ≡ nat_lt 0 (suc n)
    lt_suc n = grind (arith, nat_tests)
has_home-selected (Out ∷ ps) from = has_home-selected ps (suc from)

pub has_home-stacked : (slots : List ℕ) (from : ℕ) (places : List Place) → HasSame slots (selected is_home from places)
    → not (length slots == 0) ≡ has_home places
has_home-stacked slots from places same = sym (has_home-selected places from ∙ tested (length (selected is_home from places)) (length slots) same.count)
  where
    tested : (m n : ℕ) → n ≡ m → nat_lt 0 m ≡ not (n == 0)
    tested m n e = grind (arith, nat_tests)

pub has_home_by : (b : Bool) (n : ℕ) (slots : List ℕ) (from : ℕ) (places : List Place) → b ≡ (n == 0) → n ≡ length slots
    → HasSame slots (selected is_home from places) → not b ≡ has_home places
has_home_by b n slots from places is len same = ap not (is ∙ ap (λ m. m == 0) len) ∙ has_home-stacked slots from places same

-- an empty stack belongs to a table with no home
pub none_home : (n : ℕ) (slots : List ℕ) (from : ℕ) (places : List Place) → n ≡ 0 → n ≡ length slots
    → HasSame slots (selected is_home from places) → has_home places ≡ true → ⊥
none_home n slots from places empty len same some =
    let none : length (selected is_home from places) ≡ 0 = omega (arith, same.count) in
    false≢true (sym (ap (λ m. nat_lt 0 m) none) ∙ (sym (has_home-selected places from) ∙ some))

-- homes and outs are all there is
pub homes_outs : (places : List Place) (from : ℕ) → length (selected is_home from places) + outs_in places ≡ length places
homes_outs [] from = omega arith
homes_outs (Home ∷ ps) from = omega (arith, homes_outs ps (suc from))
homes_outs (Out ∷ ps) from = omega (arith, homes_outs ps (suc from))

-- a slab is idle where its stack is as high as its table
pub idle : (h p : ℕ) (slots : List ℕ) (from : ℕ) (places : List Place) → h ≡ length slots → p ≡ length places
    → HasSame slots (selected is_home from places) → (h ≡ p) ↔ (outs_in places ≡ 0)
idle h p slots from places hs ps same =
    let e = homes_outs places from in
    let f = same.count in
    ((λ x. omega arith), (λ x. omega arith))

pub idle_by : (h p : ℕ) (slots : List ℕ) (from : ℕ) (places : List Place) → h ≡ length slots → p ≡ length places → (p == 0) ≡ false
    → HasSame slots (selected is_home from places)
    → (IsTrue (nat_eq h p) → (0 < length places) × (outs_in places ≡ 0)) × ((0 < length places) × (outs_in places ≡ 0) → IsTrue (nat_eq h p))
idle_by h p slots from places hs ps some same =
    let e = idle h p slots from places hs ps same in
    let there : 0 < p = grind (arith, nat_tests) in
    ((λ t. (omega arith, e.0 (from_test h p t))), (λ (both : (0 < length places) × (outs_in places ≡ 0)). to_test h p (e.1 both.1)))
  where
    from_test : (a b : ℕ) → IsTrue (nat_eq a b) → a ≡ b
    from_test a b t = grind (arith, nat_tests)

    to_test : (a b : ℕ) → a ≡ b → IsTrue (nat_eq a b)
    to_test a b e = grind (arith, nat_tests)

-- a page has an object at least, and no more than an index can tell apart
pub row_objects : (r : Row) → IsRow r → (0 < r.objects) × (r.objects ≤ 256)
row_objects r (inl is) = let e = ap (λ (q : Row). q.objects) is in (omega arith, omega arith)
row_objects r (inr (inl is)) = let e = ap (λ (q : Row). q.objects) is in (omega arith, omega arith)
row_objects r (inr (inr is)) = let e = ap (λ (q : Row). q.objects) is in (omega arith, omega arith)

pub few_places : (r : Row) (b : Bool) (n : ℕ) → IsRow r → n ≡ (if b then r.objects else 0) → n ≤ 256
few_places r true n row is = omega (arith, row_objects r row)
few_places r false n row is = omega arith
