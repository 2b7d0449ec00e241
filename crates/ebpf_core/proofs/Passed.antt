-- Where each slot is after any instruction of a run that is kept: what passes over a shelf, too.
use Rattle.std.proofs.Common.{◌≡◌, ◌≢◌, ◌⊎◌, inl, inr, ℕ, zero, suc, Bool, true, false, cond, not, List, ◌++◌, Option, Some, None, refl, sym, ap}
use Rattle.std.proofs.Common.{◌∙◌, subst, arith}
use Rattle.std.specs.Prelude.{slice_get, Contains, ◌==◌, IfSome, IsSome}
use Rattle.std.specs.Option.{option_and_then}
use Rattle.std.proofs.lemmas.Bool.{eq-eqb, ne_eqb, not-true, cases_eq}
use Rattle.std.proofs.lemmas.List.Elements.{Contains-append_left, Contains-push, Contains-append_cases}
use Rattle.ebpf_machine.specs.World.{Name, World, name_of}
use Rattle.ebpf_machine.specs.RunState.{RunState}
use Rattle.ebpf_machine.specs.Advance.{slots_without}
use Rattle.ebpf_machine.specs.Step.{asking_in, reached}
use Rattle.ebpf_machine.proofs.Lists.ListLemmas.{Contains-filter, get_set_same}
use Rattle.ebpf_machine.proofs.Lists.Mapped.{Contains-kept}
use Rattle.ebpf_machine.specs.declared.answer.Answer.{Answer}
use Rattle.ebpf_shelves.specs.declared.object.Object.{Object}
use Rattle.ebpf_core.specs.declared.place.Place.{Place}
use Rattle.ebpf_core.specs.declared.place.Place.TheVariants.{Held, Shelved}
use Rattle.ebpf_shelves.specs.Shelves.{slot_on}
use Rattle.ebpf_core.specs.Places.{Places, place_at, place_lent, place_returned, is_slot, place_exchanged}
use Rattle.ebpf_core.specs.Shown.{WorldState, Shows, ArePlaced, IsPlaced, run_seen, slots_of}
use Rattle.ebpf_core.proofs.Executing.{IsInstruction}
use Rattle.ebpf_core.proofs.Exchanging.{IsExchange, Stays, Lends, Frees, Swaps, LeavesShelves, PassesShelf, call_of, slot_of, got_by, exchange}
use Rattle.ebpf_core.proofs.Moving.{stepped_to, moved, run_after, reached_slot, IsMoved, one_a_call, stays_placed, lends_placed, frees_placed}
use Rattle.ebpf_core.proofs.Runs.{is_number}

-- ---- a slot, or none

is_it : (o : Option ℕ) (q : ℕ) → o ≡ Some q → is_slot o q ≡ true
is_it o q is = ap (λ (x : Option ℕ). is_slot x q) is ∙ eq-eqb q q refl

is_not : (o : Option ℕ) (q : ℕ) → o ≢ Some q → is_slot o q ≡ false
is_not None q ne = refl
is_not (Some s) q ne = ne_eqb q s (λ same. ne (ap Some (sym same)))

not_both : (shelf run at : ℕ) → Some (Shelved shelf) ≡ Some (Held run at) → ⊥
not_both shelf run at e = cc

-- ---- what a run has once a slot passed to it, and one from it

kept_without : (given : Option Name) (names : List Name) (n : Name) → Contains names n
    → ((g : Name) → given ≡ Some g → n.call ≢ g.call) → Contains (slots_without (call_of given) names) n
kept_without None names n among ne = among
kept_without (Some g) names n among ne = Contains-kept (λ (m : Name). not (m.call == g.call)) names n among (ap not (ne_eqb n.call g.call (ne g refl)))

was_without : (given : Option Name) (names : List Name) (n : Name) → Contains (slots_without (call_of given) names) n → Contains names n
was_without None names n among = among
was_without (Some g) names n among = (Contains-filter (λ (m : Name). not (m.call == g.call)) names n among).0

not_given : (given : Option Name) (names : List Name) (n g : Name) → given ≡ Some g → Contains (slots_without (call_of given) names) n → n.call ≢ g.call
not_given given names n g is among same =
    let left =
    Contains-filter (λ (m : Name). not (m.call == g.call)) names n (subst (λ (o : Option Name). Contains (slots_without (call_of o) names) n) is among) in
    let equal = eq-eqb n.call g.call same in
    let unequal = not-true (n.call == g.call) left.1 in
    absurd (cc)

-- ---- what passes over a shelf

module _ (w : World) (kept : WorldState) (k : ℕ) (answer : Answer) (r t : RunState Object) (freed : Option Object) (after : List (Option Object))
    (lent back now : Places) (shelf : ℕ) (given : Option Name)
    (shows : Shows w kept) (i : IsInstruction kept k answer r t freed) (m : IsMoved kept k answer r freed after lent back now) (none : freed ≡ None)
    (stays : (run at q : ℕ) → place_lent answer run at kept.places q ≡ place_at kept.places q) (passes : PassesShelf kept r t after shelf given) where
  before : (q : ℕ) → place_at back q ≡ place_at kept.places q
  before q = m.back_are q ∙ ap (λ (f : Option Object). place_returned f lent q) none ∙ m.lent_are q ∙ stays k r.pc q

  at_shelf : (shelves : List (Option Object)) → reached_slot shelves r ≡ slot_on shelves shelf
  at_shelf shelves = ap (option_and_then (slot_on shelves)) passes.reached_is

  now_is : (q : ℕ)
      → place_at now q ≡ cond (is_slot (slot_of given) q) (Some (Shelved shelf))
      (cond (is_slot (slot_on kept.shelves shelf) q) (Some (Held k r.pc)) (place_at kept.places q))
  now_is q =
      m.now_are q
      ∙ (λ j. place_exchanged (passes.reached_is j) (at_shelf kept.shelves j) ((at_shelf after ∙ passes.stands) j) k r.pc back q)
      ∙ ap (λ (p : Option Place). cond (is_slot (slot_of given) q) (Some (Shelved shelf))
      (cond (is_slot (slot_on kept.shelves shelf) q) (Some (Held k r.pc)) p)) (before q)

  -- what is given was the run's
  given_held : (g : Name) → given ≡ Some g → place_at kept.places g.slot ≡ Some (Held k g.call)
  given_held g is = i.tended.placed.held k r i.at g (subst (λ (o : Option Name). IfSome o (λ n. Contains (slots_of r) n)) is passes.own)

  given_slot : (q : ℕ) → slot_of given ≡ Some q → (g : Name) × (given ≡ Some g) × (g.slot ≡ q)
  given_slot q is = by given refl is where
    by : (o : Option Name) → given ≡ o → slot_of o ≡ Some q → (g : Name) × (given ≡ Some g) × (g.slot ≡ q)
    by None e is = absurd (cc)
    by (Some g) e is = (g, e, some_same is) where
      some_same : Some g.slot ≡ Some q → g.slot ≡ q
      some_same e = cc

  stood_there : (q : ℕ) → slot_on kept.shelves shelf ≡ Some q → place_at kept.places q ≡ Some (Shelved shelf)
  stood_there q is = i.tended.placed.shelved shelf q is

  -- so what is kept elsewhere stays where it is
  elsewhere : (q : ℕ) → slot_of given ≢ Some q → slot_on kept.shelves shelf ≢ Some q → place_at now q ≡ place_at kept.places q
  elsewhere q off not_stood =
      now_is q
      ∙ ap (λ (b : Bool). cond b (Some (Shelved shelf)) (cond (is_slot (slot_on kept.shelves shelf) q) (Some (Held k r.pc)) (place_at kept.places q)))
      (is_not (slot_of given) q off)
      ∙ ap (λ (b : Bool). cond b (Some (Held k r.pc)) (place_at kept.places q)) (is_not (slot_on kept.shelves shelf) q not_stood)

  put_there : (q : ℕ) → slot_of given ≡ Some q → place_at now q ≡ Some (Shelved shelf)
  put_there q is = now_is q ∙ ap (λ (b : Bool).
      cond b (Some (Shelved shelf)) (cond (is_slot (slot_on kept.shelves shelf) q) (Some (Held k r.pc)) (place_at kept.places q))) (is_it (slot_of given) q is)

  -- what was there is not what is given
  got_it : (q : ℕ) → slot_on kept.shelves shelf ≡ Some q → place_at now q ≡ Some (Held k r.pc)
  got_it q is =
      now_is q
      ∙ ap (λ (b : Bool). cond b (Some (Shelved shelf)) (cond (is_slot (slot_on kept.shelves shelf) q) (Some (Held k r.pc)) (place_at kept.places q)))
      (is_not (slot_of given) q apart)
      ∙ ap (λ (b : Bool). cond b (Some (Held k r.pc)) (place_at kept.places q)) (is_it (slot_on kept.shelves shelf) q is)
    where
      apart : slot_of given ≢ Some q
      apart e = let g = given_slot q e in not_both shelf k g.0.call (sym (stood_there q is) ∙ ap (place_at kept.places) (sym g.2) ∙ given_held g.0 g.1)

  -- one that is held is not what was there, and is what is given only where it is held by its call
  held_on : (run : ℕ) (n : Name) → place_at kept.places n.slot ≡ Some (Held run n.call)
      → ((g : Name) → given ≡ Some g → (run ≡ k) → n.call ≢ g.call) → place_at now n.slot ≡ Some (Held run n.call)
  held_on run n was ne = elsewhere n.slot off not_stood ∙ was where
    off : slot_of given ≢ Some n.slot
    off e =
        let g = given_slot n.slot e in
        let both : Some (Held run n.call) ≡ Some (Held k g.0.call) = sym was ∙ ap (place_at kept.places) (sym g.2) ∙ given_held g.0 g.1 in
        ne g.0 g.1 (same_run both) (same_call both)
      where
        same_run : {a b c d : ℕ} → Some (Held a b) ≡ Some (Held c d) → a ≡ c
        same_run e = cc

        same_call : {a b c d : ℕ} → Some (Held a b) ≡ Some (Held c d) → b ≡ d
        same_call e = cc

    not_stood : slot_on kept.shelves shelf ≢ Some n.slot
    not_stood e = not_both shelf run n.call (sym (stood_there n.slot e) ∙ was)

  newest : (slot : ℕ) → slot_on kept.shelves shelf ≡ Some slot → Contains (slots_of t) (name_of slot r.pc)
  newest slot is =
      subst (λ (ns : List Name). Contains ns (name_of slot r.pc))
      (sym (passes.slots_are ∙ ap (λ (o : Option ℕ). slots_without (call_of given) (slots_of r) ++ got_by o r.pc) is))
      (Contains-push (slots_without (call_of given) (slots_of r)) (name_of slot r.pc))

  each : (q : ℕ) → (slot_of given ≡ Some q) ⊎ (slot_of given ≢ Some q)
      → (slot_on kept.shelves shelf ≡ Some q) ⊎ (slot_on kept.shelves shelf ≢ Some q)
      → IsPlaced (stepped_to kept k t now after) q (place_at now q)
  each q (inl is) other = subst (IsPlaced (stepped_to kept k t now after) q) (sym (put_there q is)) (passes.stands ∙ is)
  each q (inr off) (inl is) = subst (IsPlaced (stepped_to kept k t now after) q) (sym (got_it q is)) (t, get_set_same kept.runs k r t i.at, newest q is)
  each q (inr off) (inr not_stood) = subst (IsPlaced (stepped_to kept k t now after) q) (sym (elsewhere q off not_stood))
      (moved kept k q r t now after (place_at kept.places q) i.at keeps stands (i.tended.placed.each q)) where
        keeps : (at : ℕ) → place_at kept.places q ≡ Some (Held k at) → Contains (slots_of r) (name_of q at) → Contains (slots_of t) (name_of q at)
        keeps at is among =
            subst (λ (ns : List Name). Contains ns (name_of q at)) (sym passes.slots_are)
            (Contains-append_left (slots_without (call_of given) (slots_of r)) (got_by (slot_on kept.shelves shelf) r.pc) (name_of q at)
            (kept_without given (slots_of r) (name_of q at) among other))
          where
            other : (g : Name) → given ≡ Some g → at ≢ g.call
            other g given_is same =
                let own : Contains (slots_of r) (name_of g.slot g.call) =
                subst (λ (o : Option Name). IfSome o (λ n. Contains (slots_of r) n)) given_is passes.own in
                let slot = one_a_call w kept k r g.call q g.slot shows i.at (subst (λ (a : ℕ). Contains (slots_of r) (name_of q a)) same among) own in
                off (ap slot_of given_is ∙ ap Some (sym slot))

        stands : (other : ℕ) → place_at kept.places q ≡ Some (Shelved other) → slot_on kept.shelves other ≡ Some q → slot_on after other ≡ Some q
        stands other is there = passes.others other (λ same. not_stood (sym (ap (slot_on kept.shelves) same) ∙ there)) ∙ there

  mine : (n : Name)
      → Contains (slots_without (call_of given) (slots_of r)) n ⊎ Contains (got_by (slot_on kept.shelves shelf) r.pc) n
      → place_at now n.slot ≡ Some (Held k n.call)
  mine n (inl old) = held_on k n (i.tended.placed.held k r i.at n (was_without given (slots_of r) n old)) (λ g is run. not_given given (slots_of r) n g is old)
  mine n (inr new) = by (slot_on kept.shelves shelf) refl new where
    by : (o : Option ℕ) → slot_on kept.shelves shelf ≡ o → Contains (got_by o r.pc) n → place_at now n.slot ≡ Some (Held k n.call)
    by None is (j, lt, e) = absurd (omega (arith, lt))
    by (Some slot) is (zero, lt, e) = ap (λ (x : Name). place_at now x.slot) (sym e) ∙ got_it slot is ∙ ap (λ (x : Name). Some (Held k x.call)) e
    by (Some slot) is (suc j, lt, e) = absurd (omega (arith, lt))

  held_then : (run : ℕ) (x : RunState Object) (n : Name) → Contains (slots_of x) n
      → ((run ≡ k) × (t ≡ x)) ⊎ ((run ≢ k) × (slice_get kept.runs run ≡ Some x)) → place_at now n.slot ≡ Some (Held run n.call)
  held_then run x n among (inl (same, is_t)) =
      let there = subst (λ (ns : List Name). Contains ns n) passes.slots_are (subst (λ (y : RunState Object). Contains (slots_of y) n) (sym is_t) among) in
      mine n (Contains-append_cases (slots_without (call_of given) (slots_of r)) (got_by (slot_on kept.shelves shelf) r.pc) n there)
      ∙ ap (λ (j : ℕ). Some (Held j n.call)) (sym same)
  held_then run x n among (inr (ne, there)) = held_on run n (i.tended.placed.held run x there n among) (λ g is same. absurd (ne same))

  shelved_then : (other slot : ℕ) → slot_on after other ≡ Some slot → (other ≡ shelf) ⊎ (other ≢ shelf) → place_at now slot ≡ Some (Shelved other)
  shelved_then other slot is (inl same) = put_there slot (sym passes.stands ∙ ap (slot_on after) (sym same) ∙ is) ∙ ap (λ (s : ℕ). Some (Shelved s)) (sym same)
  shelved_then other slot is (inr ne) = elsewhere slot off not_stood ∙ there where
    there : place_at kept.places slot ≡ Some (Shelved other)
    there = i.tended.placed.shelved other slot (sym (passes.others other ne) ∙ is)

    off : slot_of given ≢ Some slot
    off e = let g = given_slot slot e in not_both other k g.0.call (sym there ∙ ap (place_at kept.places) (sym g.2) ∙ given_held g.0 g.1)

    not_stood : slot_on kept.shelves shelf ≢ Some slot
    not_stood e = ne (shelf_same (sym there ∙ stood_there slot e)) where
      shelf_same : Some (Shelved other) ≡ Some (Shelved shelf) → other ≡ shelf
      shelf_same e = cc

  swaps_placed : ArePlaced (stepped_to kept k t now after)
  swaps_placed = record {
    each = λ q. each q (is_number (slot_of given) q) (is_number (slot_on kept.shelves shelf) q);
    held = λ run x there n among. held_then run x n among (run_after kept k run r t x i.at there);
    shelved = λ other slot is. shelved_then other slot is (cases_eq other shelf);
  }

-- ---- every instruction

pub placed_after : (w : World) (kept : WorldState) (k : ℕ) (answer : Answer) (r t : RunState Object) (freed : Option Object) (lent back now : Places)
    → Shows w kept → (i : IsInstruction kept k answer r t freed)
    → IsMoved kept k answer r freed i.after lent back now → ArePlaced (stepped_to kept k t now i.after)
placed_after w kept k answer r t freed lent back now shows i m = by (exchange w kept k answer r t freed shows i) where
  by : IsExchange kept k answer r t freed i.after → ArePlaced (stepped_to kept k t now i.after)
  by (Stays leaves none stays slots) = stays_placed kept k answer r t freed i.after lent back now i m leaves none stays slots
  by (Lends leaves slot o none is home slots) = lends_placed kept k answer r t freed i.after lent back now slot o i m leaves none is home slots
  by (Frees leaves o call is stays among home slots) =
      frees_placed w kept k answer r t freed i.after lent back now o call shows i m leaves is stays among home slots
  by (Swaps shelf given none stays passes) = swaps_placed w kept k answer r t freed i.after lent back now shelf given shows i m none stays passes

-- the parts, as the code has them
pub moved_by : (kept : WorldState) (k : ℕ) (answer : Answer) (r : RunState Object) (freed : Option Object) (after : List (Option Object))
    (lent back now : Places) (shelf stood stands : Option ℕ) (at : ℕ)
    → at ≡ r.pc → shelf ≡ reached (asking_in (run_seen r))
    → stood ≡ option_and_then (slot_on kept.shelves) shelf → stands ≡ option_and_then (slot_on after) shelf
    → ((q : ℕ) → place_at lent q ≡ place_lent answer k at kept.places q) → ((q : ℕ) → place_at back q ≡ place_returned freed lent q)
    → ((q : ℕ) → place_at now q ≡ place_exchanged shelf stood stands k at back q) → IsMoved kept k answer r freed after lent back now
moved_by kept k answer r freed after lent back now shelf stood stands at pc shelf_is stood_is stands_is lent_are back_are now_are = record {
  lent_are = λ q. lent_are q ∙ ap (λ (n : ℕ). place_lent answer k n kept.places q) pc;
  back_are = back_are;
  now_are = λ q. now_are q ∙ (λ j. place_exchanged (shelf_is j) ((stood_is ∙ ap (option_and_then (slot_on kept.shelves)) shelf_is) j)
      ((stands_is ∙ ap (option_and_then (slot_on after)) shelf_is) j) k (pc j) back q);
}

-- what is freed was held
pub freed_known : (w : World) (kept : WorldState) (k : ℕ) (answer : Answer) (r t : RunState Object) (freed : Option Object) (lent : Places)
    → Shows w kept → IsInstruction kept k answer r t freed
    → ((q : ℕ) → place_at lent q ≡ place_lent answer k r.pc kept.places q) → IfSome freed (λ o. IsSome (place_at lent o.slot))
freed_known w kept k answer r t freed lent shows i lent_are = by (exchange w kept k answer r t freed shows i) where
  IsKnown : Option Object → Type 0
  IsKnown f = IfSome f (λ o. IsSome (place_at lent o.slot))

  by : IsExchange kept k answer r t freed i.after → IsKnown freed
  by (Stays leaves none stays slots) = subst IsKnown (sym none) tt
  by (Lends leaves slot o none is home slots) = subst IsKnown (sym none) tt
  by (Frees leaves o call is stays among home slots) =
      subst IsKnown (sym is) (rw (lent_are o.slot ∙ stays k r.pc o.slot ∙ i.tended.placed.held k r i.at (name_of o.slot call) among) refl)
  by (Swaps shelf given none stays passes) = subst IsKnown (sym none) tt

-- and the slots that pass over a shelf have places
pub record AreThere (stood stands : Option ℕ) (back : Places) : Type 0 where
  pub stood_has : IfSome stood (λ s. IsSome (place_at back s))
  pub stands_has : IfSome stands (λ s. IsSome (place_at back s))

pub shelves_known : (w : World) (kept : WorldState) (k : ℕ) (answer : Answer) (r t : RunState Object) (freed : Option Object) (lent back : Places)
    → Shows w kept → (i : IsInstruction kept k answer r t freed)
    → ((q : ℕ) → place_at lent q ≡ place_lent answer k r.pc kept.places q)
    → ((q : ℕ) → place_at back q ≡ place_returned freed lent q)
    → AreThere (reached_slot kept.shelves r) (reached_slot i.after r) back
shelves_known w kept k answer r t freed lent back shows i lent_are back_are = by (exchange w kept k answer r t freed shows i) where
  HasPlace : Option ℕ → Type 0
  HasPlace o = IfSome o (λ s. IsSome (place_at back s))

  unreached : LeavesShelves kept r i.after → AreThere (reached_slot kept.shelves r) (reached_slot i.after r) back
  unreached leaves = record {
    stood_has = subst HasPlace (sym (ap (option_and_then (slot_on kept.shelves)) leaves.unreached)) tt;
    stands_has = subst HasPlace (sym (ap (option_and_then (slot_on i.after)) leaves.unreached)) tt;
  }

  by : IsExchange kept k answer r t freed i.after → AreThere (reached_slot kept.shelves r) (reached_slot i.after r) back
  by (Stays leaves none stays slots) = unreached leaves
  by (Lends leaves slot o none is home slots) = unreached leaves
  by (Frees leaves o call is stays among home slots) = unreached leaves
  by (Swaps shelf given none stays passes) = record {
    stood_has = subst HasPlace (sym (ap (option_and_then (slot_on kept.shelves)) passes.reached_is))
        (there (slot_on kept.shelves shelf) (λ q is. (Shelved shelf, i.tended.placed.shelved shelf q is)));
    stands_has = subst HasPlace (sym (ap (option_and_then (slot_on i.after)) passes.reached_is ∙ passes.stands)) (own given refl);
  }
    where
      before : (q : ℕ) → place_at back q ≡ place_at kept.places q
      before q = back_are q ∙ ap (λ (f : Option Object). place_returned f lent q) none ∙ lent_are q ∙ stays k r.pc q

      has : (q : ℕ) (p : Place) → place_at kept.places q ≡ Some p → IsSome (place_at back q)
      has q p is = rw (before q ∙ is) refl

      there : (o : Option ℕ) → ((q : ℕ) → o ≡ Some q → (p : Place) × (place_at kept.places q ≡ Some p)) → HasPlace o
      there None at = tt
      there (Some q) at = has q (at q refl).0 (at q refl).1

      own : (o : Option Name) → given ≡ o → HasPlace (slot_of o)
      own None is = tt
      own (Some g) is =
          has g.slot (Held k g.call) (i.tended.placed.held k r i.at g (subst (λ (x : Option Name). IfSome x (λ n. Contains (slots_of r) n)) is passes.own))

-- as the code has them
pub known_by : (before : List (Option Object)) (r : RunState Object) (after : List (Option Object)) (back : Places) (shelf stood stands : Option ℕ)
    → shelf ≡ reached (asking_in (run_seen r)) → stood ≡ option_and_then (slot_on before) shelf
    → stands ≡ option_and_then (slot_on after) shelf
    → AreThere (reached_slot before r) (reached_slot after r) back → AreThere stood stands back
known_by before r after back shelf stood stands shelf_is stood_is stands_is are =
    subst (λ (a : Option ℕ). AreThere a stands back) (sym (stood_is ∙ ap (option_and_then (slot_on before)) shelf_is))
    (subst (λ (b : Option ℕ). AreThere (reached_slot before r) b back) (sym (stands_is ∙ ap (option_and_then (slot_on after)) shelf_is)) are)
