-- Where each slot is after an instruction of a run that is kept, where it reaches no shelf.
use Rattle.std.proofs.Common.{◌≡◌, ◌≢◌, ◌⊎◌, inl, inr, ℕ, zero, suc, false, cond, not, List, [], ◌∷◌, ◌++◌, filter, Option, Some, None, refl, sym}
use Rattle.std.proofs.Common.{ap, ◌∙◌, subst, arith}
use Rattle.std.specs.Prelude.{slice_get, slice_set, Contains, ◌==◌}
use Rattle.std.specs.Option.{option_and_then}
use Rattle.std.proofs.lemmas.Bool.{eq-eqb, ne_eqb, not-true, cases_eq}
use Rattle.std.proofs.lemmas.List.Elements.{Contains-append_left, Contains-push, Contains-append_cases}
use Rattle.ebpf_machine.specs.World.{Name, World, Owner, name_of}
use Rattle.ebpf_machine.specs.RunState.{RunState}
use Rattle.ebpf_machine.specs.Step.{asking_in, reached}
use Rattle.ebpf_machine.proofs.Lists.ListLemmas.{Contains-filter, get_set_same, get_set_other}
use Rattle.ebpf_machine.proofs.Lists.Mapped.{Contains-kept}
use Rattle.ebpf_machine.proofs.World.Owners.{owner_of}
use Rattle.ebpf_machine.specs.declared.answer.Answer.{Answer}
use Rattle.ebpf_machine.specs.declared.answer.Answer.TheVariants.{Slot}
use Rattle.ebpf_shelves.specs.declared.object.Object.{Object}
use Rattle.ebpf_core.specs.declared.place.Place.{Place}
use Rattle.ebpf_core.specs.declared.place.Place.TheVariants.{Home, Held, Shelved}
use Rattle.ebpf_shelves.specs.Shelves.{slot_on}
use Rattle.ebpf_core.specs.Places.{Places, place_at, place_lent, place_returned, place_exchanged}
use Rattle.ebpf_core.specs.Shown.{WorldState, Shows, ArePlaced, IsPlaced, IsAtHome, run_seen, slots_of}
use Rattle.ebpf_core.proofs.Executing.{IsInstruction}
use Rattle.ebpf_core.proofs.Exchanging.{LeavesShelves}
use Rattle.ebpf_core.proofs.OwnedSlots.{held_owns}
use Rattle.ebpf_core.proofs.Runs.{same_number}

-- the world that is kept after it, with these places and shelves
abbrev pub stepped_to : WorldState → ℕ → RunState Object → Places → List (Option Object) → WorldState
stepped_to kept k t now after = record kept { runs = slice_set kept.runs k t; places = now; shelves = after }

-- ---- a slot that stays where it is

-- what the run holds of it, it holds still
pub moved : (kept : WorldState) (k q : ℕ) (r t : RunState Object) (now : Places) (after : List (Option Object)) (p : Option Place)
    → slice_get kept.runs k ≡ Some r
    → ((at : ℕ) → p ≡ Some (Held k at) → Contains (slots_of r) (name_of q at) → Contains (slots_of t) (name_of q at))
    → ((shelf : ℕ) → p ≡ Some (Shelved shelf) → slot_on kept.shelves shelf ≡ Some q → slot_on after shelf ≡ Some q)
    → IsPlaced kept q p → IsPlaced (stepped_to kept k t now after) q p
moved kept k q r t now after None there keeps stands placed = placed
moved kept k q r t now after (Some (Shelved shelf)) there keeps stands placed = stands shelf refl placed
moved kept k q r t now after (Some (Home o)) there keeps stands placed =
    record { same = placed.same; its = placed.its; known = placed.known; image = placed.image }
moved kept k q r t now after (Some (Held run at)) there keeps stands placed = by (same_number run k) where
  by : (run ≡ k) ⊎ (run ≢ k) → IsPlaced (stepped_to kept k t now after) q (Some (Held run at))
  by (inl same) =
      let mine : placed.0 ≡ r = some_same (sym placed.1 ∙ ap (slice_get kept.runs) same ∙ there) in (
        t,
        ap (slice_get (slice_set kept.runs k t)) same
            ∙ get_set_same kept.runs k r t there,
        keeps at (ap (λ (n : ℕ). Some (Held n at)) same)
            (subst (λ (x : RunState Object). Contains (slots_of x) (name_of q at)) mine placed.2),
      )
    where
      some_same : {a b : RunState Object} → Some a ≡ Some b → a ≡ b
      some_same e = cc
  by (inr ne) = (placed.0, get_set_other kept.runs k run t ne ∙ placed.1, placed.2)

-- a run of the world then is that one, or was there
pub run_after : (kept : WorldState) (k run : ℕ) (r t x : RunState Object) → slice_get kept.runs k ≡ Some r
    → slice_get (slice_set kept.runs k t) run ≡ Some x → ((run ≡ k) × (t ≡ x)) ⊎ ((run ≢ k) × (slice_get kept.runs run ≡ Some x))
run_after kept k run r t x there now = by (same_number run k) where
  by : (run ≡ k) ⊎ (run ≢ k) → ((run ≡ k) × (t ≡ x)) ⊎ ((run ≢ k) × (slice_get kept.runs run ≡ Some x))
  by (inl same) = let mine = sym (get_set_same kept.runs k r t there) ∙ ap (slice_get (slice_set kept.runs k t)) (sym same) ∙ now in inl (same, cc)
  by (inr ne) = inr (ne, sym (get_set_other kept.runs k run t ne) ∙ now)

-- ---- the exchanges that reach no shelf

-- the slot on the shelf that a run reaches
abbrev pub reached_slot : List (Option Object) → RunState Object → Option ℕ
reached_slot shelves r = option_and_then (slot_on shelves) (reached (asking_in (run_seen r)))

-- what is known of the places: an object is lent, one comes back, and what was on the shelf that is reached passes to the run
pub record IsMoved (kept : WorldState) (k : ℕ) (answer : Answer) (r : RunState Object) (freed : Option Object) (after : List (Option Object))
    (lent back now : Places) : Type 0 where
  pub lent_are : (q : ℕ) → place_at lent q ≡ place_lent answer k r.pc kept.places q
  pub back_are : (q : ℕ) → place_at back q ≡ place_returned freed lent q
  pub now_are : (q : ℕ) → place_at now q ≡ place_exchanged (reached (asking_in (run_seen r))) (reached_slot kept.shelves r) (reached_slot after r) k r.pc back q

-- where no shelf is reached
plainly : (kept : WorldState) (k : ℕ) (answer : Answer) (r : RunState Object) (freed : Option Object) (after : List (Option Object)) (lent back now : Places)
    → IsMoved kept k answer r freed after lent back now → LeavesShelves kept r after → (q : ℕ)
    → place_at now q ≡ place_returned freed lent q
plainly kept k answer r freed after lent back now m leaves q =
    m.now_are q ∙ ap (λ (o : Option ℕ). place_exchanged o (reached_slot kept.shelves r) (reached_slot after r) k r.pc back q) leaves.unreached ∙ m.back_are q

-- what was on a shelf is there still
still : (kept : WorldState) (r : RunState Object) (after : List (Option Object)) → LeavesShelves kept r after → (shelf q : ℕ)
    → slot_on kept.shelves shelf ≡ Some q → slot_on after shelf ≡ Some q
still kept r after leaves shelf q stands = leaves.same shelf ∙ stands

pub here_or : (q slot : ℕ) (a b : Option Place) → q ≡ slot → cond (q == slot) a b ≡ a
here_or q slot a b e = let is = eq-eqb q slot e in rw is refl

pub else_or : (q slot : ℕ) (a b : Option Place) → q ≢ slot → cond (q == slot) a b ≡ b
else_or q slot a b ne = let is = ne_eqb q slot ne in rw is refl

pub stays_placed : (kept : WorldState) (k : ℕ) (answer : Answer) (r t : RunState Object) (freed : Option Object) (after : List (Option Object))
    (lent back now : Places)
    → IsInstruction kept k answer r t freed → IsMoved kept k answer r freed after lent back now → LeavesShelves kept r after
    → freed ≡ None → ((run at q : ℕ) → place_lent answer run at kept.places q ≡ place_at kept.places q) → slots_of t ≡ slots_of r
    → ArePlaced (stepped_to kept k t now after)
stays_placed kept k answer r t freed after lent back now i m leaves none stays slots = record {
  each = λ q. subst (IsPlaced (stepped_to kept k t now after) q) (sym (as_before q))
      (moved kept k q r t now after (place_at kept.places q) i.at (λ at is among. subst (λ (ns : List Name). Contains ns (name_of q at)) (sym slots) among)
      (λ shelf is. still kept r after leaves shelf q) (i.tended.placed.each q));
  held = λ run x there n among. as_before n.slot ∙ by run x n among (run_after kept k run r t x i.at there);
  shelved = λ shelf slot stands. as_before slot ∙ i.tended.placed.shelved shelf slot (sym (leaves.same shelf) ∙ stands);
}
  where
    as_before : (q : ℕ) → place_at now q ≡ place_at kept.places q
    as_before q =
        plainly kept k answer r freed after lent back now m leaves q ∙ ap (λ (f : Option Object). place_returned f lent q) none ∙ m.lent_are q ∙ stays k r.pc q

    by : (run : ℕ) (x : RunState Object) (n : Name) → Contains (slots_of x) n
        → ((run ≡ k) × (t ≡ x)) ⊎ ((run ≢ k) × (slice_get kept.runs run ≡ Some x))
        → place_at kept.places n.slot ≡ Some (Held run n.call)
    by run x n among (inl (same, is)) =
        let mine = subst (λ (ns : List Name). Contains ns n) slots (subst (λ (y : RunState Object). Contains (slots_of y) n) (sym is) among) in
        i.tended.placed.held k r i.at n mine ∙ ap (λ (j : ℕ). Some (Held j n.call)) (sym same)
    by run x n among (inr (ne, there)) = i.tended.placed.held run x there n among

pub lends_placed : (kept : WorldState) (k : ℕ) (answer : Answer) (r t : RunState Object) (freed : Option Object) (after : List (Option Object))
    (lent back now : Places) (slot : ℕ) (o : Object)
    → IsInstruction kept k answer r t freed → IsMoved kept k answer r freed after lent back now → LeavesShelves kept r after
    → freed ≡ None → answer ≡ Slot slot → place_at kept.places slot ≡ Some (Home o)
    → slots_of t ≡ slots_of r ++ name_of slot r.pc ∷ [] → ArePlaced (stepped_to kept k t now after)
lends_placed kept k answer r t freed after lent back now slot o i m leaves none is home slots = record {
  each = λ q. each q (cases_eq q slot);
  held = λ run x there n among. held run x n among (run_after kept k run r t x i.at there);
  shelved = λ shelf s stands. on_shelves shelf s (i.tended.placed.shelved shelf s (sym (leaves.same shelf) ∙ stands));
}
  where
    now_is : (q : ℕ) → place_at now q ≡ cond (q == slot) (Some (Held k r.pc)) (place_at kept.places q)
    now_is q = plainly kept k answer r freed after lent back now m leaves q ∙ ap (λ (f : Option Object). place_returned f lent q) none ∙ m.lent_are q
        ∙ ap (λ (a : Answer). place_lent a k r.pc kept.places q) is

    -- what is on a shelf is not the one that was at home
    on_shelves : (shelf s : ℕ) → place_at kept.places s ≡ Some (Shelved shelf) → place_at now s ≡ Some (Shelved shelf)
    on_shelves shelf s stands = now_is s ∙ else_or s slot _ _ (λ same. apart (sym stands ∙ ap (place_at kept.places) same ∙ home)) ∙ stands where
      apart : Some (Shelved shelf) ≡ Some (Home o) → ⊥
      apart e = cc

    newest : Contains (slots_of t) (name_of slot r.pc)
    newest = subst (λ (ns : List Name). Contains ns (name_of slot r.pc)) (sym slots) (Contains-push (slots_of r) (name_of slot r.pc))

    each : (q : ℕ) → (q ≡ slot) ⊎ (q ≢ slot) → IsPlaced (stepped_to kept k t now after) q (place_at now q)
    each q (inl same) = subst (IsPlaced (stepped_to kept k t now after) q) (sym (now_is q ∙ here_or q slot _ _ same))
        (t, get_set_same kept.runs k r t i.at, subst (λ (s : ℕ). Contains (slots_of t) (name_of s r.pc)) (sym same) newest)
    each q (inr ne) = subst (IsPlaced (stepped_to kept k t now after) q) (sym (now_is q ∙ else_or q slot _ _ ne))
        (moved kept k q r t now after (place_at kept.places q) i.at
        (λ at is_ among. subst (λ (ns : List Name). Contains ns (name_of q at)) (sym slots)
        (Contains-append_left (slots_of r) (name_of slot r.pc ∷ []) (name_of q at) among)) (λ shelf is_. still kept r after leaves shelf q)
        (i.tended.placed.each q))

    -- a slot that is held is not the one that was at home
    elsewhere : (run : ℕ) (n : Name) → place_at kept.places n.slot ≡ Some (Held run n.call) → place_at now n.slot ≡ Some (Held run n.call)
    elsewhere run n held = now_is n.slot ∙ else_or n.slot slot _ _ (λ same. apart (sym held ∙ ap (place_at kept.places) same ∙ home)) ∙ held where
      apart : Some (Held run n.call) ≡ Some (Home o) → ⊥
      apart e = cc

    mine : (n : Name) → Contains (slots_of r) n ⊎ Contains (name_of slot r.pc ∷ []) n → place_at now n.slot ≡ Some (Held k n.call)
    mine n (inl old) = elsewhere k n (i.tended.placed.held k r i.at n old)
    mine n (inr new) =
        let same : (name_of slot r.pc) ≡ n = only new in
        now_is n.slot ∙ here_or n.slot slot _ _ (sym (ap (λ (m : Name). m.slot) same)) ∙ ap (λ (m : Name). Some (Held k m.call)) same
      where
        only : Contains (name_of slot r.pc ∷ []) n → (name_of slot r.pc) ≡ n
        only (zero, lt, e) = e
        only (suc j, lt, e) = absurd (omega (arith, lt))

    held : (run : ℕ) (x : RunState Object) (n : Name) → Contains (slots_of x) n
        → ((run ≡ k) × (t ≡ x)) ⊎ ((run ≢ k) × (slice_get kept.runs run ≡ Some x)) → place_at now n.slot ≡ Some (Held run n.call)
    held run x n among (inl (same, is_t)) =
        let there = subst (λ (ns : List Name). Contains ns n) slots (subst (λ (y : RunState Object). Contains (slots_of y) n) (sym is_t) among) in
        mine n (Contains-append_cases (slots_of r) (name_of slot r.pc ∷ []) n there) ∙ ap (λ (j : ℕ). Some (Held j n.call)) (sym same)
    held run x n among (inr (ne, there)) = elsewhere run n (i.tended.placed.held run x there n among)

-- a call has one slot
pub one_a_call : (w : World) (kept : WorldState) (k : ℕ) (r : RunState Object) (call q slot : ℕ) → Shows w kept
    → slice_get kept.runs k ≡ Some r → Contains (slots_of r) (name_of q call) → Contains (slots_of r) (name_of slot call) → q ≡ slot
one_a_call w kept k r call q slot shows at too among =
    let owns = λ (n : Name) (inside : Contains (slots_of r) n). held_owns w k n (subst (λ (ns : List Name). Contains ns n) (sym (shows.slots k r at)) inside) in
    ap (λ (p : Owner). p.slot) (shows.owned.holders.one_a_call (owner_of k (name_of q call)) (owner_of k (name_of slot call)) (owns (name_of q call) too)
    (owns (name_of slot call) among) refl)

pub frees_placed : (w : World) (kept : WorldState) (k : ℕ) (answer : Answer) (r t : RunState Object) (freed : Option Object) (after : List (Option Object))
    (lent back now : Places) (o : Object) (call : ℕ)
    → Shows w kept → IsInstruction kept k answer r t freed → IsMoved kept k answer r freed after lent back now
    → LeavesShelves kept r after
    → freed ≡ Some o → ((run at q : ℕ) → place_lent answer run at kept.places q ≡ place_at kept.places q)
    → Contains (slots_of r) (name_of o.slot call) → IsAtHome kept o.slot o
    → slots_of t ≡ filter (λ n. not (n.call == call)) (slots_of r) → ArePlaced (stepped_to kept k t now after)
frees_placed w kept k answer r t freed after lent back now o call shows i m leaves is stays among home slots = record {
  each = λ q. each q (cases_eq q o.slot);
  held = λ run x there n inside. held run x n inside (run_after kept k run r t x i.at there);
  shelved = λ shelf s stands. on_shelves shelf s (i.tended.placed.shelved shelf s (sym (leaves.same shelf) ∙ stands));
}
  where
    returned : (q : ℕ) → place_returned freed lent q ≡ cond (q == o.slot) (Some (Home o)) (place_at lent q)
    returned q = ap (λ (f : Option Object). place_returned f lent q) is

    now_is : (q : ℕ) → place_at now q ≡ cond (q == o.slot) (Some (Home o)) (place_at kept.places q)
    now_is q = plainly kept k answer r freed after lent back now m leaves q ∙ returned q
        ∙ ap (λ (p : Option Place). cond (q == o.slot) (Some (Home o)) p) (m.lent_are q ∙ stays k r.pc q)

    was_held : place_at kept.places o.slot ≡ Some (Held k call)
    was_held = i.tended.placed.held k r i.at (name_of o.slot call) among

    -- what is on a shelf is not what was held
    on_shelves : (shelf s : ℕ) → place_at kept.places s ≡ Some (Shelved shelf) → place_at now s ≡ Some (Shelved shelf)
    on_shelves shelf s stands = now_is s ∙ else_or s o.slot _ _ (λ same. apart (sym stands ∙ ap (place_at kept.places) same ∙ was_held)) ∙ stands where
      apart : Some (Shelved shelf) ≡ Some (Held k call) → ⊥
      apart e = cc

    one_slot : (q : ℕ) → Contains (slots_of r) (name_of q call) → q ≡ o.slot
    one_slot q too = one_a_call w kept k r call q o.slot shows i.at too among

    keeps : (q : ℕ) → q ≢ o.slot → (at : ℕ) → Contains (slots_of r) (name_of q at) → Contains (slots_of t) (name_of q at)
    keeps q ne at inside =
        let other : (at == call) ≡ false = ne_eqb at call (λ same. ne (one_slot q (subst (λ (a : ℕ). Contains (slots_of r) (name_of q a)) same inside))) in
        subst (λ (ns : List Name). Contains ns (name_of q at)) (sym slots)
        (Contains-kept (λ (n : Name). not (n.call == call)) (slots_of r) (name_of q at) inside (ap not other))

    each : (q : ℕ) → (q ≡ o.slot) ⊎ (q ≢ o.slot) → IsPlaced (stepped_to kept k t now after) q (place_at now q)
    each q (inl same) = subst (IsPlaced (stepped_to kept k t now after) q) (sym (now_is q ∙ here_or q o.slot _ _ same))
        (subst (λ (s : ℕ). IsAtHome (stepped_to kept k t now after) s o) (sym same)
        (record { same = refl; its = home.its; known = home.known; image = home.image }))
    each q (inr ne) = subst (IsPlaced (stepped_to kept k t now after) q) (sym (now_is q ∙ else_or q o.slot _ _ ne))
        (moved kept k q r t now after (place_at kept.places q) i.at (λ at is_. keeps q ne at) (λ shelf is_. still kept r after leaves shelf q)
        (i.tended.placed.each q))

    same_place : {a b c d : ℕ} → Some (Held a b) ≡ Some (Held c d) → (a ≡ c) × (b ≡ d)
    same_place e = (cc, cc)

    -- what is held still is elsewhere
    elsewhere : (run : ℕ) (n : Name) → place_at kept.places n.slot ≡ Some (Held run n.call) → ((run ≡ k) → n.call ≢ call)
        → place_at now n.slot ≡ Some (Held run n.call)
    elsewhere run n was apart = now_is n.slot
        ∙ else_or n.slot o.slot _ _ (λ same. moved_off (same_place (sym was ∙ ap (place_at kept.places) same ∙ was_held))) ∙ was where
          moved_off : (run ≡ k) × (n.call ≡ call) → ⊥
          moved_off (same_run, same_call) = apart same_run same_call

    held : (run : ℕ) (x : RunState Object) (n : Name) → Contains (slots_of x) n
        → ((run ≡ k) × (t ≡ x)) ⊎ ((run ≢ k) × (slice_get kept.runs run ≡ Some x)) → place_at now n.slot ≡ Some (Held run n.call)
    held run x n inside (inl (same, is_t)) =
        let left = Contains-filter (λ (y : Name). not (y.call == call)) (slots_of r) n
        (subst (λ (ns : List Name). Contains ns n) slots (subst (λ (y : RunState Object). Contains (slots_of y) n) (sym is_t) inside)) in
        let was = i.tended.placed.held k r i.at n left.0 in
        elsewhere k n was (λ mine same_call. let equal = eq-eqb n.call call same_call in let unequal = not-true (n.call == call) left.1 in absurd (cc))
        ∙ ap (λ (j : ℕ). Some (Held j n.call)) (sym same)
    held run x n inside (inr (ne, there)) = elsewhere run n (i.tended.placed.held run x there n inside) (λ mine. absurd (ne mine))
