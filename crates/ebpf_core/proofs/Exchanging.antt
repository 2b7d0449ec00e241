-- How an object passes to a run that is kept and back, and over a shelf: which exchange an instruction makes.
use Rattle.std.proofs.Common.{◌≡◌, ◌≢◌, ◌⊎◌, inl, inr, ℕ, ◌+◌, Bool, true, false, cond, not, List, [], ◌∷◌, ◌++◌, length, map, filter, get_or}
use Rattle.std.proofs.Common.{Option, Some, None, refl, sym, ap, ◌∙◌, subst, arith}
use Rattle.std.specs.Prelude.{slice_get, slice_index_or, Contains, ◌==◌, IfSome, option_map, if◌then◌else◌}
use Rattle.std.proofs.lemmas.Bool.{eqb-true, eq-eqb, ne_eqb, not-true, cases_eq}
use Rattle.std.proofs.lemmas.List.{length-map, get_or_default}
use Rattle.std.proofs.lemmas.List.Elements.{All-contains}
use Rattle.std.proofs.lemmas.List.Sums.{sum_by-cons, sum_by-remove}
use Rattle.std.specs.List.{find, remove}
use Rattle.std.specs.Option.{is_some}
use Rattle.ebpf_state.specs.Ascending.{IsAscending}
use Rattle.ebpf_machine.specs.declared.holding.Holding.{Holding}
use Rattle.ebpf_machine.specs.World.{Name, World, kind_in, ledger_of, is_in, name_of}
use Rattle.ebpf_machine.specs.World as world
use Rattle.ebpf_machine.specs.Events.{Asking, AtShelf}
use Rattle.ebpf_machine.specs.Advance.{slots_without}
use Rattle.ebpf_machine.specs.View.{ObjectView, without_given}
use Rattle.ebpf_machine.specs.RunState.{RunState, object_seen, status_of}
use Rattle.ebpf_machine.specs.Whole as whole
use Rattle.ebpf_machine.specs.Step as step
use Rattle.ebpf_machine.specs.Step.{Served, MayAnswer, answer_for, asking_in, wanted, reached, told_by}
use Rattle.ebpf_machine.specs.Store.{AreOutBy, held_of_kind}
use Rattle.ebpf_machine.specs.Shelves.{shelved_from}
use Rattle.ebpf_machine.proofs.Instructions.Returning.{calls_kept, seen_calls, one_place, others_held, removed_is}
use Rattle.ebpf_machine.proofs.World.Steps.{going_of}
use Rattle.ebpf_machine.proofs.Lists.ListLemmas.{IsFound, All-by_contains, Contains-filter, filter-map, find_is}
use Rattle.ebpf_machine.proofs.Lists.Mapped.{Contains-mapped, Contains-unmapped}
use Rattle.ebpf_machine.proofs.World.Owners.{owner_of}
use Rattle.ebpf_machine.specs.declared.answer.Answer.{Answer}
use Rattle.ebpf_machine.specs.declared.answer.Answer.TheVariants.{Absent, Null, Slot}
use Rattle.ebpf_core.specs.declared.fault.ApplyCode.TheVariants.{SlotOfAnotherKind}
use Rattle.ebpf_shelves.specs.declared.object.Object.{Object}
use Rattle.ebpf_core.specs.declared.place.Place.{Place}
use Rattle.ebpf_core.specs.declared.place.Place.TheVariants.{Home, Held, Shelved}
use Rattle.ebpf_shelves.specs.Shelves.{IsAway, as_shelved, on_shelf, slot_on, standing_on}
use Rattle.ebpf_core.specs.Passing.{IsOut, is_bare, one_away, offers}
use Rattle.ebpf_core.specs.Places.{Places, place_at, object_home, lent_by, place_lent}
use Rattle.ebpf_core.specs.Shown.{WorldState, Shows, IsTended, ArePlaced, IsPlaced, IsAtHome, run_seen, slots_of}
use Rattle.ebpf_core.specs.Stepping.{slot_code, code_by, IsNewObject, CanLend}
use Rattle.ebpf_core.proofs.Executing.{IsInstruction, going_seen, answered, executed_after, sized_tended}
use Rattle.ebpf_core.proofs.Outcomes.{of_kind, slots_fetched, IsQuiet, IsGranted, IsFreed, IsSwapped, IsOutcome, Kept, Granted, Freed, Swapped, outcome_of}
use Rattle.ebpf_machine.proofs.World.Owners.{kind_there, owned_there}
use Rattle.ebpf_core.proofs.Placing.{object_kept}

-- ---- what a legal answer lends: nothing, or the object of its slot, of the kind that is wanted

pub data IsLoan (places : Places) (answer : Answer) (wants : Option ℕ) : Type 0 where
  Nothing : ((slot : ℕ) → answer ≢ Slot slot) → lent_by answer places ≡ None
      → ((run at q : ℕ) → place_lent answer run at places q ≡ place_at places q) → IsLoan places answer wants
  Loan : (slot : ℕ) (o : Object) → answer ≡ Slot slot → place_at places slot ≡ Some (Home o) → wants ≡ Some o.kind → IsLoan places answer wants

pub loan : (places : Places) (answer : Answer) (wants : Option ℕ) → code_by places answer wants ≡ None → IsLoan places answer wants
loan places Absent wants fine = Nothing (λ slot e. absurd (cc)) refl (λ run at q. refl)
loan places Null wants fine = Nothing (λ slot e. absurd (cc)) refl (λ run at q. refl)
loan places (Slot slot) wants fine = by_place (place_at places slot) wants refl fine where
  by_kind : (o : Object) (kind : ℕ) (t : Bool) → (o.kind == kind) ≡ t → place_at places slot ≡ Some (Home o)
      → cond t None (Some SlotOfAnotherKind) ≡ None → IsLoan places (Slot slot) (Some kind)
  by_kind o kind true is at fine = Loan slot o refl at (ap Some (sym (eqb-true o.kind kind is)))
  by_kind o kind false is at fine = absurd (cc)

  by_place : (p : Option Place) (wants : Option ℕ) → place_at places slot ≡ p → slot_code p wants ≡ None → IsLoan places (Slot slot) wants
  by_place None wants at fine = absurd (cc)
  by_place (Some (Held run place)) wants at fine = absurd (cc)
  by_place (Some (Shelved shelf)) wants at fine = absurd (cc)
  by_place (Some (Home o)) None at fine = absurd (cc)
  by_place (Some (Home o)) (Some kind) at fine = by_kind o kind (o.kind == kind) refl at fine

lent_loan : (places : Places) (answer : Answer) (slot : ℕ) (o : Object) → answer ≡ Slot slot → place_at places slot ≡ Some (Home o)
    → lent_by answer places ≡ Some o
lent_loan places answer slot o is at = ap (λ (a : Answer). lent_by a places) is ∙ ap object_home at

-- ---- what a run holds is kept as held by it

pub held_named : (r : RunState Object) (h : Holding Object) → Contains r.held h → Contains (slots_of r) (name_of h.object.slot h.call)
held_named r h among = Contains-mapped (λ (x : Holding Object). name_of x.object.slot x.call) r.held h among

pub held_placed : (kept : WorldState) (k : ℕ) (r : RunState Object) (h : Holding Object) → ArePlaced kept
    → slice_get kept.runs k ≡ Some r → Contains r.held h → place_at kept.places h.object.slot ≡ Some (Held k h.call)
held_placed kept k r h placed at among = placed.held k r at (name_of h.object.slot h.call) (held_named r h among)

-- what is on a shelf is in another slot than what is kept elsewhere
off_shelves : (kept : WorldState) (slot : ℕ) → ArePlaced kept → ((shelf : ℕ) → place_at kept.places slot ≢ Some (Shelved shelf))
    → (shelf other : ℕ) → slot_on kept.shelves shelf ≡ Some other → slot ≢ other
off_shelves kept slot placed off shelf other stands same = off shelf (ap (place_at kept.places) same ∙ placed.shelved shelf other stands)

away_from : (o : Option Object) (slot : ℕ) → ((other : ℕ) → option_map (λ (p : Object). p.slot) o ≡ Some other → slot ≢ other) → IsAway o slot
away_from None slot off = tt
away_from (Some p) slot off = off p.slot refl

-- an object of a run is off all shelves
held_off : (kept : WorldState) (k : ℕ) (r : RunState Object) (h : Holding Object) → ArePlaced kept → slice_get kept.runs k ≡ Some r
    → Contains r.held h → (shelf : ℕ) → place_at kept.places h.object.slot ≢ Some (Shelved shelf)
held_off kept k r h placed at among shelf e = let held = held_placed kept k r h placed at among in absurd (cc)

-- so it can be lent what is at home
pub can_lend : (kept : WorldState) (k : ℕ) (answer : Answer) (r : RunState Object) → ArePlaced kept → IsTended r
    → slice_get kept.runs k ≡ Some r → code_by kept.places answer (wanted (asking_in (run_seen r))) ≡ None
    → CanLend (lent_by answer kept.places) kept.shelves r
can_lend kept k answer r placed tended at fine = by (loan kept.places answer (wanted (asking_in (run_seen r))) fine) where
  off : (h : Holding Object) → Contains r.held h → (shelf : ℕ) → IsAway (on_shelf kept.shelves shelf) h.object.slot
  off h among shelf = away_from (on_shelf kept.shelves shelf) h.object.slot (off_shelves kept h.object.slot placed (held_off kept k r h placed at among) shelf)

  out : (lent : Option Object) → ((h : Holding Object) → Contains r.held h → IsAway lent h.object.slot)
      → AreOutBy (IsOut lent kept.shelves) (λ o. o.kind) (λ o. o.slot) r.held
  out lent away = record {
    out = All-by_contains (λ h. IsOut lent kept.shelves h.object × (h.object.kind ≡ h.kind)) r.held
        (λ h among. still h among (All-contains (λ x. IsOut None [] x.object × (x.object.kind ≡ x.kind)) r.held h tended.out.out among));
    apart = tended.out.apart;
  }
    where
      still : (h : Holding Object) → Contains r.held h → IsOut None [] h.object × (h.object.kind ≡ h.kind)
          → IsOut lent kept.shelves h.object × (h.object.kind ≡ h.kind)
      still h among was = (record { sized = was.0.sized; away = away h among; off = off h among }, was.1)

  by : IsLoan kept.places answer (wanted (asking_in (run_seen r))) → CanLend (lent_by answer kept.places) kept.shelves r
  by (Nothing unanswered none stays) = subst (λ (l : Option Object). CanLend l kept.shelves r) (sym none)
      (record { image = tt; out = out None (λ h among. tt); asked = λ e. refl; away = λ shelf p q on is. absurd (cc) })
  by (Loan slot o is home wants) = subst (λ (l : Option Object). CanLend l kept.shelves r) (sym (lent_loan kept.places answer slot o is home)) (record {
    image = (here.image, here.known);
    out = out (Some o) away;
    asked = λ unasked. let none = ap wanted unasked in absurd (cc);
    away = apart;
  })
    where
      here : IsAtHome kept slot o
      here = subst (IsPlaced kept slot) home (placed.each slot)

      away : (h : Holding Object) → Contains r.held h → h.object.slot ≢ o.slot
      away h among e = both (ap (place_at kept.places) (e ∙ here.same)) where
        both : place_at kept.places h.object.slot ≡ place_at kept.places slot → ⊥
        both same = let held = held_placed kept k r h placed at among in absurd (cc)

      apart : (shelf : ℕ) (p q : Object) → on_shelf kept.shelves shelf ≡ Some p → Some o ≡ Some q → p.slot ≢ q.slot
      apart shelf p q on lent e =
          let stands : place_at kept.places p.slot ≡ Some (Shelved shelf) = placed.shelved shelf p.slot (ap (option_map (λ (x : Object). x.slot)) on) in
          let same : q ≡ o = cc in
          let both : place_at kept.places p.slot ≡ Some (Home o) = ap (place_at kept.places) (e ∙ ap (λ (x : Object). x.slot) same ∙ here.same) ∙ home in
          absurd (cc)

-- ---- an object of a run, in the world that is shown

-- it is in the ledger of its kind
object_its : (w : World) (kept : WorldState) (k : ℕ) (r : RunState Object) (h : Holding Object) → Shows w kept
    → slice_get kept.runs k ≡ Some r → Contains r.held h → is_in h.object.slot (ledger_of w h.kind) ≡ true
object_its w kept k r h shows at among =
    let one = object_kept w kept k r h shows at among in
    let kind : kind_in w h.object.slot ≡ h.kind = ap (λ (v : ObjectView). v.kind) one.1 in
    let there = kind_there w h.object.slot (owned_there w (owner_of k (name_of h.object.slot h.call)) shows.owned one.0) in
    subst (λ (kind : ℕ). is_in h.object.slot (ledger_of w kind) ≡ true) kind there

-- ---- what a step frees, by what the store counts

counts_seen : (kind : ℕ) (held : List (Holding Object)) → held_of_kind held kind ≡ of_kind kind (map (object_seen (λ o. o.bytes.items)) held)
counts_seen kind [] = refl
counts_seen kind (h ∷ held) =
    let here = sum_by-cons (λ (x : Holding Object). cond {A = ℕ} (kind == x.kind) 1 0) h held in
    let there = sum_by-cons (λ (o : ObjectView). cond {A = ℕ} (kind == o.kind) 1 0) (object_seen (λ (o : Object). o.bytes.items) h)
    (map (object_seen (λ (o : Object). o.bytes.items)) held) in
    omega (arith, here, there, counts_seen kind held)

none_freed : (freed : Option Object) → ((kind : ℕ) → one_away freed kind ≡ 1) → freed ≡ None
none_freed None all = refl
none_freed (Some o) all =
    let here = eq-eqb o.kind o.kind refl in let none : one_away (Some o) o.kind ≡ 0 = rw here refl in let one = all o.kind in absurd (omega (arith, none, one))

some_freed : (freed : Option Object) (kind : ℕ) → one_away freed kind ≡ 0 → (o : Object) × (freed ≡ Some o) × (o.kind ≡ kind)
some_freed None kind none = absurd (omega (arith, none))
some_freed (Some o) kind none = by (kind == o.kind) refl none where
  by : (t : Bool) → (kind == o.kind) ≡ t → cond {A = ℕ} t 0 1 ≡ 0 → (x : Object) × (Some o ≡ Some x) × (x.kind ≡ kind)
  by true is none = (o, refl, sym (eqb-true kind o.kind is))
  by false is none = absurd (omega (arith, none))

-- ---- which exchange an instruction makes

-- it reaches no shelf, and what was there is there still
pub record LeavesShelves (kept : WorldState) (r : RunState Object) (after : List (Option Object)) : Type 0 where
  pub unreached : reached (asking_in (run_seen r)) ≡ None
  pub same : (shelf : ℕ) → slot_on after shelf ≡ slot_on kept.shelves shelf

abbrev pub call_of : Option Name → Option ℕ
call_of given = option_map (λ n. n.call) given

abbrev pub slot_of : Option Name → Option ℕ
slot_of given = option_map (λ n. n.slot) given

-- the slot of what came off a shelf is the run's, by this call
abbrev pub got_by : Option ℕ → ℕ → List Name
got_by None at = []
got_by (Some slot) at = name_of slot at ∷ []

-- what the run gave is on the shelf that it reached, and what was there is the run's
pub record PassesShelf (kept : WorldState) (r t : RunState Object) (after : List (Option Object)) (shelf : ℕ) (given : Option Name) : Type 0 where
  pub reached_is : reached (asking_in (run_seen r)) ≡ Some shelf
  pub own : IfSome given (λ n. Contains (slots_of r) n)
  pub stands : slot_on after shelf ≡ slot_of given
  pub others : (other : ℕ) → other ≢ shelf → slot_on after other ≡ slot_on kept.shelves other
  pub slots_are : slots_of t ≡ slots_without (call_of given) (slots_of r) ++ got_by (slot_on kept.shelves shelf) r.pc

-- nothing passes; a run is lent an object; it frees one, which is at home then; or it exchanges what is on a shelf
pub data IsExchange (kept : WorldState) (k : ℕ) (answer : Answer) (r t : RunState Object) (freed : Option Object) (after : List (Option Object)) : Type 0 where
  Stays : LeavesShelves kept r after → freed ≡ None
      → ((run at q : ℕ) → place_lent answer run at kept.places q ≡ place_at kept.places q) → slots_of t ≡ slots_of r
      → IsExchange kept k answer r t freed after
  Lends : LeavesShelves kept r after → (slot : ℕ) (o : Object) → freed ≡ None → answer ≡ Slot slot
      → place_at kept.places slot ≡ Some (Home o) → slots_of t ≡ slots_of r ++ name_of slot r.pc ∷ []
      → IsExchange kept k answer r t freed after
  Frees : LeavesShelves kept r after → (o : Object) (call : ℕ) → freed ≡ Some o
      → ((run at q : ℕ) → place_lent answer run at kept.places q ≡ place_at kept.places q)
      → Contains (slots_of r) (name_of o.slot call) → IsAtHome kept o.slot o
      → slots_of t ≡ filter (λ n. not (n.call == call)) (slots_of r) → IsExchange kept k answer r t freed after
  Swaps : (shelf : ℕ) (given : Option Name) → freed ≡ None
      → ((run at q : ℕ) → place_lent answer run at kept.places q ≡ place_at kept.places q) → PassesShelf kept r t after shelf given
      → IsExchange kept k answer r t freed after

slots_many : (r : RunState Object) → length (slots_of r) ≡ length (run_seen r).objects
slots_many r = length-map r.held _ ∙ sym (length-map r.held _)

left_many : (r : RunState Object) (call : ℕ) → length (slots_without (Some call) (slots_of r)) ≡ length (without_given (Some call) (run_seen r).objects)
left_many r call =
    ap (λ (ns : List Name). length ns) (filter-map (λ (n : Name). not (n.call == call)) (λ (h : Holding Object). name_of h.object.slot h.call) r.held)
    ∙ length-map (others_held call r.held) _
    ∙ sym (length-map (others_held call r.held) (object_seen (λ (o : Object). o.bytes.items)))
    ∙ sym (ap (λ (os : List ObjectView). length os)
    (filter-map (λ (o : ObjectView). not (o.call == call)) (object_seen (λ (o : Object). o.bytes.items)) r.held))

-- what becomes of the objects of the run
outcome : (w : World) (kept : WorldState) (k : ℕ) (answer : Answer) (r t : RunState Object) (freed : Option Object) → Shows w kept
    → (i : IsInstruction kept k answer r t freed) → IsOutcome (run_seen r) (run_seen t) i.step.served (slots_of r) (slots_of t)
outcome w kept k answer r t freed shows i =
    let v = run_seen r in
    let after = executed_after w kept k answer r t freed shows i in
    let is = outcome_of v i.step.served (slots_of r) i.run.sound (sized_tended r i.run) (ap status_of i.going) (slots_many r) (left_many r) in
    let state = i.step.state in
    rw (state, after.slots) is

-- ---- what is on the shelves after it

-- a slot there is that of what is there
slot_standing : (shelves : List (Option Object)) (shelf : ℕ) → slot_on shelves shelf ≡ option_map (λ (x : world.Shelved). x.slot) (standing_on shelves shelf)
slot_standing shelves shelf = by (on_shelf shelves shelf) where
  by : (o : Option Object) → option_map (λ (p : Object). p.slot) o ≡ option_map (λ (x : world.Shelved). x.slot) (option_map as_shelved o)
  by None = refl
  by (Some p) = refl

bare_slot : (shelves : List (Option Object)) (shelf : ℕ) → is_bare (on_shelf shelves shelf) ≡ (if is_some (slot_on shelves shelf) then 0 else 1)
bare_slot shelves shelf = by (on_shelf shelves shelf) where
  by : (o : Option Object) → is_bare o ≡ cond (is_some (option_map (λ (p : Object). p.slot) o)) 0 1
  by None = refl
  by (Some p) = refl

same_bare : (one other : List (Option Object)) (shelf : ℕ) → slot_on one shelf ≡ slot_on other shelf
    → is_bare (on_shelf one shelf) ≡ is_bare (on_shelf other shelf)
same_bare one other shelf same = bare_slot one shelf ∙ ap (λ (o : Option ℕ). cond (is_some o) 0 1) same ∙ sym (bare_slot other shelf)

quiet_leaves : (kept : WorldState) (k : ℕ) (answer : Answer) (r t : RunState Object) (freed : Option Object) (i : IsInstruction kept k answer r t freed)
    → IsQuiet (run_seen r) → LeavesShelves kept r i.after
quiet_leaves kept k answer r t freed i quiet = record {
  unreached = quiet.unreached;
  same = λ shelf.
      slot_standing i.after shelf
      ∙ ap (option_map (λ (x : world.Shelved). x.slot))
      (i.step.shelves shelf ∙ quiet.leaves (shelved_from as_shelved r.held) shelf (standing_on kept.shelves shelf))
      ∙ sym (slot_standing kept.shelves shelf);
}

-- the counts of the store
counted_all : (kept : WorldState) (k : ℕ) (answer : Answer) (r t : RunState Object) (freed : Option Object) (i : IsInstruction kept k answer r t freed)
    (kind : ℕ)
    → one_away freed kind + is_bare (on_shelf i.after kind) + of_kind kind (run_seen r).objects
    ≡ one_away (lent_by answer kept.places) kind + is_bare (on_shelf kept.shelves kind) + of_kind kind (run_seen t).objects
counted_all kept k answer r t freed i kind = omega (arith, i.step.of_kind kind, counts_seen kind r.held, counts_seen kind t.held)

counted : (kept : WorldState) (k : ℕ) (answer : Answer) (r t : RunState Object) (freed : Option Object) (i : IsInstruction kept k answer r t freed)
    → LeavesShelves kept r i.after → (kind : ℕ)
    → one_away freed kind + of_kind kind (run_seen r).objects ≡ one_away (lent_by answer kept.places) kind + of_kind kind (run_seen t).objects
counted kept k answer r t freed i leaves kind =
    omega (arith, counted_all kept k answer r t freed i kind, same_bare i.after kept.shelves kind (leaves.same kind))

lent_none : (kept : WorldState) (answer : Answer) (kind : ℕ) → lent_by answer kept.places ≡ None → one_away (lent_by answer kept.places) kind ≡ 1
lent_none kept answer kind none = ap (λ (l : Option Object). one_away l kind) none

-- the object that is freed is the run's
freed_its : (kept : WorldState) (k : ℕ) (answer : Answer) (r t : RunState Object) (freed : Option Object) (o : Object) (h : Holding Object)
    → (i : IsInstruction kept k answer r t freed) → LeavesShelves kept r i.after → freed ≡ Some o → Contains r.held h
    → slots_of t ≡ filter (λ n. not (n.call == h.call)) (slots_of r) → o.slot ≡ h.object.slot
freed_its kept k answer r t freed o h i leaves is among slots = by (cases_eq o.slot h.object.slot) where
  others : (x : Holding Object) → Contains t.held x → x.object.slot ≢ h.object.slot
  others x there same =
      let left = Contains-filter (λ (n : Name). not (n.call == h.call)) (slots_of r) (name_of x.object.slot x.call)
      (subst (λ (ns : List Name). Contains ns (name_of x.object.slot x.call)) slots (held_named t x there)) in
      let mine = i.tended.placed.held k r i.at (name_of x.object.slot x.call) left.0 in
      let its = held_placed kept k r h i.tended.placed i.at among in
      let both : Some (Held k x.call) ≡ Some (Held k h.call) = sym mine ∙ ap (place_at kept.places) same ∙ its in
      let equal = eq-eqb x.call h.call (call_same both) in
      let unequal = not-true (x.call == h.call) left.1 in
      absurd (cc)
    where
      call_same : {a b : ℕ} → Some (Held k a) ≡ Some (Held k b) → a ≡ b
      call_same e = cc

  by : (o.slot ≡ h.object.slot) ⊎ (o.slot ≢ h.object.slot) → o.slot ≡ h.object.slot
  by (inl same) = same
  by (inr ne) =
      let out = All-contains (λ x. IsOut None [] x.object × (x.object.kind ≡ x.kind)) r.held h i.run.out.out among in
      let there : IsOut freed i.after h.object =
      subst (λ (f : Option Object). IsOut f i.after h.object) (sym is)
      (record {
        sized = out.0.sized;
        away = λ e. ne (sym e);
        off = λ shelf.
            away_from (on_shelf i.after shelf) h.object.slot
            (λ other stands. off_shelves kept h.object.slot i.tended.placed (held_off kept k r h i.tended.placed i.at among) shelf other
            (sym (leaves.same shelf) ∙ stands));
      }) in
      absurd (i.step.gone h among (All-by_contains (λ x. x.object.slot ≢ h.object.slot) t.held others) there)

frees : (w : World) (kept : WorldState) (k : ℕ) (answer : Answer) (r t : RunState Object) (freed : Option Object) → Shows w kept
    → (i : IsInstruction kept k answer r t freed) → LeavesShelves kept r i.after → lent_by answer kept.places ≡ None
    → ((run at q : ℕ) → place_lent answer run at kept.places q ≡ place_at kept.places q)
    → IsFreed (run_seen r) (run_seen t) (slots_of r) (slots_of t) → IsExchange kept k answer r t freed i.after
frees w kept k answer r t freed shows i leaves none stays f =
    let one = Contains-unmapped (object_seen (λ o. o.bytes.items)) r.held f.object f.there in
    let h = one.0 in
    let kind : h.kind ≡ f.object.kind = ap (λ (o : ObjectView). o.kind) one.2 in
    let call : h.call ≡ f.object.call = ap (λ (o : ObjectView). o.call) one.2 in
    let counts = counted kept k answer r t freed i leaves f.object.kind in
    let back = some_freed freed f.object.kind (omega (arith, counts, lent_none kept answer f.object.kind none, f.fewer)) in
    let o = back.0 in
    let slots : slots_of t ≡ filter (λ n. not (n.call == h.call)) (slots_of r) =
    f.slots_are ∙ ap (λ (c : ℕ). filter (λ (n : Name). not (n.call == c)) (slots_of r)) (sym call) in
    let slot = freed_its kept k answer r t freed o h i leaves back.1 one.1 slots in
    let its = object_its w kept k r h shows i.at one.1 in
    let new : IsNewObject o = subst (λ (x : Option Object). IfSome x IsNewObject) back.1 i.step.image in
    let here : IsAtHome kept o.slot o = record {
      same = refl;
      its = ledger_kept w kept o.slot o.kind shows
          (subst (λ (s : ℕ). is_in s (ledger_of w o.kind) ≡ true) (sym slot)
          (subst (λ (c : ℕ). is_in h.object.slot (ledger_of w c) ≡ true) (kind ∙ sym back.2) its));
      known = new.1;
      image = new.0;
    } in
    Frees leaves o h.call back.1 stays (subst (λ (s : ℕ). Contains (slots_of r) (name_of s h.call)) (sym slot) (held_named r h one.1)) here slots
  where
    ledger_kept : (w : World) (kept : WorldState) (slot kind : ℕ) → Shows w kept → is_in slot (ledger_of w kind) ≡ true
        → is_in slot (slice_index_or kept.ledgers kind []) ≡ true
    ledger_kept w kept slot kind shows its = ap (λ (ls : List (List ℕ)). is_in slot (slice_index_or ls kind [])) (sym shows.ledgers) ∙ its

lends : (kept : WorldState) (k : ℕ) (answer : Answer) (r t : RunState Object) (freed : Option Object) (slot : ℕ) (o : Object)
    → (i : IsInstruction kept k answer r t freed) → LeavesShelves kept r i.after → answer ≡ Slot slot
    → place_at kept.places slot ≡ Some (Home o) → wanted (asking_in (run_seen r)) ≡ Some o.kind
    → IsGranted (run_seen r) (run_seen t) i.step.served (slots_of r) (slots_of t) → IsExchange kept k answer r t freed i.after
lends kept k answer r t freed slot o i leaves is home wants g =
    let new : g.new ≡ o.kind = number_same (sym (ap wanted g.asked) ∙ wants) in
    let same : g.slot ≡ slot = slot_same (sym (ap answer_for g.answered) ∙ answered kept k answer r t freed i ∙ is) in
    let lent = lent_loan kept.places answer slot o is home in
    Lends leaves slot o (none_freed freed (λ kind. one lent new kind)) is home (g.slots_are ∙ ap (λ (s : ℕ). slots_of r ++ name_of s r.pc ∷ []) same)
  where
    number_same : {a b : ℕ} → Some a ≡ Some b → a ≡ b
    number_same e = cc

    slot_same : {a b : ℕ} → Slot a ≡ Slot b → a ≡ b
    slot_same e = cc

    one : lent_by answer kept.places ≡ Some o → g.new ≡ o.kind → (kind : ℕ) → one_away freed kind ≡ 1
    one lent new kind =
        let counts = counted kept k answer r t freed i leaves kind in
        let was = ap (λ (l : Option Object). one_away l kind) lent in
        let more = g.kinds kind in
        let equal = ap (λ (c : ℕ). kind == c) new in
        by (kind == o.kind) counts was (more ∙ ap (λ (b : Bool). of_kind kind (run_seen r).objects + cond b 1 0) equal)
      where
        by : (t' : Bool)
            → one_away freed kind + of_kind kind (run_seen r).objects ≡ one_away (lent_by answer kept.places) kind + of_kind kind (run_seen t).objects
            → one_away (lent_by answer kept.places) kind ≡ cond t' 0 1
            → of_kind kind (run_seen t).objects ≡ of_kind kind (run_seen r).objects + cond t' 1 0 → one_away freed kind ≡ 1
        by true counts was more = omega (arith, counts, was, more)
        by false counts was more = omega (arith, counts, was, more)

-- ---- a call of swap

calls_ascend : (r : RunState Object) → IsTended r → r.exit ≡ None → IsAscending (calls_kept r.held)
calls_ascend r tended going =
    subst IsAscending (seen_calls (λ (o : Object). o.bytes.items) r.held) (going_of (run_seen r) tended.sound (going_seen r going)).ascending

-- what it gives is the run's
record IsGivenOf (r : RunState Object) (shelf : ℕ) (given : Option ℕ) : Type 0 where
  name : Option Name
  call : call_of name ≡ given
  own : IfSome name (λ n. Contains (slots_of r) n)
  stands : option_map (λ (x : world.Shelved). x.slot) (shelved_from as_shelved r.held given) ≡ slot_of name
  kinds : (kind : ℕ)
      → of_kind kind (without_given given (run_seen r).objects) + cond (kind == shelf) (cond (is_some name) 1 0) 0 ≡ of_kind kind (run_seen r).objects

given_of : (r : RunState Object) (shelf : ℕ) (given : Option ℕ) → IsTended r → r.exit ≡ None
    → IfSome given (λ call. (o : ObjectView) × Contains (run_seen r).objects o × (o.call ≡ call) × (o.kind ≡ shelf))
    → IsGivenOf r shelf given
given_of r shelf None tended going there =
    record { name = None; call = refl; own = tt; stands = refl; kinds = λ kind. nothing_more kind shelf (of_kind kind (run_seen r).objects) } where
      nothing_more : (kind shelf n : ℕ) → n + cond (kind == shelf) 0 0 ≡ n
      nothing_more kind shelf n = by (kind == shelf) where
        by : (t : Bool) → n + cond t 0 0 ≡ n
        by true = omega arith
        by false = omega arith
given_of r shelf (Some call) tended going (o, among, is_call, is_kind) = record {
  name = Some (name_of h.object.slot h.call);
  call = ap Some called;
  own = held_named r h one.1;
  stands = found (find (λ (x : Holding Object). x.call == call) r.held) (find_is (λ (x : Holding Object). x.call == call) r.held);
  kinds = λ kind.
      let counts = sum_by-remove (λ (x : Holding Object). cond (kind == x.kind) 1 0) r.held one.1.0 h one.1.1 in
      let at : get_or r.held one.1.0 h ≡ h = get_or_found in
      let all = counts_seen kind r.held in
      let some = counts_seen kind (others_held call r.held) in
      let seen = ap (of_kind kind) (filter-map (λ (v : ObjectView). not (v.call == call)) (object_seen (λ (x : Object). x.bytes.items)) r.held) in
      let same = ap (λ (hs : List (Holding Object)). held_of_kind hs kind) left in
      let here = ap (λ (x : Holding Object). cond {A = ℕ} (kind == x.kind) 1 0) at ∙ ap (λ (n : ℕ). cond {A = ℕ} (kind == n) 1 0) kind_is in
      omega (arith, counts, all, some, seen, same, here);
}
  where
    one : (h : Holding Object) × Contains r.held h × (object_seen (λ (x : Object). x.bytes.items) h ≡ o)
    one = Contains-unmapped (object_seen (λ x. x.bytes.items)) r.held o among

    h : Holding Object
    h = one.0

    called : h.call ≡ call
    called = ap (λ (v : ObjectView). v.call) one.2 ∙ is_call

    kind_is : h.kind ≡ shelf
    kind_is = ap (λ (v : ObjectView). v.kind) one.2 ∙ is_kind

    up : IsAscending (calls_kept r.held)
    up = calls_ascend r tended going

    get_or_found : get_or r.held one.1.0 h ≡ h
    get_or_found = one.1.2

    left : remove r.held one.1.0 ≡ others_held call r.held
    left = removed_is r.held one.1.0 call h up one.1.1 (ap (λ (x : Holding Object). x.call) get_or_found ∙ called)

    -- a call has one object
    found : (f : Option (Holding Object)) → IsFound (λ (x : Holding Object). x.call == call) r.held f
        → option_map (λ (x : world.Shelved). x.slot) (option_map (λ (x : Holding Object). as_shelved x.object) f) ≡ Some h.object.slot
    found None none = let away = none h one.1 in let here = eq-eqb h.call call called in absurd (cc)
    found (Some x) it =
        let there : get_or r.held it.0.0 h ≡ x = get_or_default r.held it.0.0 h x it.0.1 ∙ it.0.2 in
        let place = one_place r.held it.0.0 one.1.0 h up it.0.1 one.1.1
        (ap (λ (y : Holding Object). y.call) there ∙ eqb-true x.call call it.1 ∙ sym called ∙ sym (ap (λ (y : Holding Object). y.call) get_or_found)) in
        let same : x ≡ h = sym there ∙ ap (λ (n : ℕ). get_or r.held n h) place ∙ get_or_found in
        ap (λ (y : Holding Object). Some y.object.slot) same

-- and what was there is what it gets
got_of : (lent : Option Object) (shelves : List (Option Object)) (at shelf : ℕ) (served : Served)
    → MayAnswer (offers lent shelves) at (AtShelf shelf) served
    → (slots_fetched at served ≡ got_by (slot_on shelves shelf) at) × (whole.fetched (told_by served) + is_bare (on_shelf shelves shelf) ≡ 1)
got_of lent shelves at shelf (step.Fetched slot bytes) may =
    let is : slot_on shelves shelf ≡ Some slot = slot_standing shelves shelf ∙ ap (option_map (λ (x : world.Shelved). x.slot)) may in
    (sym (ap (λ (o : Option ℕ). got_by o at) is), omega (arith, bare_slot shelves shelf ∙ ap (λ (o : Option ℕ). cond {A = ℕ} (is_some o) 0 1) is))
got_of lent shelves at shelf step.Empty may =
    let is : slot_on shelves shelf ≡ None = slot_standing shelves shelf ∙ ap (option_map (λ (x : world.Shelved). x.slot)) may in
    (sym (ap (λ (o : Option ℕ). got_by o at) is), omega (arith, bare_slot shelves shelf ∙ ap (λ (o : Option ℕ). cond {A = ℕ} (is_some o) 0 1) is))
got_of lent shelves at shelf step.Idle may = absurd may
got_of lent shelves at shelf step.Refused may = absurd may
got_of lent shelves at shelf (step.Granted slot) may = absurd may

swaps : (kept : WorldState) (k : ℕ) (answer : Answer) (r t : RunState Object) (freed : Option Object) (i : IsInstruction kept k answer r t freed)
    → lent_by answer kept.places ≡ None → ((run at q : ℕ) → place_lent answer run at kept.places q ≡ place_at kept.places q)
    → IsSwapped (run_seen r) (run_seen t) i.step.served (slots_of r) (slots_of t) → IsExchange kept k answer r t freed i.after
swaps kept k answer r t freed i none stays s = Swaps s.shelf its.name (none_freed freed (λ kind. one kind (kind == s.shelf) refl)) stays (record {
  reached_is = ap reached s.asked;
  own = its.own;
  stands = there;
  others = λ other ne. elsewhere other (ne_eqb other s.shelf ne);
  slots_are = s.slots_are ∙ (λ j. slots_without (sym its.call j) (slots_of r) ++ got.0 j);
})
  where
    its : IsGivenOf r s.shelf s.given
    its = given_of r s.shelf s.given i.run i.going s.there

    got : (slots_fetched r.pc i.step.served ≡ got_by (slot_on kept.shelves s.shelf) r.pc)
        × (whole.fetched (told_by i.step.served) + is_bare (on_shelf kept.shelves s.shelf) ≡ 1)
    got = got_of (lent_by answer kept.places) kept.shelves r.pc s.shelf i.step.served
        (subst (λ (a : Asking). MayAnswer (offers (lent_by answer kept.places) kept.shelves) r.pc a i.step.served) s.asked i.step.may)

    leaves : (shelf : ℕ)
        → slot_on i.after shelf ≡ option_map (λ (x : world.Shelved). x.slot)
        (if shelf == s.shelf then shelved_from as_shelved r.held s.given else standing_on kept.shelves shelf)
    leaves shelf = slot_standing i.after shelf
        ∙ ap (option_map (λ (x : world.Shelved). x.slot))
        (i.step.shelves shelf ∙ s.leaves (shelved_from as_shelved r.held) shelf (standing_on kept.shelves shelf))

    there : slot_on i.after s.shelf ≡ slot_of its.name
    there = leaves s.shelf ∙ ap (λ (b : Bool).
        option_map (λ (x : world.Shelved). x.slot) (cond b (shelved_from as_shelved r.held s.given) (standing_on kept.shelves s.shelf)))
        (eq-eqb s.shelf s.shelf refl) ∙ its.stands

    elsewhere : (other : ℕ) → (other == s.shelf) ≡ false → slot_on i.after other ≡ slot_on kept.shelves other
    elsewhere other ne = leaves other ∙ ap
        (λ (b : Bool). option_map (λ (x : world.Shelved). x.slot) (cond b (shelved_from as_shelved r.held s.given) (standing_on kept.shelves other))) ne
        ∙ sym (slot_standing kept.shelves other)

    given_bare : is_bare (on_shelf i.after s.shelf) + cond (is_some its.name) 1 0 ≡ 1
    given_bare = by its.name (bare_slot i.after s.shelf ∙ ap (λ (o : Option ℕ). cond (is_some o) 0 1) there) where
      by : (n : Option Name) → is_bare (on_shelf i.after s.shelf) ≡ cond (is_some (slot_of n)) 0 1
          → is_bare (on_shelf i.after s.shelf) + cond (is_some n) 1 0 ≡ 1
      by None e = omega (arith, e)
      by (Some n) e = omega (arith, e)

    one : (kind : ℕ) (b : Bool) → (kind == s.shelf) ≡ b → one_away freed kind ≡ 1
    one kind true is =
        let same : kind ≡ s.shelf = eqb-true kind s.shelf is in
        let counts = counted_all kept k answer r t freed i kind in
        let more =
        s.kinds kind ∙ ap (λ (b : Bool). of_kind kind (without_given s.given (run_seen r).objects) + cond b (whole.fetched (told_by i.step.served)) 0) is in
        let less =
        sym (ap (λ (b : Bool). of_kind kind (without_given s.given (run_seen r).objects) + cond b (cond (is_some its.name) 1 0) 0) is) ∙ its.kinds kind in
        let now = ap (λ (n : ℕ). is_bare (on_shelf i.after n)) same in
        let was = ap (λ (n : ℕ). is_bare (on_shelf kept.shelves n)) same in
        omega (arith, counts, more, less, now, was, given_bare, got.1, lent_none kept answer kind none)
    one kind false is =
        let counts = counted_all kept k answer r t freed i kind in
        let more =
        s.kinds kind ∙ ap (λ (b : Bool). of_kind kind (without_given s.given (run_seen r).objects) + cond b (whole.fetched (told_by i.step.served)) 0) is in
        let less =
        sym (ap (λ (b : Bool). of_kind kind (without_given s.given (run_seen r).objects) + cond b (cond (is_some its.name) 1 0) 0) is) ∙ its.kinds kind in
        omega (arith, counts, more, less, same_bare i.after kept.shelves kind (elsewhere kind is), lent_none kept answer kind none)

pub exchange : (w : World) (kept : WorldState) (k : ℕ) (answer : Answer) (r t : RunState Object) (freed : Option Object)
    → Shows w kept → (i : IsInstruction kept k answer r t freed) → IsExchange kept k answer r t freed i.after
exchange w kept k answer r t freed shows i =
    by (loan kept.places answer (wanted (asking_in (run_seen r))) i.fine) (outcome w kept k answer r t freed shows i) where
      leaves : IsQuiet (run_seen r) → LeavesShelves kept r i.after
      leaves quiet = quiet_leaves kept k answer r t freed i quiet

      slot_answered : (slot : ℕ) → i.step.served ≡ step.Granted slot → answer ≡ Slot slot
      slot_answered slot e = sym (answered kept k answer r t freed i) ∙ ap answer_for e

      -- only a slot that is granted makes an event that answers one
      answered_slot : (slot : ℕ) → answer ≡ Slot slot → i.step.served ≡ step.Granted slot
      answered_slot slot is = by_served i.step.served (answered kept k answer r t freed i ∙ is) where
        by_served : (s : Served) → answer_for s ≡ Slot slot → s ≡ step.Granted slot
        by_served step.Idle e = absurd (cc)
        by_served step.Refused e = absurd (cc)
        by_served (step.Granted other) e = ap step.Granted (cc)
        by_served step.Empty e = absurd (cc)
        by_served (step.Fetched other bytes) e = absurd (cc)

      by : IsLoan kept.places answer (wanted (asking_in (run_seen r)))
          → IsOutcome (run_seen r) (run_seen t) i.step.served (slots_of r) (slots_of t) → IsExchange kept k answer r t freed i.after
      by (Nothing unanswered none stays) (Kept quiet o) =
          Stays (leaves quiet) (none_freed freed
          (λ kind. omega (arith, counted kept k answer r t freed i (leaves quiet) kind, lent_none kept answer kind none, o.kinds kind))) stays o.slots_are
      by (Nothing unanswered none stays) (Granted quiet g) = absurd (not_slot answer unanswered g.slot (slot_answered g.slot g.answered)) where
        not_slot : (a : Answer) → ((slot : ℕ) → a ≢ Slot slot) → (slot : ℕ) → a ≢ Slot slot
        not_slot Absent un slot e = absurd (cc)
        not_slot Null un slot e = absurd (cc)
        not_slot (Slot s) un slot e = un s refl
      by (Nothing unanswered none stays) (Freed quiet f) = frees w kept k answer r t freed shows i (leaves quiet) none stays f
      by (Nothing unanswered none stays) (Swapped s) = swaps kept k answer r t freed i none stays s
      by (Loan slot o is home wants) (Kept quiet kept_o) = let unasked = ap wanted (kept_o.unasked slot (answered_slot slot is)) in absurd (cc)
      by (Loan slot o is home wants) (Granted quiet g) = lends kept k answer r t freed slot o i (leaves quiet) is home wants g
      by (Loan slot o is home wants) (Freed quiet f) = let unasked = ap wanted f.unasked in absurd (cc)
      by (Loan slot o is home wants) (Swapped s) = let unasked = ap wanted s.asked in absurd (cc)
