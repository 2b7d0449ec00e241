-- What is on a shelf is exchanged: what the runs of a world hold then, and what they see of it.
use Rattle.std.proofs.Common.{◌≡◌, ◌≢◌, ◌⊎◌, inl, inr, ℕ, Bool, true, false, cond, not, ◌&&◌, List, [], ◌∷◌, ◌++◌, map, filter, Option, Some, None}
use Rattle.std.proofs.Common.{option_map, refl, sym, ap, ◌∙◌, subst}
use Rattle.std.specs.Prelude.{Contains, ◌==◌}
use Rattle.std.proofs.lemmas.Bool.{eq-eqb, ne_eqb, and_from, not-false, and_parts}
use Rattle.std.proofs.lemmas.List.{append-nil}
use Rattle.std.proofs.lemmas.List.Elements.{filter-append, Contains-append_left, Contains-push_cases}
use Rattle.ebpf_machine.specs.World.{Name, World, Running, Owner, Holder, Run, Shelf, is_run, is_call, is_shelf, standing, held_by, kind_in}
use Rattle.ebpf_machine.specs.World.{name_of, IsOfKind}
use Rattle.ebpf_machine.specs.Events.{with_run, with_owner, without_owner, without_shelved, put_on, fetched}
use Rattle.ebpf_machine.specs.View.{ObjectView, call_of, object_in, without_given}
use Rattle.ebpf_machine.specs.Advance.{slots_without}
use Rattle.ebpf_machine.specs.Sound.{IsOwned}
use Rattle.ebpf_machine.proofs.Lists.ListLemmas.{IsFound, Contains-filter, Contains-kept, filter_same, filter-map, filter-filter, find_is}
use Rattle.ebpf_machine.proofs.World.Owners.{owner_of, is_shelf-own, IsInItsSlot, slot_of_call, held_given, held_granted, others_given, others_granted}
use Rattle.ebpf_machine.proofs.World.ObjectsFound.{call_is, has_name, its_owner}
use Rattle.ebpf_machine.proofs.World.Moves.{IsDropped}

pub and_false : (t : Bool) → (t && false) ≡ false
and_false true = refl
and_false false = refl

-- ---- what is on a shelf

shelf_is : (shelf : ℕ) (h : Holder) → h ≡ Shelf shelf → is_shelf shelf h ≡ true
shelf_is shelf h e = ap (is_shelf shelf) e ∙ eq-eqb shelf shelf refl

pub off_shelf : (shelf : ℕ) (p : Owner) → is_shelf shelf p.holder ≡ false → p.holder ≢ Shelf shelf
off_shelf shelf p off e = let on = shelf_is shelf p.holder e in absurd (cc)

pub shelf_is_no_run : (shelf run at : ℕ) → Shelf shelf ≢ Run run at
shelf_is_no_run shelf run at e = let no = ap (is_shelf shelf) e in let yes = eq-eqb shelf shelf refl in absurd (cc)

pub stands : (w : World) (shelf : ℕ) → IsFound (λ (o : Owner). is_shelf shelf o.holder) w.owners (standing w shelf)
stands w shelf = find_is (λ (o : Owner). is_shelf shelf o.holder) w.owners

pub record StandsOn (w : World) (shelf : ℕ) (o : Owner) : Type 0 where
  pub among : Contains w.owners o
  pub holder : o.holder ≡ Shelf shelf

pub standing_there : (w : World) (shelf : ℕ) (o : Owner) → IsFound (λ (p : Owner). is_shelf shelf p.holder) w.owners (Some o) → StandsOn w shelf o
standing_there w shelf o found = record { among = found.0; holder = is_shelf-own shelf o.holder found.1 }

-- it is of the shelf's kind
pub kind_on_shelf : (w : World) (shelf : ℕ) (o : Owner) → IsOwned w → StandsOn w shelf o → shelf ≡ kind_in w o.slot
kind_on_shelf w shelf o owned on = subst (λ (h : Holder). IsOfKind w.runs h (kind_in w o.slot)) on.holder (owned.runs.asked o on.among)

-- all but what is in this slot on a shelf
abbrev pub stays_off : (slot shelf : ℕ) → Owner → Bool
stays_off slot shelf p = not ((p.slot == slot) && is_shelf shelf p.holder)

pub shelf_dropped : (w : World) (shelf : ℕ) (o : Owner) → IsOwned w → StandsOn w shelf o → IsDropped w o (stays_off o.slot shelf)
shelf_dropped w shelf o owned on = record {
  among = on.among;
  drops = ap not (and_from (o.slot == o.slot) (is_shelf shelf o.holder) (eq-eqb o.slot o.slot refl) (shelf_is shelf o.holder on.holder));
  only = λ p among e.
      let parts = and_parts (p.slot == o.slot) (is_shelf shelf p.holder) (not-false ((p.slot == o.slot) && is_shelf shelf p.holder) e) in
      owned.holders.one_a_call p o among on.among (is_shelf-own shelf p.holder parts.1 ∙ sym on.holder);
}

-- nothing else is there
pub nothing_else : (w : World) (shelf : ℕ) (o p : Owner) → IsOwned w → StandsOn w shelf o
    → Contains (filter (stays_off o.slot shelf) w.owners) p → p.holder ≢ Shelf shelf
nothing_else w shelf o p owned on among e =
    let parts = Contains-filter (stays_off o.slot shelf) w.owners p among in
    let same = ap (stays_off o.slot shelf) (owned.holders.one_a_call p o parts.0 on.among (e ∙ sym on.holder)) in
    let stays = parts.1 in
    let gone = (shelf_dropped w shelf o owned on).drops in
    absurd (cc)

-- ---- what a run gives

-- it is the run's, and of the shelf's kind
abbrev pub IsOwnGiven : World → (run shelf : ℕ) → Option Name → Type 0
IsOwnGiven w run shelf None = Unit {0}
IsOwnGiven w run shelf (Some name) = Contains w.owners (owner_of run name) × (kind_in w name.slot ≡ shelf)

pub given_dropped : (w : World) (run : ℕ) (name : Name) → Contains w.owners (owner_of run name)
    → IsDropped w (owner_of run name) (λ p. not ((p.slot == name.slot) && is_call run name.call p.holder))
given_dropped w run name own = record {
  among = own;
  drops = ap not (and_from (name.slot == name.slot) (is_call run name.call (Run run name.call)) (eq-eqb name.slot name.slot refl)
      (call_is run name.call (Run run name.call) refl));
  only = λ p among e. its_owner run name p (not-false (has_name run name p) e);
}

pub given_with_run : (w : World) (run shelf : ℕ) (given : Option Name) (now : Running) → IsOwnGiven w run shelf given
    → IsOwnGiven (with_run w run now) run shelf given
given_with_run w run shelf None now own = tt
given_with_run w run shelf (Some name) now own = own

-- it still is where the run got what was on the shelf
pub given_fetched : (w : World) (run at shelf : ℕ) (o : Owner) (given : Option Name) (now : Running) → IsOwnGiven w run shelf given
    → IsOwnGiven (fetched o shelf run at (with_run w run now)) run shelf given
given_fetched w run at shelf o None now own = tt
given_fetched w run at shelf o (Some name) now own = (
  Contains-append_left (filter (stays_off o.slot shelf) w.owners) _ (owner_of run name)
      (Contains-kept (stays_off o.slot shelf) w.owners (owner_of run name) own.0 (ap not (and_false (name.slot == o.slot)))),
  own.1,
)

-- nothing is on the shelf then
pub fetched_off : (w : World) (run at shelf : ℕ) (o p : Owner) → IsOwned w → StandsOn w shelf o
    → Contains (fetched o shelf run at w).owners p → p.holder ≢ Shelf shelf
fetched_off w run at shelf o p owned on among = by (Contains-push_cases (filter (stays_off o.slot shelf) w.owners) new p among) where
  new : Owner
  new = owner_of run (name_of o.slot at)

  by : Contains (filter (stays_off o.slot shelf) w.owners) p ⊎ (new ≡ p) → p.holder ≢ Shelf shelf
  by (inl old) = nothing_else w shelf o p owned on old
  by (inr same) = λ e. shelf_is_no_run shelf run at (sym (ap (λ (q : Owner). q.holder) same ∙ e))

-- what a run has by the call that it gives away is in the slot that it gives
abbrev pub IsGivenSlot : World → ℕ → Option Name → Type 0
IsGivenSlot w run None = Unit {0}
IsGivenSlot w run (Some name) = IsInItsSlot w run name

pub given_slot : (w : World) (run shelf : ℕ) (given : Option Name) → IsOwned w → IsOwnGiven w run shelf given → IsGivenSlot w run given
given_slot w run shelf None owned own = tt
given_slot w run shelf (Some name) owned own = λ o among e. slot_of_call w run name o owned own.0 among e

-- ---- what runs hold

pub held_shelved : (w : World) (run slot shelf : ℕ) → held_by (with_owner slot (Shelf shelf) w) run ≡ held_by w run
held_shelved w run slot shelf =
    filter-append (λ (o : Owner). is_run run o.holder) w.owners (record { slot = slot; holder = Shelf shelf } ∷ []) ∙ append-nil (held_by w run)

pub held_unshelved : (w : World) (run slot shelf : ℕ) → held_by (without_shelved slot shelf w) run ≡ held_by w run
held_unshelved w run slot shelf =
    filter-filter (λ (o : Owner). is_run run o.holder) (stays_off slot shelf) w.owners
    ∙ filter_same _ _ w.owners (λ o among. alike (o.slot == slot) o.holder)
  where
    alike : (here : Bool) (h : Holder) → (not (here && is_shelf shelf h) && is_run run h) ≡ is_run run h
    alike here (Run r at) = ap (λ (t : Bool). not t && (r == run)) (and_false here)
    alike here (Shelf s) = and_false (not (here && (s == shelf)))

pub held_fetched : (w : World) (run at shelf : ℕ) (o : Owner)
    → held_by (fetched o shelf run at w) run ≡ held_by w run ++ owner_of run (name_of o.slot at) ∷ []
held_fetched w run at shelf o =
    held_granted (without_shelved o.slot shelf w) run at o.slot
    ∙ ap (λ (os : List Owner). os ++ owner_of run (name_of o.slot at) ∷ []) (held_unshelved w run o.slot shelf)

-- the owners but for what is given away
abbrev pub held_without : Option Name → List Owner → List Owner
held_without None owners = owners
held_without (Some name) owners = filter (λ o. not (call_of o.holder == name.call)) owners

pub held_put : (w : World) (run shelf : ℕ) (given : Option Name) → IsGivenSlot w run given
    → held_by (put_on given shelf run w) run ≡ held_without given (held_by w run)
held_put w run shelf None its = refl
held_put w run shelf (Some name) its = held_shelved (without_owner run name w) run name.slot shelf ∙ held_given w run name its

pub others_put : (w : World) (run other shelf : ℕ) (given : Option Name) → other ≢ run → held_by (put_on given shelf run w) other ≡ held_by w other
others_put w run other shelf None ne = refl
others_put w run other shelf (Some name) ne = held_shelved (without_owner run name w) other name.slot shelf ∙ others_given w run other name ne

pub others_fetched : (w : World) (run other at shelf : ℕ) (o : Owner) → other ≢ run → held_by (fetched o shelf run at w) other ≡ held_by w other
others_fetched w run other at shelf o ne = others_granted (without_shelved o.slot shelf w) run other at o.slot ne ∙ held_unshelved w other o.slot shelf

-- by their calls
abbrev pub call_given : Option Name → Option ℕ
call_given given = option_map (λ (name : Name). name.call) given

abbrev pub slot_held : Owner → Name
slot_held o = name_of o.slot (call_of o.holder)

pub slots_left : (given : Option Name) (owners : List Owner)
    → map slot_held (held_without given owners) ≡ slots_without (call_given given) (map slot_held owners)
slots_left None owners = refl
slots_left (Some name) owners = sym (filter-map (λ (n : Name). not (n.call == name.call)) slot_held owners)

pub objects_left : (w : World) (given : Option Name) (owners : List Owner)
    → map (object_in w) (held_without given owners) ≡ without_given (call_given given) (map (object_in w) owners)
objects_left w None owners = refl
objects_left w (Some name) owners = sym (filter-map (λ (v : ObjectView). not (v.call == name.call)) (object_in w) owners)

-- what is not of a call that is given away stays at the end
abbrev pub IsNotGiven : Option Name → ℕ → Type 0
IsNotGiven None at = Unit {0}
IsNotGiven (Some name) at = name.call ≢ at

pub left_push : (given : Option Name) (run at slot : ℕ) (owners : List Owner) → IsNotGiven given at
    → held_without given (owners ++ owner_of run (name_of slot at) ∷ []) ≡ held_without given owners ++ owner_of run (name_of slot at) ∷ []
left_push None run at slot owners ne = refl
left_push (Some name) run at slot owners ne =
    let apart = ne_eqb at name.call (λ e. ne (sym e)) in
    filter-append (λ (o : Owner). not (call_of o.holder == name.call)) owners (owner_of run (name_of slot at) ∷ [])
    ∙ ap (λ (t : Bool). filter (λ (o : Owner). not (call_of o.holder == name.call)) owners ++ cond (not t) (owner_of run (name_of slot at) ∷ []) []) apart

-- a call that is given away is another than this one
given_slot_fetched : (w : World) (run at shelf : ℕ) (o : Owner) (given : Option Name) (now : Running) → IsOwned w
    → IsOwnGiven w run shelf given → IsNotGiven given at → IsGivenSlot (fetched o shelf run at (with_run w run now)) run given
given_slot_fetched w run at shelf o None now owned own ne = tt
given_slot_fetched w run at shelf o (Some name) now owned own ne =
    λ p among e. by p (Contains-push_cases (filter (stays_off o.slot shelf) w.owners) (owner_of run (name_of o.slot at)) p among) e where
      by : (p : Owner) → Contains (filter (stays_off o.slot shelf) w.owners) p ⊎ (owner_of run (name_of o.slot at) ≡ p)
          → p.holder ≡ Run run name.call → p.slot ≡ name.slot
      by p (inl old) e = slot_of_call w run name p owned own.0 (Contains-filter (stays_off o.slot shelf) w.owners p old).0 e
      by p (inr same) e = absurd (ne (sym (ap call_of (ap (λ (q : Owner). q.holder) same ∙ e))))

-- what a run holds that got what was on the shelf by this call
pub held_exchanged : (w : World) (run at shelf : ℕ) (o : Owner) (given : Option Name) (now : Running) → IsOwned w
    → IsOwnGiven w run shelf given → IsNotGiven given at
    → held_by (put_on given shelf run (fetched o shelf run at (with_run w run now))) run
    ≡ held_without given (held_by w run) ++ owner_of run (name_of o.slot at) ∷ []
held_exchanged w run at shelf o given now owned own ne =
    held_put (fetched o shelf run at (with_run w run now)) run shelf given (given_slot_fetched w run at shelf o given now owned own ne)
    ∙ ap (held_without given) (held_fetched (with_run w run now) run at shelf o)
    ∙ left_push given run at o.slot (held_by w run) ne
