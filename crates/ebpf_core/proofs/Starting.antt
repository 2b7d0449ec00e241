-- A run starts: the world that is kept then shows the one after the event, and what always holds of a world holds of it.
use Rattle.std.proofs.Common.{◌≡◌, ◌≢◌, ⊎_elim, ◌⊎◌, inl, inr, ℕ, ◌+◌, Bool, true, false, cond, eqb, List, [], ◌∷◌, ◌++◌, length, Option, Some}
use Rattle.std.proofs.Common.{None, Ok, Err, refl, sym, ap, ◌∙◌, subst, arith}
use Rattle.std.specs.Prelude.{◌==◌, Contains, map, option_map, slice_get}
use Rattle.std.proofs.lemmas.Bool.{eq-eqb}
use Rattle.std.proofs.lemmas.Bool.Decides.{eqb_tells}
use Rattle.std.proofs.lemmas.Option.{slice_get_past}
use Rattle.std.proofs.lemmas.List.{length_push}
use Rattle.std.proofs.lemmas.List.Elements.{All-push}
use Rattle.ebpf_verify.specs.Subject.{Subject}
use Rattle.ebpf_machine.specs.World.{Name, World, Owner, kinds_of, first_run, held_by, name_of}
use Rattle.ebpf_machine.specs.Kinds.{known_kinds}
use Rattle.ebpf_machine.specs.Events.{Illegal, NoSuchProgramOrKind, WrongContext, started, starting}
use Rattle.ebpf_machine.specs.View.{call_of, view_of, view_in, slots_in}
use Rattle.ebpf_machine.specs.RunState.{RunState, first_state_of}
use Rattle.ebpf_machine.specs.Sound.{IsSound}
use Rattle.ebpf_machine.proofs.Lists.ListLemmas.{get_push, get_push_cases}
use Rattle.ebpf_machine.proofs.World.Owned.{owned_started}
use Rattle.ebpf_core.specs.declared.fault.ApplyCode.{ApplyCode}
use Rattle.ebpf_core.specs.declared.fault.ApplyCode.TheVariants as apply
use Rattle.ebpf_shelves.specs.declared.object.Object.{Object}
use Rattle.ebpf_core.specs.declared.place.Place.{Place}
use Rattle.ebpf_core.specs.declared.place.Place.TheVariants.{Home, Held, Shelved}
use Rattle.ebpf_core.specs.Faults.{code_of}
use Rattle.ebpf_core.specs.Stepping.{start_code}
use Rattle.ebpf_core.specs.Places.{place_at}
use Rattle.ebpf_core.specs.Shown.{WorldState, Shows, ArePlaced, IsPlaced, IsTended, IsTendedWorld, run_seen, slots_of}
use Rattle.ebpf_core.proofs.Runs.{get_past, get_last, none_shown, same_number, tended_first}
use Rattle.ebpf_core.proofs.OwnedSlots.{unheld}

-- one more run is kept
abbrev with_started : WorldState → RunState Object → WorldState
with_started kept r = record kept { runs = kept.runs ++ r ∷ [] }

-- ---- the world that is shown

-- the next run by number holds nothing yet
next_unheld : (w : World) (kept : WorldState) → Shows w kept → held_by w (length kept.runs) ≡ []
next_unheld w kept h = unheld w (length kept.runs) h.owned (none_shown w kept (length kept.runs) h (slice_get_past kept.runs (length kept.runs) (omega arith)))

first_seen : (w : World) (s : Subject) (context : List ℕ) (k : ℕ) → held_by w k ≡ []
    → view_of (started s context w) k (first_run s context) ≡ run_seen (first_state_of s context)
first_seen w s context k none = rw none refl

started_views : (w : World) (kept : WorldState) (s : Subject) (context : List ℕ) → Shows w kept → (k : ℕ)
    → view_in (started s context w) k ≡ option_map run_seen (slice_get (kept.runs ++ first_state_of s context ∷ []) k)
started_views w kept s context h k = by_place (same_number k (length kept.runs)) where
  by_place : (k ≡ length kept.runs) ⊎ (k ≢ length kept.runs)
      → view_in (started s context w) k ≡ option_map run_seen (slice_get (kept.runs ++ first_state_of s context ∷ []) k)
  by_place (inl last) =
      let there : slice_get (w.runs ++ first_run s context ∷ []) k ≡ Some (first_run s context) =
      ap (slice_get (w.runs ++ first_run s context ∷ [])) (last ∙ sym h.as_many) ∙ get_last w.runs (first_run s context) in
      let here : slice_get (kept.runs ++ first_state_of s context ∷ []) k ≡ Some (first_state_of s context) =
      ap (slice_get (kept.runs ++ first_state_of s context ∷ [])) last ∙ get_last kept.runs (first_state_of s context) in
      let none : held_by w k ≡ [] = ap (held_by w) last ∙ next_unheld w kept h in
      ap (option_map (view_of (started s context w) k)) there ∙ (ap Some (first_seen w s context k none) ∙ sym (ap (option_map run_seen) here))
  by_place (inr ne) =
      let there = get_past w.runs (first_run s context) k (λ e. ne (e ∙ h.as_many)) in
      let here = get_past kept.runs (first_state_of {H = Object} s context) k ne in
      ap (option_map (view_of w k)) there ∙ (h.views k ∙ sym (ap (option_map run_seen) here))

started_slots : (w : World) (kept : WorldState) (s : Subject) (context : List ℕ) → Shows w kept → (k : ℕ) (r : RunState Object)
    → slice_get (kept.runs ++ first_state_of s context ∷ []) k ≡ Some r → slots_in w k ≡ slots_of r
started_slots w kept s context h k r at = by_place (same_number k (length kept.runs)) where
  by_place : (k ≡ length kept.runs) ⊎ (k ≢ length kept.runs) → slots_in w k ≡ slots_of r
  by_place (inl last) =
      let here : slice_get (kept.runs ++ first_state_of s context ∷ []) k ≡ Some (first_state_of s context) =
      ap (slice_get (kept.runs ++ first_state_of s context ∷ [])) last ∙ get_last kept.runs (first_state_of s context) in
      let same : first_state_of s context ≡ r = cc in
      let none : held_by w k ≡ [] = ap (held_by w) last ∙ next_unheld w kept h in
      let had : slots_in w k ≡ [] = ap (map (λ (o : Owner). name_of o.slot (call_of o.holder))) none in
      let has : [] ≡ slots_of r = ap slots_of same in
      had ∙ has
  by_place (inr ne) = h.slots k r (sym (get_past kept.runs (first_state_of {H = Object} s context) k ne) ∙ at)

started_shows : (w : World) (kept : WorldState) (s : Subject) (context : List ℕ) → kinds_of s.rows ≡ w.kinds → Shows w kept
    → Shows (started s context w) (with_started kept (first_state_of s context))
started_shows w kept s context kinds h = record {
  views = started_views w kept s context h;
  slots = started_slots w kept s context h;
  as_many = length_push w.runs (first_run s context) ∙ (ap (λ (n : ℕ). n + 1) h.as_many ∙ sym (length_push kept.runs (first_state_of s context)));
  kinds = h.kinds;
  ledgers = h.ledgers;
  owned = owned_started w s context h.owned kinds;
  shelves = h.shelves;
}

-- ---- what the event leads to

pub starting_none : (programs : List Subject) (program : ℕ) (context : List ℕ) (w : World) → slice_get programs program ≡ None
    → starting (slice_get programs program) context w ≡ Err NoSuchProgramOrKind
starting_none programs program context w none = rw none refl

pub starting_long : (programs : List Subject) (program : ℕ) (s : Subject) (context : List ℕ) (w : World)
    → slice_get programs program ≡ Some s → length context ≢ s.decl.context
    → starting (slice_get programs program) context w ≡ Err WrongContext
starting_long programs program s context w at long = rw (at, differ (length context) s.decl.context long) refl where
  differ : (a b : ℕ) → a ≢ b → eqb a b ≡ false
  differ a b ne = ⊎_elim (λ (e : (eqb a b ≡ true) × (a ≡ b)). absurd (ne e.1)) (λ (e : (eqb a b ≡ false) × (a ≢ b)). e.0) (eqb_tells a b)

pub starting_fits : (programs : List Subject) (program : ℕ) (s : Subject) (context : List ℕ) (w : World)
    → slice_get programs program ≡ Some s → length context ≡ s.decl.context
    → (after : World) × (starting (slice_get programs program) context w ≡ Ok after)
starting_fits programs program s context w at fits = (started s context w, rw (at, eq-eqb (length context) s.decl.context fits) refl)

-- by the code of a start
pub start_refused : (o : Option Subject) (context : List ℕ) (w : World) (code : ApplyCode)
    → start_code o (length context) ≡ Some code → (why : Illegal) × (starting o context w ≡ Err why) × (code ≡ code_of why)
start_refused None context w code e = (NoSuchProgramOrKind, refl, cc)
start_refused (Some s) context w code e = by (length context == s.decl.context) e where
  by : (t : Bool) → cond t None (Some apply.WrongContext) ≡ Some code
      → (why : Illegal) × (cond t (Ok (started s context w)) (Err WrongContext) ≡ Err why) × (code ≡ code_of why)
  by true e = absurd (cc)
  by false e = (WrongContext, refl, cc)

pub start_legal : (o : Option Subject) (context : List ℕ) (w : World) → start_code o (length context) ≡ None
    → (after : World) × (starting o context w ≡ Ok after)
start_legal None context w e = absurd (cc)
start_legal (Some s) context w e = by (length context == s.decl.context) e where
  by : (t : Bool) → cond t None (Some apply.WrongContext) ≡ None → (after : World) × (cond t (Ok (started s context w)) (Err WrongContext) ≡ Ok after)
  by true e = (started s context w, refl)
  by false e = absurd (cc)

starting_shows : (programs : List Subject) (program : ℕ) (s : Subject) (context : List ℕ) (w : World) (kept : WorldState) (r : RunState Object)
    → kinds_of s.rows ≡ known_kinds → Shows w kept → slice_get programs program ≡ Some s → length context ≡ s.decl.context
    → r ≡ first_state_of s context
    → (after : World) × (starting (slice_get programs program) context w ≡ Ok after) × Shows after (with_started kept r)
starting_shows programs program s context w kept r kinds h at fits first = (
  started s context w,
  rw (at, eq-eqb (length context) s.decl.context fits) refl,
  subst (λ (x : RunState Object). Shows (started s context w) (with_started kept x)) (sym first) (started_shows w kept s context (kinds ∙ sym h.kinds) h),
)

-- runs are those that were kept, and the new one
pub starting_pushed : (programs : List Subject) (program : ℕ) (s : Subject) (context : List ℕ) (w : World) (kept : WorldState) (r : RunState Object)
    (runs : List (RunState Object))
    → kinds_of s.rows ≡ known_kinds → Shows w kept → slice_get programs program ≡ Some s
    → length context ≡ s.decl.context → r ≡ first_state_of s context → runs ≡ kept.runs ++ r ∷ []
    → (after : World) × (starting (slice_get programs program) context w ≡ Ok after) × Shows after (record kept { runs = runs })
starting_pushed programs program s context w kept r runs kinds h at fits first pushed =
    let next = starting_shows programs program s context w kept r kinds h at fits first in
    (next.0, next.1, subst (λ (rs : List (RunState Object)). Shows next.0 (record kept { runs = rs })) (sym pushed) next.2)

-- ---- what always holds

placed_started : (kept : WorldState) (r : RunState Object) → slots_of r ≡ [] → ArePlaced kept → ArePlaced (with_started kept r)
placed_started kept r none placed = record {
  each = λ slot. by (place_at kept.places slot) slot (placed.each slot);
  held = λ run t at n among.
      held run t n among (get_push_cases kept.runs run t r at) at;
  shelved = placed.shelved;
} where
  by : (p : Option Place) (slot : ℕ) → IsPlaced kept slot p → IsPlaced (with_started kept r) slot p
  by None slot is = is
  by (Some (Home o)) slot is = record { same = is.same; its = is.its; known = is.known; image = is.image }
  by (Some (Held run at)) slot is = (is.0, get_push kept.runs run is.0 r is.1, is.2)
  by (Some (Shelved shelf)) slot is = is

  held : (run : ℕ) (t : RunState Object) (n : Name) → Contains (slots_of t) n → (slice_get kept.runs run ≡ Some t) ⊎ (r ≡ t)
      → slice_get (kept.runs ++ r ∷ []) run ≡ Some t → place_at kept.places n.slot ≡ Some (Held run n.call)
  held run t n among (inl old) at = placed.held run t old n among
  held run t n among (inr new) at =
      let inside = (subst (λ (ns : List Name). Contains ns n) (sym (ap slots_of new) ∙ none) among).1 in absurd (omega (arith, inside))

started_tended : (kept : WorldState) (s : Subject) (context : List ℕ) (r : RunState Object) → kinds_of s.rows ≡ known_kinds
    → r ≡ first_state_of s context → IsSound (run_seen r) → IsTendedWorld kept → IsTendedWorld (with_started kept r)
started_tended kept s context r kinds first sound tended = record {
  known = tended.known;
  runs = All-push IsTended kept.runs r tended.runs (tended_first s context r first sound kinds);
  placed = placed_started kept r (ap slots_of first) tended.placed;
  shown = (
    started s context tended.shown.0,
    subst (λ (x : RunState Object). Shows (started s context tended.shown.0) (with_started kept x)) (sym first)
        (started_shows tended.shown.0 kept s context (kinds ∙ sym tended.shown.1.kinds) tended.shown.1),
  );
}

pub pushed_tended : (kept : WorldState) (s : Subject) (context : List ℕ) (r : RunState Object) (runs : List (RunState Object))
    → kinds_of s.rows ≡ known_kinds → r ≡ first_state_of s context → IsSound (run_seen r) → IsTendedWorld kept
    → runs ≡ kept.runs ++ r ∷ []
    → IsTendedWorld (record kept { runs = runs })
pushed_tended kept s context r runs kinds first sound tended pushed =
    subst (λ (rs : List (RunState Object)). IsTendedWorld (record kept { runs = rs })) (sym pushed) (started_tended kept s context r kinds first sound tended)
