-- The runs of a world, and those that are kept: what is said of one by its number.
use Rattle.std.proofs.Common.{◌≡◌, ◌≢◌, ⊎_elim, ◌⊎◌, inl, inr, ℕ, zero, suc, true, false, eqb, All, List, [], ◌∷◌, ◌++◌, length, Option, Some}
use Rattle.std.proofs.Common.{None, refl, sym, ap, ◌∙◌, subst, arith}
use Rattle.std.specs.Prelude.{slice_get, option_map}
use Rattle.std.proofs.lemmas.Bool.Decides.{eqb_tells}
use Rattle.std.proofs.lemmas.Option.{get_or_from_slice_get, slice_get_within}
use Rattle.ebpf_verify.specs.Subject.{Subject}
use Rattle.ebpf_machine.specs.World.{World, Running, kinds_of}
use Rattle.ebpf_machine.specs.Kinds.{known_kinds}
use Rattle.ebpf_machine.specs.View.{view_of, view_in}
use Rattle.ebpf_machine.specs.RunState.{RunState, first_state_of}
use Rattle.ebpf_machine.specs.Sound.{IsSound, IsAlone}
use Rattle.ebpf_machine.specs.Store.{AreOutBy}
use Rattle.ebpf_machine.specs.Alone.{replies_from}
use Rattle.ebpf_machine.proofs.World.Lone.{after_none}
use Rattle.ebpf_machine.proofs.World.Execs.{shown_run}
use Rattle.ebpf_shelves.specs.declared.object.Object.{Object}
use Rattle.ebpf_core.specs.Passing.{IsOut}
use Rattle.ebpf_core.specs.Shown.{WorldState, Shows, IsTended, run_seen}

-- what is said of all is said of the one of a number
pub at_number : {X : Type 0} (P : X → Type 0) (xs : List X) (k : ℕ) (x : X) → All P xs → slice_get xs k ≡ Some x → P x
at_number P xs k x all at = subst P (get_or_from_slice_get xs k x x at) (all k x (slice_get_within xs k x at))

-- a run that is kept is that of a world that sees itself so
pub run_shown : (w : World) (kept : WorldState) (k : ℕ) (r : RunState Object) → Shows w kept → slice_get kept.runs k ≡ Some r
    → (run : Running) × (slice_get w.runs k ≡ Some run) × (view_of w k run ≡ run_seen r)
run_shown w kept k r h at = shown_run w k (run_seen r) (h.views k ∙ ap (option_map run_seen) at)

-- where none is kept there is none
pub none_shown : (w : World) (kept : WorldState) (k : ℕ) → Shows w kept → slice_get kept.runs k ≡ None → slice_get w.runs k ≡ None
none_shown w kept k h at = by_run (slice_get w.runs k) refl where
  by_run : (o : Option Running) → slice_get w.runs k ≡ o → slice_get w.runs k ≡ None
  by_run None there = there
  by_run (Some run) there =
      let seen : view_in w k ≡ Some (view_of w k run) = rw there refl in
      let none : view_in w k ≡ None = h.views k ∙ ap (option_map run_seen) at in
      absurd (cc)

-- a list that grew, and one of which a place was written, by number
pub get_past : {X : Type 0} (xs : List X) (y : X) (k : ℕ) → k ≢ length xs → slice_get (xs ++ y ∷ []) k ≡ slice_get xs k
get_past [] y zero ne = absurd (ne refl)
get_past [] y (suc k) ne = refl
get_past (x ∷ xs) y zero ne = refl
get_past (x ∷ xs) y (suc k) ne = get_past xs y k (λ e. ne (ap suc e))

pub get_last : {X : Type 0} (xs : List X) (y : X) → slice_get (xs ++ y ∷ []) (length xs) ≡ Some y
get_last [] y = refl
get_last (x ∷ xs) y = get_last xs y

-- two numbers are the same, or not
pub same_number : (a b : ℕ) → (a ≡ b) ⊎ (a ≢ b)
same_number a b = ⊎_elim (λ (e : (eqb a b ≡ true) × (a ≡ b)). inl e.1) (λ (e : (eqb a b ≡ false) × (a ≢ b)). inr e.1) (eqb_tells a b)

-- what there may be is this number, or not
pub is_number : (o : Option ℕ) (k : ℕ) → (o ≡ Some k) ⊎ (o ≢ Some k)
is_number None k = inr (λ e. absurd (cc))
is_number (Some n) k = by (same_number n k) where
  by : (n ≡ k) ⊎ (n ≢ k) → (Some n ≡ Some k) ⊎ (Some n ≢ Some k)
  by (inl same) = inl (ap Some same)
  by (inr ne) = inr (λ e. ne (some_same e)) where
    some_same : Some n ≡ Some k → n ≡ k
    some_same e = cc

-- ---- a run that is kept

pub first_alone : (s : Subject) (context : List ℕ) → IsAlone (run_seen (first_state_of s context))
first_alone s context = rw (after_none s context (replies_from [] [])) refl

pub tended_first : (s : Subject) (context : List ℕ) (r : RunState Object) → r ≡ first_state_of s context → IsSound (run_seen r)
    → kinds_of s.rows ≡ known_kinds → IsTended r
tended_first s context r is sound kinds = record {
  sound = sound;
  alone = subst (λ (x : RunState Object). IsAlone (run_seen x)) (sym is) (first_alone s context);
  out = subst (λ (x : RunState Object). AreOutBy (IsOut None []) (λ (o : Object). o.kind) (λ (o : Object). o.slot) x.held) (sym is) none_out;
  kinds = ap (λ (x : RunState Object). kinds_of x.subject.rows) is ∙ kinds;
}
  where
    none_out : AreOutBy (IsOut None []) (λ (o : Object). o.kind) (λ (o : Object). o.slot) []
    none_out = record { out = λ k d lt. absurd (omega (arith, lt)); apart = λ i j d lt within. absurd (omega (arith, within)) }
