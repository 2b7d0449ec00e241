-- What a run finds under the name of an object to which it has a pointer is what it sees there, and what it finds is its own.
use Rattle.std.proofs.Common.{◌≡◌, ℕ, Bool, true, false, cond, Option, Some, None, option_map, Result, Ok, Err, refl, ap, ◌∙◌, subst}
use Rattle.std.specs.Prelude.{Contains, slice_get, ◌==◌, ◌&&◌}
use Rattle.std.specs.List.{find}
use Rattle.std.proofs.lemmas.Bool.{eqb-true, eq-eqb, and_parts, and_from, false_from_ne_true}
use Rattle.ebpf_machine.specs.Values.{Trap, UseAfterFree, AnotherRunsObject}
use Rattle.ebpf_machine.specs.Effect.{Found}
use Rattle.ebpf_machine.specs.World.{Name, World, Running, Owner, Holder, Run, Shelf, is_call, is_run, held_by, kind_in, is_held_by, is_anothers, object_for}
use Rattle.ebpf_machine.specs.View.{ObjectView, call_of, object_in, found_in, object_at}
use Rattle.ebpf_machine.specs.Sound.{IsOwned, HasPointer}
use Rattle.ebpf_machine.proofs.Lists.ListLemmas.{IsFound, Contains-kept, any_from, any_one, find_is, find-map}
use Rattle.ebpf_machine.proofs.World.Owners.{owner_of, held_owner}
use Rattle.ebpf_machine.proofs.World.ObjectsSeen.{objects_of}
use Rattle.ebpf_machine.proofs.World.Telling.{by_call, found_told}

pub is_call-own : (run at : ℕ) (h : Holder) → is_call run at h ≡ true → h ≡ Run run at
is_call-own run at (Run r a) e =
    let parts = and_parts (r == run) (a == at) e in
    let same_run = eqb-true r run parts.0 in
    let same_call = eqb-true a at parts.1 in
    λ i. Run (same_run i) (same_call i)
is_call-own run at (Shelf s) e = absurd (cc)

pub call_is : (run at : ℕ) (h : Holder) → h ≡ Run run at → is_call run at h ≡ true
call_is run at h e = ap (is_call run at) e ∙ and_from (run == run) (at == at) (eq-eqb run run refl) (eq-eqb at at refl)

run_is : (run at : ℕ) (h : Holder) → h ≡ Run run at → is_run run h ≡ true
run_is run at h e = ap (is_run run) e ∙ eq-eqb run run refl

-- the run has the slot by the call of the name
abbrev pub has_name : ℕ → Name → Owner → Bool
has_name run n o = (o.slot == n.slot) && is_call run n.call o.holder

pub its_owner : (run : ℕ) (n : Name) (o : Owner) → has_name run n o ≡ true → o ≡ owner_of run n
its_owner run n o e =
    let parts = and_parts (o.slot == n.slot) (is_call run n.call o.holder) e in
    let slot = eqb-true o.slot n.slot parts.0 in
    let holder = is_call-own run n.call o.holder parts.1 in
    λ i. record { slot = slot i; holder = holder i }

ok_same : (a b : Found) (the : Result Found Trap) → the ≡ Ok a → the ≡ Ok b → b ≡ a
ok_same a b the e f = cc

-- what a run finds, it holds
pub own_found : (w : World) (run : ℕ) (n : Name) (found : Found) → object_for w run n ≡ Ok found
    → Contains w.owners (owner_of run n) × (found.bytes ≡ w.bytes n.slot) × (found.kind ≡ kind_in w n.slot)
own_found w run n found e = by (is_held_by w run n) (is_anothers w run n.slot) refl e where
  its : Found
  its = record { kind = kind_in w n.slot; bytes = w.bytes n.slot }

  by : (t u : Bool) → is_held_by w run n ≡ t → cond t (Ok its) (cond u (Err AnotherRunsObject) (Err UseAfterFree)) ≡ Ok found
      → Contains w.owners (owner_of run n) × (found.bytes ≡ w.bytes n.slot) × (found.kind ≡ kind_in w n.slot)
  by true u held e =
      let one = any_one (has_name run n) w.owners held in (
        subst (Contains w.owners) (its_owner run n one.0 one.2) one.1,
        ap (λ (f : Found). f.bytes) (ok_same its found (Ok its) refl e),
        ap
            (λ (f : Found). f.kind) (ok_same its found (Ok its) refl e),
      )
  by false true held e = absurd (cc)
  by false false held e = absurd (cc)

-- as a run that sees itself it finds the same; another run's object and nobody's are one to it
pub objects_found : (w : World) (run : ℕ) (r : Running) (n : Name) → IsOwned w → slice_get w.runs run ≡ Some r
    → HasPointer r.frame n → object_at (objects_of w run) n.call ≡ found_told by_call (object_for w run n)
objects_found w run r n owned there has =
    ap found_in (find-map (λ (o : ObjectView). o.call == n.call) (object_in w) (held_by w run))
    ∙ by (find named (held_by w run)) (find_is named (held_by w run))
  where
    named : Owner → Bool
    named o = call_of o.holder == n.call

    none : (t : Bool) → Err UseAfterFree ≡ found_told by_call (cond t (Err AnotherRunsObject) (Err UseAfterFree))
    none true = refl
    none false = refl

    by : (o : Option Owner) → IsFound named (held_by w run) o → found_in (option_map (object_in w) o) ≡ found_told by_call (object_for w run n)
    by (Some o) found =
        let held = held_owner w run o found.0 in
        let holder : o.holder ≡ Run run n.call = held.1 ∙ ap (λ (k : ℕ). Run run k) (eqb-true (call_of o.holder) n.call found.1) in
        let slot = (owned.runs.pointers run r there n has).slot o held.0 holder in
        let its = any_from (has_name run n) w.owners o held.0
        (and_from (o.slot == n.slot) (is_call run n.call o.holder) (eq-eqb o.slot n.slot slot) (call_is run n.call o.holder holder)) in
        rw (its, slot) refl
    by None fails =
        let its : is_held_by w run n ≡ false = false_from_ne_true (is_held_by w run n) (λ held. unheld held) in
        rw its (none (is_anothers w run n.slot))
      where
        unheld : is_held_by w run n ≡ true → ⊥
        unheld held =
            let one = any_one (has_name run n) w.owners held in
            let holder : one.0.holder ≡ Run run n.call = ap (λ (o : Owner). o.holder) (its_owner run n one.0 one.2) in
            let among = Contains-kept (λ (o : Owner). is_run run o.holder) w.owners one.0 one.1 (run_is run n.call one.0.holder holder) in
            let call : named one.0 ≡ true = eq-eqb (call_of one.0.holder) n.call (ap call_of holder) in
            let not_it = fails one.0 among in
            absurd (cc)
