-- What a world in which owners, ledgers and pointers fit together says of a slot: its ledger, and who has it.
use Rattle.std.proofs.Common.{◌≡◌, ℕ, true, List, [], ◌∷◌, Option, Some, None, refl, sym, ap, ◌∙◌, subst}
use Rattle.std.specs.Prelude.{slice_get, Contains, ◌==◌}
use Rattle.std.specs.List.{find}
use Rattle.std.proofs.lemmas.Bool.{eqb-true, eq-eqb}
use Rattle.ebpf_machine.specs.World.{Name, World, Running, Owner, Holder, Run, Shelf, is_by_run, is_run, kind_in, held_by, name_of, IsOfKind}
use Rattle.ebpf_machine.specs.View.{call_of, slots_in}
use Rattle.ebpf_machine.specs.Sound.{IsOwned}
use Rattle.ebpf_machine.proofs.Lists.ListLemmas.{IsFound, find_is, Contains-head, Contains-kept}
use Rattle.ebpf_machine.proofs.Lists.Mapped.{Contains-mapped, Contains-unmapped}
use Rattle.ebpf_machine.proofs.World.Owners.{owner_of, held_owner, same_slot}

-- ---- runs and owners

-- a slot that a run holds is owned by it, and the other way round
pub held_owns : (w : World) (run : ℕ) (n : Name) → Contains (slots_in w run) n → Contains w.owners (owner_of run n)
held_owns w run n among =
    let one = Contains-unmapped (λ (o : Owner). name_of o.slot (call_of o.holder)) (held_by w run) n among in
    let held = held_owner w run one.0 one.1 in
    let slot : one.0.slot ≡ n.slot = ap (λ (m : Name). m.slot) one.2 in
    let call : call_of one.0.holder ≡ n.call = ap (λ (m : Name). m.call) one.2 in
    let holder : one.0.holder ≡ Run run n.call = held.1 ∙ ap (λ (at : ℕ). Run run at) call in
    let same : one.0 ≡ owner_of run n = λ i. record { slot = slot i; holder = holder i } in
    subst (λ (o : Owner). Contains w.owners o) same held.0

pub owns_held : (w : World) (run : ℕ) (n : Name) → Contains w.owners (owner_of run n) → Contains (slots_in w run) n
owns_held w run n among = Contains-mapped (λ (o : Owner). name_of o.slot (call_of o.holder)) (held_by w run) (owner_of run n)
    (Contains-kept (λ (o : Owner). is_run run o.holder) w.owners (owner_of run n) among (eq-eqb run run refl))

-- a run that has a slot is one of the world
pub owner_runs : (w : World) (o : Owner) → IsOwned w → is_by_run o.holder ≡ true → Contains w.owners o
    → (run at : ℕ) × (r : Running) × (slice_get w.runs run ≡ Some r) × (o ≡ owner_of run (name_of o.slot at))
owner_runs w o owned run among = by o.holder refl where
  by : (h : Holder) → o.holder ≡ h → (run at : ℕ) × (r : Running) × (slice_get w.runs run ≡ Some r) × (o ≡ owner_of run (name_of o.slot at))
  by (Run run at) is =
      let asker = subst (λ (h : Holder). IsOfKind w.runs h (kind_in w o.slot)) is (owned.runs.asked o among) in
      let same : o ≡ owner_of run (name_of o.slot at) = λ i. record { slot = o.slot; holder = is i } in
      (run, at, asker.asker, asker.there, same)
  by (Shelf s) is = let none = ap is_by_run (sym is) ∙ run in absurd (cc)

-- where there is no run of a number, nobody has a slot by it
pub unheld : (w : World) (k : ℕ) → IsOwned w → slice_get w.runs k ≡ None → held_by w k ≡ []
unheld w k owned none = by_list (held_by w k) refl where
  by_list : (os : List Owner) → held_by w k ≡ os → held_by w k ≡ []
  by_list [] is = is
  by_list (o ∷ os) is =
      let held = held_owner w k o (subst (λ (xs : List Owner). Contains xs o) (sym is) (Contains-head o os)) in
      let asker = subst (λ (h : Holder). IsOfKind w.runs h (kind_in w o.slot)) held.1 (owned.runs.asked o held.0) in
      let there = asker.there in
      absurd (cc)

-- who is found to have a slot
pub owner_found : (w : World) (run at slot : ℕ) → IsOwned w → Contains w.owners (owner_of run (name_of slot at))
    → find (λ (o : Owner). o.slot == slot) w.owners ≡ Some (owner_of run (name_of slot at))
owner_found w run at slot owned among = by (find (λ (o : Owner). o.slot == slot) w.owners) (find_is (λ (o : Owner). o.slot == slot) w.owners) where
  by : (f : Option Owner) → IsFound (λ (o : Owner). o.slot == slot) w.owners f → f ≡ Some (owner_of run (name_of slot at))
  by None none = let away = none (owner_of run (name_of slot at)) among in let here = eq-eqb slot slot refl in absurd (cc)
  by (Some o) found = ap Some (same_slot w o (owner_of run (name_of slot at)) owned found.0 among (eqb-true o.slot slot found.1))
