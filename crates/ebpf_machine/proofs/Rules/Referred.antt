-- The kinds of the references that a state holds, by the calls that asked for them.
use Rattle.std.proofs.Common.{◌≡◌, ◌≢◌, ℕ, ◌<◌, ◌≤◌, Bool, true, false, cond, eqb, not, List, [], ◌∷◌, ◌++◌, length, Option, Some, None, refl, sym}
use Rattle.std.proofs.Common.{ap, ◌∙◌, arith}
use Rattle.std.specs.Prelude.{Contains, ◌==◌, map, filter, nat_lt, option_map}
use Rattle.std.specs.List.{find}
use Rattle.std.specs.Option.{option_or}
use Rattle.std.proofs.lemmas.Bool.{cond_both, and_parts, eqb-true, ne_eqb, eq-eqb, lt-ltb}
use Rattle.std.proofs.lemmas.Bool.Decides.{nat_tests}
use Rattle.std.proofs.lemmas.List.Filters.{length-filter_both}
use Rattle.std.proofs.lemmas.List.Elements.{All-contains}
use Rattle.ebpf_state.specs.Ascending.{IsAscending}
use Rattle.ebpf_state.specs.declared.held.Held.{Held}
use Rattle.ebpf_state.specs.States.{is_same_held, is_same_reference}
use Rattle.ebpf_state.specs.References.{held_with, held_without, tested_reference}
use Rattle.ebpf_state.proofs.HeldLists.{tail_ascends}
use Rattle.ebpf_machine.specs.View.{ObjectView}
use Rattle.ebpf_machine.specs.Concretization.{calls_of}
use Rattle.ebpf_machine.proofs.Lists.ListLemmas.{Contains-head, Contains-tail}
use Rattle.ebpf_machine.proofs.Lists.Mapped.{Contains-mapped}
use Rattle.ebpf_verify.proofs.Ascents.{all_above}

-- the kind of the first reference of a call
abbrev pub kind_among : ℕ → List Held → Option ℕ
kind_among call held = option_map (λ h. h.kind) (find (λ h. h.call == call) held)

-- the kind of this reference, where it is one of the call, else what a list says
abbrev kind_or : Bool → Held → Option ℕ → Option ℕ
kind_or t h rest = cond t (Some h.kind) rest

kind_first : (call : ℕ) (h : Held) (held : List Held) → kind_among call (h ∷ held) ≡ kind_or (h.call == call) h (kind_among call held)
kind_first call h held = by (h.call == call) where
  by : (t : Bool) → option_map (λ (x : Held). x.kind) (cond t (Some h) (find (λ x. x.call == call) held)) ≡ kind_or t h (kind_among call held)
  by true = refl
  by false = refl

-- ---- joins

-- two lists of the same references
pub same_kinds : (call : ℕ) (a b : List Held) → is_same_held a b ≡ true → kind_among call a ≡ kind_among call b
same_kinds call [] [] e = refl
same_kinds call [] (h ∷ b) e = absurd (cc)
same_kinds call (h ∷ a) [] e = absurd (cc)
same_kinds call (g ∷ a) (h ∷ b) e =
    let parts = and_parts (is_same_reference g h) (is_same_held a b) e in
    let one = and_parts (eqb g.call h.call) _ parts.0 in
    let two = and_parts (eqb g.kind h.kind) _ one.1 in
    let rest = same_kinds call a b parts.1 in
    kind_first call g a
    ∙ ap (λ (c : ℕ). cond (c == call) (Some g.kind) (kind_among call a)) (eqb-true g.call h.call one.0)
    ∙ ap (λ (k : ℕ). cond (h.call == call) (Some k) (kind_among call a)) (eqb-true g.kind h.kind two.0)
    ∙ ap (λ (o : Option ℕ). kind_or (h.call == call) h o) rest
    ∙ sym (kind_first call h b)

-- ---- null tests

pub tested_kinds : (other call : ℕ) (held : List Held) → kind_among other (map (tested_reference call) held) ≡ kind_among other held
tested_kinds other call [] = refl
tested_kinds other call (h ∷ held) =
    let alike = same h in
    kind_first other (tested_reference call h) (map (tested_reference call) held)
    ∙ ap (λ (c : ℕ). cond (c == other) (Some (tested_reference call h).kind) (kind_among other (map (tested_reference call) held))) alike.0
    ∙ ap (λ (k : ℕ). cond (h.call == other) (Some k) (kind_among other (map (tested_reference call) held))) alike.1
    ∙ ap (λ (o : Option ℕ). kind_or (h.call == other) h o) (tested_kinds other call held)
    ∙ sym (kind_first other h held)
  where
    same : (r : Held) → ((tested_reference call r).call ≡ r.call) × ((tested_reference call r).kind ≡ r.kind)
    same r =
        cond_both (r.call == call) (record r { tested = true }) r (λ (q : Held). (q.call ≡ r.call) × (q.kind ≡ r.kind)) (λ e. (refl, refl))
        (λ e. (refl, refl))

-- ---- filters

-- a filter that keeps each reference of a call
pub kept_kinds : (call : ℕ) (p : Held → Bool) (held : List Held) → ((h : Held) → h.call ≡ call → p h ≡ true)
    → kind_among call (filter p held) ≡ kind_among call held
kept_kinds call p [] keeps = refl
kept_kinds call p (h ∷ held) keeps = by (p h) (h.call == call) (kept_kinds call p held keeps) refl refl where
  by : (t u : Bool) → kind_among call (filter p held) ≡ kind_among call held → p h ≡ t → (h.call == call) ≡ u
      → kind_among call (cond t (h ∷ filter p held) (filter p held)) ≡ kind_among call (h ∷ held)
  by true u rest e f = kind_first call h (filter p held) ∙ ap (λ (o : Option ℕ). kind_or (h.call == call) h o) rest ∙ sym (kind_first call h held)
  by false true rest e f = let kept = keeps h (eqb-true h.call call f) in absurd (cc)
  by false false rest e f = rest ∙ sym (ap (λ (t : Bool). kind_or t h (kind_among call held)) f) ∙ sym (kind_first call h held)

-- one that keeps none of them
pub dropped_kinds : (call : ℕ) (p : Held → Bool) (held : List Held) → ((h : Held) → h.call ≡ call → p h ≡ false) → kind_among call (filter p held) ≡ None
dropped_kinds call p [] drops = refl
dropped_kinds call p (h ∷ held) drops = by (p h) (h.call == call) (dropped_kinds call p held drops) refl refl where
  by : (t u : Bool) → kind_among call (filter p held) ≡ None → p h ≡ t → (h.call == call) ≡ u
      → kind_among call (cond t (h ∷ filter p held) (filter p held)) ≡ None
  by true true rest e f = let dropped = drops h (eqb-true h.call call f) in absurd (cc)
  by true false rest e f = kind_first call h (filter p held) ∙ ap (λ (t : Bool). kind_or t h (kind_among call (filter p held))) f ∙ rest
  by false u rest e f = rest

-- the references of other calls than one that is dropped
pub kinds_without : (other call : ℕ) (held : List Held) → other ≢ call → kind_among other (held_without call held) ≡ kind_among other held
kinds_without other call held apart = kept_kinds other (λ h. not (h.call == call)) held (λ h same. ap not (ne_eqb h.call call (λ e. apart (sym same ∙ e))))

-- ---- a call asks for an object

kind_appended : (call : ℕ) (first : List Held) (new : Held) (last : List Held)
    → kind_among call (first ++ (new ∷ last)) ≡ option_or (kind_among call first) (kind_or (new.call == call) new (kind_among call last))
kind_appended call [] new last = kind_first call new last
kind_appended call (h ∷ first) new last = by (h.call == call) (kind_appended call first new last) where
  by : (t : Bool)
      → kind_among call (first ++ (new ∷ last)) ≡ option_or (kind_among call first) (kind_or (new.call == call) new (kind_among call last))
      → option_map (λ (x : Held). x.kind) (cond t (Some h) (find (λ x. x.call == call) (first ++ (new ∷ last))))
      ≡ option_or (option_map (λ (x : Held). x.kind) (cond t (Some h) (find (λ x. x.call == call) first)))
      (kind_or (new.call == call) new (kind_among call last))
  by true e = refl
  by false e = e

-- an earlier call holds what it held
pub earlier_kinds : (call : ℕ) (new : Held) (held : List Held) → call < new.call → kind_among call (held_with new held) ≡ kind_among call held
earlier_kinds call new held lt =
    let first = kept_kinds call (λ h. nat_lt h.call new.call) held (λ h same. lt-ltb h.call new.call (omega (arith, same, lt))) in
    let last = dropped_kinds call (λ h. nat_lt new.call h.call) held (λ h same. not_under new.call h.call (omega (arith, same, lt))) in
    kind_appended call (filter (λ h. nat_lt h.call new.call) held) new (filter (λ h. nat_lt new.call h.call) held)
    ∙ ap (λ (o : Option ℕ). option_or o (kind_or (new.call == call) new (kind_among call (filter (λ h. nat_lt new.call h.call) held)))) first
    ∙ ap (λ (o : Option ℕ). option_or (kind_among call held) (kind_or (new.call == call) new o)) last
    ∙ ap (λ (t : Bool). option_or (kind_among call held) (kind_or t new None)) (ne_eqb new.call call (λ same. omega (arith, same, lt)))
    ∙ or_nothing (kind_among call held)
  where
    not_under : (a b : ℕ) → b < a → nat_lt a b ≡ false
    not_under a b lt = grind (arith, nat_tests)

    or_nothing : (o : Option ℕ) → option_or o None ≡ o
    or_nothing None = refl
    or_nothing (Some k) = refl

-- the call holds one of the kind that it asked for
pub new_kind : (new : Held) (held : List Held) → kind_among new.call (held_with new held) ≡ Some new.kind
new_kind new held =
    let first = dropped_kinds new.call (λ h. nat_lt h.call new.call) held (λ h same. not_itself h.call new.call same) in
    kind_appended new.call (filter (λ h. nat_lt h.call new.call) held) new (filter (λ h. nat_lt new.call h.call) held)
    ∙ ap (λ (o : Option ℕ). option_or o (kind_or (new.call == new.call) new (kind_among new.call (filter (λ h. nat_lt new.call h.call) held)))) first
    ∙ ap (λ (t : Bool). kind_or t new (kind_among new.call (filter (λ h. nat_lt new.call h.call) held))) (eq-eqb new.call new.call refl)
  where
    not_itself : (a b : ℕ) → a ≡ b → nat_lt a b ≡ false
    not_itself a b same = grind (arith, nat_tests)

-- ---- how many are held

-- a call that holds one is not among the others
without_fewer : (call kind : ℕ) (held : List Held) → kind_among call held ≡ Some kind → length (held_without call held) < length held
without_fewer call kind [] e = absurd (cc)
without_fewer call kind (h ∷ held) e = by (h.call == call) (sym (kind_first call h held) ∙ e) (λ there. without_fewer call kind held there) where
  by : (t : Bool) → kind_or t h (kind_among call held) ≡ Some kind
      → (kind_among call held ≡ Some kind → length (held_without call held) < length held)
      → length (cond (not t) (h ∷ held_without call held) (held_without call held)) < length (h ∷ held)
  by true e rest =
      let few = length-filter_both (λ (r : Held). not (r.call == call)) (λ (r : Held). not (not (r.call == call))) (λ r. refl) held in omega (arith, few)
  by false e rest = let less = rest e in omega (arith, less)

-- objects of calls in order, of which each is held, are at most as many
pub objects_few : (objects : List ObjectView) (held : List Held) → IsAscending (calls_of objects)
    → ((o : ObjectView) → Contains objects o → kind_among o.call held ≡ Some o.kind) → length objects ≤ length held
objects_few [] held order h = omega arith
objects_few (o ∷ objects) held order h =
    let here = h o (Contains-head o objects) in
    let fewer = without_fewer o.call o.kind held here in
    let rest = objects_few objects (held_without o.call held) (tail_ascends o.call (calls_of objects) order)
    (λ p there. kinds_without p.call o.call held (later p there) ∙ h p (Contains-tail o p objects there)) in
    omega (arith, fewer, rest)
  where
    later : (p : ObjectView) → Contains objects p → p.call ≢ o.call
    later p there same =
        let above = All-contains (λ (c : ℕ). o.call < c) (calls_of objects) p.call (all_above o.call (calls_of objects) order)
        (Contains-mapped (λ (q : ObjectView). q.call) objects p there) in
        omega (arith, above, same)
