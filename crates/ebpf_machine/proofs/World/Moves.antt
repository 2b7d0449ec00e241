-- A slot passes from one holder to another: owners, ledgers and pointers still fit together.
use Rattle.std.proofs.Common.{◌≡◌, ◌≢◌, ◌⊎◌, inl, inr, ℕ, ◌+◌, ◌≤◌, Bool, true, false, cond, not, List, [], ◌∷◌, ◌++◌, length, filter, count_by}
use Rattle.std.proofs.Common.{Some, refl, sym, ap, ◌∙◌, subst, arith}
use Rattle.std.specs.Prelude.{Contains, slice_get, ◌==◌}
use Rattle.std.proofs.lemmas.Bool.{cases_eq, eq-eqb, ne_eqb, and_parts, and_from, not-true, not_from_false, false_from_ne_true}
use Rattle.std.proofs.lemmas.List.Elements.{Contains-append_left, Contains-push, Contains-push_cases}
use Rattle.std.proofs.lemmas.List.Sums.{sum_by_push}
use Rattle.ebpf_machine.specs.World.{Name, World, Running, Owner, Holder, Run, is_in, is_in_ledger, is_owned, is_home, image_at, kind_in, IsOfKind}
use Rattle.ebpf_machine.specs.Sound.{IsOwned, HasPointer, IsTrue}
use Rattle.ebpf_machine.proofs.Lists.ListLemmas.{Contains-filter, Contains-kept, count_by-filter-le, fewer_dropped, any_from, any_one}

-- one owner stays no longer, and every other does
pub record IsDropped (w : World) (o : Owner) (stays : Owner → Bool) : Type 0 where
  pub among : Contains w.owners o
  pub drops : stays o ≡ false
  pub only : (p : Owner) → Contains w.owners p → stays p ≡ false → p ≡ o

abbrev pub owned_by : ℕ → Holder → Owner
owned_by slot holder = record { slot = slot; holder = holder }

abbrev pub with_owners : List Owner → World → World
with_owners owners w = record w { owners = owners }

-- its slot has this holder then
abbrev pub moved : World → Owner → (Owner → Bool) → Holder → World
moved w o stays holder = with_owners (filter stays w.owners ++ owned_by o.slot holder ∷ []) w

-- the holder has nothing yet, may have what is of this kind, and the pointers of its call are to this slot
pub record MayHold (w : World) (slot : ℕ) (holder : Holder) : Type 0 where
  pub nothing : (p : Owner) → Contains w.owners p → p.holder ≢ holder
  pub asked : IsOfKind w.runs holder (kind_in w slot)
  pub points : (k : ℕ) (x : Running) (n : Name) → slice_get w.runs k ≡ Some x → HasPointer x.frame n → holder ≡ Run k n.call → slot ≡ n.slot

pub owned_moved : (w : World) (o : Owner) (stays : Owner → Bool) (holder : Holder) → IsOwned w → IsDropped w o stays
    → MayHold w o.slot holder → IsOwned (moved w o stays holder)
owned_moved w o stays holder owned drop may = record {
  ledgers = record { as_many = owned.ledgers.as_many; apart = owned.ledgers.apart; imaged = λ s home. owned.ledgers.imaged s (was_home s home) };
  holders = record {
    once = λ s. once s (cases_eq o.slot s);
    in_ledger = λ p among. in_one p (cases p among);
    one_a_call = λ p q among here e. one p q (cases p among) (cases q here) e;
    sized = λ p among. long p (cases p among);
  };
  runs = record {
    kinds_are = owned.runs.kinds_are;
    asked = λ p among. of_kind p (cases p among);
    pointers = λ k x at n has. true_in k x n at has (owned.runs.pointers k x at n has);
    one_slot = owned.runs.one_slot;
  };
}
  where
    new : Owner
    new = owned_by o.slot holder

    left : List Owner
    left = filter stays w.owners

    cases : (p : Owner) → Contains (left ++ new ∷ []) p → Contains w.owners p ⊎ (new ≡ p)
    cases p among = by (Contains-push_cases left new p among) where
      by : Contains left p ⊎ (new ≡ p) → Contains w.owners p ⊎ (new ≡ p)
      by (inl old) = inl (Contains-filter stays w.owners p old).0
      by (inr same) = inr same

    more : (s : ℕ) → count_by (λ (p : Owner). p.slot == s) (left ++ new ∷ []) ≡ count_by (λ (p : Owner). p.slot == s) left + cond (o.slot == s) 1 0
    more s = sum_by_push (λ (p : Owner). cond (p.slot == s) 1 0) left new

    once : (s : ℕ) → (o.slot ≡ s) ⊎ (o.slot ≢ s) → count_by (λ (p : Owner). p.slot == s) (left ++ new ∷ []) ≤ 1
    once s (inl e) =
        let here = more s ∙ ap (λ (b : Bool). count_by (λ (p : Owner). p.slot == s) left + cond b 1 0) (eq-eqb o.slot s e) in
        omega (arith, here, fewer_dropped (λ (p : Owner). p.slot == s) stays w.owners o drop.among (eq-eqb o.slot s e) drop.drops, owned.holders.once s)
    once s (inr ne) =
        let here = more s ∙ ap (λ (b : Bool). count_by (λ (p : Owner). p.slot == s) left + cond b 1 0) (ne_eqb o.slot s ne) in
        omega (arith, here, count_by-filter-le (λ (p : Owner). p.slot == s) stays w.owners, owned.holders.once s)

    -- whoever had a slot, somebody has it now
    still_owned : (s : ℕ) → is_owned w s ≡ true → is_owned (moved w o stays holder) s ≡ true
    still_owned s owns = by (any_one (λ (p : Owner). p.slot == s) w.owners owns) where
      by : (p : Owner) × Contains w.owners p × ((p.slot == s) ≡ true) → is_owned (moved w o stays holder) s ≡ true
      by (p, among, its) = stayed (stays p) refl where
        stayed : (t : Bool) → stays p ≡ t → is_owned (moved w o stays holder) s ≡ true
        stayed true e =
            any_from (λ (q : Owner). q.slot == s) (left ++ new ∷ []) p (Contains-append_left left (new ∷ []) p (Contains-kept stays w.owners p among e)) its
        stayed false e =
            any_from (λ (q : Owner). q.slot == s) (left ++ new ∷ []) new (Contains-push left new)
            (ap (λ (q : Owner). q.slot == s) (sym (drop.only p among e)) ∙ its)

    was_home : (s : ℕ) → is_home (moved w o stays holder) s ≡ true → is_home w s ≡ true
    was_home s home =
        let parts = and_parts (is_in_ledger w s) (not (is_owned (moved w o stays holder) s)) home in
        let nobodys = not-true (is_owned (moved w o stays holder) s) parts.1 in
        let was = false_from_ne_true (is_owned w s) (λ owns. let still = still_owned s owns in absurd (cc)) in
        and_from (is_in_ledger w s) (not (is_owned w s)) parts.0 (not_from_false (is_owned w s) was)

    in_one : (p : Owner) → Contains w.owners p ⊎ (new ≡ p) → count_by (is_in p.slot) w.ledgers ≡ 1
    in_one p (inl among) = owned.holders.in_ledger p among
    in_one p (inr e) = ap (λ (q : Owner). count_by (is_in q.slot) w.ledgers) (sym e) ∙ owned.holders.in_ledger o drop.among

    one : (p q : Owner) → Contains w.owners p ⊎ (new ≡ p) → Contains w.owners q ⊎ (new ≡ q) → p.holder ≡ q.holder → p ≡ q
    one p q (inl among) (inl here) e = owned.holders.one_a_call p q among here e
    one p q (inl among) (inr same) e = absurd (may.nothing p among (e ∙ ap (λ (x : Owner). x.holder) (sym same)))
    one p q (inr same) (inl here) e = absurd (may.nothing q here (sym e ∙ ap (λ (x : Owner). x.holder) (sym same)))
    one p q (inr same) (inr alike) e = sym same ∙ alike

    long : (p : Owner) → Contains w.owners p ⊎ (new ≡ p) → length (w.bytes p.slot) ≡ length (image_at w.kinds (kind_in w p.slot))
    long p (inl among) = owned.holders.sized p among
    long p (inr e) = subst (λ (q : Owner). length (w.bytes q.slot) ≡ length (image_at w.kinds (kind_in w q.slot))) e (owned.holders.sized o drop.among)

    of_kind : (p : Owner) → Contains w.owners p ⊎ (new ≡ p) → IsOfKind w.runs p.holder (kind_in w p.slot)
    of_kind p (inl among) = owned.runs.asked p among
    of_kind p (inr e) = subst (λ (q : Owner). IsOfKind w.runs q.holder (kind_in w q.slot)) e may.asked

    true_in : (k : ℕ) (x : Running) (n : Name) → slice_get w.runs k ≡ Some x → HasPointer x.frame n → IsTrue w.owners k x n → IsTrue (left ++ new ∷ []) k x n
    true_in k x n at has h = record { behind = h.behind; slot = λ p among e. to p (cases p among) e } where
      to : (p : Owner) → Contains w.owners p ⊎ (new ≡ p) → p.holder ≡ Run k n.call → p.slot ≡ n.slot
      to p (inl among) e = h.slot p among e
      to p (inr same) e = ap (λ (q : Owner). q.slot) (sym same) ∙ may.points k x n at has (ap (λ (q : Owner). q.holder) same ∙ e)
