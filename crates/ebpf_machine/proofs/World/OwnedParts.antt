-- Owners, ledgers and pointers still fit together where one part of a world changes: a run, the bytes of a slot, or who owns one.
use Rattle.std.proofs.Common.{◌≡◌, ◌≢◌, ◌⊎◌, inl, inr, ℕ, ◌+◌, ◌<◌, ◌≤◌, Bool, true, false, cond, not, List, [], ◌∷◌, ◌++◌, length, filter}
use Rattle.std.proofs.Common.{count_by, Some, refl, sym, ap, ◌∙◌, subst, arith}
use Rattle.std.specs.Prelude.{Contains, slice_get, ◌==◌}
use Rattle.std.specs.List.{list_any}
use Rattle.std.proofs.lemmas.Bool.{cases_eq, eqb-true, eqb-false, eq-eqb, ne_eqb, and_parts, and_from, not-true, not_from_false, or_parts, false_from_ne_true}
use Rattle.std.proofs.lemmas.List.Elements.{Contains-push_cases}
use Rattle.std.proofs.lemmas.List.Folds.{list_any-append}
use Rattle.std.proofs.lemmas.List.Sums.{sum_by_push}
use Rattle.ebpf_verify.specs.Subject.{Subject}
use Rattle.ebpf_machine.specs.World.{Name, World, Running, AnsweredCall, Owner, Holder, Run, Shelf, is_in, is_in_ledger, is_owned, is_home}
use Rattle.ebpf_machine.specs.World.{ledger_of, kinds_of, image_at, kind_in, IsOfKind, AskedFor}
use Rattle.ebpf_machine.specs.Events.{with_run, with_bytes, with_owner}
use Rattle.ebpf_machine.specs.Sound.{IsOwned, HasPointer, HasOneSlot, IsTrue}
use Rattle.ebpf_machine.proofs.Lists.ListLemmas.{get_set_same, get_set_other, get_set_cases, Contains-filter, Contains-kept, count_by-filter-le}
use Rattle.ebpf_machine.proofs.Lists.ListLemmas.{any_from, any_one, none_counted}
use Rattle.ebpf_machine.proofs.World.Owners.{not_home, same_slot, kind_in-ledger, in_one_ledger}
use Rattle.ebpf_machine.proofs.World.Moves.{IsDropped, MayHold, owned_by, with_owners}

-- a pointer stays true where no more is owned
pub true_fewer : (owners fewer : List Owner) (run : ℕ) (r : Running) (n : Name)
    → ((o : Owner) → Contains fewer o → Contains owners o) → IsTrue owners run r n → IsTrue fewer run r n
true_fewer owners fewer run r n among h = record { behind = h.behind; slot = λ o there e. h.slot o (among o there) e }

-- ---- a run goes on

-- a run is of the same program as another, no earlier in it, and was answered as much
pub record IsLater (r now : Running) : Type 0 where
  pub subject : now.subject ≡ r.subject
  pub pc : r.pc ≤ now.pc
  pub told : (t : AnsweredCall) → Contains r.calls t → Contains now.calls t

pub same_run : (w : World) (run : ℕ) (r x : Running) → slice_get w.runs run ≡ Some r → slice_get w.runs run ≡ Some x → x ≡ r
same_run w run r x there at = cc

of_kind_later : (w : World) (run : ℕ) (r now : Running) (h : Holder) (kind : ℕ) → slice_get w.runs run ≡ Some r → IsLater r now
    → IsOfKind w.runs h kind → IsOfKind (with_run w run now).runs h kind
of_kind_later w run r now (Run asker at) kind there later h = by (cases_eq asker run) where
  by : (asker ≡ run) ⊎ (asker ≢ run) → AskedFor (with_run w run now).runs asker at kind
  by (inl e) =
      let same : h.asker ≡ r = same_run w run r h.asker there (subst (λ (k : ℕ). slice_get w.runs k ≡ Some h.asker) e h.there) in
      record {
        asker = now;
        there = subst (λ (k : ℕ). slice_get (with_run w run now).runs k ≡ Some now) (sym e) (get_set_same w.runs run r now there);
        behind = omega (arith, h.behind, ap (λ (x : Running). x.pc) same, later.pc);
        reply = h.reply;
        got = h.got;
        told = later.told (record { at = at; kind = kind; reply = h.reply })
            (subst (λ (x : Running). Contains x.calls (record { at = at; kind = kind; reply = h.reply })) same h.told);
      }
  by (inr ne) =
      record { asker = h.asker; there = get_set_other w.runs run asker now ne ∙ h.there; behind = h.behind; reply = h.reply; got = h.got; told = h.told }
of_kind_later w run r now (Shelf s) kind there later h = h

pub owned_running : (w : World) (run : ℕ) (r now : Running) → IsOwned w → slice_get w.runs run ≡ Some r → IsLater r now
    → ((n : Name) → HasPointer now.frame n → IsTrue w.owners run now n) → HasOneSlot now.frame → IsOwned (with_run w run now)
owned_running w run r now owned there later true_now alike = record {
  ledgers = owned.ledgers;
  holders = owned.holders;
  runs = record {
    kinds_are = λ k x at. kinds k x (get_set_cases w.runs run k r now x there at);
    asked = λ o among. of_kind_later w run r now o.holder (kind_in w o.slot) there later (owned.runs.asked o among);
    pointers = λ k x at n has. true_in k x n has (get_set_cases w.runs run k r now x there at);
    one_slot = λ k x at. alike_in k x (get_set_cases w.runs run k r now x there at);
  };
}
  where
    alike_in : (k : ℕ) (x : Running) → ((k ≡ run) × (now ≡ x)) ⊎ ((k ≢ run) × (slice_get w.runs k ≡ Some x)) → HasOneSlot x.frame
    alike_in k x (inl e) = subst (λ (y : Running). HasOneSlot y.frame) e.1 alike
    alike_in k x (inr at) = owned.runs.one_slot k x at.1

    kinds : (k : ℕ) (x : Running) → ((k ≡ run) × (now ≡ x)) ⊎ ((k ≢ run) × (slice_get w.runs k ≡ Some x)) → kinds_of x.subject.rows ≡ w.kinds
    kinds k x (inl e) =
        ap (λ (y : Running). kinds_of y.subject.rows) (sym e.1) ∙ ap (λ (s : Subject). kinds_of s.rows) later.subject ∙ owned.runs.kinds_are run r there
    kinds k x (inr at) = owned.runs.kinds_are k x at.1

    true_in : (k : ℕ) (x : Running) (n : Name) → HasPointer x.frame n
        → ((k ≡ run) × (now ≡ x)) ⊎ ((k ≢ run) × (slice_get w.runs k ≡ Some x)) → IsTrue w.owners k x n
    true_in k x n has (inl e) =
        let here = true_now n (subst (λ (y : Running). HasPointer y.frame n) (sym e.1) has) in
        record {
          behind = subst (λ (y : Running). n.call < y.pc) e.1 here.behind;
          slot = λ o among held. here.slot o among (held ∙ ap (λ (m : ℕ). Run m n.call) e.0);
        }
    true_in k x n has (inr at) = owned.runs.pointers k x at.1 n has

-- ---- bytes of an object that a run holds

pub owned_bytes : (w : World) (slot : ℕ) (bytes : List ℕ) (p : Owner) → IsOwned w → Contains w.owners p → p.slot ≡ slot
    → length bytes ≡ length (w.bytes slot) → IsOwned (with_bytes slot bytes w)
owned_bytes w slot bytes p owned own is as_long = record {
  ledgers = record { as_many = owned.ledgers.as_many; apart = owned.ledgers.apart; imaged = λ s home. elsewhere s home };
  holders = record {
    once = owned.holders.once;
    in_ledger = owned.holders.in_ledger;
    one_a_call = owned.holders.one_a_call;
    sized = λ o among. long o among (cases_eq o.slot slot);
  };
  runs = owned.runs;
}
  where
    elsewhere : (s : ℕ) → is_home w s ≡ true → cond (s == slot) bytes (w.bytes s) ≡ image_at w.kinds (kind_in w s)
    elsewhere s home = let apart = ne_eqb s slot (λ e. not_home w p s home own (is ∙ sym e)) in rw apart (owned.ledgers.imaged s home)

    long : (o : Owner) → Contains w.owners o → (o.slot ≡ slot) ⊎ (o.slot ≢ slot)
        → length (cond (o.slot == slot) bytes (w.bytes o.slot)) ≡ length (image_at w.kinds (kind_in w o.slot))
    long o among (inl e) = let here = eq-eqb o.slot slot e in rw here (as_long ∙ ap (λ (s : ℕ). length (w.bytes s)) (sym e) ∙ owned.holders.sized o among)
    long o among (inr ne) = let apart = ne_eqb o.slot slot ne in rw apart (owned.holders.sized o among)

-- ---- an object is nobody's any more, and gets its image

pub owned_freed : (w : World) (o : Owner) (stays : Owner → Bool) → IsOwned w → IsDropped w o stays
    → IsOwned (with_bytes o.slot (image_at w.kinds (kind_in w o.slot)) (with_owners (filter stays w.owners) w))
owned_freed w o stays owned drop = record {
  ledgers = record { as_many = owned.ledgers.as_many; apart = owned.ledgers.apart; imaged = λ s home. image s home (cases_eq s o.slot) };
  holders = record {
    once = λ slot. omega (arith, count_by-filter-le (λ (p : Owner). p.slot == slot) stays w.owners, owned.holders.once slot);
    in_ledger = λ p among. owned.holders.in_ledger p (was p among);
    one_a_call = λ p q among here e. owned.holders.one_a_call p q (was p among) (was q here) e;
    sized = λ p among. let apart = ne_eqb p.slot o.slot (other p among) in rw apart (owned.holders.sized p (was p among));
  };
  runs = record {
    kinds_are = owned.runs.kinds_are;
    asked = λ p among. owned.runs.asked p (was p among);
    pointers = λ k x at n has. true_fewer w.owners (filter stays w.owners) k x n was (owned.runs.pointers k x at n has);
    one_slot = owned.runs.one_slot;
  };
}
  where
    after : World
    after = with_owners (filter stays w.owners) w

    was : (p : Owner) → Contains (filter stays w.owners) p → Contains w.owners p
    was p among = (Contains-filter stays w.owners p among).0

    other : (p : Owner) → Contains (filter stays w.owners) p → p.slot ≢ o.slot
    other p among e =
        let same = ap stays (same_slot w p o owned (was p among) drop.among e) in
        let stayed = (Contains-filter stays w.owners p among).1 in
        let gone = drop.drops in
        absurd (cc)

    -- whoever had another slot has it still
    still_owned : (s : ℕ) → s ≢ o.slot → is_owned w s ≡ true → is_owned after s ≡ true
    still_owned s ne owns = by (any_one (λ (p : Owner). p.slot == s) w.owners owns) where
      by : (p : Owner) × Contains w.owners p × ((p.slot == s) ≡ true) → is_owned after s ≡ true
      by (p, among, its) = stayed (stays p) refl where
        stayed : (t : Bool) → stays p ≡ t → is_owned after s ≡ true
        stayed true e = any_from (λ (q : Owner). q.slot == s) (filter stays w.owners) p (Contains-kept stays w.owners p among e) its
        stayed false e = absurd (ne (sym (eqb-true p.slot s its) ∙ ap (λ (q : Owner). q.slot) (drop.only p among e)))

    still : (s : ℕ) → s ≢ o.slot → is_home after s ≡ true → is_home w s ≡ true
    still s ne home =
        let parts = and_parts (is_in_ledger w s) (not (is_owned after s)) home in
        let nobodys = not-true (is_owned after s) parts.1 in
        let was = false_from_ne_true (is_owned w s) (λ owns. let owns_still = still_owned s ne owns in absurd (cc)) in
        and_from (is_in_ledger w s) (not (is_owned w s)) parts.0 (not_from_false (is_owned w s) was)

    image : (s : ℕ) → is_home after s ≡ true → (s ≡ o.slot) ⊎ (s ≢ o.slot)
        → cond (s == o.slot) (image_at w.kinds (kind_in w o.slot)) (w.bytes s) ≡ image_at w.kinds (kind_in w s)
    image s home (inl e) = let here = eq-eqb s o.slot e in rw here (ap (λ (m : ℕ). image_at w.kinds (kind_in w m)) (sym e))
    image s home (inr ne) = let apart = ne_eqb s o.slot ne in rw apart (owned.ledgers.imaged s (still s ne home))

-- ---- a slot that is home gets a holder

added : (w : World) (slot : ℕ) (holder : Holder) (o : Owner) → Contains (with_owner slot holder w).owners o → Contains w.owners o ⊎ (owned_by slot holder ≡ o)
added w slot holder o among = Contains-push_cases w.owners (owned_by slot holder) o among

unowned : (w : World) (slot : ℕ) → is_home w slot ≡ true → is_owned w slot ≡ false
unowned w slot home = not-true (is_owned w slot) (and_parts (is_in_ledger w slot) (not (is_owned w slot)) home).1

-- a slot is home after it, where it was so before and isn't that one
still_home : (w : World) (slot : ℕ) (holder : Holder) (s : ℕ) → is_home (with_owner slot holder w) s ≡ true → (is_home w s ≡ true) × (s ≢ slot)
still_home w slot holder s home =
    let new = owned_by slot holder ∷ [] in
    let parts = and_parts (is_in_ledger w s) (not (list_any (λ (o : Owner). o.slot == s) (w.owners ++ new))) home in
    let none = sym (list_any-append (λ (o : Owner). o.slot == s) w.owners new) ∙ not-true _ parts.1 in
    let both = or_parts (is_owned w s) (list_any (λ (o : Owner). o.slot == s) new) none in (
      and_from (is_in_ledger w s) (not (is_owned w s)) parts.0 (not_from_false (is_owned w s) both.0),
      λ e. eqb-false slot s (or_parts (slot == s) false both.1).0 (sym e),
    )

counted_more : (w : World) (slot : ℕ) (holder : Holder) (s : ℕ) → IsOwned w → is_home w slot ≡ true
    → count_by (λ (o : Owner). o.slot == s) (with_owner slot holder w).owners ≤ 1
counted_more w slot holder s owned home = by (cases_eq slot s) where
  more : count_by (λ (o : Owner). o.slot == s) (with_owner slot holder w).owners ≡ count_by (λ (o : Owner). o.slot == s) w.owners + cond (slot == s) 1 0
  more = sum_by_push (λ (o : Owner). cond (o.slot == s) 1 0) w.owners (owned_by slot holder)

  by : (slot ≡ s) ⊎ (slot ≢ s) → count_by (λ (o : Owner). o.slot == s) (with_owner slot holder w).owners ≤ 1
  by (inl e) =
      let here = more ∙ ap (λ (b : Bool). count_by (λ (o : Owner). o.slot == s) w.owners + cond b 1 0) (eq-eqb slot s e) in
      omega (arith, here, none_counted (λ (o : Owner). o.slot == s) w.owners (ap (is_owned w) (sym e) ∙ unowned w slot home))
  by (inr ne) =
      let here = more ∙ ap (λ (b : Bool). count_by (λ (o : Owner). o.slot == s) w.owners + cond b 1 0) (ne_eqb slot s ne) in
      omega (arith, here, owned.holders.once s)

-- and bytes of its kind's length
pub owned_granted : (w : World) (slot kind : ℕ) (holder : Holder) (bytes : List ℕ) → IsOwned w → is_home w slot ≡ true
    → is_in slot (ledger_of w kind) ≡ true → length bytes ≡ length (image_at w.kinds kind) → MayHold w slot holder
    → IsOwned (with_owner slot holder (with_bytes slot bytes w))
owned_granted w slot kind holder bytes owned home there as_long may = record {
  ledgers = record { as_many = owned.ledgers.as_many; apart = owned.ledgers.apart; imaged = λ s h. image s (still_home w slot holder s h) };
  holders = record {
    once = λ s. counted_more w slot holder s owned home;
    in_ledger = λ o among. in_one o (added w slot holder o among);
    one_a_call = λ o p among here e. one o p (added w slot holder o among) (added w slot holder p here) e;
    sized = λ o among. long o (added w slot holder o among);
  };
  runs = record {
    kinds_are = owned.runs.kinds_are;
    asked = λ o among. of_kind o (added w slot holder o among);
    pointers = λ k x seen n has. true_in k x n seen has (owned.runs.pointers k x seen n has);
    one_slot = owned.runs.one_slot;
  };
}
  where
    new : Owner
    new = owned_by slot holder

    in_one : (o : Owner) → Contains w.owners o ⊎ (new ≡ o) → count_by (is_in o.slot) w.ledgers ≡ 1
    in_one o (inl among) = owned.holders.in_ledger o among
    in_one o (inr e) = ap (λ (p : Owner). count_by (is_in p.slot) w.ledgers) (sym e) ∙ in_one_ledger w kind slot owned there

    image : (s : ℕ) → (is_home w s ≡ true) × (s ≢ slot) → cond (s == slot) bytes (w.bytes s) ≡ image_at w.kinds (kind_in w s)
    image s h = let apart = ne_eqb s slot h.1 in rw apart (owned.ledgers.imaged s h.0)

    new_long : length (cond (slot == slot) bytes (w.bytes slot)) ≡ length (image_at w.kinds (kind_in w slot))
    new_long = let here = eq-eqb slot slot refl in let of_its = kind_in-ledger w kind slot owned there in rw (here, of_its) as_long

    long : (o : Owner) → Contains w.owners o ⊎ (new ≡ o)
        → length (cond (o.slot == slot) bytes (w.bytes o.slot)) ≡ length (image_at w.kinds (kind_in w o.slot))
    long o (inl among) = let apart = ne_eqb o.slot slot (not_home w o slot home among) in rw apart (owned.holders.sized o among)
    long o (inr e) = subst (λ (p : Owner). length (cond (p.slot == slot) bytes (w.bytes p.slot)) ≡ length (image_at w.kinds (kind_in w p.slot))) e new_long

    one : (o p : Owner) → Contains w.owners o ⊎ (new ≡ o) → Contains w.owners p ⊎ (new ≡ p) → o.holder ≡ p.holder → o ≡ p
    one o p (inl among) (inl here) e = owned.holders.one_a_call o p among here e
    one o p (inl among) (inr same) e = absurd (may.nothing o among (e ∙ ap (λ (q : Owner). q.holder) (sym same)))
    one o p (inr same) (inl here) e = absurd (may.nothing p here (sym e ∙ ap (λ (q : Owner). q.holder) (sym same)))
    one o p (inr same) (inr alike) e = sym same ∙ alike

    of_kind : (o : Owner) → Contains w.owners o ⊎ (new ≡ o) → IsOfKind w.runs o.holder (kind_in w o.slot)
    of_kind o (inl among) = owned.runs.asked o among
    of_kind o (inr e) = subst (λ (p : Owner). IsOfKind w.runs p.holder (kind_in w p.slot)) e may.asked

    true_in : (k : ℕ) (x : Running) (n : Name) → slice_get w.runs k ≡ Some x → HasPointer x.frame n → IsTrue w.owners k x n
        → IsTrue (with_owner slot holder w).owners k x n
    true_in k x n seen has h = record { behind = h.behind; slot = λ o among e. to o (added w slot holder o among) e }
      where
        to : (o : Owner) → Contains w.owners o ⊎ (new ≡ o) → o.holder ≡ Run k n.call → o.slot ≡ n.slot
        to o (inl among) e = h.slot o among e
        to o (inr same) e = ap (λ (q : Owner). q.slot) (sym same) ∙ may.points k x n seen has (ap (λ (q : Owner). q.holder) same ∙ e)

-- the call at which a run is holds nothing
pub nothing_yet : (w : World) (run : ℕ) (r : Running) (o : Owner) → IsOwned w → slice_get w.runs run ≡ Some r → Contains w.owners o → o.holder ≢ Run run r.pc
nothing_yet w run r o owned there among e =
    let asked : AskedFor w.runs run r.pc (kind_in w o.slot) = subst (λ h. IsOfKind w.runs h (kind_in w o.slot)) e (owned.runs.asked o among) in
    let same = same_run w run r asked.asker there asked.there in
    absurd (omega (arith, asked.behind, ap (λ (x : Running). x.pc) same))
