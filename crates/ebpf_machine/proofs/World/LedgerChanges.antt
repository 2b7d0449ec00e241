-- One ledger changes at a slot that nobody owns, which joins it or leaves it: of every other slot the world says what it said, so
-- owners, ledgers and pointers still fit together, and runs see what they saw.
use Rattle.std.proofs.Common.{◌≡◌, ◌≢◌, ◌⊎◌, inl, inr, ℕ, zero, suc, ◌+◌, ◌≤◌, Bool, true, false, cond, not, ◌||◌, List, [], ◌∷◌, length, count_by}
use Rattle.std.proofs.Common.{get_or, set, length-set, refl, sym, ap, ◌∙◌, subst, arith}
use Rattle.std.specs.Prelude.{Contains, ◌==◌}
use Rattle.std.specs.List.{list_any}
use Rattle.std.proofs.lemmas.Bool.{cases_eq, eq-eqb, and_parts, and_from}
use Rattle.std.proofs.lemmas.List.Sums.{sum_by-cons}
use Rattle.ebpf_machine.specs.World.{World, Running, Owner, is_in, is_in_ledger, is_owned, is_home, held_by, ledger_of, kind_from, kind_in}
use Rattle.ebpf_machine.specs.World.{image_at, IsOfKind}
use Rattle.ebpf_machine.specs.Events.{with_ledger}
use Rattle.ebpf_machine.specs.View.{ObjectView, object_in, view_of}
use Rattle.ebpf_machine.specs.Sound.{IsOwned}
use Rattle.ebpf_machine.proofs.Lists.ListLemmas.{any_from, map_agree}
use Rattle.ebpf_machine.proofs.World.Owners.{held_owner}

-- ---- a list of which one element answers as the one in whose place it comes

pub any-set : {X : Type 0} (p : X → Bool) (xs : List X) (k : ℕ) (y d : X) → p y ≡ p (get_or xs k d) → list_any p (set xs k y) ≡ list_any p xs
any-set p [] k y d e = refl
any-set p (x ∷ xs) zero y d e = ap (λ (b : Bool). b || list_any p xs) e
any-set p (x ∷ xs) (suc k) y d e = ap (λ (b : Bool). p x || b) (any-set p xs k y d e)

count-set : {X : Type 0} (p : X → Bool) (xs : List X) (k : ℕ) (y d : X) → p y ≡ p (get_or xs k d) → count_by p (set xs k y) ≡ count_by p xs
count-set p [] k y d e = refl
count-set {X} p (x ∷ xs) zero y d e =
    let one : X → ℕ = λ z. cond (p z) 1 0 in
    sum_by-cons one y xs ∙ ap (λ (b : Bool). cond {A = ℕ} b 1 0 + count_by p xs) e ∙ sym (sum_by-cons one x xs)
count-set {X} p (x ∷ xs) (suc k) y d e =
    let one : X → ℕ = λ z. cond (p z) 1 0 in
    sum_by-cons one x (set xs k y) ∙ ap (λ (n : ℕ). one x + n) (count-set p xs k y d e) ∙ sym (sum_by-cons one x xs)

kind_from-set : (base : ℕ) (ledgers : List (List ℕ)) (k : ℕ) (slots : List ℕ) (slot : ℕ)
    → is_in slot slots ≡ is_in slot (get_or ledgers k []) → kind_from base (set ledgers k slots) slot ≡ kind_from base ledgers slot
unfolding kind_from
kind_from-set base [] k slots slot e = refl
kind_from-set base (x ∷ ledgers) zero slots slot e = ap (λ (b : Bool). cond b base (kind_from (suc base) ledgers slot)) e
kind_from-set base (x ∷ ledgers) (suc k) slots slot e = ap (λ (n : ℕ). cond (is_in slot x) base n) (kind_from-set (suc base) ledgers k slots slot e)

-- ---- what the ledgers say of a slot of which a kind's new ledger answers as its old one

pub other_ledger : (w : World) (kind : ℕ) (slots : List ℕ) (s : ℕ) → is_in s slots ≡ is_in s (ledger_of w kind)
    → is_in_ledger (with_ledger kind slots w) s ≡ is_in_ledger w s
other_ledger w kind slots s same = any-set (is_in s) w.ledgers kind slots [] same

other_count : (w : World) (kind : ℕ) (slots : List ℕ) (s : ℕ) → is_in s slots ≡ is_in s (ledger_of w kind)
    → count_by (is_in s) (with_ledger kind slots w).ledgers ≡ count_by (is_in s) w.ledgers
other_count w kind slots s same = count-set (is_in s) w.ledgers kind slots [] same

other_kind : (w : World) (kind : ℕ) (slots : List ℕ) (s : ℕ) → is_in s slots ≡ is_in s (ledger_of w kind) → kind_in (with_ledger kind slots w) s ≡ kind_in w s
other_kind w kind slots s same = kind_from-set 0 w.ledgers kind slots s same

-- ---- one ledger changes

-- the kind has these slots, and slots have these bytes
abbrev pub changed : ℕ → List ℕ → (ℕ → List ℕ) → World → World
changed kind slots bytes w = record (with_ledger kind slots w) { bytes = bytes }

-- nobody owns the slot, no other one's place or bytes change, and it is in one ledger at most, with its image where it is home
pub record IsChange (w : World) (kind slot : ℕ) (slots : List ℕ) (bytes : ℕ → List ℕ) : Type 0 where
  pub nobodys : is_owned w slot ≡ false
  pub others : (s : ℕ) → s ≢ slot → is_in s slots ≡ is_in s (ledger_of w kind)
  pub others_bytes : (s : ℕ) → s ≢ slot → bytes s ≡ w.bytes s
  pub once : count_by (is_in slot) (with_ledger kind slots w).ledgers ≤ 1
  pub imaged : is_home (with_ledger kind slots w) slot ≡ true → bytes slot ≡ image_at w.kinds (kind_in (with_ledger kind slots w) slot)

owners_apart : (w : World) (slot : ℕ) (o : Owner) → is_owned w slot ≡ false → Contains w.owners o → o.slot ≢ slot
owners_apart w slot o nobodys among e = let somebodys = any_from (λ (q : Owner). q.slot == slot) w.owners o among (eq-eqb o.slot slot e) in absurd (cc)

pub owned_changed : (w : World) (kind slot : ℕ) (slots : List ℕ) (bytes : ℕ → List ℕ) → IsOwned w → IsChange w kind slot slots bytes
    → IsOwned (changed kind slots bytes w)
owned_changed w kind slot slots bytes owned change = record {
  ledgers = record {
    as_many = length-set w.ledgers kind slots ∙ owned.ledgers.as_many;
    apart = λ s. few s (cases_eq s slot);
    imaged = λ s home. image s home (cases_eq s slot);
  };
  holders = record {
    once = owned.holders.once;
    in_ledger = λ o among. other_count w kind slots o.slot (other o among) ∙ owned.holders.in_ledger o among;
    one_a_call = owned.holders.one_a_call;
    sized = λ o among. long o among;
  };
  runs = record {
    kinds_are = owned.runs.kinds_are;
    asked = λ o among. subst (IsOfKind w.runs o.holder) (sym (other_kind w kind slots o.slot (other o among))) (owned.runs.asked o among);
    pointers = owned.runs.pointers;
    one_slot = owned.runs.one_slot;
  };
}
  where
    after : World
    after = changed kind slots bytes w

    other : (o : Owner) → Contains w.owners o → is_in o.slot slots ≡ is_in o.slot (ledger_of w kind)
    other o among = change.others o.slot (owners_apart w slot o change.nobodys among)

    few : (s : ℕ) → (s ≡ slot) ⊎ (s ≢ slot) → count_by (is_in s) after.ledgers ≤ 1
    few s (inl e) = subst (λ (k : ℕ). count_by (is_in k) after.ledgers ≤ 1) (sym e) change.once
    few s (inr ne) = omega (arith, other_count w kind slots s (change.others s ne), owned.ledgers.apart s)

    was_home : (s : ℕ) → s ≢ slot → is_home after s ≡ true → is_home w s ≡ true
    was_home s ne home =
        let parts = and_parts (is_in_ledger after s) (not (is_owned w s)) home in
        and_from (is_in_ledger w s) (not (is_owned w s)) (sym (other_ledger w kind slots s (change.others s ne)) ∙ parts.0) parts.1

    image : (s : ℕ) → is_home after s ≡ true → (s ≡ slot) ⊎ (s ≢ slot) → bytes s ≡ image_at w.kinds (kind_in after s)
    image s home (inl e) =
        subst (λ (k : ℕ). bytes k ≡ image_at w.kinds (kind_in after k)) (sym e) (change.imaged (subst (λ (k : ℕ). is_home after k ≡ true) e home))
    image s home (inr ne) =
        change.others_bytes s ne ∙ owned.ledgers.imaged s (was_home s ne home) ∙ ap (image_at w.kinds) (sym (other_kind w kind slots s (change.others s ne)))

    long : (o : Owner) → Contains w.owners o → length (bytes o.slot) ≡ length (image_at w.kinds (kind_in after o.slot))
    long o among =
        let same = change.others_bytes o.slot (owners_apart w slot o change.nobodys among) in
        ap (λ (bs : List ℕ). length bs) same ∙ owned.holders.sized o among
        ∙ ap (λ (k : ℕ). length (image_at w.kinds k)) (sym (other_kind w kind slots o.slot (other o among)))

-- ---- what a run sees

pub view_changed : (w : World) (run kind slot : ℕ) (slots : List ℕ) (bytes : ℕ → List ℕ) (r : Running)
    → IsChange w kind slot slots bytes → view_of (changed kind slots bytes w) run r ≡ view_of w run r
view_changed w run kind slot slots bytes r change =
    ap (λ (objects : List ObjectView). record (view_of w run r) { objects = objects })
    (map_agree (object_in (changed kind slots bytes w)) (object_in w) (held_by w run) (λ o among. alike o (held_owner w run o among).0)) where
      alike : (o : Owner) → Contains w.owners o → object_in (changed kind slots bytes w) o ≡ object_in w o
      alike o among =
          let ne = owners_apart w slot o change.nobodys among in
          let kinds = other_kind w kind slots o.slot (change.others o.slot ne) in
          let same = change.others_bytes o.slot ne in
          λ i. record (object_in w o) { kind = kinds i; bytes = same i }
