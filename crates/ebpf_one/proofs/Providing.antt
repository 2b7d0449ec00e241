-- What the run in a world of its own is provided with before an instruction: the world still shows the run as it is kept, and serves
-- it what the store does.
use Rattle.std.proofs.Common.{◌≡◌, ◌⊎◌, inl, inr, ℕ, ◌+◌, ◌<◌, Bool, true, false, List, length, Option, Some, None, refl, sym, ap, ◌∙◌, subst, arith}
use Rattle.std.specs.Prelude.{slice_get, option_map, if◌then◌else◌}
use Rattle.std.proofs.lemmas.Bool.{false_from_ne_true}
use Rattle.ebpf_machine.specs.declared.answer.Answer.{Answer}
use Rattle.ebpf_machine.specs.declared.answer.Answer.TheVariants.{Absent, Null, Slot}
use Rattle.ebpf_machine.specs.World.{Owner, Shelved, Going, standing, shelved_at, shelved_in, is_in_ledger}
use Rattle.ebpf_machine.specs.Events.{Asking, Unasked, OfKind, AtShelf, answer_fault, with_slot_joined}
use Rattle.ebpf_machine.specs.Alone.{Alone, Fed, alone_after, replies_from}
use Rattle.ebpf_machine.specs.View.{RunView, view_in, slots_in}
use Rattle.ebpf_machine.specs.RunState.{RunState, slots_kept}
use Rattle.ebpf_machine.specs.Store.{Store}
use Rattle.ebpf_machine.specs.Sound.{AreSized, IsOwned, IsSound}
use Rattle.ebpf_machine.specs.Whole.{granted, refused}
use Rattle.ebpf_machine.specs.Step.{Served, Idle, Refused, Granted, Empty, Fetched, MayAnswer, MayServe, offers_of, answer_for, told_by, asking_in}
use Rattle.ebpf_machine.specs.Step.{seen_in, served_from, served_in}
use Rattle.ebpf_machine.proofs.World.Asking.{AsksNew, Asks, ForNothing, ForObject, ForShelf, asks_of}
use Rattle.ebpf_machine.proofs.World.Execs.{kinds_alike, shown_run, sized_in}
use Rattle.ebpf_machine.proofs.World.KeptShelves.{shelved_joined}
use Rattle.ebpf_machine.proofs.World.NewSlots.{IsNew, joined_home, joined_in, joined_cases, owned_joined, view_joined}
use Rattle.ebpf_machine.proofs.World.Steps.{next_of}
use Rattle.ebpf_one.specs.Solo.{provided}

-- a store that answers as a world of one run does: a call of new with the next slot, where calls are to be granted, and a call of swap
-- with what is on the shelf
pub record AnswersSo {S H : Type 0} (o : Store S H) (nulls : Bool) (next : ℕ) (s : S) : Type 0 where
  pub grants : (kind at slot : ℕ) → o.can_grant s kind at slot → (nulls ≡ false) × (slot ≡ next)
  pub fetches : (shelf slot : ℕ) (bytes : List ℕ) (what : Option Shelved) → o.can_fetch s shelf slot bytes → o.stand s shelf what
      → what ≡ Some (record { slot = slot; bytes = bytes })
  pub misses : (shelf : ℕ) (what : Option Shelved) → o.can_miss s shelf → o.stand s shelf what → what ≡ None

-- the world of one run shows the run over its store: what it holds, what is on shelves, and that each slot of a ledger was granted
pub record IsShown {S H : Type 0} (o : Store S H) (s : S) (r : RunState H) (a : Alone) : Type 0 where
  pub owned : IsOwned a.world
  pub view : view_in a.world 0 ≡ Some (seen_in o s r)
  pub slots : slots_in a.world 0 ≡ slots_kept o.slot_of r.held
  pub shelves : (shelf : ℕ) → o.stand s shelf (shelved_in a.world shelf)
  pub below : (slot : ℕ) → is_in_ledger a.world slot ≡ true → slot < granted r.replies
  pub peak : a.peak ≡ (alone_after r.executed r.subject r.context (replies_from r.replies r.taken)).peak

-- and the world in which it does its instruction shows it, with an answer that is legal and serves it so
pub record IsProvided {S H : Type 0} (o : Store S H) (s : S) (r : RunState H) (served : Served) (f : Fed) : Type 0 where
  pub owned : IsOwned f.world
  pub view : view_in f.world 0 ≡ Some (seen_in o s r)
  pub slots : slots_in f.world 0 ≡ slots_kept o.slot_of r.held
  pub shelves : (shelf : ℕ) → o.stand s shelf (shelved_in f.world shelf)
  pub below : (slot : ℕ) → is_in_ledger f.world slot ≡ true → slot < granted r.replies + granted (told_by served)
  pub answer : f.answer ≡ answer_for served
  pub serves : served_in f.world (asking_in (seen_in o s r)) (answer_for served) ≡ served
  pub fine : answer_fault f.world (asking_in (seen_in o s r)) f.answer ≡ None

-- ---- what the run is provided with

module _ {S H : Type 0} (o : Store S H) (nulls : Bool) (s : S) (r : RunState H) (a : Alone) (served : Served) where
  abbrev v : RunView
  v = seen_in o s r

  -- nothing joins
  as_it_is : (answer : Answer) → IsShown o s r a → answer ≡ answer_for served
      → served_in a.world (asking_in v) (answer_for served) ≡ served → answer_fault a.world (asking_in v) answer ≡ None
      → IsProvided o s r served (record { world = a.world; answer = answer })
  as_it_is answer shown is serves fine = record {
    owned = shown.owned;
    view = shown.view;
    slots = shown.slots;
    shelves = shown.shelves;
    below = λ slot there. omega (arith, shown.below slot there);
    answer = is;
    serves = serves;
    fine = fine;
  }

  -- the next slot is new
  is_new : (kind : ℕ) → IsShown o s r a → AsksNew v kind → IsNew a.world kind (granted r.replies)
  is_new kind shown new =
      let x = shown_run a.world 0 v shown.view in
      let rows = ap (λ (u : RunView). length u.subject.rows) x.2 in
      record {
        kind_is = omega (arith, new.kind_is, kinds_alike a.world 0 x.0 shown.owned x.1, rows);
        fresh = false_from_ne_true (is_in_ledger a.world (granted r.replies)) (λ there. absurd (omega (arith, shown.below (granted r.replies) there)));
      }

  slot_joins : (kind : ℕ) → IsShown o s r a → AsksNew v kind → asking_in v ≡ OfKind kind → served ≡ Granted (granted r.replies)
      → IsProvided o s r served (record { world = with_slot_joined kind (granted r.replies) a.world; answer = Slot (granted r.replies) })
  slot_joins kind shown new asked is =
      let w = a.world in
      let slot = granted r.replies in
      let fresh = is_new kind shown new in
      let home = joined_home w kind slot shown.owned fresh in
      let its = joined_in w kind slot shown.owned fresh in
      record {
        owned = owned_joined w kind slot shown.owned fresh;
        view = (λ i. option_map (λ x. view_joined w 0 kind slot x shown.owned fresh i) (slice_get w.runs 0)) ∙ shown.view;
        slots = shown.slots;
        shelves = λ shelf. subst (o.stand s shelf) (sym (shelved_joined w kind slot shelf shown.owned fresh)) (shown.shelves shelf);
        below = λ k there. within k (joined_cases w kind slot k there);
        answer = ap answer_for (sym is);
        serves = rw (asked, is) refl;
        fine = rw (asked, home, its) refl;
      }
    where
      within : (k : ℕ) → (k ≡ granted r.replies) ⊎ (is_in_ledger a.world k ≡ true) → k < granted r.replies + granted (told_by served)
      within k (inl e) = let one = ap (λ (x : Served). granted (told_by x)) is in omega (arith, e, one)
      within k (inr there) = omega (arith, shown.below k there)

  -- the world provides what the store serves, where no call of new is refused that was to be granted
  abbrev IsProvidedFor : Asking → Type 0
  IsProvidedFor asked = IsProvided o s r served (provided asked nulls (granted r.replies) a.world)

  for_object : AnswersSo o nulls (granted r.replies) s → IsShown o s r a → (kind : ℕ) → AsksNew v kind → asking_in v ≡ OfKind kind
      → (x : Served) → served ≡ x → MayAnswer (offers_of o s) r.pc (OfKind kind) x → (nulls ≡ false → refused (told_by served) ≡ 0)
      → IsProvidedFor (OfKind kind)
  for_object so shown kind new asked Idle is may ample = absurd may
  for_object so shown kind new asked Empty is may ample = absurd may
  for_object so shown kind new asked (Fetched slot bytes) is may ample = absurd may
  for_object so shown kind new asked (Granted slot) is may ample =
      let as_next = so.grants kind r.pc slot may in
      subst (λ (b : Bool). IsProvided o s r served
      (if b then record { world = a.world; answer = Null }
      else record { world = with_slot_joined kind (granted r.replies) a.world; answer = Slot (granted r.replies) })) (sym as_next.0)
      (slot_joins kind shown new asked (is ∙ ap Granted as_next.1))
  for_object so shown kind new asked Refused is may ample = by nulls refl where
    by : (b : Bool) → nulls ≡ b
        → IsProvided o s r served (if b then record { world = a.world; answer = Null }
        else record { world = with_slot_joined kind (granted r.replies) a.world; answer = Slot (granted r.replies) })
    by true e = as_it_is Null shown (ap answer_for (sym is)) (rw (asked, is) refl) (rw asked refl)
    by false e = let none = ample e in let one = ap (λ (x : Served). refused (told_by x)) is in absurd (omega (arith, none, one))

  -- what is on the shelf is what the store says
  for_shelf : AnswersSo o nulls (granted r.replies) s → IsShown o s r a → (shelf : ℕ) → asking_in v ≡ AtShelf shelf → (x : Served)
      → served ≡ x → MayAnswer (offers_of o s) r.pc (AtShelf shelf) x → IsProvidedFor (AtShelf shelf)
  for_shelf so shown shelf asked x is may = as_it_is Absent shown (absent x is may) (rw asked (stands_so x is may)) (rw asked refl) where
    absent : (x : Served) → served ≡ x → MayAnswer (offers_of o s) r.pc (AtShelf shelf) x → Absent ≡ answer_for served
    absent Idle is may = absurd may
    absent Refused is may = absurd may
    absent (Granted slot) is may = absurd may
    absent Empty is may = ap answer_for (sym is)
    absent (Fetched slot bytes) is may = ap answer_for (sym is)

    from_shelved : (what : Option Shelved) → Served
    from_shelved None = Empty
    from_shelved (Some x) = Fetched x.slot x.bytes

    as_shelved : (p : Option Owner) → served_from a.world p ≡ from_shelved (option_map (λ q. shelved_at a.world q.slot) p)
    as_shelved None = refl
    as_shelved (Some p) = refl

    stands_so : (x : Served) → served ≡ x → MayAnswer (offers_of o s) r.pc (AtShelf shelf) x → served_from a.world (standing a.world shelf) ≡ served
    stands_so Idle is may = absurd may
    stands_so Refused is may = absurd may
    stands_so (Granted slot) is may = absurd may
    stands_so Empty is may = as_shelved (standing a.world shelf) ∙ ap from_shelved (so.misses shelf _ may (shown.shelves shelf)) ∙ sym is
    stands_so (Fetched slot bytes) is may =
        as_shelved (standing a.world shelf) ∙ ap from_shelved (so.fetches shelf slot bytes _ may (shown.shelves shelf)) ∙ sym is

  for_nothing : IsShown o s r a → asking_in v ≡ Unasked → served ≡ Idle → IsProvidedFor Unasked
  for_nothing shown unasked is = as_it_is Absent shown (ap answer_for (sym is)) (rw (unasked, is) refl) (rw unasked refl)

  asks_so : IsShown o s r a → IsSound v → v.status ≡ Going → Asks v
  asks_so shown sound going =
      let x = shown_run a.world 0 v shown.view in
      asks_of v (next_of v sound (subst AreSized x.2 (sized_in a.world 0 x.0 shown.owned x.1)) going)

  pub provides : AnswersSo o nulls (granted r.replies) s → IsShown o s r a → IsSound v → v.status ≡ Going → MayServe o s v served
      → (nulls ≡ false → refused (told_by served) ≡ 0) → IsProvidedFor (asking_in v)
  provides so shown sound going may ample = by (asks_so shown sound going) where
    told : (asked : Asking) → asking_in v ≡ asked → MayAnswer (offers_of o s) r.pc asked served
    told asked e = subst (λ (k : Asking). MayAnswer (offers_of o s) r.pc k served) e may

    by : Asks v → IsProvidedFor (asking_in v)
    by (ForNothing unasked) = subst IsProvidedFor (sym unasked) (for_nothing shown unasked (told Unasked unasked))
    by (ForObject kind asked new) = subst IsProvidedFor (sym asked) (for_object so shown kind new asked served refl (told (OfKind kind) asked) ample)
    by (ForShelf shelf asked new) = subst IsProvidedFor (sym asked) (for_shelf so shown shelf asked served refl (told (AtShelf shelf) asked))
