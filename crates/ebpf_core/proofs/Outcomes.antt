-- What one instruction does to the objects of a run: nothing, or it is granted one, or it frees one, or it exchanges what is on a
-- shelf.
use Rattle.std.proofs.Common.{◌≡◌, inl, inr, ℕ, ◌+◌, ◌<◌, Bool, true, false, cond, not, List, [], ◌∷◌, ◌++◌, length, map, filter, count_by, Option}
use Rattle.std.proofs.Common.{Some, None, Result, Ok, refl, sym, ap, ◌∙◌, arith, append-nil}
use Rattle.std.specs.Prelude.{Contains, ◌==◌, nat_le, if◌then◌else◌, IfSome}
use Rattle.std.specs.List.{find}
use Rattle.std.proofs.lemmas.Bool.{eqb-true}
use Rattle.std.proofs.lemmas.Bool.Decides.{nat_tests}
use Rattle.std.proofs.lemmas.List.Sums.{sum_by-cons}
use Rattle.ebpf_insn.specs.Program.{insn_at}
use Rattle.ebpf_machine.specs.Bytes.{patched}
use Rattle.ebpf_machine.specs.Values.{Trap, Frame}
use Rattle.ebpf_machine.specs.Effect.{Found, Act, Nothing, Write, Ask, Free, Exchange, Effect}
use Rattle.ebpf_machine.specs.World.{Name, Shelved, Going, name_of}
use Rattle.ebpf_machine.specs.Events.{Unasked, OfKind, AtShelf}
use Rattle.ebpf_machine.specs.View.{ObjectView, RunView, found_in, object_at, patched_at, environment_of_view, effect_of_view, without_given}
use Rattle.ebpf_machine.specs.View.{exchanged, acted, stepped}
use Rattle.ebpf_machine.specs.Whole as whole
use Rattle.ebpf_machine.specs.Step as step
use Rattle.ebpf_machine.specs.Step.{Served, result_of, asking_in, reached, told_by}
use Rattle.ebpf_machine.specs.Shelves.{shelf_acted, shelf_done}
use Rattle.ebpf_machine.specs.Advance.{slots_without, slots_exchanged, slots_acted, slots_after}
use Rattle.ebpf_machine.specs.Sound.{IsSound, AreSized}
use Rattle.ebpf_machine.proofs.World.Asking.{asked_by, IsGivenThere, asked_goes, asked_ends, there_goes}
use Rattle.ebpf_machine.proofs.Lists.ListLemmas.{IsFound, find_is, fewer_dropped}
use Rattle.ebpf_machine.proofs.World.Steps.{GoesOn, EndsRun, IsNext, next_of, stepped_goes, stepped_ends}

-- how many of the objects are of a kind
abbrev pub of_kind : ℕ → List ObjectView → ℕ
of_kind kind objects = count_by (λ o. kind == o.kind) objects

-- the slot that a call of swap gets
abbrev pub slots_fetched : ℕ → Served → List Name
slots_fetched pc (step.Fetched slot bytes) = name_of slot pc ∷ []
slots_fetched pc step.Idle = []
slots_fetched pc step.Refused = []
slots_fetched pc (step.Granted slot) = []
slots_fetched pc step.Empty = []

-- the objects are as many of each kind, in the same slots; a slot that is answered was not asked for
pub record IsKept (v u : RunView) (served : Served) (slots now : List Name) : Type 0 where
  pub unasked : (slot : ℕ) → served ≡ step.Granted slot → asking_in v ≡ Unasked
  pub slots_are : now ≡ slots
  pub kinds : (kind : ℕ) → of_kind kind u.objects ≡ of_kind kind v.objects

-- one more, of the kind that was asked for, by the call at the pc
pub record IsGranted (v u : RunView) (served : Served) (slots now : List Name) : Type 0 where
  pub slot : ℕ
  pub new : ℕ
  pub answered : served ≡ step.Granted slot
  pub asked : asking_in v ≡ OfKind new
  pub slots_are : now ≡ slots ++ name_of slot v.pc ∷ []
  pub kinds : (kind : ℕ) → of_kind kind u.objects ≡ of_kind kind v.objects + (if kind == new then 1 else 0)

-- one is no longer there
pub record IsFreed (v u : RunView) (slots now : List Name) : Type 0 where
  pub unasked : asking_in v ≡ Unasked
  pub object : ObjectView
  pub there : Contains v.objects object
  pub slots_are : now ≡ filter (λ n. not (n.call == object.call)) slots
  pub fewer : of_kind object.kind u.objects < of_kind object.kind v.objects

-- what is given is no longer there, and what was on the shelf is, by the call at the pc
pub record IsSwapped (v u : RunView) (served : Served) (slots now : List Name) : Type 0 where
  pub shelf : ℕ
  pub given : Option ℕ
  pub asked : asking_in v ≡ AtShelf shelf
  pub leaves : (given_is : Option ℕ → Option Shelved) (other : ℕ) (what : Option Shelved)
      → shelf_done given_is (effect_of_view v) other what ≡ (if other == shelf then given_is given else what)
  pub there : IfSome given (λ call. (o : ObjectView) × Contains v.objects o × (o.call ≡ call) × (o.kind ≡ shelf))
  pub slots_are : now ≡ slots_without given slots ++ slots_fetched v.pc served
  pub kinds : (kind : ℕ) → of_kind kind u.objects ≡ of_kind kind (without_given given v.objects) + (if kind == shelf then whole.fetched (told_by served) else 0)

-- it reaches no shelf, and leaves all of them as they are
pub record IsQuiet (v : RunView) : Type 0 where
  pub unreached : reached (asking_in v) ≡ None
  pub leaves : (given_is : Option ℕ → Option Shelved) (shelf : ℕ) (what : Option Shelved) → shelf_done given_is (effect_of_view v) shelf what ≡ what

pub data IsOutcome (v u : RunView) (served : Served) (slots now : List Name) : Type 0 where
  Kept : IsQuiet v → IsKept v u served slots now → IsOutcome v u served slots now
  Granted : IsQuiet v → IsGranted v u served slots now → IsOutcome v u served slots now
  Freed : IsQuiet v → IsFreed v u slots now → IsOutcome v u served slots now
  Swapped : IsSwapped v u served slots now → IsOutcome v u served slots now

-- ---- how many are of a kind

counted : {X : Type 0} (p : X → Bool) (x : X) (xs : List X) → count_by p (x ∷ xs) ≡ cond (p x) 1 0 + count_by p xs
counted p x xs = sum_by-cons (λ y. cond (p y) 1 0) x xs

-- bytes that are written change no kind
kinds_patched : (kind call at : ℕ) (bytes : List ℕ) (objects : List ObjectView) → of_kind kind (map (patched_at call at bytes) objects) ≡ of_kind kind objects
kinds_patched kind call at bytes [] = refl
kinds_patched kind call at bytes (o ∷ objects) =
    let p : ObjectView → Bool = λ x. kind == x.kind in
    let here = counted p (patched_at call at bytes o) (map (patched_at call at bytes) objects) in
    let before = counted p o objects in
    let one = ap (λ (k : ℕ). cond {A = ℕ} (kind == k) 1 0) (kind_patched (o.call == call) o (patched o.bytes at bytes)) in
    omega (arith, here, before, one, kinds_patched kind call at bytes objects)
  where
    kind_patched : (t : Bool) (o : ObjectView) (now : List ℕ) → (cond t (record o { bytes = now }) o).kind ≡ o.kind
    kind_patched true o now = refl
    kind_patched false o now = refl

kinds_added : (kind : ℕ) (objects : List ObjectView) (o : ObjectView) → of_kind kind (objects ++ o ∷ []) ≡ of_kind kind objects + cond (kind == o.kind) 1 0
kinds_added kind [] o = omega (arith, counted (λ (x : ObjectView). kind == x.kind) o [])
kinds_added kind (x ∷ objects) o =
    let here = counted (λ (y : ObjectView). kind == y.kind) x (objects ++ o ∷ []) in
    let before = counted (λ (y : ObjectView). kind == y.kind) x objects in
    omega (arith, here, before, kinds_added kind objects o)

-- ---- each act

room_for : (declared held : ℕ) → held < declared → nat_le declared held ≡ false
room_for declared held lt = grind (arith, nat_tests)

-- the object that is given back is one of the run's
given_there : (objects : List ObjectView) (call : ℕ) (found : Found) → object_at objects call ≡ Ok found
    → (o : ObjectView) × Contains objects o × (o.call ≡ call)
given_there objects call found is = by (find (λ (o : ObjectView). o.call == call) objects) (find_is (λ (o : ObjectView). o.call == call) objects) is where
  by : (f : Option ObjectView) → IsFound (λ (o : ObjectView). o.call == call) objects f → found_in f ≡ Ok found
      → (o : ObjectView) × Contains objects o × (o.call ≡ call)
  by None none is = absurd (cc)
  by (Some o) there is = (o, there.0, eqb-true o.call call there.1)

-- and what is given for what is on a shelf, of the shelf's kind
given_of_kind : (objects : List ObjectView) (call shelf : ℕ) (found : Found) → object_at objects call ≡ Ok found
    → found.kind ≡ shelf → (o : ObjectView) × Contains objects o × (o.call ≡ call) × (o.kind ≡ shelf)
given_of_kind objects call shelf found is kind =
    by (find (λ (o : ObjectView). o.call == call) objects) (find_is (λ (o : ObjectView). o.call == call) objects) is where
      by : (f : Option ObjectView) → IsFound (λ (o : ObjectView). o.call == call) objects f → found_in f ≡ Ok found
          → (o : ObjectView) × Contains objects o × (o.call ≡ call) × (o.kind ≡ shelf)
      by None none is = absurd (cc)
      by (Some o) there is = (
        o,
        there.0,
        eqb-true o.call call there.1,
        ap (λ (f : Found). f.kind)
            (same (record { kind = o.kind; bytes = o.bytes }) found (found_in (Some o)) refl is) ∙ kind,
      ) where
        same : (a b : Found) (the : Result Found Trap) → the ≡ Ok a → the ≡ Ok b → a ≡ b
        same a b the e f = cc

freed : (v : RunView) (to : ℕ) (after : Frame ℕ) (call : ℕ) (served : Served) (slots : List Name) (o : ObjectView)
    → asking_in v ≡ Unasked → Contains v.objects o → o.call ≡ call
    → IsFreed v (acted (Free call) (result_of served) to after v) slots (slots_acted (Free call) served v.subject.decl.held v.pc slots)
freed v to after call served slots o unasked there same = record {
  unasked = unasked;
  object = o;
  there = there;
  slots_are = ap (λ (c : ℕ). filter (λ (n : Name). not (n.call == c)) slots) (sym same);
  fewer = fewer_dropped (λ (x : ObjectView). o.kind == x.kind) (λ (x : ObjectView). not (x.call == call)) v.objects o there (equal o.kind)
      (ap not (ap (λ (c : ℕ). c == call) same ∙ equal call));
}
  where
    equal : (a : ℕ) → (a == a) ≡ true
    equal a = grind (arith, nat_tests)

taken : (v : RunView) (to : ℕ) (after : Frame ℕ) (kind : ℕ) (served : Served) (slots : List Name) → asking_in v ≡ OfKind kind
    → length v.objects < v.subject.decl.held → length slots ≡ length v.objects → IsQuiet v
    → IsOutcome v (acted (Ask kind) (result_of served) to after v) served slots (slots_acted (Ask kind) served v.subject.decl.held v.pc slots)
taken v to after kind step.Idle slots asked room many quiet = Kept quiet (record { unasked = λ slot e. absurd (cc); slots_are = refl; kinds = λ k. refl })
taken v to after kind step.Empty slots asked room many quiet = Kept quiet (record { unasked = λ slot e. absurd (cc); slots_are = refl; kinds = λ k. refl })
taken v to after kind (step.Fetched other bytes) slots asked room many quiet =
    Kept quiet (record { unasked = λ slot e. absurd (cc); slots_are = refl; kinds = λ k. refl })
taken v to after kind step.Refused slots asked room many quiet = Kept quiet (record { unasked = λ slot e. absurd (cc); slots_are = refl; kinds = λ k. refl })
taken v to after kind (step.Granted slot) slots asked room many quiet =
    let few = room_for v.subject.decl.held (length v.objects) room in
    let few_slots = ap (nat_le v.subject.decl.held) many ∙ few in
    Granted quiet (record {
      slot = slot;
      new = kind;
      answered = refl;
      asked = asked;
      slots_are = rw few_slots refl;
      kinds = λ k. rw few (kinds_added k v.objects _);
    })

-- what the instruction asks for is what it does
asks_for : (v : RunView) (act : Act ℕ) (to : ℕ) (after : Frame ℕ) → GoesOn v act to after → asking_in v ≡ asked_by act
asks_for v act to after g = asked_goes (insn_at v.subject.program v.pc) v.pc (environment_of_view v) v.frame act to after g.does

-- ---- an exchange of what is on a shelf

nothing_more : (kind shelf n : ℕ) → n ≡ n + cond (kind == shelf) 0 0
nothing_more kind shelf n = by (kind == shelf) where
  by : (t : Bool) → n ≡ n + cond t 0 0
  by true = omega arith
  by false = omega arith

swapped_got : (v : RunView) (to : ℕ) (after : Frame ℕ) (shelf : ℕ) (given : Option ℕ) (served : Served) (slots : List Name)
    → length (without_given given v.objects) < v.subject.decl.held
    → length (slots_without given slots) ≡ length (without_given given v.objects)
    → (slots_exchanged served v.subject.decl.held v.pc given slots ≡ slots_without given slots ++ slots_fetched v.pc served)
    × ((kind : ℕ) → of_kind kind (exchanged (result_of served) to after shelf given v).objects
    ≡ of_kind kind (without_given given v.objects) + cond (kind == shelf) (whole.fetched (told_by served)) 0)
swapped_got v to after shelf given (step.Fetched slot bytes) slots room many =
    let few = room_for v.subject.decl.held (length (without_given given v.objects)) room in
    let few_slots = ap (nat_le v.subject.decl.held) many ∙ few in
    (rw few_slots refl, λ kind. rw few (kinds_added kind (without_given given v.objects) _))
swapped_got v to after shelf given step.Empty slots room many =
    (sym (append-nil _), λ kind. nothing_more kind shelf (of_kind kind (without_given given v.objects)))
swapped_got v to after shelf given step.Idle slots room many =
    (sym (append-nil _), λ kind. nothing_more kind shelf (of_kind kind (without_given given v.objects)))
swapped_got v to after shelf given step.Refused slots room many =
    (sym (append-nil _), λ kind. nothing_more kind shelf (of_kind kind (without_given given v.objects)))
swapped_got v to after shelf given (step.Granted slot) slots room many =
    (sym (append-nil _), λ kind. nothing_more kind shelf (of_kind kind (without_given given v.objects)))

swapped : (v : RunView) (to : ℕ) (after : Frame ℕ) (shelf : ℕ) (given : Option ℕ) (served : Served) (slots : List Name)
    → GoesOn v (Exchange shelf given) to after → length (slots_without given slots) ≡ length (without_given given v.objects)
    → IsSwapped v (acted (Exchange shelf given) (result_of served) to after v) served slots
    (slots_acted (Exchange shelf given) served v.subject.decl.held v.pc slots)
swapped v to after shelf given served slots g many =
    let there = there_goes (insn_at v.subject.program v.pc) v.pc (environment_of_view v) v.frame (Exchange shelf given) to after g.does in
    let got = swapped_got v to after shelf given served slots g.room.1 many in
    record {
      shelf = shelf;
      given = given;
      asked = asks_for v (Exchange shelf given) to after g;
      leaves = λ given_is other what. ap (λ (e : Effect ℕ). shelf_done given_is e other what) g.does;
      there = its given there.1;
      slots_are = got.0;
      kinds = got.1;
    }
  where
    its : (given : Option ℕ) → IsGivenThere (environment_of_view v) shelf given
        → IfSome given (λ call. (o : ObjectView) × Contains v.objects o × (o.call ≡ call) × (o.kind ≡ shelf))
    its None there = tt
    its (Some call) there = given_of_kind v.objects call shelf there.0 there.1 there.2

-- no act but an exchange reaches a shelf
quiet : (v : RunView) (act : Act ℕ) (to : ℕ) (after : Frame ℕ) → GoesOn v act to after → reached (asked_by act) ≡ None
    → ((given_is : Option ℕ → Option Shelved) (shelf : ℕ) (what : Option Shelved) → shelf_acted given_is act shelf what ≡ what)
    → IsQuiet v
quiet v act to after g unreached leaves = record {
  unreached = ap reached (asks_for v act to after g) ∙ unreached;
  leaves = λ given_is shelf what. ap (λ (e : Effect ℕ). shelf_done given_is e shelf what) g.does ∙ leaves given_is shelf what;
}

outcome_acted : (v : RunView) (act : Act ℕ) (to : ℕ) (after : Frame ℕ) (served : Served) (slots : List Name) → GoesOn v act to after
    → IsSound v → v.status ≡ Going → length slots ≡ length v.objects
    → ((call : ℕ) → length (slots_without (Some call) slots) ≡ length (without_given (Some call) v.objects))
    → IsOutcome v (acted act (result_of served) to after v) served slots (slots_acted act served v.subject.decl.held v.pc slots)
outcome_acted v Nothing to after served slots g sound going many left =
    Kept (quiet v Nothing to after g refl (λ given_is shelf what. refl))
    (record { unasked = λ slot e. asks_for v Nothing to after g; slots_are = refl; kinds = λ k. refl })
outcome_acted v (Write call at bytes) to after served slots g sound going many left =
    Kept (quiet v (Write call at bytes) to after g refl (λ given_is shelf what. refl))
    (record { unasked = λ slot e. asks_for v (Write call at bytes) to after g; slots_are = refl; kinds = λ k. kinds_patched k call at bytes v.objects })
outcome_acted v (Exchange shelf None) to after served slots g sound going many left = Swapped (swapped v to after shelf None served slots g many)
outcome_acted v (Exchange shelf (Some call)) to after served slots g sound going many left =
    Swapped (swapped v to after shelf (Some call) served slots g (left call))
outcome_acted v (Ask kind) to after served slots g sound going many left =
    taken v to after kind served slots (asks_for v (Ask kind) to after g) g.room.1 many (quiet v (Ask kind) to after g refl (λ given_is shelf what. refl))
outcome_acted v (Free call) to after served slots g sound going many left =
    let there = there_goes (insn_at v.subject.program v.pc) v.pc (environment_of_view v) v.frame (Free call) to after g.does in
    let o = given_there v.objects call there.0 there.1 in
    Freed (quiet v (Free call) to after g refl (λ given_is shelf what. refl))
    (freed v to after call served slots o.0 (asks_for v (Free call) to after g) o.1 o.2)

-- ---- each instruction

pub outcome_of : (v : RunView) (served : Served) (slots : List Name) → IsSound v → AreSized v → v.status ≡ Going
    → length slots ≡ length v.objects
    → ((call : ℕ) → length (slots_without (Some call) slots) ≡ length (without_given (Some call) v.objects))
    → IsOutcome v (stepped (result_of served) v) served slots (slots_after (effect_of_view v) served v.subject.decl.held v.pc slots)
outcome_of v served slots sound sized going many left = by (next_of v sound sized going) where
  IsOne : RunView → List Name → Type 0
  IsOne u now = IsOutcome v u served slots now

  by : IsNext v → IsOne (stepped (result_of served) v) (slots_after (effect_of_view v) served v.subject.decl.held v.pc slots)
  by (inl (act, to, after, g)) =
      rw (stepped_goes v (result_of served) act to after going g, g.does) (outcome_acted v act to after served slots g sound going many left)
  by (inr (n, ends)) = rw (stepped_ends v (result_of served) n going ends, ends.does)
      (Kept (silent n ends) (record {
        unasked = λ slot e. asked_ends (insn_at v.subject.program v.pc) v.pc (environment_of_view v) v.frame n ends.does;
        slots_are = refl;
        kinds = λ k. refl;
      }))
    where
      silent : (n : ℕ) → EndsRun v n → IsQuiet v
      silent n ends = record {
        unreached = ap reached (asked_ends (insn_at v.subject.program v.pc) v.pc (environment_of_view v) v.frame n ends.does);
        leaves = λ given_is shelf what. ap (λ (e : Effect ℕ). shelf_done given_is e shelf what) ends.does;
      }
