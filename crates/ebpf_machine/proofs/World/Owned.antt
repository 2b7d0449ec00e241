-- Owners, ledgers and pointers still fit together after an event.
use Rattle.std.proofs.Common.{◌≡◌, ◌≢◌, ◌⊎◌, inl, inr, ℕ, ◌+◌, ◌<◌, ◌≤◌, pos, Bool, true, false, cond, List, [], ◌∷◌, ◌++◌, length, Option, Some}
use Rattle.std.proofs.Common.{None, refl, sym, ap, ◌∙◌, subst, arith}
use Rattle.std.specs.Prelude.{Contains, slice_get, nat_le, map, count_by, ◌==◌, ◌&&◌, not}
use Rattle.std.specs.List.{list_any}
use Rattle.std.proofs.lemmas.List.{length-append, length-take, length-drop, length-map}
use Rattle.std.proofs.lemmas.List.Elements.{Contains-append_left, Contains-push}
use Rattle.ebpf_verify.specs.Subject.{Subject}
use Rattle.ebpf_insn.specs.declared.register.Reg.TheVariants.{R0}
use Rattle.ebpf_machine.specs.declared.value.Value.{Value}
use Rattle.ebpf_machine.specs.declared.value.Value.TheVariants.{Number, Pointer}
use Rattle.ebpf_machine.specs.declared.value.Base.TheVariants.{Object}
use Rattle.ebpf_machine.specs.declared.report.Reply.{Reply}
use Rattle.ebpf_machine.specs.declared.report.Reply.TheVariants as reply
use Rattle.ebpf_machine.specs.Bytes.{patched}
use Rattle.ebpf_machine.specs.Values.{Frame, TooManyObjects}
use Rattle.ebpf_machine.specs.Effect.{Effect, Goes, Ends, Traps, Nothing, Write, Ask, Free, Exchange, with_value}
use Rattle.ebpf_machine.specs.declared.answer.Answer.{Answer}
use Rattle.ebpf_machine.specs.declared.answer.Answer.TheVariants.{Absent, Null, Slot}
use Rattle.ebpf_machine.specs.World.{Name, Kind, World, Running, AnsweredCall, Owner, Run, Shelf, is_in, is_home, holds_of, ledger_of, kind_in}
use Rattle.ebpf_machine.specs.World.{kinds_of, image_at, is_call, is_shelf, standing, first_run, name_of, IsGot, IsOfKind, AskedFor}
use Rattle.ebpf_machine.specs.Events.{under_way, with_run, with_bytes, with_owner, moved_to, ended, trapped, replied, granted, put_on, fetched}
use Rattle.ebpf_machine.specs.Events.{shelf_told, exchanged, done_by, started}
use Rattle.ebpf_machine.specs.Alone.{alone_first}
use Rattle.ebpf_machine.specs.View.{call_of}
use Rattle.ebpf_machine.specs.Sound.{IsOwned, Names, HasPointer, HasOneSlot, IsTrue}
use Rattle.ebpf_machine.proofs.Lists.ListLemmas.{IsFound, get_set_same, get_push, get_push_cases}
use Rattle.ebpf_machine.proofs.World.Owners.{owner_of, run_of, kind_in-ledger}
use Rattle.ebpf_machine.proofs.World.ObjectPointers.{pointer_written, no_first_pointer}
use Rattle.ebpf_machine.proofs.World.OwnedParts.{IsLater, same_run, nothing_yet, owned_running, owned_bytes, owned_freed, owned_granted}
use Rattle.ebpf_machine.proofs.World.Moves.{MayHold, owned_moved}
use Rattle.ebpf_machine.proofs.World.Exchanges.{stays_off, IsOwnGiven, StandsOn, stands, standing_there, off_shelf, shelf_is_no_run, kind_on_shelf}
use Rattle.ebpf_machine.proofs.World.Exchanges.{shelf_dropped, given_dropped, given_with_run, given_fetched, fetched_off}
use Rattle.ebpf_machine.proofs.World.Acts.{IsOwnEffect}

-- an instruction leads forward, and makes no pointer to an object that its run had none to
abbrev pub IsForward : Frame Name → ℕ → Effect Name → Type 0
IsForward before pc (Goes act to after) = (pc < to) × ((n : Name) → HasPointer after n → HasPointer before n)
IsForward before pc (Ends n) = Unit {0}
IsForward before pc (Traps trap) = Unit {0}

-- ---- what a run has after an instruction

-- a pointer that it had
true_later : (w : World) {run : ℕ} {r : Running} (now : Running) {n : Name} → r.pc ≤ now.pc → IsTrue w.owners run r n → IsTrue w.owners run now n
true_later w now later h = record { behind = omega (arith, h.behind); slot = h.slot }

-- it stays where it is
owned_stays : {w : World} (run : ℕ) (r now : Running) → IsOwned w → slice_get w.runs run ≡ Some r → now.subject ≡ r.subject
    → now.pc ≡ r.pc → now.calls ≡ r.calls → now.frame ≡ r.frame → IsOwned (with_run w run now)
owned_stays {w} run r now owned there subject pc told frame =
    let later : IsLater r now = record {
      subject = subject;
      pc = omega (arith, pc);
      told = λ t among. subst (λ (ts : List AnsweredCall). Contains ts t) (sym told) among;
    } in
    owned_running w run r now owned there later
    (λ n has. true_later w now (omega (arith, pc)) (owned.runs.pointers run r there n (subst (λ (f : Frame Name). HasPointer f n) frame has)))
    (subst HasOneSlot (sym frame) (owned.runs.one_slot run r there))

owned_gone : {w : World} (run : ℕ) (r : Running) (to : ℕ) (frame : Frame Name) → IsOwned w → slice_get w.runs run ≡ Some r
    → r.pc < to → ((n : Name) → HasPointer frame n → HasPointer r.frame n) → IsOwned (with_run w run (moved_to to frame r))
owned_gone {w} run r to frame owned there forward fewer =
    owned_running w run r (moved_to to frame r) owned there (record { subject = refl; pc = omega arith; told = λ t among. among })
    (λ n has. true_later w (moved_to to frame r) (omega arith) (owned.runs.pointers run r there n (fewer n has)))
    (λ n m has too e. owned.runs.one_slot run r there n m (fewer n has) (fewer m too) e)

later_replied : (r : Running) (kind to : ℕ) (told : Reply) (v : Value Name) (frame : Frame Name) → r.pc < to → IsLater r (replied kind told v to frame r)
later_replied r kind to told v frame forward =
    record { subject = refl; pc = omega arith; told = λ t among. Contains-append_left r.calls (record { at = r.pc; kind = kind; reply = told } ∷ []) t among }

-- a call goes on with 0
pub owned_told : {w : World} (run : ℕ) (r : Running) (told : Reply) (kind to : ℕ) (frame : Frame Name) → IsOwned w
    → slice_get w.runs run ≡ Some r → r.pc < to → ((n : Name) → HasPointer frame n → HasPointer r.frame n)
    → IsOwned (with_run w run (replied kind told (Number 0) to frame r))
owned_told {w} run r told kind to frame owned there forward fewer =
    owned_running w run r now owned there (later_replied r kind to told (Number 0) frame forward)
    (λ n has. by n (pointer_written frame (Number 0) n has))
    (λ n m has too e. alike n m (pointer_written frame (Number 0) n has) (pointer_written frame (Number 0) m too) e) where
      now : Running
      now = replied kind told (Number 0) to frame r

      by : (n : Name) → HasPointer frame n ⊎ Names (Some (Number 0)) n → IsTrue w.owners run now n
      by n (inl has) = true_later w now (omega arith) (owned.runs.pointers run r there n (fewer n has))
      by n (inr named) = absurd named

      alike : (n m : Name) → HasPointer frame n ⊎ Names (Some (Number 0)) n → HasPointer frame m ⊎ Names (Some (Number 0)) m → n.call ≡ m.call → n.slot ≡ m.slot
      alike n m (inl has) (inl too) e = owned.runs.one_slot run r there n m (fewer n has) (fewer m too) e
      alike n m (inl has) (inr named) e = absurd named
      alike n m (inr named) too e = absurd named

-- ---- an object is granted

-- the run goes on with a pointer to this slot by its call: all that points to what that call got is to this slot
record IsHanded (w : World) (run : ℕ) (r now : Running) (slot : ℕ) : Type 0 where
  owned : IsOwned (with_run w run now)
  points : (x : Running) (n : Name) → slice_get (with_run w run now).runs run ≡ Some x → HasPointer x.frame n → n.call ≡ r.pc → n.slot ≡ slot

handed : {w : World} (run : ℕ) {r now : Running} (slot : ℕ) (frame : Frame Name) → IsOwned w → slice_get w.runs run ≡ Some r
    → now.frame ≡ with_value frame R0 (Pointer (Object (name_of slot r.pc)) (pos 0)) → IsLater r now → r.pc < now.pc
    → ((n : Name) → HasPointer frame n → HasPointer r.frame n) → IsHanded w run r now slot
handed {w} run {r} {now} slot frame owned there is later forward fewer = record {
  owned = owned_running w run r now owned there later (λ n has. true_now n (cases n has)) (λ n m has too e. alike n m (cases n has) (cases m too) e);
  points = λ x n at has e.
      let same = same_run (with_run w run now) run now x (get_set_same w.runs run r now there) at in
      to_slot n (cases n (subst (λ (y : Running). HasPointer y.frame n) same has)) e;
}
  where
    -- a pointer that the run has then is an older one, or the new one
    cases : (n : Name) → HasPointer now.frame n → (HasPointer r.frame n) ⊎ (name_of slot r.pc ≡ n)
    cases n has =
        old_or_new (pointer_written frame (Pointer (Object (name_of slot r.pc)) (pos 0)) n (subst (λ (f : Frame Name). HasPointer f n) is has)) where
          old_or_new : HasPointer frame n ⊎ Names (Some (Pointer (Object (name_of slot r.pc)) (pos 0))) n → (HasPointer r.frame n) ⊎ (name_of slot r.pc ≡ n)
          old_or_new (inl old) = inl (fewer n old)
          old_or_new (inr new) = inr new

    true_now : (n : Name) → (HasPointer r.frame n) ⊎ (name_of slot r.pc ≡ n) → IsTrue w.owners run now n
    true_now n (inl old) = true_later w now (omega arith) (owned.runs.pointers run r there n old)
    true_now n (inr new) =
        let call : r.pc ≡ n.call = ap (λ (m : Name). m.call) new in
        record { behind = omega arith; slot = λ o among e. absurd (nothing_yet w run r o owned there among (e ∙ ap (λ (k : ℕ). Run run k) (sym call))) }

    alike : (n m : Name) → (HasPointer r.frame n) ⊎ (name_of slot r.pc ≡ n) → (HasPointer r.frame m) ⊎ (name_of slot r.pc ≡ m)
        → n.call ≡ m.call → n.slot ≡ m.slot
    alike n m (inl old) (inl older) e = owned.runs.one_slot run r there n m old older e
    alike n m (inl old) (inr new) e =
        let behind = (owned.runs.pointers run r there n old).behind in let call : r.pc ≡ m.call = ap (λ (x : Name). x.call) new in absurd (omega arith)
    alike n m (inr new) (inl old) e =
        let behind = (owned.runs.pointers run r there m old).behind in let call : r.pc ≡ n.call = ap (λ (x : Name). x.call) new in absurd (omega arith)
    alike n m (inr new) (inr newer) e = ap (λ (x : Name). x.slot) (sym new ∙ newer)

    to_slot : (n : Name) → (HasPointer r.frame n) ⊎ (name_of slot r.pc ≡ n) → n.call ≡ r.pc → n.slot ≡ slot
    to_slot n (inl old) e = let behind = (owned.runs.pointers run r there n old).behind in absurd (omega (arith, e))
    to_slot n (inr new) e = ap (λ (m : Name). m.slot) (sym new)

-- what it was answered is that it got one of this kind
asked_now : (w : World) (run : ℕ) (r now : Running) (kind : ℕ) (told : Reply) → slice_get w.runs run ≡ Some r → r.pc < now.pc
    → now.calls ≡ r.calls ++ record { at = r.pc; kind = kind; reply = told } ∷ [] → IsGot told
    → AskedFor (with_run w run now).runs run r.pc kind
asked_now w run r now kind told there forward is got = record {
  asker = now;
  there = get_set_same w.runs run r now there;
  behind = forward;
  reply = told;
  got = got;
  told = subst (λ (calls : List AnsweredCall). Contains calls (record { at = r.pc; kind = kind; reply = told })) (sym is)
      (Contains-push r.calls (record { at = r.pc; kind = kind; reply = told }));
}

-- so the call may hold it
may_hold : {w : World} {run : ℕ} {r now : Running} {slot : ℕ} → IsOwned w → slice_get w.runs run ≡ Some r
    → IsHanded w run r now slot → AskedFor (with_run w run now).runs run r.pc (kind_in w slot)
    → MayHold (with_run w run now) slot (Run run r.pc)
may_hold {w} {run} {r} {now} owned there next asked = record {
  nothing = λ p among. nothing_yet w run r p owned there among;
  asked = asked;
  points = λ k x n at has e.
      let its_run : run ≡ k = ap run_of e in
      let its_call : r.pc ≡ n.call = ap call_of e in
      sym (next.points x n (ap (λ (m : ℕ). slice_get (with_run w run now).runs m) its_run ∙ at) has (sym its_call));
}

owned_taken : {w : World} (run : ℕ) (r : Running) (slot kind to : ℕ) (frame : Frame Name) → IsOwned w
    → slice_get w.runs run ≡ Some r → is_home w slot ≡ true → is_in slot (ledger_of w kind) ≡ true → r.pc < to
    → ((n : Name) → HasPointer frame n → HasPointer r.frame n)
    → IsOwned (granted slot w (under_way run r to frame) kind)
owned_taken {w} run r slot kind to frame owned there home of_kind forward fewer = by (nat_le r.subject.decl.held (holds_of w run)) where
  pointer : Value Name
  pointer = Pointer (Object (name_of slot r.pc)) (pos 0)

  now : Running
  now = replied kind reply.Granted pointer to frame r

  next : IsHanded w run r now slot
  next = handed run slot frame owned there refl (later_replied r kind to reply.Granted pointer frame forward) forward fewer

  by : (t : Bool)
      → IsOwned (cond t (with_run w run (trapped TooManyObjects r))
      (with_owner slot (Run run r.pc) (with_bytes slot (image_at w.kinds kind) (with_run w run now))))
  by true = owned_stays run r (trapped TooManyObjects r) owned there refl refl refl refl
  by false =
      let kind_is : kind ≡ kind_in w slot = sym (kind_in-ledger w kind slot owned of_kind) in
      let asked = subst (λ (k : ℕ). AskedFor (with_run w run now).runs run r.pc k) kind_is (asked_now w run r now kind reply.Granted there forward refl tt) in
      owned_granted (with_run w run now) slot kind (Run run r.pc) (image_at w.kinds kind) next.owned home of_kind refl (may_hold owned there next asked)

-- ---- what is on a shelf is exchanged

-- what a run gives goes onto a shelf on which nothing is
owned_put : {w : World} (run shelf : ℕ) (given : Option Name) → IsOwned w → IsOwnGiven w run shelf given
    → ((p : Owner) → Contains w.owners p → p.holder ≢ Shelf shelf) → IsOwned (put_on given shelf run w)
owned_put run shelf None owned own nobody = owned
owned_put {w} run shelf (Some name) owned own nobody =
    owned_moved w (owner_of run name) (λ p. not ((p.slot == name.slot) && is_call run name.call p.holder)) (Shelf shelf) owned
    (given_dropped w run name own.0) (record { nothing = nobody; asked = sym own.1; points = λ k x n at has e. absurd (shelf_is_no_run shelf k n.call e) })

owned_exchanged : {w : World} (run : ℕ) (r : Running) (to : ℕ) (frame : Frame Name) (shelf : ℕ) (given : Option Name) → IsOwned w
    → slice_get w.runs run ≡ Some r → IsOwnGiven w run shelf given → r.pc < to
    → ((n : Name) → HasPointer frame n → HasPointer r.frame n)
    → IsOwned (exchanged (standing w shelf) w (under_way run r to frame) shelf given)
owned_exchanged {w} run r to frame shelf given owned there own forward fewer = by (standing w shelf) (stands w shelf) where
  by : (o : Option Owner) → IsFound (λ p. is_shelf shelf p.holder) w.owners o → IsOwned (exchanged o w (under_way run r to frame) shelf given)
  by None none =
      owned_put run shelf given (owned_told run r reply.Empty shelf to frame owned there forward fewer)
      (given_with_run w run shelf given (replied shelf reply.Empty (Number 0) to frame r) own) (λ p among. off_shelf shelf p (none p among))
  by (Some o) found = chosen (nat_le r.subject.decl.held (holds_of (put_on given shelf run w) run)) where
    on : StandsOn w shelf o
    on = standing_there w shelf o found

    now : Running
    now = shelf_told o.slot (w.bytes o.slot) shelf to frame r

    next : IsHanded w run r now o.slot
    next =
        handed run o.slot frame owned there refl (record {
          subject = refl;
          pc = omega arith;
          told = (later_replied r shelf to reply.Shelf (Pointer (Object (name_of o.slot r.pc)) (pos 0)) frame forward).told;
        }) forward fewer

    kind_is : shelf ≡ kind_in w o.slot
    kind_is = kind_on_shelf w shelf o owned on

    may : MayHold (with_run w run now) o.slot (Run run r.pc)
    may =
        may_hold owned there next (subst (λ (kind : ℕ). AskedFor (with_run w run now).runs run r.pc kind) kind_is
        (asked_now w run r now shelf reply.Shelf there forward refl tt))

    owned_fetched : IsOwned (fetched o shelf run r.pc (with_run w run now))
    owned_fetched =
        owned_moved (with_run w run now) o (stays_off o.slot shelf) (Run run r.pc) next.owned
        (shelf_dropped (with_run w run now) shelf o next.owned (record { among = on.among; holder = on.holder })) may

    chosen : (t : Bool) → IsOwned (cond t (with_run w run (trapped TooManyObjects r)) (put_on given shelf run (fetched o shelf run r.pc (with_run w run now))))
    chosen true = owned_stays run r (trapped TooManyObjects r) owned there refl refl refl refl
    chosen false =
        owned_put run shelf given owned_fetched (given_fetched w run r.pc shelf o given now own)
        (λ p among. fetched_off (with_run w run now) run r.pc shelf o p next.owned (record { among = on.among; holder = on.holder }) among)

-- ---- every event

-- bytes that are written leave an object as long as it was
patched_long : (old bytes : List ℕ) (at : ℕ) → at + length bytes ≤ length old → length (patched old at bytes) ≡ length old
patched_long old bytes at fits = rw (length-append, length-append, length-take, length-drop) (omega arith)

pub owned_done : {w : World} (run : ℕ) (r : Running) (e : Effect Name) (answer : Answer) → IsOwned w → slice_get w.runs run ≡ Some r
    → IsOwnEffect w run answer e → IsForward r.frame r.pc e → IsOwned (done_by e answer w run r)
owned_done run r (Ends n) answer owned there own forward = owned_stays run r (ended n r) owned there refl refl refl refl
owned_done run r (Traps trap) answer owned there own forward = absurd own
owned_done run r (Goes Nothing to frame) answer owned there own forward = owned_gone run r to frame owned there forward.0 forward.1
owned_done {w} run r (Goes (Write name at bytes) to frame) answer owned there own forward =
    owned_bytes (with_run w run (moved_to to frame r)) name.slot (patched (w.bytes name.slot) at bytes) (owner_of run name)
    (owned_gone run r to frame owned there forward.0 forward.1) own.0 refl (patched_long (w.bytes name.slot) bytes at own.1)
owned_done {w} run r (Goes (Free name) to frame) answer owned there own forward =
    owned_freed (with_run w run (moved_to to frame r)) (owner_of run name) (λ p. not ((p.slot == name.slot) && is_call run name.call p.holder))
    (owned_gone run r to frame owned there forward.0 forward.1) (given_dropped (with_run w run (moved_to to frame r)) run name own)
owned_done run r (Goes (Exchange shelf given) to frame) answer owned there own forward =
    owned_exchanged run r to frame shelf given owned there own.1 forward.0 forward.1
owned_done run r (Goes (Ask kind) to frame) Absent owned there own forward = owned_told run r reply.Null kind to frame owned there forward.0 forward.1
owned_done run r (Goes (Ask kind) to frame) Null owned there own forward = owned_told run r reply.Null kind to frame owned there forward.0 forward.1
owned_done run r (Goes (Ask kind) to frame) (Slot slot) owned there own forward =
    owned_taken run r slot kind to frame owned there own.1.0 own.1.1 forward.0 forward.1

of_kind_started : (w v : World) (s : Subject) (context : List ℕ) (o : Owner) (kind : ℕ)
    → v.runs ≡ w.runs ++ first_run s context ∷ [] → IsOfKind w.runs o.holder kind → IsOfKind v.runs o.holder kind
of_kind_started w v s context o kind more h = in_runs o.holder h where
  in_runs : (holder : _) → IsOfKind w.runs holder kind → IsOfKind v.runs holder kind
  in_runs (Run run at) h =
      record {
        asker = h.asker;
        there = ap (λ (rs : List Running). slice_get rs run) more ∙ get_push w.runs run h.asker (first_run s context) h.there;
        behind = h.behind;
        reply = h.reply;
        got = h.got;
        told = h.told;
      }
  in_runs (Shelf s) h = h

pub owned_started : (w : World) (subject : Subject) (context : List ℕ) → IsOwned w → kinds_of subject.rows ≡ w.kinds → IsOwned (started subject context w)
owned_started w subject context owned kinds = record {
  ledgers = owned.ledgers;
  holders = owned.holders;
  runs = record {
    kinds_are = λ k x at. kinds_in k x (get_push_cases w.runs k x (first_run subject context) at);
    asked = λ o among. of_kind_started w (started subject context w) subject context o (kind_in w o.slot) refl (owned.runs.asked o among);
    pointers = λ k x at n has. true_in k x n has (get_push_cases w.runs k x (first_run subject context) at);
    one_slot = λ k x at. alike_in k x (get_push_cases w.runs k x (first_run subject context) at);
  };
}
  where
    alike_in : (k : ℕ) (x : Running) → (slice_get w.runs k ≡ Some x) ⊎ (first_run subject context ≡ x) → HasOneSlot x.frame
    alike_in k x (inl at) = owned.runs.one_slot k x at
    alike_in k x (inr same) = λ n m has too e. absurd (no_first_pointer n (subst (λ (y : Running). HasPointer y.frame n) (sym same) has))

    kinds_in : (k : ℕ) (x : Running) → (slice_get w.runs k ≡ Some x) ⊎ (first_run subject context ≡ x) → kinds_of x.subject.rows ≡ w.kinds
    kinds_in k x (inl at) = owned.runs.kinds_are k x at
    kinds_in k x (inr same) = ap (λ (y : Running). kinds_of y.subject.rows) (sym same) ∙ kinds

    true_in : (k : ℕ) (x : Running) (n : Name) → HasPointer x.frame n → (slice_get w.runs k ≡ Some x) ⊎ (first_run subject context ≡ x)
        → IsTrue w.owners k x n
    true_in k x n has (inl at) = owned.runs.pointers k x at n has
    true_in k x n has (inr same) = absurd (no_first_pointer n (subst (λ (y : Running). HasPointer y.frame n) (sym same) has))

-- ---- a world without slots and runs

none_in : {X : Type 0} (xs : List X) (slot : ℕ) → (count_by (is_in slot) (map (λ x. []) xs) ≡ 0) × (list_any (is_in slot) (map (λ x. []) xs) ≡ false)
none_in [] slot = (refl, refl)
none_in (x ∷ xs) slot = none_in xs slot

pub owned_empty : {X : Type 0} (xs : List X) (kinds : List Kind) → length xs ≡ length kinds
    → IsOwned (record { kinds = kinds; ledgers = map (λ x. []) xs; owners = []; bytes = λ slot. []; runs = [] })
owned_empty xs kinds as_many = record {
  ledgers = record {
    as_many = length-map xs _ ∙ as_many;
    apart = λ slot. let none = (none_in xs slot).0 in omega (arith, none);
    imaged = λ slot home. absurd (not_home slot (none_in xs slot).1 home);
  };
  holders = record {
    once = λ slot. omega arith;
    in_ledger = λ o there. let inside = there.1 in absurd (omega arith);
    one_a_call = λ o p there. let inside = there.1 in absurd (omega arith);
    sized = λ o there. let inside = there.1 in absurd (omega arith);
  };
  runs = record {
    kinds_are = λ run r there. absurd (cc);
    asked = λ o there. let inside = there.1 in absurd (omega arith);
    pointers = λ run r there. absurd (cc);
    one_slot = λ run r there. absurd (cc);
  };
}
  where
    not_home : (slot : ℕ) → list_any (is_in slot) (map (λ x. []) xs) ≡ false → (list_any (is_in slot) (map (λ x. []) xs) && true) ≡ true → ⊥
    not_home slot none home = cc

pub owned_first : (subject : Subject) (context : List ℕ) → IsOwned (alone_first subject context).world
owned_first subject context = owned_started _ subject context (owned_empty subject.rows (kinds_of subject.rows) (sym (length-map subject.rows _))) refl
