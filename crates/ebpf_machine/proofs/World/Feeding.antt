-- What the run alone is fed before an instruction: its world still fits together, the run sees what it saw, and it is served what it is
-- to be answered.
use Rattle.std.proofs.Common.{◌≡◌, ℕ, ◌+◌, ◌<◌, true, List, [], ◌∷◌, length, Option, Some, None, refl, sym, ap, ◌∙◌, subst, arith, inl, inr, ◌⊎◌}
use Rattle.std.specs.Prelude.{slice_get, drop}
use Rattle.std.proofs.lemmas.Bool.{false_from_ne_true}
use Rattle.std.proofs.lemmas.List.{length-map, length_push}
use Rattle.ebpf_insn.specs.Program.{insn_at}
use Rattle.ebpf_machine.specs.declared.report.Reply.{Reply}
use Rattle.ebpf_machine.specs.declared.report.Reply.TheVariants as reply
use Rattle.ebpf_machine.specs.declared.answer.Answer.TheVariants.{Absent, Null, Slot}
use Rattle.ebpf_machine.specs.World.{World, Running, Kind, AnsweredCall, Owner, Going, standing, is_in_ledger, image_at}
use Rattle.ebpf_machine.specs.Events.{Asking, Unasked, OfNoKind, OfKind, AtShelf, answer_fault, asking, asking_of, with_slot_joined}
use Rattle.ebpf_machine.specs.Alone.{Alone, Fed, cleared_of, cleared, bytes_for, shelved, fed, fed_to, Replies}
use Rattle.ebpf_machine.specs.View as view
use Rattle.ebpf_machine.specs.View.{view_of, stepped, CallResult, reply_in}
use Rattle.ebpf_machine.specs.Step.{result_of, asking_in}
use Rattle.ebpf_machine.specs.Sound.{IsOwned, IsSound}
use Rattle.ebpf_machine.proofs.World.Asking.{AsksNew, AsksShelf, Asks, ForNothing, ForObject, ForShelf, asks_of, asking_seen}
use Rattle.ebpf_machine.proofs.World.NewSlots.{IsNew, joined_home, joined_in, joined_cases, owned_joined, view_joined}
use Rattle.ebpf_machine.proofs.World.Shelving.{IsRoom, owned_cleared, view_cleared, cleared_off, nothing_standing, cleared_ledgers, bytes_long}
use Rattle.ebpf_machine.proofs.World.Shelving.{owned_shelved, view_shelved, standing_new, bytes_new}
use Rattle.ebpf_machine.proofs.World.Replies.{heard_by_new, heard_by_swap, stepped_any, replies_kept, replies_added, replies_swapped}
use Rattle.ebpf_machine.proofs.World.Steps.{next_of}
use Rattle.ebpf_machine.proofs.World.Execs.{served_to, kinds_alike, sized_in}

-- ---- a sound run that is alone

-- the slots are those of the calls of new that it made
pub record IsLone (a : Alone) : Type 0 where
  pub run : Running
  pub only : a.world.runs ≡ run ∷ []
  pub owned : IsOwned a.world
  pub sound : IsSound (view_of a.world 0 run)
  pub below : (slot : ℕ) → is_in_ledger a.world slot ≡ true → slot < length run.calls

pub only_run : (rs : List Running) (r : Running) → length rs ≡ 1 → slice_get rs 0 ≡ Some r → rs ≡ r ∷ []
only_run [] r one there = absurd (cc)
only_run (x ∷ []) r one there = let same : x ≡ r = cc in ap (λ (y : Running). y ∷ []) same
only_run (x ∷ y ∷ rs) r one there = absurd (omega (arith, one))

pub there_is : (a : Alone) (h : IsLone a) → slice_get a.world.runs 0 ≡ Some h.run
there_is a h = ap (λ (rs : List Running). slice_get rs 0) h.only

-- ---- what is fed to it

-- what a reply answers a call of new; where there is none, null
abbrev pub used : Option Reply → CallResult
used None = view.Null
used (Some reply.Null) = view.Null
used (Some reply.Granted) = view.Granted
used (Some reply.Empty) = view.Null
used (Some reply.Shelf) = view.Null

pub used_kept : (told : CallResult) → used (Some (reply_in (heard_by_new told))) ≡ heard_by_new told
used_kept view.Null = refl
used_kept view.Granted = refl
used_kept view.Empty = refl
used_kept (view.Shelved bytes) = refl

-- and what it answers a call of swap, with the bytes that come next
abbrev pub used_at_shelf : List ℕ → Option Reply → CallResult
used_at_shelf bytes None = view.Empty
used_at_shelf bytes (Some reply.Null) = view.Empty
used_at_shelf bytes (Some reply.Granted) = view.Empty
used_at_shelf bytes (Some reply.Empty) = view.Empty
used_at_shelf bytes (Some reply.Shelf) = view.Shelved bytes

-- what it answers the instruction that asks so
abbrev pub used_by : Asking → List Kind → Option Reply → List ℕ → CallResult
used_by Unasked kinds o bytes = used o
used_by OfNoKind kinds o bytes = used o
used_by (OfKind kind) kinds o bytes = used o
used_by (AtShelf shelf) kinds o bytes = used_at_shelf (bytes_for kinds shelf bytes) o

-- the world before the instruction, and the answer, where the run is to be answered this reply
pub record IsFed (w : World) (r : Running) (told : CallResult) (f : Fed) : Type 0 where
  pub owned : IsOwned f.world
  pub runs : f.world.runs ≡ w.runs
  pub seen : view_of f.world 0 r ≡ view_of w 0 r
  pub fine : answer_fault f.world (asking_of f.world r) f.answer ≡ None
  pub steps : stepped (result_of (served_to f.world r f.answer)) (view_of w 0 r) ≡ stepped told (view_of w 0 r)
  pub below : (slot : ℕ) → is_in_ledger f.world slot ≡ true → slot < length (stepped told (view_of w 0 r)).replies

fed_nothing : (a : Alone) (h : IsLone a) (told : CallResult) → h.run.status ≡ Going → asking_of a.world h.run ≡ Unasked
    → IsFed a.world h.run told (record { world = a.world; answer = Absent })
fed_nothing a h told going unasked =
    let v = view_of a.world 0 h.run in
    let asked : asking_in v ≡ Unasked = sym (asking_seen a.world 0 h.run h.owned (there_is a h)) ∙ unasked in
    let kept : length (stepped told v).replies ≡ length h.run.calls =
    ap (λ (rs : Replies). length rs.answers) (replies_kept v told going asked) ∙ length-map h.run.calls _ in
    record {
      owned = h.owned;
      runs = refl;
      seen = refl;
      fine = rw unasked refl;
      steps = stepped_any v (result_of (served_to a.world h.run Absent)) told going asked;
      below = λ slot there. omega (arith, h.below slot there, kept);
    }

-- a call of new adds one reply
one_more : (a : Alone) (h : IsLone a) (told : CallResult) (kind : ℕ) → h.run.status ≡ Going → AsksNew (view_of a.world 0 h.run) kind
    → length (stepped told (view_of a.world 0 h.run)).replies ≡ length h.run.calls + 1
one_more a h told kind going new =
    let v = view_of a.world 0 h.run in
    ap (λ (rs : Replies). length rs.answers) (replies_added v told kind going new) ∙ length_push v.replies (reply_in (heard_by_new told))
    ∙ ap (λ (n : ℕ). n + 1) (length-map h.run.calls (λ (t : AnsweredCall). t.reply))

fed_null : (a : Alone) (h : IsLone a) (kind : ℕ) → h.run.status ≡ Going → asking_of a.world h.run ≡ OfKind kind
    → AsksNew (view_of a.world 0 h.run) kind → IsFed a.world h.run view.Null (record { world = a.world; answer = Null })
fed_null a h kind going asked new = record {
  owned = h.owned;
  runs = refl;
  seen = refl;
  fine = rw asked refl;
  steps = rw asked refl;
  below = λ slot there. omega (arith, h.below slot there, one_more a h view.Null kind going new);
}

-- a slot that is to be granted is new
fed_slot : (a : Alone) (h : IsLone a) (kind : ℕ) → h.run.status ≡ Going → asking_of a.world h.run ≡ OfKind kind
    → AsksNew (view_of a.world 0 h.run) kind
    → IsFed a.world h.run view.Granted (record { world = with_slot_joined kind (length h.run.calls) a.world; answer = Slot (length h.run.calls) })
fed_slot a h kind going asked new =
    let w = a.world in
    let slot = length h.run.calls in
    let fresh : IsNew w kind slot = record {
      kind_is = omega (arith, kinds_alike w 0 h.run h.owned (there_is a h), new.kind_is);
      fresh = false_from_ne_true (is_in_ledger w slot) (λ there. absurd (omega (arith, h.below slot there)));
    } in
    let home = joined_home w kind slot h.owned fresh in
    let its = joined_in w kind slot h.owned fresh in
    record {
      owned = owned_joined w kind slot h.owned fresh;
      runs = refl;
      seen = view_joined w 0 kind slot h.run h.owned fresh;
      fine = rw (asked, home, its) refl;
      steps = rw asked refl;
      below = λ s there. within s (joined_cases w kind slot s there);
    }
  where
    within : (s : ℕ) → (s ≡ length h.run.calls) ⊎ (is_in_ledger a.world s ≡ true) → s < length (stepped view.Granted (view_of a.world 0 h.run)).replies
    within s (inl e) = omega (arith, e, one_more a h view.Granted kind going new)
    within s (inr there) = omega (arith, h.below s there, one_more a h view.Granted kind going new)

-- ---- a shelf

-- a call of swap adds one reply
one_swapped_more : (a : Alone) (h : IsLone a) (told : CallResult) (shelf : ℕ) → h.run.status ≡ Going
    → AsksShelf (view_of a.world 0 h.run) shelf → length (stepped told (view_of a.world 0 h.run)).replies ≡ length h.run.calls + 1
one_swapped_more a h told shelf going asks =
    let v = view_of a.world 0 h.run in
    ap (λ (rs : Replies). length rs.answers) (replies_swapped v told shelf going asks) ∙ length_push v.replies (reply_in (heard_by_swap told))
    ∙ ap (λ (n : ℕ). n + 1) (length-map h.run.calls (λ (t : AnsweredCall). t.reply))

cleared_kinds : (w : World) (shelf : ℕ) → (cleared shelf w).kinds ≡ w.kinds
cleared_kinds w shelf = by (standing w shelf) where
  by : (o : Option Owner) → (cleared_of o shelf w).kinds ≡ w.kinds
  by None = refl
  by (Some o) = refl

pub cleared_runs : (w : World) (shelf : ℕ) → (cleared shelf w).runs ≡ w.runs
cleared_runs w shelf = by (standing w shelf) where
  by : (o : Option Owner) → (cleared_of o shelf w).runs ≡ w.runs
  by None = refl
  by (Some o) = refl

asked_in : (w : World) (r : Running) (kinds : List Kind) (shelf : ℕ) → kinds ≡ w.kinds → asking_of w r ≡ AtShelf shelf
    → asking (insn_at r.subject.program r.pc) (length kinds) r.frame ≡ AtShelf shelf
asked_in w r kinds shelf same asked = ap (λ (ks : List Kind). asking (insn_at r.subject.program r.pc) (length ks) r.frame) same ∙ asked

-- nothing is on it
fed_cleared : (a : Alone) (h : IsLone a) (shelf : ℕ) → h.run.status ≡ Going → asking_of a.world h.run ≡ AtShelf shelf
    → AsksShelf (view_of a.world 0 h.run) shelf
    → IsFed a.world h.run view.Empty (record { world = cleared shelf a.world; answer = Absent })
fed_cleared a h shelf going asked asks =
    let w = a.world in
    let is : asking_of (cleared shelf w) h.run ≡ AtShelf shelf = asked_in w h.run (cleared shelf w).kinds shelf (cleared_kinds w shelf) asked in
    record {
      owned = owned_cleared w shelf h.owned;
      runs = cleared_runs w shelf;
      seen = view_cleared w shelf 0 h.run h.owned;
      fine = rw is refl;
      steps = rw (is, nothing_standing w shelf h.owned) refl;
      below = λ s there. omega (arith, h.below s (cleared_ledgers w shelf s h.owned there), one_swapped_more a h view.Empty shelf going asks);
    }

-- a new object is on it
fed_shelved : (a : Alone) (h : IsLone a) (shelf : ℕ) (bytes : List ℕ) → length bytes ≡ length (image_at a.world.kinds shelf)
    → h.run.status ≡ Going → asking_of a.world h.run ≡ AtShelf shelf → AsksShelf (view_of a.world 0 h.run) shelf
    → IsFed a.world h.run (view.Shelved bytes) (record { world = shelved shelf (length h.run.calls) bytes (cleared shelf a.world); answer = Absent })
fed_shelved a h shelf bytes long going asked asks = record {
  owned = owned_shelved (cleared shelf w) shelf slot bytes room (long ∙ ap (λ (ks : List Kind). length (image_at ks shelf)) (sym (cleared_kinds w shelf)));
  runs = cleared_runs w shelf;
  seen = view_shelved (cleared shelf w) shelf slot 0 bytes h.run room ∙ view_cleared w shelf 0 h.run h.owned;
  fine = rw is refl;
  steps = rw (is, standing_new (cleared shelf w) shelf slot bytes room, bytes_new (cleared shelf w) shelf slot bytes) refl;
  below = λ s there. within s (joined_cases (cleared shelf w) shelf slot s there);
}
  where
    w : World
    w = a.world

    slot : ℕ
    slot = length h.run.calls

    is : asking_of (shelved shelf slot bytes (cleared shelf w)) h.run ≡ AtShelf shelf
    is = asked_in w h.run (cleared shelf w).kinds shelf (cleared_kinds w shelf) asked

    room : IsRoom (cleared shelf w) shelf slot
    room = record {
      owned = owned_cleared w shelf h.owned;
      off = λ p among. cleared_off w shelf p h.owned among;
      new = record {
        kind_is = let few = asks.shelf_is in let many = kinds_alike w 0 h.run h.owned (there_is a h) in let same = ap (λ (ks : List Kind). length ks)
            (cleared_kinds w shelf) in omega (arith, few, many, same);
        fresh = false_from_ne_true (is_in_ledger (cleared shelf w) slot)
            (λ there. absurd (omega (arith, h.below slot (cleared_ledgers w shelf slot h.owned there))));
      };
    }

    within : (s : ℕ) → (s ≡ slot) ⊎ (is_in_ledger (cleared shelf w) s ≡ true) → s < length (stepped (view.Shelved bytes) (view_of w 0 h.run)).replies
    within s (inl e) = omega (arith, e, one_swapped_more a h (view.Shelved bytes) shelf going asks)
    within s (inr there) = omega (arith, h.below s (cleared_ledgers w shelf s h.owned there), one_swapped_more a h (view.Shelved bytes) shelf going asks)

-- ---- whatever it asks for

pub asks : (a : Alone) (h : IsLone a) → h.run.status ≡ Going → Asks (view_of a.world 0 h.run)
asks a h going = asks_of (view_of a.world 0 h.run) (next_of (view_of a.world 0 h.run) h.sound (sized_in a.world 0 h.run h.owned (there_is a h)) going)

pub asking_is : (a : Alone) (h : IsLone a) → asking_of a.world h.run ≡ asking_in (view_of a.world 0 h.run)
asking_is a h = asking_seen a.world 0 h.run h.owned (there_is a h)

-- the bytes of the replies that it has not taken yet
abbrev pub bytes_left : Running → Replies → List ℕ
bytes_left r replies = drop (length r.taken) replies.taken

-- what the reply of its number answers
abbrev pub told_now : (a : Alone) → Running → Replies → CallResult
told_now a r replies = used_by (asking_of a.world r) a.world.kinds (slice_get replies.answers (length r.calls)) (bytes_left r replies)

pub fed_is : (a : Alone) (replies : Replies) (h : IsLone a) → h.run.status ≡ Going
    → IsFed a.world h.run (told_now a h.run replies) (fed_to a.world h.run replies)
fed_is a replies h going = by (asks a h going) (slice_get replies.answers i) where
  i : ℕ
  i = length h.run.calls

  bytes : List ℕ
  bytes = bytes_left h.run replies

  IsFedSo : Option Reply → Asking → Type 0
  IsFedSo o asked = IsFed a.world h.run (used_by asked a.world.kinds o bytes) (fed asked o bytes i a.world)

  by : Asks (view_of a.world 0 h.run) → (o : Option Reply) → IsFedSo o (asking_of a.world h.run)
  by (ForNothing unasked) o = let e = asking_is a h ∙ unasked in subst (IsFedSo o) (sym e) (fed_nothing a h (used o) going e)
  by (ForObject kind asked new) o = let e = asking_is a h ∙ asked in subst (IsFedSo o) (sym e) (object o e) where
    object : (o : Option Reply) → asking_of a.world h.run ≡ OfKind kind → IsFedSo o (OfKind kind)
    object None e = fed_null a h kind going e new
    object (Some reply.Null) e = fed_null a h kind going e new
    object (Some reply.Empty) e = fed_null a h kind going e new
    object (Some reply.Shelf) e = fed_null a h kind going e new
    object (Some reply.Granted) e = fed_slot a h kind going e new
  by (ForShelf shelf asked new) o = let e = asking_is a h ∙ asked in subst (IsFedSo o) (sym e) (on_shelf o e) where
    on_shelf : (o : Option Reply) → asking_of a.world h.run ≡ AtShelf shelf → IsFedSo o (AtShelf shelf)
    on_shelf None e = fed_cleared a h shelf going e new
    on_shelf (Some reply.Null) e = fed_cleared a h shelf going e new
    on_shelf (Some reply.Granted) e = fed_cleared a h shelf going e new
    on_shelf (Some reply.Empty) e = fed_cleared a h shelf going e new
    on_shelf (Some reply.Shelf) e = fed_shelved a h shelf (bytes_for a.world.kinds shelf bytes) (bytes_long a.world.kinds shelf bytes) going e new
