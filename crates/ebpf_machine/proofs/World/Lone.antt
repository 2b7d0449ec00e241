-- The run alone goes on as the run does, and stays once it has ended.
use Rattle.std.proofs.Common.{◌≡◌, ℕ, zero, suc, ◌+◌, ◌-◌, ◌<◌, ◌≤◌, max, false, List, [], ◌∷◌, ◌++◌, length, map, Option, Some, None, Ok, refl}
use Rattle.std.proofs.Common.{sym, ap, ◌∙◌, subst, append_assoc, arith, add-one}
use Rattle.std.specs.Prelude.{slice_get, nat_le, take, drop}
use Rattle.std.specs.List.{list_any}
use Rattle.std.proofs.Math.Seq.{drop-append_seam, take-append_seam}
use Rattle.std.proofs.lemmas.Bool.{cond_both}
use Rattle.std.proofs.lemmas.List.{length-map, length-append, length-drop, append-nil, drop-append-le, take-append-le}
use Rattle.ebpf_insn.specs.Program.{instructions}
use Rattle.ebpf_insn.proofs.ListLemmas.{slice_get-append_left, slice_get-push}
use Rattle.ebpf_verify.specs.Subject.{Subject}
use Rattle.ebpf_verify.specs.Verdict.{IsAccepted}
use Rattle.ebpf_machine.specs.declared.report.Reply.{Reply}
use Rattle.ebpf_machine.specs.declared.report.Reply.TheVariants as reply
use Rattle.ebpf_machine.specs.Effect.{Nothing, Write, Ask, Free, Exchange, Effect, Goes, Ends, Traps}
use Rattle.ebpf_machine.specs.declared.answer.Answer.{Answer}
use Rattle.ebpf_machine.specs.declared.answer.Answer.TheVariants.{Absent, Null, Slot}
use Rattle.ebpf_machine.specs.World.{World, Running, Kind, AnsweredCall, Owner, Status, Going, Exited, Trapped, standing, is_shelf, is_in, held_by}
use Rattle.ebpf_machine.specs.World.{holds_of, first_run, image_at, kinds_of}
use Rattle.ebpf_machine.specs.Events.{Asking, Unasked, OfNoKind, OfKind, AtShelf, asking_of, exec}
use Rattle.ebpf_machine.specs.Alone.{Alone, Fed, cleared, bytes_for, shelved, fed, fed_to, advanced, alone_first, alone_by, alone_next, alone_after}
use Rattle.ebpf_machine.specs.Alone.{outcome_of, outcome_alone, Replies, replies_from}
use Rattle.ebpf_machine.specs.Replies.{replies_of, more_than}
use Rattle.ebpf_machine.specs.Whole.{told_to, told_alone}
use Rattle.ebpf_machine.specs.View as view
use Rattle.ebpf_machine.specs.View.{RunView, object_in, view_of, view_in, without_given, done_by, effect_of_view, stepped, CallResult, reply_in}
use Rattle.ebpf_machine.specs.Step.{FitsShelf, served_by, served_from, served_in, result_of, asking_in}
use Rattle.ebpf_machine.specs.Sound.{IsOwned, IsSound, IsAlone, IsWellStated}
use Rattle.ebpf_machine.proofs.World.Asking.{AsksNew, AsksShelf, Asks, ForNothing, ForObject, ForShelf}
use Rattle.ebpf_machine.proofs.Lists.ListLemmas.{IsFound}
use Rattle.ebpf_machine.proofs.World.Exchanges.{stands, standing_there, kind_on_shelf}
use Rattle.ebpf_machine.proofs.World.Owned.{owned_first}
use Rattle.ebpf_machine.proofs.World.Shelving.{bytes_long}
use Rattle.ebpf_machine.proofs.World.Replies.{heard_by_new, heard_by_swap, bytes_told, one_told, one_swapped, stepped_going, stepped_any}
use Rattle.ebpf_machine.proofs.World.Replies.{stepped_heard, shelf_heard, replies_kept, replies_added, replies_swapped}
use Rattle.ebpf_machine.proofs.World.Steps.{sound_stepped, bounded, first_sound}
use Rattle.ebpf_machine.proofs.World.Execs.{served_to, next_world, sized_in, shown_run}
use Rattle.ebpf_machine.proofs.World.Feeding.{IsLone, only_run, there_is, used, used_kept, used_at_shelf, used_by, cleared_runs, asks, asking_is}
use Rattle.ebpf_machine.proofs.World.Feeding.{bytes_left, told_now, fed_is}

-- ---- what an instruction leaves of a view

pub record IsOneOn (v t : RunView) : Type 0 where
  pub subject : t.subject ≡ v.subject
  pub context : t.context ≡ v.context
  pub executed : t.executed ≡ v.executed + 1

one_by : (v : RunView) (reply : CallResult) (e : Effect ℕ) → IsOneOn v (done_by e reply v)
one_by v reply (Ends n) = record { subject = refl; context = refl; executed = refl }
one_by v reply (Traps trap) = record { subject = refl; context = refl; executed = refl }
one_by v reply (Goes Nothing to after) = record { subject = refl; context = refl; executed = refl }
one_by v reply (Goes (Write name at bytes) to after) = record { subject = refl; context = refl; executed = refl }
one_by v reply (Goes (Free name) to after) = record { subject = refl; context = refl; executed = refl }
one_by v view.Null (Goes (Exchange shelf given) to after) = record { subject = refl; context = refl; executed = refl }
one_by v view.Empty (Goes (Exchange shelf given) to after) = record { subject = refl; context = refl; executed = refl }
one_by v view.Granted (Goes (Exchange shelf given) to after) = record { subject = refl; context = refl; executed = refl }
one_by v (view.Shelved bytes) (Goes (Exchange shelf given) to after) =
    cond_both (nat_le v.subject.decl.held (length (without_given given v.objects))) _ _ (IsOneOn v)
    (λ e. record { subject = refl; context = refl; executed = refl }) (λ e. record { subject = refl; context = refl; executed = refl })
one_by v view.Null (Goes (Ask kind) to after) = record { subject = refl; context = refl; executed = refl }
one_by v view.Empty (Goes (Ask kind) to after) = record { subject = refl; context = refl; executed = refl }
one_by v (view.Shelved bytes) (Goes (Ask kind) to after) = record { subject = refl; context = refl; executed = refl }
one_by v view.Granted (Goes (Ask kind) to after) =
    cond_both (nat_le v.subject.decl.held (length v.objects)) _ _ (IsOneOn v) (λ e. record { subject = refl; context = refl; executed = refl })
    (λ e. record { subject = refl; context = refl; executed = refl })

pub one_on : (v : RunView) (reply : CallResult) → v.status ≡ Going → IsOneOn v (stepped reply v)
one_on v reply going = subst (IsOneOn v) (sym (stepped_going v reply going)) (one_by v reply (effect_of_view v))

-- ---- one instruction more

abbrev peaked : Alone → World → Alone
peaked a w = record { world = w; peak = max a.peak (holds_of w 0) }

-- the run goes on with the reply of its number
pub record IsNextAlone (a : Alone) (replies : Replies) (h : IsLone a) (world : World) : Type 0 where
  pub is : alone_next replies a ≡ peaked a world
  pub seen : view_in world 0 ≡ Some (stepped (told_now a h.run replies) (view_of a.world 0 h.run))
  pub lone : IsLone (peaked a world)

advanced_to : (a : Alone) (replies : Replies) (r : Running) (after : World) → slice_get a.world.runs 0 ≡ Some r
    → exec (fed_to a.world r replies).world 0 (fed_to a.world r replies).answer ≡ Ok after → alone_next replies a ≡ peaked a after
advanced_to a replies r after there legal = rw (there, legal) refl

pub next_alone : (a : Alone) (replies : Replies) (h : IsLone a) → h.run.status ≡ Going → (world : World) × IsNextAlone a replies h world
next_alone a replies h going =
    let v = view_of a.world 0 h.run in
    let told = told_now a h.run replies in
    let f = fed_to a.world h.run replies in
    let is = fed_is a replies h going in
    let there : slice_get f.world.runs 0 ≡ Some h.run = ap (λ (rs : List Running). slice_get rs 0) is.runs ∙ there_is a h in
    let next = next_world f.world 0 h.run f.answer is.owned there (subst IsSound (sym is.seen) h.sound) going is.fine in
    let seen : view_in next.0 0 ≡ Some (stepped told v) =
    next.1.seen ∙ ap (λ (u : RunView). Some (stepped (result_of (served_to f.world h.run f.answer)) u)) is.seen ∙ ap Some is.steps in
    let r = shown_run next.0 0 (stepped told v) seen in
    let one : length next.0.runs ≡ 1 = next.1.as_many ∙ ap (λ (rs : List Running). length rs) (is.runs ∙ h.only) in
    let as_told : length r.0.calls ≡ length (stepped told v).replies =
    sym (length-map r.0.calls (λ (t : AnsweredCall). t.reply)) ∙ ap (λ (u : RunView). length u.replies) r.2 in (
      next.0,
      record {
        is = advanced_to a replies h.run next.0 (there_is a h) next.1.legal;
        seen = seen;
        lone = record {
          run = r.0;
          only = only_run next.0.runs r.0 one r.1;
          owned = next.1.owned;
          sound = subst IsSound (sym r.2) (sound_stepped v told h.sound (sized_in a.world 0 h.run h.owned (there_is a h)) going);
          below = λ slot among. omega (
            arith,
            as_told,
            is.below slot
                (ap (λ (ledgers : List (List ℕ)). list_any (is_in slot) ledgers) (sym next.1.ledgers) ∙ among),
          );
        };
      },
    )

-- what is fed to a run leaves the runs as they are
fed_runs : (asked : Asking) (told : Option Reply) (bytes : List ℕ) (i : ℕ) (w : World) → (fed asked told bytes i w).world.runs ≡ w.runs
fed_runs Unasked told bytes i w = refl
fed_runs OfNoKind told bytes i w = refl
fed_runs (OfKind kind) None bytes i w = refl
fed_runs (OfKind kind) (Some reply.Null) bytes i w = refl
fed_runs (OfKind kind) (Some reply.Empty) bytes i w = refl
fed_runs (OfKind kind) (Some reply.Shelf) bytes i w = refl
fed_runs (OfKind kind) (Some reply.Granted) bytes i w = refl
fed_runs (AtShelf shelf) None bytes i w = cleared_runs w shelf
fed_runs (AtShelf shelf) (Some reply.Null) bytes i w = cleared_runs w shelf
fed_runs (AtShelf shelf) (Some reply.Empty) bytes i w = cleared_runs w shelf
fed_runs (AtShelf shelf) (Some reply.Shelf) bytes i w = cleared_runs w shelf
fed_runs (AtShelf shelf) (Some reply.Granted) bytes i w = cleared_runs w shelf

ended_stays : (w : World) (answer : Answer) (r : Running) (n : ℕ) (a : Alone) → slice_get w.runs 0 ≡ Some r → r.status ≡ Exited n
    → advanced (exec w 0 answer) a ≡ a
ended_stays w answer r n a there ended = rw (there, ended) refl

-- a run that ended stays
pub ended_next : (a : Alone) (replies : Replies) (h : IsLone a) (n : ℕ) → h.run.status ≡ Exited n → alone_next replies a ≡ a
ended_next a replies h n ended =
    let f = fed_to a.world h.run replies in
    let same : f.world.runs ≡ a.world.runs =
    fed_runs (asking_of a.world h.run) (slice_get replies.answers (length h.run.calls)) (drop (length h.run.taken) replies.taken)
    (length h.run.calls) a.world in
    let there : slice_get f.world.runs 0 ≡ Some h.run = ap (λ (rs : List Running). slice_get rs 0) same ∙ there_is a h in
    rw (there_is a h) (ended_stays f.world f.answer h.run n a there ended)

lone_next : (a : Alone) (replies : Replies) → IsLone a → IsLone (alone_next replies a)
lone_next a replies h = by_status h.run.status refl where
  by_status : (s : Status) → h.run.status ≡ s → IsLone (alone_next replies a)
  by_status Going e = let n = next_alone a replies h e in subst IsLone (sym n.1.is) n.1.lone
  by_status (Exited n) e = subst IsLone (sym (ended_next a replies h n e)) h
  by_status (Trapped trap) e = absurd (subst (λ (s : Status). IsWellStated s (view_of a.world 0 h.run)) e h.sound.stated)

none_in : {X : Type 0} (xs : List X) (slot : ℕ) → list_any (is_in slot) (map (λ x. []) xs) ≡ false
none_in [] slot = refl
none_in (x ∷ xs) slot = none_in xs slot

lone_first : (subject : Subject) (context : List ℕ) → IsAccepted subject → length context ≡ subject.decl.context → IsLone (alone_first subject context)
lone_first subject context accepted long = record {
  run = first_run subject context;
  only = refl;
  owned = owned_first subject context;
  sound = first_sound {H = ℕ} (λ h. []) subject context accepted long;
  below = λ slot there. let none = none_in subject.rows slot in absurd (cc);
}

pub lone_after : (n : ℕ) (subject : Subject) (context : List ℕ) (replies : Replies) → IsAccepted subject
    → length context ≡ subject.decl.context → IsLone (alone_after n subject context replies)
unfolding alone_after
lone_after zero subject context replies accepted long = lone_first subject context accepted long
lone_after (suc n) subject context replies accepted long =
    lone_next (alone_after n subject context replies) replies (lone_after n subject context replies accepted long)

after_more : (n : ℕ) (subject : Subject) (context : List ℕ) (replies : Replies)
    → alone_after (n + 1) subject context replies ≡ alone_next replies (alone_after n subject context replies)
unfolding alone_after
after_more n subject context replies = rw add-one refl

pub after_none : (subject : Subject) (context : List ℕ) (replies : Replies) → alone_after 0 subject context replies ≡ alone_first subject context
unfolding alone_after
after_none subject context replies = refl

-- ---- replies that are not read

pub none_more : (replies : Replies) → more_than replies (replies_from [] []) ≡ replies
none_more replies = λ i. replies_from (append-nil replies.answers i) (append-nil replies.taken i)

-- what it was answered
abbrev told_of : Alone → Replies
told_of a = told_to (slice_get a.world.runs 0)

told_is : (a : Alone) (h : IsLone a) → told_of a ≡ replies_of (view_of a.world 0 h.run)
told_is a h = ap told_to (there_is a h)

-- it is what the run sees
told_seen : (w : World) (v : RunView) → view_in w 0 ≡ Some v → told_to (slice_get w.runs 0) ≡ replies_of v
told_seen w v seen = let r = shown_run w 0 v seen in ap told_to r.1 ∙ ap replies_of r.2

told_next : (a : Alone) (replies : Replies) (h : IsLone a) → h.run.status ≡ Going
    → told_of (alone_next replies a) ≡ replies_of (stepped (told_now a h.run replies) (view_of a.world 0 h.run))
told_next a replies h going = let n = next_alone a replies h going in ap told_of n.1.is ∙ told_seen n.0 _ n.1.seen

-- these replies are no more than those
pub record IsWithin (told replies : Replies) : Type 0 where
  pub answers : length told.answers ≤ length replies.answers
  pub taken : length told.taken ≤ length replies.taken

within_less : (told more replies : Replies) → IsWithin (more_than told more) replies → IsWithin told replies
within_less told more replies h =
    record {
      answers = omega (arith, h.answers, length-append told.answers more.answers);
      taken = omega (arith, h.taken, length-append told.taken more.taken);
    }

-- what is fed to a run is all that it has of the replies
fed_alike : (a : Alone) (h : IsLone a) (replies others : Replies) → fed_to a.world h.run replies ≡ fed_to a.world h.run others
    → alone_next replies a ≡ alone_next others a
fed_alike a h replies others alike =
    ap (λ (o : Option Running). alone_by o replies a) (there_is a h)
    ∙ ap (λ (f : Fed). advanced (exec f.world 0 f.answer) a) alike
    ∙ sym (ap (λ (o : Option Running). alone_by o others a) (there_is a h))

fed_unasked : (asked : Asking) (o other : Option Reply) (bytes more : List ℕ) (i : ℕ) (w : World) → asked ≡ Unasked
    → fed asked o bytes i w ≡ fed asked other more i w
fed_unasked asked o other bytes more i w unasked = rw unasked refl

-- a call of new reads no bytes
fed_new : (asked : Asking) (kind : ℕ) (o : Option Reply) (bytes more : List ℕ) (i : ℕ) (w : World) → asked ≡ OfKind kind
    → fed asked o bytes i w ≡ fed asked o more i w
fed_new asked kind o bytes more i w is = rw is (by o) where
  by : (o : Option Reply) → fed (OfKind kind) o bytes i w ≡ fed (OfKind kind) o more i w
  by None = refl
  by (Some reply.Null) = refl
  by (Some reply.Granted) = refl
  by (Some reply.Empty) = refl
  by (Some reply.Shelf) = refl

-- bytes after those that a call of swap takes are not read
bytes_unread : (kinds : List Kind) (shelf n : ℕ) (taken more : List ℕ) → n + length (image_at kinds shelf) ≤ length taken
    → bytes_for kinds shelf (drop n (taken ++ more)) ≡ bytes_for kinds shelf (drop n taken)
bytes_unread kinds shelf n taken more few =
    let image = image_at kinds shelf in
    let left = drop n taken in
    let enough : length image ≤ length left = omega (arith, few, length-drop n taken) in
    ap (λ (bytes : List ℕ). take (length image) (bytes ++ image)) (drop-append-le n taken more (omega (arith, few)))
    ∙ ap (take (length image)) (append_assoc left more image)
    ∙ take-append-le (length image) left (more ++ image) enough
    ∙ sym (take-append-le (length image) left image enough)

-- a call of swap reads the bytes that it takes
fed_at_shelf : (asked : Asking) (shelf : ℕ) (o : Option Reply) (n i : ℕ) (taken more : List ℕ) (w : World) → asked ≡ AtShelf shelf
    → n + length (bytes_told (used_at_shelf (bytes_for w.kinds shelf (drop n taken)) o)) ≤ length taken
    → fed asked o (drop n (taken ++ more)) i w ≡ fed asked o (drop n taken) i w
fed_at_shelf asked shelf o n i taken more w is few = rw is (by o few) where
  by : (o : Option Reply) → n + length (bytes_told (used_at_shelf (bytes_for w.kinds shelf (drop n taken)) o)) ≤ length taken
      → fed (AtShelf shelf) o (drop n (taken ++ more)) i w ≡ fed (AtShelf shelf) o (drop n taken) i w
  by None few = refl
  by (Some reply.Null) few = refl
  by (Some reply.Granted) few = refl
  by (Some reply.Empty) few = refl
  by (Some reply.Shelf) few =
      let enough : n + length (image_at w.kinds shelf) ≤ length taken = omega (arith, few, bytes_long w.kinds shelf (drop n taken)) in
      ap (λ (bytes : List ℕ). let f : Fed = record {
        world = shelved shelf i bytes (cleared shelf w);
        answer = Absent;
      } in f) (bytes_unread w.kinds shelf n taken more enough)

-- replies after those that it was answered are not read
record IsUnread (a : Alone) (replies more : Replies) : Type 0 where
  within : IsWithin (told_of a) replies
  same : alone_next (more_than replies more) a ≡ alone_next replies a

unread_next : (a : Alone) (replies more : Replies) (h : IsLone a) → h.run.status ≡ Going
    → IsWithin (told_of (alone_next replies a)) replies → IsUnread a replies more
unread_next a replies more h going fits = by (asks a h going) where
  v : RunView
  v = view_of a.world 0 h.run

  i : ℕ
  i = length h.run.calls

  calls : length v.replies ≡ i
  calls = length-map h.run.calls (λ (t : AnsweredCall). t.reply)

  -- where the reply is among those that it has
  same_reply : i < length replies.answers → slice_get (replies.answers ++ more.answers) i ≡ slice_get replies.answers i
  same_reply few = slice_get-append_left replies.answers more.answers i reply.Null few

  -- after the instruction it was answered that much more
  after : (told : Replies) → replies_of (stepped (told_now a h.run replies) v) ≡ more_than (replies_of v) told
      → IsWithin (more_than (replies_of v) told) replies
  after told is = subst (λ (rs : Replies). IsWithin rs replies) (told_next a replies h going ∙ is) fits

  before : (told : Replies) → replies_of (stepped (told_now a h.run replies) v) ≡ more_than (replies_of v) told → IsWithin (told_of a) replies
  before told is = subst (λ (rs : Replies). IsWithin rs replies) (sym (told_is a h)) (within_less (replies_of v) told replies (after told is))

  one : (told : Replies) → replies_of (stepped (told_now a h.run replies) v) ≡ more_than (replies_of v) told
      → length told.answers ≡ 1 → i < length replies.answers
  one told is long = omega (arith, (after told is).answers, length-append v.replies told.answers, long, calls)

  by : Asks v → IsUnread a replies more
  by (ForNothing unasked) = record {
    within = subst (λ (rs : Replies). IsWithin rs replies)
        (told_next a replies h going ∙ replies_kept v (told_now a h.run replies) going unasked ∙ sym (told_is a h)) fits;
    same = fed_alike a h (more_than replies more) replies
        (fed_unasked (asking_of a.world h.run) (slice_get (replies.answers ++ more.answers) i) (slice_get replies.answers i)
        (drop (length h.run.taken) (replies.taken ++ more.taken)) (drop (length h.run.taken) replies.taken) i a.world (asking_is a h ∙ unasked));
  }
  by (ForObject kind asked new) =
      let added = replies_added v (told_now a h.run replies) kind going new in
      record {
        within = before (one_told (told_now a h.run replies)) added;
        same = fed_alike a h (more_than replies more) replies
            (ap (λ (o : Option Reply). fed (asking_of a.world h.run) o (drop (length h.run.taken) (replies.taken ++ more.taken)) i a.world)
            (same_reply (one (one_told (told_now a h.run replies)) added refl))
            ∙ fed_new (asking_of a.world h.run) kind (slice_get replies.answers i) _ _ i a.world (asking_is a h ∙ asked));
      }
  by (ForShelf shelf asked new) =
      let told = told_now a h.run replies in
      let added = replies_swapped v told shelf going new in
      let is : told ≡ used_at_shelf (bytes_for a.world.kinds shelf (bytes_left h.run replies)) (slice_get replies.answers i) =
      ap (λ (k : Asking). used_by k a.world.kinds (slice_get replies.answers i) (bytes_left h.run replies)) (asking_is a h ∙ asked) in
      let few : length h.run.taken + length (bytes_told told) ≤ length replies.taken =
      omega (arith, (after (one_swapped told) added).taken, length-append h.run.taken (bytes_told told)) in
      record {
        within = before (one_swapped told) added;
        same = fed_alike a h (more_than replies more) replies
            (ap (λ (o : Option Reply). fed (asking_of a.world h.run) o (drop (length h.run.taken) (replies.taken ++ more.taken)) i a.world)
            (same_reply (one (one_swapped told) added refl))
            ∙ fed_at_shelf (asking_of a.world h.run) shelf (slice_get replies.answers i) (length h.run.taken) i replies.taken more.taken a.world
            (asking_is a h ∙ asked) (subst (λ (t : CallResult). length h.run.taken + length (bytes_told t) ≤ length replies.taken) is few));
      }

after_unread : (n : ℕ) (subject : Subject) (context : List ℕ) (replies more : Replies) → IsAccepted subject
    → length context ≡ subject.decl.context → IsWithin (told_of (alone_after n subject context replies)) replies
    → alone_after n subject context (more_than replies more) ≡ alone_after n subject context replies
unfolding alone_after
after_unread zero subject context replies more accepted long fits = refl
after_unread (suc n) subject context replies more accepted long fits =
    by_status h.run.status refl (λ few. after_unread n subject context replies more accepted long few) where
      a : Alone
      a = alone_after n subject context replies

      h : IsLone a
      h = lone_after n subject context replies accepted long

      by_status : (s : Status) → h.run.status ≡ s
          → (IsWithin (told_of a) replies → alone_after n subject context (more_than replies more) ≡ a)
          → alone_next (more_than replies more) (alone_after n subject context (more_than replies more)) ≡ alone_next replies a
      by_status Going e before = let u = unread_next a replies more h e fits in ap (alone_next (more_than replies more)) (before u.within) ∙ u.same
      by_status (Exited m) e before =
          let few = subst (λ (b : Alone). IsWithin (told_of b) replies) (ended_next a replies h m e) fits in
          ap (alone_next (more_than replies more)) (before few) ∙ ended_next a (more_than replies more) h m e ∙ sym (ended_next a replies h m e)
      by_status (Trapped trap) e before = absurd (subst (λ (s : Status). IsWellStated s (view_of a.world 0 h.run)) e h.sound.stated)

-- ---- a run that is where the run alone is

-- the run alone, seen as a run that is where it is
pub record IsSeenAlone (v : RunView) : Type 0 where
  pub lone : IsLone (alone_after v.executed v.subject v.context (replies_of v))
  pub seen : view_of (alone_after v.executed v.subject v.context (replies_of v)).world 0 lone.run ≡ v

pub seen_alone : (v : RunView) → IsSound v → IsAlone v → IsSeenAlone v
seen_alone v sound alone =
    let lone = lone_after v.executed v.subject v.context (replies_of v) sound.accepted sound.context in
    let a = alone_after v.executed v.subject v.context (replies_of v) in
    let there : view_in a.world 0 ≡ Some (view_of a.world 0 lone.run) = rw (there_is a lone) refl in
    record { lone = lone; seen = same _ _ _ there alone }
  where
    same : (o : Option RunView) (u t : RunView) → o ≡ Some u → o ≡ Some t → u ≡ t
    same o u t e f = cc

alone_status : (v : RunView) (h : IsSeenAlone v) (s : Status) → v.status ≡ s → h.lone.run.status ≡ s
alone_status v h s e = ap (λ (u : RunView). u.status) h.seen ∙ e

-- it used all the replies of the run
all_told : (v : RunView) → IsAlone v → told_of (alone_after v.executed v.subject v.context (replies_of v)) ≡ replies_of v
all_told v alone = told_seen (alone_after v.executed v.subject v.context (replies_of v)).world v alone

all_within : (v : RunView) → IsAlone v → IsWithin (told_of (alone_after v.executed v.subject v.context (replies_of v))) (replies_of v)
all_within v alone = subst (λ (rs : Replies). IsWithin rs (replies_of v)) (sym (all_told v alone)) (record { answers = omega arith; taken = omega arith })

-- replies after those of the run change nothing of where it is
pub alone_more : (v : RunView) (more : Replies) → IsSound v → IsAlone v
    → view_in (alone_after v.executed v.subject v.context (more_than (replies_of v) more)).world 0 ≡ Some v
alone_more v more sound alone =
    ap (λ (a : Alone). view_in a.world 0)
    (after_unread v.executed v.subject v.context (replies_of v) more sound.accepted sound.context (all_within v alone)) ∙ alone

-- what an event serves fits its shelf
pub served_fits_shelf : (w : World) (v : RunView) (answer : Answer) → IsOwned w → kinds_of v.subject.rows ≡ w.kinds
    → FitsShelf v (result_of (served_in w (asking_in v) answer))
served_fits_shelf w v answer owned kinds = by (asking_in v) refl where
  by_answer : (answer : Answer) → FitsShelf v (result_of (served_by answer))
  by_answer Absent = tt
  by_answer Null = tt
  by_answer (Slot slot) = tt

  from_shelf : (s : ℕ) → asking_in v ≡ AtShelf s → (o : Option Owner) → IsFound (λ (p : Owner). is_shelf s p.holder) w.owners o
      → FitsShelf v (result_of (served_from w o))
  from_shelf s asked None none = tt
  from_shelf s asked (Some o) found = λ shelf e.
      let same : s ≡ shelf = shelf_number s shelf (sym asked ∙ e) in
      let on = standing_there w s o found in
      owned.holders.sized o on.among
      ∙ ap (λ (k : ℕ). length (image_at w.kinds k)) (sym (kind_on_shelf w s o owned on) ∙ same)
      ∙ ap (λ (ks : List Kind). length (image_at ks shelf)) (sym kinds)
    where
      shelf_number : (a b : ℕ) → AtShelf a ≡ AtShelf b → a ≡ b
      shelf_number a b e = cc

  by : (asked : Asking) → asking_in v ≡ asked → FitsShelf v (result_of (served_in w asked answer))
  by Unasked e = by_answer answer
  by OfNoKind e = by_answer answer
  by (OfKind kind) e = by_answer answer
  by (AtShelf s) e = from_shelf s e (standing w s) (stands w s)

-- after one instruction more, with one reply more where it asks for an object
record IsSteppedAlone (v : RunView) (told : CallResult) (world : World) : Type 0 where
  is : alone_after (v.executed + 1) v.subject v.context (replies_of (stepped told v))
      ≡ peaked (alone_after v.executed v.subject v.context (replies_of v)) world
  seen : view_in world 0 ≡ Some (stepped told v)

stepped_alone : (v : RunView) (told : CallResult) → IsSound v → IsAlone v → v.status ≡ Going → FitsShelf v told
    → (world : World) × IsSteppedAlone v told world
stepped_alone v told sound alone going fits = by (asks a h.lone now) where
  h : IsSeenAlone v
  h = seen_alone v sound alone

  a : Alone
  a = alone_after v.executed v.subject v.context (replies_of v)

  now : h.lone.run.status ≡ Going
  now = alone_status v h Going going

  i : ℕ
  i = length h.lone.run.calls

  calls : i ≡ length v.replies
  calls = sym (length-map h.lone.run.calls (λ (t : AnsweredCall). t.reply)) ∙ ap (λ (u : RunView). length u.replies) h.seen

  asked_as : asking_of a.world h.lone.run ≡ asking_in v
  asked_as = asking_is a h.lone ∙ ap asking_in h.seen

  -- the replies are those of the run, and more
  IsTold : Replies → Type 0
  IsTold more = stepped (told_now a h.lone.run (more_than (replies_of v) more)) v ≡ stepped told v

  added : (more : Replies) → replies_of (stepped told v) ≡ more_than (replies_of v) more → IsTold more → (world : World) × IsSteppedAlone v told world
  added more is hears =
      let replies = more_than (replies_of v) more in
      let n = next_alone a replies h.lone now in (
        n.0,
        record {
          is = ap (alone_after (v.executed + 1) v.subject v.context) is
              ∙ after_more v.executed v.subject v.context replies
              ∙ ap (alone_next replies) (after_unread v.executed v.subject v.context (replies_of v) more sound.accepted sound.context (all_within v alone))
              ∙ n.1.is;
          seen = n.1.seen ∙ ap (λ (u : RunView). Some (stepped (told_now a h.lone.run replies) u)) h.seen ∙ ap Some hears;
        },
      )

  last : (told : Reply) → slice_get (v.replies ++ told ∷ []) i ≡ Some told
  last told = slice_get-push v.replies told i (sym calls)

  kept : asking_in v ≡ Unasked → (world : World) × IsSteppedAlone v told world
  kept unasked =
      let n = next_alone a (replies_of v) h.lone now in (
        n.0,
        record {
          is = ap (alone_after (v.executed + 1) v.subject v.context) (replies_kept v told going unasked)
              ∙ after_more v.executed v.subject v.context (replies_of v) ∙ n.1.is;
          seen = n.1.seen ∙ ap (λ (u : RunView). Some (stepped (told_now a h.lone.run (replies_of v)) u)) h.seen
              ∙ ap Some (stepped_any v (told_now a h.lone.run (replies_of v)) told going unasked);
        },
      )

  hears_new : (kind : ℕ) → asking_in v ≡ OfKind kind → AsksNew v kind → IsTold (one_told told)
  hears_new kind asked new =
      let replies = more_than (replies_of v) (one_told told) in
      ap (λ (k : Asking). stepped (used_by k a.world.kinds (slice_get replies.answers i) (bytes_left h.lone.run replies)) v) (asked_as ∙ asked)
      ∙ ap (λ (o : Option Reply). stepped (used o) v) (last (reply_in (heard_by_new told)))
      ∙ ap (λ (r : CallResult). stepped r v) (used_kept told)
      ∙ stepped_heard v told kind going new

  -- what it takes off the shelf is what it is answered
  hears_swap : (shelf : ℕ) → asking_in v ≡ AtShelf shelf → AsksShelf v shelf → IsTold (one_swapped told)
  hears_swap shelf asked new =
      let replies = more_than (replies_of v) (one_swapped told) in
      ap (λ (k : Asking). stepped (used_by k a.world.kinds (slice_get replies.answers i) (bytes_left h.lone.run replies)) v) (asked_as ∙ asked)
      ∙ ap (λ (o : Option Reply). stepped (used_at_shelf (bytes_for a.world.kinds shelf (bytes_left h.lone.run replies)) o) v)
      (last (reply_in (heard_by_swap told)))
      ∙ ap (λ (r : CallResult). stepped r v) (heard told fits)
      ∙ shelf_heard v told shelf going new
    where
      kinds : kinds_of v.subject.rows ≡ a.world.kinds
      kinds = ap (λ (u : RunView). kinds_of u.subject.rows) (sym h.seen) ∙ h.lone.owned.runs.kinds_are 0 h.lone.run (there_is a h.lone)

      taken : h.lone.run.taken ≡ v.taken
      taken = ap (λ (u : RunView). u.taken) h.seen

      heard : (told : CallResult) → FitsShelf v told
          → used_at_shelf (bytes_for a.world.kinds shelf (drop (length h.lone.run.taken) (v.taken ++ bytes_told told)))
          (Some (reply_in (heard_by_swap told))) ≡ heard_by_swap told
      heard (view.Shelved bytes) fits =
          let image = image_at a.world.kinds shelf in
          let long : length bytes ≡ length image = fits shelf asked ∙ ap (λ (ks : List Kind). length (image_at ks shelf)) kinds in
          ap view.Shelved (ap (λ (bs : List ℕ). take (length image) (drop (length bs) (v.taken ++ bytes) ++ image)) taken
          ∙ ap (λ (bs : List ℕ). take (length image) (bs ++ image)) (drop-append_seam v.taken bytes)
          ∙ ap (λ (n : ℕ). take n (bytes ++ image)) (sym long)
          ∙ take-append_seam bytes image)
      heard view.Null fits = refl
      heard view.Granted fits = refl
      heard view.Empty fits = refl

  by : Asks (view_of a.world 0 h.lone.run) → (world : World) × IsSteppedAlone v told world
  by asked = of_view (subst Asks h.seen asked) where
    of_view : Asks v → (world : World) × IsSteppedAlone v told world
    of_view (ForNothing unasked) = kept unasked
    of_view (ForObject kind asked new) = added (one_told told) (replies_added v told kind going new) (hears_new kind asked new)
    of_view (ForShelf shelf asked new) = added (one_swapped told) (replies_swapped v told shelf going new) (hears_swap shelf asked new)

-- it still is after one instruction more
pub alone_stepped : (v : RunView) (reply : CallResult) → IsSound v → IsAlone v → v.status ≡ Going → FitsShelf v reply → IsAlone (stepped reply v)
alone_stepped v reply sound alone going fits =
    let n = stepped_alone v reply sound alone going fits in
    let on = one_on v reply going in
    let here : view_in (alone_after (v.executed + 1) v.subject v.context (replies_of (stepped reply v))).world 0 ≡ Some (stepped reply v) =
    ap (λ (b : Alone). view_in b.world 0) n.1.is ∙ n.1.seen in
    rw (on.executed, on.subject, on.context) here

-- and its peak is the most that it held so far
pub peak_stepped : (v : RunView) (reply : CallResult) → IsSound v → IsAlone v → v.status ≡ Going → FitsShelf v reply
    → (alone_after (v.executed + 1) v.subject v.context (replies_of (stepped reply v))).peak
    ≡ max (alone_after v.executed v.subject v.context (replies_of v)).peak (length (stepped reply v).objects)
peak_stepped v reply sound alone going fits =
    let n = stepped_alone v reply sound alone going fits in
    let r = shown_run n.0 0 (stepped reply v) n.1.seen in
    let held : holds_of n.0 0 ≡ length (stepped reply v).objects =
    sym (length-map (held_by n.0 0) (object_in n.0)) ∙ ap (λ (u : RunView). length u.objects) r.2 in
    ap (λ (b : Alone). b.peak) n.1.is ∙ ap (max (alone_after v.executed v.subject v.context (replies_of v)).peak) held

-- ---- a run that ended

ended_after : (k m : ℕ) (subject : Subject) (context : List ℕ) (replies : Replies) (h : IsLone (alone_after m subject context replies)) (n : ℕ)
    → h.run.status ≡ Exited n → alone_after (k + m) subject context replies ≡ alone_after m subject context replies
unfolding alone_after
ended_after zero m subject context replies h n ended = let e : 0 + m ≡ m = omega arith in rw e refl
ended_after (suc k) m subject context replies h n ended =
    let before = ended_after k m subject context replies h n ended in
    let e : suc k + m ≡ suc (k + m) = omega arith in
    rw (e, before) (ended_next (alone_after m subject context replies) replies h n ended)

-- the run alone is in the end where a run that exited is
exited_after : (v : RunView) (n : ℕ) → IsSound v → IsAlone v → v.status ≡ Exited n
    → alone_after (length (instructions v.subject.program)) v.subject v.context (replies_of v) ≡ alone_after v.executed v.subject v.context (replies_of v)
exited_after v n sound alone ended =
    let h = seen_alone v sound alone in
    let few = bounded v sound in
    let rest = length (instructions v.subject.program) - v.executed in
    let all : length (instructions v.subject.program) ≡ rest + v.executed = omega (arith, few) in
    ap (λ (m : ℕ). alone_after m v.subject v.context (replies_of v)) all
    ∙ ended_after rest v.executed v.subject v.context (replies_of v) h.lone n (alone_status v h (Exited n) ended)

-- the outcome of the run alone is that of a run that exited, whatever replies are after those that it was answered
pub outcome_exited : (v : RunView) (n : ℕ) → IsSound v → IsAlone v → v.status ≡ Exited n → (more : Replies)
    → outcome_alone v.subject v.context (more_than (replies_of v) more) ≡ record {
      status = Exited n;
      output = v.frame.output;
      executed = v.executed;
      peak = (alone_after v.executed v.subject v.context (replies_of v)).peak;
    }
outcome_exited v n sound alone ended more =
    let h = seen_alone v sound alone in
    let a = alone_after v.executed v.subject v.context (replies_of v) in
    let stays = exited_after v n sound alone ended in
    let fits = subst (λ (b : Alone). IsWithin (told_of b) (replies_of v)) (sym stays) (all_within v alone) in
    ap outcome_of (after_unread (length (instructions v.subject.program)) v.subject v.context (replies_of v) more sound.accepted sound.context fits
    ∙ stays) ∙ outcome_seen a v n h.lone.run h.lone.only h.seen ended
  where
    outcome_seen : (a : Alone) (v : RunView) (n : ℕ) (r : Running) → a.world.runs ≡ r ∷ [] → view_of a.world 0 r ≡ v
        → v.status ≡ Exited n
        → outcome_of a ≡ record { status = Exited n; output = v.frame.output; executed = v.executed; peak = a.peak }
    outcome_seen a v n r only same ended =
        let status : r.status ≡ Exited n = ap (λ (u : RunView). u.status) same ∙ ended in
        let output : r.frame.output ≡ v.frame.output = ap (λ (u : RunView). u.frame.output) same in
        let executed : r.executed ≡ v.executed = ap (λ (u : RunView). u.executed) same in
        rw (only, status, output, executed) refl

-- it was answered just the replies of that run
pub told_exited : (v : RunView) (n : ℕ) → IsSound v → IsAlone v → v.status ≡ Exited n → told_alone v.subject v.context (replies_of v) ≡ replies_of v
told_exited v n sound alone ended =
    let h = seen_alone v sound alone in
    ap (λ (a : Alone). told_to (slice_get a.world.runs 0)) (exited_after v n sound alone ended)
    ∙ ap told_to (there_is (alone_after v.executed v.subject v.context (replies_of v)) h.lone) ∙ ap replies_of h.seen
