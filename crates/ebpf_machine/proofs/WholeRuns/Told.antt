-- The store of a run goes by what the run is answered.
use Rattle.std.proofs.Common.{◌≡◌, ℕ, zero, suc, ◌+◌, ◌≤◌, ◌<◌, List, [], ◌∷◌, ◌++◌, length, get_or, refl, sym, ap, ◌∙◌, subst, arith}
use Rattle.std.proofs.lemmas.List.{append-nil, append_assoc, length-append}
use Rattle.std.proofs.lemmas.List.Elements.{All-map}
use Rattle.ebpf_verify.specs.Subject.{Subject}
use Rattle.ebpf_machine.specs.declared.report.Reply.{Reply}
use Rattle.ebpf_machine.specs.Alone.{Replies}
use Rattle.ebpf_machine.specs.World.{Kind, Going, kinds_of, image_at}
use Rattle.ebpf_machine.specs.Events.{Asking, Unasked, OfKind, AtShelf}
use Rattle.ebpf_machine.specs.View.{ObjectView, RunView, stepped, reply_in}
use Rattle.ebpf_machine.specs.RunState.{RunState, status_of, object_seen}
use Rattle.ebpf_machine.specs.Sound.{AreSized, IsSound, IsAlone}
use Rattle.ebpf_machine.specs.Step as step
use Rattle.ebpf_machine.specs.Step.{Served, Idle, Refused, Granted, Offers, offers_of, MayAnswer, IsStepOver, result_of, told_by, asking_in, seen_in}
use Rattle.ebpf_machine.specs.Store.{Store, AreOut, held_of_kind}
use Rattle.ebpf_machine.specs.Turns.{IsTurn, AreTurns, HasGone}
use Rattle.ebpf_machine.proofs.World.Asking.{Asks, ForNothing, ForObject, ForShelf, asks_of}
use Rattle.ebpf_machine.proofs.World.Replies.{heard_by_new, heard_by_swap, replies_kept, replies_added, replies_swapped}
use Rattle.ebpf_machine.proofs.World.Steps.{next_of}

-- ---- an instruction more

told_nothing : (may : Offers) (at : ℕ) (served : Served) → MayAnswer may at Unasked served → told_by served ≡ []
told_nothing may at served idle = ap told_by idle

-- a call of new, or of swap, is answered what it was served
told_to_new : (may : Offers) (at kind : ℕ) (served : Served) → MayAnswer may at (OfKind kind) served
    → told_by served ≡ reply_in (heard_by_new (result_of served)) ∷ []
told_to_new may at kind (Granted slot) can = refl
told_to_new may at kind Refused can = refl
told_to_new may at kind Idle can = absurd can
told_to_new may at kind step.Empty can = absurd can
told_to_new may at kind (step.Fetched slot bytes) can = absurd can

told_to_swap : (may : Offers) (at shelf : ℕ) (served : Served) → MayAnswer may at (AtShelf shelf) served
    → told_by served ≡ reply_in (heard_by_swap (result_of served)) ∷ []
told_to_swap may at shelf (step.Fetched slot bytes) can = refl
told_to_swap may at shelf step.Empty can = refl
told_to_swap may at shelf Idle can = absurd can
told_to_swap may at shelf Refused can = absurd can
told_to_swap may at shelf (Granted slot) can = absurd can

one_at_most : (served : Served) → length (told_by served) ≤ 1
one_at_most Idle = omega arith
one_at_most Refused = omega arith
one_at_most (Granted slot) = omega arith
one_at_most step.Empty = omega arith
one_at_most (step.Fetched slot bytes) = omega arith

-- the replies after an instruction that was served so
told_next : {v : RunView} (served : Served) (may : Offers) → IsSound v → AreSized v → v.status ≡ Going
    → MayAnswer may v.pc (asking_in v) served → (stepped (result_of served) v).replies ≡ v.replies ++ told_by served
told_next {v} served may sound sized going can = by (asks_of v (next_of v sound sized going)) where
  answered : (asked : Asking) → asking_in v ≡ asked → MayAnswer may v.pc asked served
  answered asked e = subst (λ (a : Asking). MayAnswer may v.pc a served) e can

  by : Asks v → (stepped (result_of served) v).replies ≡ v.replies ++ told_by served
  by (ForNothing unasked) =
      ap (λ (rs : Replies). rs.answers) (replies_kept v (result_of served) going unasked)
      ∙ sym (append-nil v.replies)
      ∙ ap (λ (told : List Reply). v.replies ++ told) (sym (told_nothing may v.pc served (answered Unasked unasked)))
  by (ForObject kind asked new_one) =
      ap (λ (rs : Replies). rs.answers) (replies_added v (result_of served) kind going new_one)
      ∙ ap (λ (told : List Reply). v.replies ++ told) (sym (told_to_new may v.pc kind served (answered (OfKind kind) asked)))
  by (ForShelf shelf asked new_one) =
      ap (λ (rs : Replies). rs.answers) (replies_swapped v (result_of served) shelf going new_one)
      ∙ ap (λ (told : List Reply). v.replies ++ told) (sym (told_to_swap may v.pc shelf served (answered (AtShelf shelf) asked)))

-- ---- a run over a store

-- objects that are out have the size of their kind
abbrev pub HaveSizes : {S H : Type 0} → Store S H → S → Type 0
HaveSizes {H = H} o s = (h : H) → o.is_out s h → (length (o.bytes_of s h) ≡ length (image_at o.kinds (o.kind_of h))) × (o.kind_of h < length o.kinds)

pub sized_out : {S H : Type 0} (o : Store S H) (s : S) (r : RunState H) → HaveSizes o s → o.kinds ≡ kinds_of r.subject.rows
    → AreOut o s r.held → AreSized (seen_in o s r)
sized_out o s r sizes known out =
    All-map (λ (x : ObjectView). length x.bytes ≡ length (image_at (kinds_of r.subject.rows) x.kind)) (object_seen (o.bytes_of s)) r.held
    (λ k d few. let h = out.out k d few in
    (sizes (get_or r.held k d).object h.0).0 ∙ ap (λ (kind : ℕ). length (image_at o.kinds kind)) h.1
    ∙ ap (λ (ks : List Kind). length (image_at ks (get_or r.held k d).kind)) known)

-- a run that is sound and where the run alone is, with its objects out of its store, of kinds that the store has
pub record IsReadyIn {S H : Type 0} (o : Store S H) (s : S) (r : RunState H) : Type 0 where
  pub out : AreOut o s r.held
  pub sound : IsSound (seen_in o s r)
  pub alone : IsAlone (seen_in o s r)
  pub kinds : o.kinds ≡ kinds_of r.subject.rows

-- the replies after one step
pub told_turn : {S H : Type 0} (o : Store S H) (old new : S) (r t : RunState H) → HaveSizes o old → IsReadyIn o old r
    → (turn : IsTurn o r t old new) → t.replies ≡ r.replies ++ told_by turn.step.0
told_turn o old new r t sizes ready turn =
    let v = seen_in o old r in
    let now : v.status ≡ Going = ap status_of turn.going in
    let s : IsStepOver o r t old new = turn.step in
    ap (λ (u : RunView). u.replies) s.2.state ∙ told_next s.0 (offers_of o old) ready.sound (sized_out o old r sizes ready.kinds ready.out) now s.1

-- one step
gone_turn : {S H : Type 0} {o : Store S H} {old new : S} {r t : RunState H} → HaveSizes o old → IsReadyIn o old r → IsTurn o r t old new
    → HasGone o r t old new
gone_turn {o} {old} {new} {r} {t} sizes ready turn =
    let s : IsStepOver o r t old new = turn.step in
    record {
      told = told_by s.0;
      replies = told_turn o old new r t sizes ready turn;
      goes = s.2.store.goes;
      few = let one = one_at_most s.0 in omega (arith, one, turn.counted);
      outs = s.2.store.outs;
    }

-- after any number of them
pub record IsGone {S H : Type 0} (o : Store S H) (first now : S) (start r : RunState H) : Type 0 where
  pub ready : IsReadyIn o now r
  pub same : (r.subject ≡ start.subject) × (r.context ≡ start.context)
  pub gone : HasGone o start r first now

pub none_gone : {S H : Type 0} (o : Store S H) (s : S) (r : RunState H) → HasGone o r r s s
none_gone o s r = record { told = []; replies = sym (append-nil r.replies); goes = o.stays s; few = omega arith; outs = λ k. refl }

-- steps after steps
pub gone_then : {S H : Type 0} {o : Store S H} {old between new : S} {r t u : RunState H} → HasGone o r t old between
    → HasGone o t u between new → HasGone o r u old new
gone_then {o} {old} {between} {new} {r} was more = record {
  told = was.told ++ more.told;
  replies = more.replies ∙ ap (λ (rs : List Reply). rs ++ more.told) was.replies ∙ append_assoc r.replies was.told more.told;
  goes = o.goes_on old between new was.told more.told was.goes more.goes;
  few = let all = length-append was.told more.told in omega (arith, was.few, more.few, all);
  outs = λ k. let before = was.outs k in let after = more.outs k in omega (arith, before, after);
}

pub went : {S H : Type 0} {o : Store S H} {old : S} (new : S) (number : ℕ) {r : RunState H} (t : RunState H) → ((s : S) → HaveSizes o s)
    → IsReadyIn o old r → AreTurns o number r t old new → IsGone o old new r t
went {o} {old} new zero {r} t sizes ready turns = rw (turns.0, turns.1) (record { ready = ready; same = (refl, refl); gone = none_gone o old r })
went {o} {old} new (suc number) {r} t sizes ready turns =
    let before = went turns.store number turns.run sizes ready turns.before in
    let last = turns.last in
    record {
      ready = record {
        out = last.out;
        sound = last.sound (o.bytes_of new);
        alone = last.alone;
        kinds = before.ready.kinds ∙ ap (λ (s : Subject). kinds_of s.rows) (sym last.same.0);
      };
      same = (last.same.0 ∙ before.same.0, last.same.1 ∙ before.same.1);
      gone = gone_then before.gone (gone_turn (sizes turns.store) before.ready last);
    }

pub gone_by : {S H : Type 0} {o : Store S H} {old : S} (new : S) (number : ℕ) {r : RunState H} (t : RunState H) → ((s : S) → HaveSizes o s)
    → IsReadyIn o old r → AreTurns o number r t old new → HasGone o r t old new
gone_by new number t sizes ready turns = (went new number t sizes ready turns).gone

-- a run of this program on this context, since the first state of its store: the store went by what the run was answered, each reply was to
-- an instruction, and of each kind as many more are out as the run holds
pub record IsUnderWay {S H : Type 0} (o : Store S H) (first now : S) (subject : Subject) (context : List ℕ) (r : RunState H) : Type 0 where
  pub subject_is : r.subject ≡ subject
  pub context_is : r.context ≡ context
  pub out : AreOut o now r.held
  pub alone : IsAlone (seen_in o now r)
  pub sound : IsSound (seen_in o now r)
  pub told : o.goes first r.replies now
  pub few : length r.replies ≤ r.executed
  pub outs : (k : ℕ) → o.outs now k ≡ o.outs first k + held_of_kind r.held k

pub under_way : {S H : Type 0} (o : Store S H) (first old new : S) (subject : Subject) (context : List ℕ) (number : ℕ) (r t : RunState H)
    → ((s : S) → HaveSizes o s) → o.kinds ≡ kinds_of subject.rows → IsUnderWay o first old subject context r → AreTurns o number r t old new
    → IsUnderWay o first new subject context t
under_way o first old new subject context number r t sizes kinds was turns =
    let known = kinds ∙ ap (λ (s : Subject). kinds_of s.rows) (sym was.subject_is) in
    let after = went new number t sizes (record { out = was.out; sound = was.sound; alone = was.alone; kinds = known }) turns in
    let gone = after.gone in
    record {
      subject_is = after.same.0 ∙ was.subject_is;
      context_is = after.same.1 ∙ was.context_is;
      out = after.ready.out;
      alone = after.ready.alone;
      sound = after.ready.sound;
      told = subst (λ (rs : List Reply). o.goes first rs new) (sym gone.replies) (o.goes_on first old new r.replies gone.told was.told gone.goes);
      few =
          let all = length-append r.replies gone.told in
          let same = ap (λ (rs : List Reply). length rs) gone.replies in
          omega (arith, was.few, gone.few, all, same);
      outs = λ k. let before = was.outs k in let more = gone.outs k in omega (arith, before, more);
    }
