-- What a run's calls of swap find on shelves is what the instructions before them leave there.
use Rattle.std.proofs.Common.{◌≡◌, ◌<◌, ◌⊎◌, inl, inr, ◌++◌, ℕ, zero, suc, false, List, [], ◌∷◌, length, Option, Some, append_assoc, refl, sym, ap}
use Rattle.std.proofs.Common.{◌∙◌, subst, arith, length-append}
use Rattle.std.specs.Prelude.{slice_get, take, drop, nat_le}
use Rattle.std.specs.List.{All}
use Rattle.std.proofs.Math.Seq.{drop-append_seam, take-append_seam, get_or-append_seam}
use Rattle.std.proofs.lemmas.Bool.{cases_eq}
use Rattle.std.proofs.lemmas.Bool.Decides.{nat_tests}
use Rattle.ebpf_insn.proofs.ListLemmas.{slice_get-append_left, slice_get-push}
use Rattle.ebpf_verify.specs.Subject.{Subject}
use Rattle.ebpf_machine.specs.declared.report.Reply.{Reply}
use Rattle.ebpf_machine.specs.declared.report.Reply.TheVariants.{Empty, Shelf}
use Rattle.ebpf_machine.specs.declared.report.Report.{Report}
use Rattle.ebpf_machine.specs.Alone.{Replies, alone_after, bytes_for, replies_from}
use Rattle.ebpf_machine.specs.Effect.{Effect}
use Rattle.ebpf_machine.specs.Events.{Asking, AtShelf}
use Rattle.ebpf_machine.specs.Replies.{more_than, replies_in, replies_of}
use Rattle.ebpf_machine.specs.RunState.{RunState}
use Rattle.ebpf_machine.specs.Sound.{AreSized}
use Rattle.ebpf_machine.specs.Step as step
use Rattle.ebpf_machine.specs.Step.{Served, Idle, Refused, Granted, Fetched, IsStepOver, MayAnswer, asking_in, offers_of, result_of, seen_in}
use Rattle.ebpf_machine.specs.Store.{Store, Shelved}
use Rattle.ebpf_machine.specs.Turns.{IsTurn, AreTurns}
use Rattle.ebpf_machine.specs.View as view
use Rattle.ebpf_machine.specs.View.{CallResult, ObjectView, RunView, done_by, effect_of_view, exchanged, shelved_object, stepped, view_in, without_given}
use Rattle.ebpf_machine.specs.World.{Going, Kind, image_at, kinds_of}
use Rattle.ebpf_machine.proofs.World.Asking.{Asks, AsksShelf, ForNothing, ForObject, ForShelf, asks_of}
use Rattle.ebpf_machine.proofs.World.Lone.{none_more}
use Rattle.ebpf_machine.proofs.World.Replies.{one_swapped, replies_swapped, stepped_going}
use Rattle.ebpf_machine.proofs.World.Steps.{next_of}
use Rattle.ebpf_machine.proofs.WholeRuns.Told.{HaveSizes, IsUnderWay, sized_out, under_way}
use Rattle.ebpf_host.specs.declared.stocks.Stocks.{Stocks}
use Rattle.ebpf_host.specs.Finding.{AreFound, FindsIn, FindsOn, IsFound, TellsShelves, found_by, found_in}
use Rattle.ebpf_host.specs.Leaving.{left_after}
use Rattle.ebpf_host.specs.Stocks.{bytes_on, standing_on}
use Rattle.ebpf_host.proofs.Leaving.{IsLeftSoFar, IsTurned, left_turns, same_bytes, turned}

-- ---- one call

-- what comes off a shelf has its kind's size
last_of : {X : Type 0} (P : X → Type 0) (xs : List X) (x : X) → All P (xs ++ x ∷ []) → P x
last_of P xs x all =
    let long : length xs < length (xs ++ x ∷ []) = omega (arith, length-append xs (x ∷ [])) in
    subst P (get_or-append_seam xs x [] x) (all (length xs) x long)

sized_last : (v : RunView) (shelf : ℕ) (bytes : List ℕ) → v.status ≡ Going → AsksShelf v shelf → AreSized (stepped (view.Shelved bytes) v)
    → length bytes ≡ length (image_at (kinds_of v.subject.rows) shelf)
sized_last v shelf bytes going asks sized = let room = full in last_of IsSized (without_given asks.given v.objects) (shelved_object v shelf bytes) (rw room at all) where
  is : stepped (view.Shelved bytes) v ≡ exchanged (view.Shelved bytes) asks.to asks.after shelf asks.given v
  is = stepped_going v (view.Shelved bytes) going ∙ ap (λ (e : Effect ℕ). done_by e (view.Shelved bytes) v) asks.does

  few : (declared held : ℕ) → held < declared → nat_le declared held ≡ false
  few declared held lt = grind (arith, nat_tests)

  full : nat_le v.subject.decl.held (length (without_given asks.given v.objects)) ≡ false
  full = few v.subject.decl.held (length (without_given asks.given v.objects)) asks.room

  IsSized : ObjectView → Type 0
  IsSized o = length o.bytes ≡ length (image_at (kinds_of v.subject.rows) o.kind)

  all : AreSized (exchanged (view.Shelved bytes) asks.to asks.after shelf asks.given v)
  all = subst AreSized is sized

-- the reply that comes next, and the bytes
next_reply : (before : List Reply) (reply : Reply) (after : List Reply) → slice_get ((before ++ reply ∷ []) ++ after) (length before) ≡ Some reply
next_reply before reply after =
    let long : length before < length (before ++ reply ∷ []) = omega (arith, length-append before (reply ∷ [])) in
    slice_get-append_left (before ++ reply ∷ []) after (length before) reply long ∙ slice_get-push before reply (length before) refl

next_bytes : (kinds : List Kind) (shelf : ℕ) (before bytes after : List ℕ) → length bytes ≡ length (image_at kinds shelf)
    → bytes_for kinds shelf (drop (length before) ((before ++ bytes) ++ after)) ≡ bytes
next_bytes kinds shelf before bytes after long =
    let image = image_at kinds shelf in
    ap (λ (bs : List ℕ). bytes_for kinds shelf (drop (length before) bs)) (append_assoc before bytes after)
    ∙ ap (bytes_for kinds shelf) (drop-append_seam before (bytes ++ after))
    ∙ ap (take (length image)) (append_assoc bytes after image)
    ∙ ap (λ (n : ℕ). take n (bytes ++ (after ++ image))) (sym long)
    ∙ take-append_seam bytes (after ++ image)

-- what a call of swap finds is what it is served
module _ {S H : Type 0} (o : Store S H) (tells : TellsShelves o) (s : S) (v : RunView) (shelf : ℕ) (what : Option Shelved) (stands : o.stand s shelf what) where
  found_served : (served : Served) (more : Replies) → MayAnswer (offers_of o s) v.pc (AtShelf shelf) served → v.status ≡ Going → AsksShelf v shelf
      → AreSized (stepped (result_of served) v)
      → found_in (more_than (more_than (replies_of v) (one_swapped (result_of served))) more) v shelf ≡ bytes_on what
  found_served (Fetched slot bytes) more can going asks sized =
      ap (λ (reply : Option Reply). found_by reply (bytes_for (kinds_of v.subject.rows) shelf (drop (length v.taken) ((v.taken ++ bytes) ++ more.taken))))
      (next_reply v.replies Shelf more.answers)
      ∙ ap Some (next_bytes (kinds_of v.subject.rows) shelf v.taken bytes more.taken (sized_last v shelf bytes going asks sized))
      ∙ sym (tells.there s shelf slot bytes what stands can)
  found_served step.Empty more can going asks sized =
      ap (λ (reply : Option Reply). found_by reply (bytes_for (kinds_of v.subject.rows) shelf (drop (length v.taken) ((v.taken ++ []) ++ more.taken))))
      (next_reply v.replies Empty more.answers)
      ∙ sym (tells.none s shelf what stands can)
  found_served Idle more can going asks sized = absurd can
  found_served Refused more can going asks sized = absurd can
  found_served (Granted slot) more can going asks sized = absurd can

-- ---- n instructions

module _ {S H : Type 0} (o : Store S H) (first : S) (subject : Subject) (context : List ℕ) (shelf : ℕ) (stood : Option Shelved) where
  -- the calls of the first n find so, with any replies after the run's own
  abbrev IsFoundSoFar : ℕ → S → RunState H → Type 0
  IsFoundSoFar number now r = (more : Replies) → FindsOn number subject context (more_than (replies_of (seen_in o now r)) more) shelf (bytes_on stood)

  -- one more
  module _ (number : ℕ) (old new : S) (r t : RunState H) (sizes : (s : S) → HaveSizes o s) (kinds : o.kinds ≡ kinds_of subject.rows) (tells : TellsShelves o)
      (was : IsUnderWay o first old subject context r) (turn : IsTurn o r t old new) (left : IsLeftSoFar o first subject context shelf stood number old r)
      (it : IsTurned o subject context number r t old new) where
    abbrev v : RunView
    v = seen_in o old r

    -- the replies of the run after it, and more
    abbrev all : Replies → Replies
    all more = more_than (replies_of (seen_in o new t)) more

    -- its call
    found_here : (more : Replies) → asking_in v ≡ AtShelf shelf
        → found_in (all more) v shelf ≡ left_after number subject context (more_than (replies_of v) (more_than it.told more)) shelf (bytes_on stood)
    found_here more asked = by (asks_of v (next_of v was.sound it.sized it.going)) ∙ left.bytes_are (more_than it.told more) where
      s : IsStepOver o r t old new
      s = turn.step

      after : AreSized (stepped (result_of s.0) v)
      after = subst AreSized s.2.state
          (sized_out o new t (sizes new) (kinds ∙ ap (λ (x : Subject). kinds_of x.rows) (sym (turn.same.0 ∙ was.subject_is))) turn.out)

      can : MayAnswer (offers_of o old) v.pc (AtShelf shelf) s.0
      can = subst (λ (a : Asking). MayAnswer (offers_of o old) v.pc a s.0) asked s.1

      same : (k : ℕ) → asking_in v ≡ AtShelf k → k ≡ shelf
      same k e = number_of k shelf (sym e ∙ asked) where
        number_of : (a b : ℕ) → AtShelf a ≡ AtShelf b → a ≡ b
        number_of a b e = cc

      swapped : AsksShelf v shelf → found_in (all more) v shelf ≡ bytes_on left.what
      swapped asks =
          ap (λ (x : Replies). found_in (more_than x more) v shelf) (ap replies_of s.2.state ∙ replies_swapped v (result_of s.0) shelf it.going asks)
          ∙ found_served o tells old v shelf left.what left.stands s.0 more can it.going asks after

      by : Asks v → found_in (all more) v shelf ≡ bytes_on left.what
      by (ForNothing unasked) = let e = sym unasked ∙ asked in absurd cc
      by (ForObject kind asks new) = let e = sym asks ∙ asked in absurd cc
      by (ForShelf k asks swaps) = swapped (subst (AsksShelf v) (same k asks) swaps)

    found_turn : IsFoundSoFar number old r → IsFoundSoFar (suc number) new t
    found_turn before more k u below at asked = by (cases_eq k number) where
      rest : Replies
      rest = more_than (replies_of v) (more_than it.told more)

      Finds : Replies → Type 0
      Finds x = found_in x u shelf ≡ left_after k subject context x shelf (bytes_on stood)

      shown : view_in (alone_after k subject context rest).world 0 ≡ Some u
      shown = ap (λ (x : Replies). view_in (alone_after k subject context x).world 0) (sym (it.replies more)) ∙ at

      here : k ≡ number → found_in (all more) u shelf ≡ left_after k subject context rest shelf (bytes_on stood)
      here e =
          let alone = ap (λ (n : ℕ). view_in (alone_after n subject context rest).world 0) e ∙ it.alone (more_than it.told more) in
          let is = some_same v u (sym alone ∙ shown) in
          ap (λ (x : RunView). found_in (all more) x shelf) (sym is)
          ∙ found_here more (ap asking_in is ∙ asked)
          ∙ ap (λ (n : ℕ). left_after n subject context rest shelf (bytes_on stood)) (sym e)
        where
          some_same : (a b : RunView) → Some a ≡ Some b → a ≡ b
          some_same a b e = cc

      by : (k ≡ number) ⊎ (k ≡ number → ⊥) → Finds (all more)
      by (inl e) = here e ∙ ap (λ (x : Replies). left_after k subject context x shelf (bytes_on stood)) (sym (it.replies more))
      by (inr apart) = subst Finds (sym (it.replies more)) (before (more_than it.told more) k u (omega (arith, below, apart)) shown asked)

  found_turns : (number : ℕ) (now : S) (r t : RunState H) → ((s : S) → HaveSizes o s) → o.kinds ≡ kinds_of subject.rows → TellsShelves o
      → IsUnderWay o first first subject context r → r.executed ≡ 0 → o.stand first shelf stood → AreTurns o number r t first now
      → IsFoundSoFar number now t
  found_turns zero now r t sizes kinds tells start none stands turns = λ more k u below. absurd (omega (arith, below))
  found_turns (suc number) now r t sizes kinds tells start none stands turns =
      let was = under_way o first first turns.store subject context number r turns.run sizes kinds start turns.before in
      let left = left_turns o first subject context shelf stood number turns.store r turns.run sizes kinds start none stands turns.before in
      found_turn number turns.store now turns.run t sizes kinds tells was turns.last left
      (turned o first subject context number turns.run t turns.store now (sizes turns.store) kinds was left.executed turns.last)
      (found_turns number turns.store r turns.run sizes kinds tells start none stands turns.before)

-- ---- a run as a whole

pub finds : {S H : Type 0} (o : Store S H) (first before : S) (subject : Subject) (context : List ℕ) (number : ℕ) (r t : RunState H) (report : Report)
    → ((s : S) → HaveSizes o s) → o.kinds ≡ kinds_of subject.rows → TellsShelves o → IsUnderWay o first first subject context r → r.executed ≡ 0
    → AreTurns o number r t first before → report.executed ≡ number → replies_in report ≡ replies_of (seen_in o before t)
    → IsFound o first subject context report
finds o first before subject context number r t report sizes kinds tells start none turns executed replies shelf what stood =
    let found = found_turns o first subject context shelf what number before r t sizes kinds tells start none stood turns (replies_from [] []) in
    subst (λ (n : ℕ). FindsOn n subject context (replies_in report) shelf (bytes_on what)) (sym executed)
    (subst (λ (x : Replies). FindsOn number subject context x shelf (bytes_on what)) (none_more (replies_of (seen_in o before t)) ∙ sym replies) found)

-- ---- on a machine

pub found_on_machine : (old : Stocks) (s : Subject) (context : List ℕ) (r : Report)
    → ((shelf : ℕ) (what : Option Shelved) → what ≡ standing_on old shelf → FindsIn s context r shelf (bytes_on what)) → AreFound old s context r
found_on_machine old s context r found shelf =
    subst (FindsIn s context r shelf) (same_bytes old shelf) (found shelf (standing_on old shelf) refl)
