-- What a run leaves on shelves is what its program alone leaves there.
use Rattle.std.proofs.Common.{◌≡◌, ◌==◌, if◌then◌else◌, ℕ, zero, suc, Bool, true, false, List, [], Option, Some, None, append_assoc, refl, sym, ap, ◌∙◌, arith}
use Rattle.std.specs.Prelude.{option_map}
use Rattle.std.specs.List.{find}
use Rattle.ebpf_verify.specs.Subject.{Subject}
use Rattle.ebpf_machine.specs.declared.holding.Holding.{Holding}
use Rattle.ebpf_machine.specs.declared.report.Report.{Report}
use Rattle.ebpf_machine.specs.Alone.{Replies, alone_after, replies_from}
use Rattle.ebpf_machine.specs.Replies.{more_than, replies_in, replies_of}
use Rattle.ebpf_machine.specs.Effect.{Nothing, Write, Ask, Free, Exchange, Effect, Goes, Ends, Traps}
use Rattle.ebpf_machine.specs.RunState.{RunState, object_seen, status_of}
use Rattle.ebpf_machine.specs.Shelves.{shelf_done, shelved_from, standing_after}
use Rattle.ebpf_machine.specs.Sound.{AreSized, IsSound}
use Rattle.ebpf_machine.specs.Step.{IsStepOver, result_of, seen_in}
use Rattle.ebpf_machine.specs.Store.{Store, Shelved, ShelvesStay, shelved_as}
use Rattle.ebpf_machine.specs.Turns.{IsTurn, AreTurns}
use Rattle.ebpf_machine.specs.View.{CallResult, ObjectView, RunView, effect_of_view, stepped, view_in}
use Rattle.ebpf_machine.specs.World.{Going, kinds_of}
use Rattle.ebpf_machine.proofs.Lists.ListLemmas.{find-map}
use Rattle.ebpf_machine.proofs.World.Asking.{Asks, ForNothing, ForObject, ForShelf, asks_of}
use Rattle.ebpf_machine.proofs.World.Lone.{alone_more, none_more}
use Rattle.ebpf_machine.proofs.World.Replies.{one_told, one_swapped, replies_kept, replies_added, replies_swapped}
use Rattle.ebpf_machine.proofs.World.Steps.{next_of}
use Rattle.ebpf_machine.proofs.WholeRuns.Told.{HaveSizes, IsUnderWay, sized_out, under_way}
use Rattle.ebpf_host.specs.declared.stocks.Stocks.{Stocks}
use Rattle.ebpf_host.specs.Leaving.{AreLeft, IsLeft, bytes_given, left_after, left_by, left_in}
use Rattle.ebpf_host.specs.Stocks.{bytes_on, renumbered, shelf_bytes, standing_on, stock_of}

-- ---- one instruction

-- what is said of all that may be on a shelf is said of what an effect leaves there
done_told : {N X Y : Type 0} (told : X → Y) (given_is : Option N → X) (as_told : Option N → Y)
    → ((given : Option N) → told (given_is given) ≡ as_told given) → (e : Effect N) (shelf : ℕ) (what : X)
    → told (shelf_done given_is e shelf what) ≡ shelf_done as_told e shelf (told what)
done_told told given_is as_told same (Ends n) shelf what = refl
done_told told given_is as_told same (Traps trap) shelf what = refl
done_told told given_is as_told same (Goes Nothing to after) shelf what = refl
done_told told given_is as_told same (Goes (Write name at bytes) to after) shelf what = refl
done_told told given_is as_told same (Goes (Ask kind) to after) shelf what = refl
done_told told given_is as_told same (Goes (Free name) to after) shelf what = refl
done_told told given_is as_told same (Goes (Exchange k given) to after) shelf what = by (shelf == k) where
  by : (b : Bool) → told (if b then given_is given else what) ≡ (if b then as_told given else told what)
  by true = same given
  by false = refl

given_told : {S H : Type 0} (o : Store S H) (s : S) (r : RunState H) (given : Option ℕ)
    → bytes_on (shelved_from (shelved_as o s) r.held given) ≡ bytes_given (seen_in o s r) given
given_told o s r None = refl
given_told {S} {H} o s r (Some call) = of (find (λ h. h.call == call) r.held)
    ∙ ap (option_map (λ (x : ObjectView). x.bytes)) (sym (find-map (λ (x : ObjectView). x.call == call) (object_seen (o.bytes_of s)) r.held)) where
      of : (found : Option (Holding H))
          → bytes_on (option_map (λ h. shelved_as o s h.object) found) ≡ option_map (λ x. x.bytes) (option_map (object_seen (o.bytes_of s)) found)
      of None = refl
      of (Some h) = refl

-- an instruction of the run alone more
left_next : (n : ℕ) (s : Subject) (context : List ℕ) (replies : Replies) (shelf : ℕ) (bytes : Option (List ℕ)) (v : RunView)
    → view_in (alone_after n s context replies).world 0 ≡ Some v
    → left_after (suc n) s context replies shelf bytes ≡ shelf_done (bytes_given v) (effect_of_view v) shelf (left_after n s context replies shelf bytes)
unfolding left_after
left_next n s context replies shelf bytes v seen = ap (λ (o : Option RunView). left_by o shelf (left_after n s context replies shelf bytes)) seen

left_none : (s : Subject) (context : List ℕ) (replies : Replies) (shelf : ℕ) (bytes : Option (List ℕ)) → left_after 0 s context replies shelf bytes ≡ bytes
unfolding left_after
left_none s context replies shelf bytes = refl

-- ---- the replies so far

more_again : (replies one more : Replies) → more_than (more_than replies one) more ≡ more_than replies (more_than one more)
more_again replies one more = λ i. replies_from (append_assoc replies.answers one.answers more.answers i) (append_assoc replies.taken one.taken more.taken i)

-- an instruction adds to them
replies_more : (v : RunView) (result : CallResult) → IsSound v → AreSized v → v.status ≡ Going
    → (more : Replies) × (replies_of (stepped result v) ≡ more_than (replies_of v) more)
replies_more v result sound sized going = by (asks_of v (next_of v sound sized going)) where
  by : Asks v → (more : Replies) × (replies_of (stepped result v) ≡ more_than (replies_of v) more)
  by (ForNothing unasked) = (replies_from [] [], replies_kept v result going unasked ∙ sym (none_more (replies_of v)))
  by (ForObject kind asked new) = (one_told result, replies_added v result kind going new)
  by (ForShelf shelf asked swaps) = (one_swapped result, replies_swapped v result shelf going swaps)

-- ---- n instructions

-- one more: its replies, and that the run alone is where the run was before it, with these replies and any after them
pub record IsTurned {S H : Type 0} (o : Store S H) (subject : Subject) (context : List ℕ) (number : ℕ) (r t : RunState H) (old new : S) : Type 0 where
  pub told : Replies
  pub replies : (more : Replies) → more_than (replies_of (seen_in o new t)) more ≡ more_than (replies_of (seen_in o old r)) (more_than told more)
  pub alone : (more : Replies) → view_in (alone_after number subject context (more_than (replies_of (seen_in o old r)) more)).world 0 ≡ Some (seen_in o old r)
  pub sized : AreSized (seen_in o old r)
  pub going : (seen_in o old r).status ≡ Going

pub turned : {S H : Type 0} (o : Store S H) (first : S) (subject : Subject) (context : List ℕ) (number : ℕ) (r t : RunState H) (old new : S) → HaveSizes o old
    → o.kinds ≡ kinds_of subject.rows → IsUnderWay o first old subject context r → r.executed ≡ number → IsTurn o r t old new
    → IsTurned o subject context number r t old new
turned {S} {H} o first subject context number r t old new sizes kinds was executed turn = record {
  told = told.0;
  replies = λ more.
      ap (λ (u : RunView). more_than (replies_of u) more) s.2.state ∙ ap (λ (x : Replies). more_than x more) told.1 ∙ more_again (replies_of v) told.0 more;
  alone = λ more.
      (λ i. view_in (alone_after (sym executed i) (sym was.subject_is i) (sym was.context_is i) (more_than (replies_of v) more)).world 0)
      ∙ alone_more v more was.sound was.alone;
  sized = sized;
  going = ap status_of turn.going;
}
  where
    v : RunView
    v = seen_in o old r

    s : IsStepOver o r t old new
    s = turn.step

    sized : AreSized (seen_in o old r)
    sized = sized_out o old r sizes (kinds ∙ ap (λ (x : Subject). kinds_of x.rows) (sym was.subject_is)) was.out

    told : (more : Replies) × (replies_of (stepped (result_of s.0) (seen_in o old r)) ≡ more_than (replies_of (seen_in o old r)) more)
    told = replies_more (seen_in o old r) (result_of s.0) was.sound sized (ap status_of turn.going)

module _ {S H : Type 0} (o : Store S H) (first : S) (subject : Subject) (context : List ℕ) (shelf : ℕ) (stood : Option Shelved) where
  -- what is on a shelf after n has the bytes that the run alone leaves there, whatever replies are after its own
  pub record IsLeftSoFar (number : ℕ) (now : S) (r : RunState H) : Type 0 where
    pub what : Option Shelved
    pub stands : o.stand now shelf what
    pub executed : r.executed ≡ number
    pub bytes_are : (more : Replies) → bytes_on what ≡ left_after number subject context (more_than (replies_of (seen_in o now r)) more) shelf (bytes_on stood)

  -- after one more
  left_turn : (number : ℕ) (old new : S) (r t : RunState H) → IsTurned o subject context number r t old new → IsTurn o r t old new
      → IsLeftSoFar number old r → IsLeftSoFar (suc number) new t
  left_turn number old new r t it turn before = record {
    what = standing_after o old r.held (effect_of_view v) shelf before.what;
    stands = s.3 shelf before.what before.stands;
    executed = omega (arith, turn.counted, before.executed);
    bytes_are = bytes;
  }
    where
      v : RunView
      v = seen_in o old r

      s : IsStepOver o r t old new
      s = turn.step

      bytes : (more : Replies)
          → bytes_on (standing_after o old r.held (effect_of_view v) shelf before.what)
          ≡ left_after (suc number) subject context (more_than (replies_of (seen_in o new t)) more) shelf (bytes_on stood)
      bytes more =
          let rest = more_than it.told more in
          done_told bytes_on (shelved_from (shelved_as o old) r.held) (bytes_given v) (given_told o old r) (effect_of_view v) shelf before.what
          ∙ ap (shelf_done (bytes_given v) (effect_of_view v) shelf) (before.bytes_are rest)
          ∙ sym (left_next number subject context (more_than (replies_of v) rest) shelf (bytes_on stood) v (it.alone rest))
          ∙ ap (λ (x : Replies). left_after (suc number) subject context x shelf (bytes_on stood)) (sym (it.replies more))

  pub left_turns : (number : ℕ) (now : S) (r t : RunState H) → ((s : S) → HaveSizes o s) → o.kinds ≡ kinds_of subject.rows
      → IsUnderWay o first first subject context r → r.executed ≡ 0 → o.stand first shelf stood → AreTurns o number r t first now
      → IsLeftSoFar number now t
  left_turns zero now r t sizes kinds start none stands turns =
      rw (turns.0, turns.1) (record {
        what = stood;
        stands = stands;
        executed = none;
        bytes_are = λ more.
            sym (left_none subject context (more_than (replies_of (seen_in o first r)) more) shelf (bytes_on stood));
      })
  left_turns (suc number) now r t sizes kinds start none stands turns =
      let before = left_turns number turns.store r turns.run sizes kinds start none stands turns.before in
      let was = under_way o first first turns.store subject context number r turns.run sizes kinds start turns.before in
      left_turn number turns.store now turns.run t (turned o first subject context number turns.run t turns.store now (sizes turns.store) kinds was before.executed turns.last)
      turns.last before

-- ---- a run as a whole

-- what is left after the turns is there once all that the run held is back
pub leaves : {S H : Type 0} (o : Store S H) (first before now : S) (subject : Subject) (context : List ℕ) (number : ℕ) (r t : RunState H) (report : Report)
    → ((s : S) → HaveSizes o s) → o.kinds ≡ kinds_of subject.rows → IsUnderWay o first first subject context r → r.executed ≡ 0
    → AreTurns o number r t first before → ShelvesStay o before now → report.executed ≡ t.executed
    → replies_in report ≡ replies_of (seen_in o before t) → IsLeft o first now subject context report
leaves o first before now subject context number r t report sizes kinds start none turns stay executed replies shelf what stood =
    let left = left_turns o first subject context shelf what number before r t sizes kinds start none stood turns in (
      left.what,
      stay shelf left.what left.stands,
      left.bytes_are (replies_from [] [])
          ∙ ap (λ (x : Replies). left_after number subject context x shelf (bytes_on what)) (none_more (replies_of (seen_in o before t)) ∙ sym replies)
          ∙ ap (λ (n : ℕ). left_after n subject context (replies_in report) shelf (bytes_on what)) (sym (executed ∙ left.executed)),
    )

-- ---- on a machine

-- a number in place of a slot changes no bytes
pub same_bytes : (s : Stocks) (shelf : ℕ) → bytes_on (standing_on s shelf) ≡ shelf_bytes s shelf
same_bytes s shelf = of (stock_of s shelf).shelf where
  of : (what : Option Shelved) → bytes_on (option_map (renumbered shelf) what) ≡ bytes_on what
  of None = refl
  of (Some x) = refl

-- so what a store of these shelves has there is what the machine has
pub on_machine : (old new : Stocks) (s : Subject) (context : List ℕ) (r : Report)
    → ((shelf : ℕ) (what : Option Shelved) → what ≡ standing_on old shelf → (now : Option Shelved) × (now ≡ standing_on new shelf)
    × (bytes_on now ≡ left_in s context r shelf (bytes_on what)))
    → AreLeft old new s context r
on_machine old new s context r left shelf =
    let is = left shelf (standing_on old shelf) refl in
    sym (ap bytes_on is.1 ∙ same_bytes new shelf) ∙ is.2 ∙ ap (left_in s context r shelf) (same_bytes old shelf)
