-- Which answers to a run are legal, by where the answered slot is and by what the run wants, and what it is answered by one.
use Rattle.std.proofs.Common.{◌≡◌, ℕ, Bool, true, false, cond, not, List, [], ◌∷◌, ◌++◌, append-nil, filter, Option, Some, None, refl, sym, ap, ◌∙◌}
use Rattle.std.specs.Prelude.{option_map, slice_get, ◌==◌, ◌&&◌}
use Rattle.std.proofs.lemmas.Bool.{eq-eqb, eqb-true, false_from_ne_true}
use Rattle.std.proofs.lemmas.List.Elements.{filter-append}
use Rattle.ebpf_insn.specs.Faults.{first_of}
use Rattle.ebpf_machine.specs.World.{World, Running, Going, is_home, is_in, ledger_of}
use Rattle.ebpf_machine.specs.declared.report.Reply.{Reply}
use Rattle.ebpf_machine.specs.declared.report.Reply.TheVariants as reply
use Rattle.ebpf_machine.specs.Alone.{Replies}
use Rattle.ebpf_machine.specs.Replies.{replies_of}
use Rattle.ebpf_machine.specs.Events.{SlotNotHome, SlotOfAnotherKind, AnswerUnasked, AnswerMissing, Asking, Unasked, OfKind, AtShelf, is_asked}
use Rattle.ebpf_machine.specs.Events.{is_answer, is_away, is_of_another_kind, answer_fault, asking_of}
use Rattle.ebpf_machine.specs.View as view
use Rattle.ebpf_machine.specs.View.{RunView, CallResult, view_of, stepped, reply_in}
use Rattle.ebpf_machine.specs.Step.{result_of, served_in, asking_in, wanted}
use Rattle.ebpf_machine.specs.Sound.{AreSized, IsSound, IsOwned}
use Rattle.ebpf_machine.proofs.World.Asking.{Asks, ForNothing, ForObject, ForShelf, asks_of, asking_seen}
use Rattle.ebpf_machine.proofs.World.Steps.{next_of}
use Rattle.ebpf_machine.proofs.World.Execs.{sized_in}
use Rattle.ebpf_machine.proofs.World.Owners.{kind_in-ledger}
use Rattle.ebpf_machine.proofs.World.Replies.{heard_by_swap, replies_kept, replies_added, replies_swapped}
use Rattle.ebpf_machine.specs.declared.answer.Answer.{Answer}
use Rattle.ebpf_machine.specs.declared.answer.Answer.TheVariants.{Absent, Null, Slot}
use Rattle.ebpf_core.specs.declared.fault.ApplyCode.TheVariants as apply
use Rattle.ebpf_core.specs.declared.place.Place.{Place}
use Rattle.ebpf_core.specs.declared.place.Place.TheVariants.{Home, Held, Shelved}
use Rattle.ebpf_core.specs.Faults.{code_of}
use Rattle.ebpf_core.specs.Isolation.{is_to_new, reply_by}
use Rattle.ebpf_core.specs.Places.{Places, place_at}
use Rattle.ebpf_core.specs.Stepping.{slot_code, code_by}

-- ---- what a sound run asks for: an object of this kind, or none, and never one of a kind that there isn't

abbrev pub asked_as : Option ℕ → Asking
asked_as None = Unasked
asked_as (Some kind) = OfKind kind

-- what is on a shelf is no answer of an event
same_fault : (w : World) (v : RunView) (answer : Answer) → Asks v
    → answer_fault w (asking_in v) answer ≡ answer_fault w (asked_as (wanted (asking_in v))) answer
same_fault w v answer (ForNothing unasked) = ap (λ (a : Asking). answer_fault w a answer) (unasked ∙ ap (λ (a : Asking). asked_as (wanted a)) (sym unasked))
same_fault w v answer (ForObject kind asked new) = ap (λ (a : Asking). answer_fault w a answer) (asked ∙ ap (λ (a : Asking). asked_as (wanted a)) (sym asked))
same_fault w v answer (ForShelf shelf asked new) = ap (λ (a : Asking). answer_fault w a answer) asked ∙ unasked answer
    ∙ ap (λ (a : Asking). answer_fault w (asked_as (wanted a)) answer) (sym asked) where
      unasked : (answer : Answer) → answer_fault w (AtShelf shelf) answer ≡ answer_fault w Unasked answer
      unasked Absent = refl
      unasked Null = refl
      unasked (Slot slot) = refl

pub asks_as : (w : World) (v : RunView) (answer : Answer) → IsSound v → AreSized v → v.status ≡ Going
    → answer_fault w (asking_in v) answer ≡ answer_fault w (asked_as (wanted (asking_in v))) answer
asks_as w v answer sound sized going = same_fault w v answer (asks_of v (next_of v sound sized going))

-- ---- why an answer is not legal

-- where a slot is kept says whether it is home, and as one of which kind
abbrev pub IsKeptIn : World → ℕ → Option Place → Type 0
IsKeptIn w slot (Some (Home o)) = (is_home w slot ≡ true) × (is_in slot (ledger_of w o.kind) ≡ true)
IsKeptIn w slot _ = is_home w slot ≡ false

-- so it does of the slot that is answered
abbrev pub AnswersFrom : World → Places → Answer → Type 0
AnswersFrom w places (Slot slot) = IsKeptIn w slot (place_at places slot)
AnswersFrom w places _ = Unit {0}

-- a slot is in one ledger
in_which : (w : World) (slot a b : ℕ) → IsOwned w → is_in slot (ledger_of w a) ≡ true → is_in slot (ledger_of w b) ≡ (a == b)
in_which w slot a b owned here = by (is_in slot (ledger_of w b)) refl where
  by : (t : Bool) → is_in slot (ledger_of w b) ≡ t → t ≡ (a == b)
  by true there = sym (eq-eqb a b (sym (kind_in-ledger w a slot owned here) ∙ kind_in-ledger w b slot owned there))
  by false there = sym (false_from_ne_true (a == b) (λ same. other same)) where
    other : (a == b) ≡ true → ⊥
    other same = let too = ap (λ (k : ℕ). is_in slot (ledger_of w k)) (eqb-true a b same) in absurd (cc)

slot_fault : (w : World) (slot : ℕ) (place : Option Place) (wants : Option ℕ) → IsOwned w → IsKeptIn w slot place
    → option_map code_of (answer_fault w (asked_as wants) (Slot slot)) ≡ slot_code place wants
slot_fault w slot None wants owned kept = rw kept refl
slot_fault w slot (Some (Held run at)) wants owned kept = rw kept refl
slot_fault w slot (Some (Shelved shelf)) wants owned kept = rw kept refl
slot_fault w slot (Some (Home o)) None owned kept = let home = kept.0 in rw home refl
slot_fault w slot (Some (Home o)) (Some kind) owned kept = let home = kept.0 in let which = in_which w slot o.kind kind owned kept.1 in
    rw (home, which) (by (o.kind == kind)) where
      by : (t : Bool)
          → option_map code_of (first_of ((false, SlotNotHome) ∷ (not t, SlotOfAnotherKind) ∷ (false, AnswerUnasked) ∷ (false, AnswerMissing) ∷ []))
          ≡ cond t None (Some apply.SlotOfAnotherKind)
      by true = refl
      by false = refl

code_is : (w : World) (places : Places) (answer : Answer) (wants : Option ℕ) → IsOwned w → AnswersFrom w places answer
    → option_map code_of (answer_fault w (asked_as wants) answer) ≡ code_by places answer wants
code_is w places Absent None owned from = refl
code_is w places Absent (Some kind) owned from = refl
code_is w places Null None owned from = refl
code_is w places Null (Some kind) owned from = refl
code_is w places (Slot slot) wants owned from = slot_fault w slot (place_at places slot) wants owned from

-- so it is, for a run of the world
pub code_at : (w : World) (k : ℕ) (run : Running) (places : Places) (answer : Answer) → IsOwned w → AnswersFrom w places answer
    → slice_get w.runs k ≡ Some run → IsSound (view_of w k run) → run.status ≡ Going
    → option_map code_of (answer_fault w (asking_of w run) answer) ≡ code_by places answer (wanted (asking_in (view_of w k run)))
code_at w k run places answer owned from there sound going =
    let v = view_of w k run in
    ap (λ (a : Asking). option_map code_of (answer_fault w a answer)) (asking_seen w k run owned there)
    ∙ ap (option_map code_of) (asks_as w v answer sound (sized_in w k run owned there) going)
    ∙ code_is w places answer (wanted (asking_in v)) owned from

-- ---- what a legal answer gives

-- there is an answer just where one is asked for
asked_fits : (w : World) (asked : Asking) (answer : Answer) → answer_fault w asked answer ≡ None → is_asked asked ≡ is_answer answer
asked_fits w asked answer fine = by (is_away w answer) (is_of_another_kind w asked answer) (is_asked asked) (is_answer answer) fine where
  by : (a b asks answers : Bool)
      → first_of ((a, SlotNotHome) ∷ (b, SlotOfAnotherKind) ∷ (not asks && answers, AnswerUnasked) ∷ (asks && not answers, AnswerMissing) ∷ []) ≡ None
      → asks ≡ answers
  by true b asks answers fine = absurd (cc)
  by false true asks answers fine = absurd (cc)
  by false false true true fine = refl
  by false false false false fine = refl
  by false false true false fine = absurd (cc)
  by false false false true fine = absurd (cc)

-- calls of new are answered just what a legal answer brings
pub told_next : (w : World) (v : RunView) (answer : Answer) → IsSound v → AreSized v → v.status ≡ Going → answer_fault w (asking_in v) answer ≡ None
    → filter is_to_new (stepped (result_of (served_in w (asking_in v) answer)) v).replies ≡ filter is_to_new v.replies ++ reply_by answer
told_next w v answer sound sized going fine = by (asks_of v (next_of v sound sized going)) answer (asked_fits w (asking_in v) answer fine) where
  more : (told : List Reply) (answers : Replies) (one : Reply) → filter is_to_new (one ∷ []) ≡ told
      → answers.answers ≡ v.replies ++ one ∷ [] → filter is_to_new answers.answers ≡ filter is_to_new v.replies ++ told
  more told answers one is e =
      ap (filter is_to_new) e ∙ filter-append is_to_new v.replies (one ∷ []) ∙ ap (λ (rs : List Reply). filter is_to_new v.replies ++ rs) is

  to_swap : (result : CallResult) → filter is_to_new (reply_in (heard_by_swap result) ∷ []) ≡ []
  to_swap view.Null = refl
  to_swap view.Granted = refl
  to_swap view.Empty = refl
  to_swap (view.Shelved bytes) = refl

  by : Asks v → (given : Answer) → is_asked (asking_in v) ≡ is_answer given
      → filter is_to_new (stepped (result_of (served_in w (asking_in v) given)) v).replies ≡ filter is_to_new v.replies ++ reply_by given
  by (ForNothing unasked) Absent fits =
      ap (λ (rs : Replies). filter is_to_new rs.answers) (replies_kept v _ going unasked) ∙ sym (append-nil (filter is_to_new v.replies))
  by (ForNothing unasked) Null fits = let bad = ap is_asked unasked in absurd (cc)
  by (ForNothing unasked) (Slot slot) fits = let bad = ap is_asked unasked in absurd (cc)
  by (ForObject kind asked new) Absent fits = let bad = ap is_asked asked in absurd (cc)
  by (ForObject kind asked new) Null fits =
      rw asked (more (reply.Null ∷ []) (replies_of (stepped (result_of (served_in w (OfKind kind) Null)) v)) reply.Null refl
      (ap (λ (rs : Replies). rs.answers) (replies_added v _ kind going new)))
  by (ForObject kind asked new) (Slot slot) fits =
      rw asked (more (reply.Granted ∷ []) (replies_of (stepped (result_of (served_in w (OfKind kind) (Slot slot))) v)) reply.Granted refl
      (ap (λ (rs : Replies). rs.answers) (replies_added v _ kind going new)))
  by (ForShelf shelf asked new) Absent fits =
      let result = result_of (served_in w (asking_in v) Absent) in
      more [] (replies_of (stepped result v)) (reply_in (heard_by_swap result)) (to_swap result)
      (ap (λ (rs : Replies). rs.answers) (replies_swapped v result shelf going new))
  by (ForShelf shelf asked new) Null fits = let bad = ap is_asked asked in absurd (cc)
  by (ForShelf shelf asked new) (Slot slot) fits = let bad = ap is_asked asked in absurd (cc)
