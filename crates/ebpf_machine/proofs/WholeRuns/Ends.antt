-- The end of a run that exited: its report, and how its store went.
use Rattle.std.proofs.Common.{◌≡◌, ℕ, ◌+◌, ◌≤◌, List, [], ◌++◌, length, Option, Some, sym, ◌∙◌, ap, subst, arith}
use Rattle.std.specs.Prelude.{IfSome}
use Rattle.std.proofs.lemmas.List.{append-nil}
use Rattle.ebpf_verify.specs.Subject.{Subject}
use Rattle.ebpf_machine.specs.declared.report.Reply.{Reply}
use Rattle.ebpf_machine.specs.declared.report.Report.{Report}
use Rattle.ebpf_machine.specs.Alone.{Replies, outcome_alone, replies_from}
use Rattle.ebpf_machine.specs.Replies.{outcome_in_report, more_than, replies_in, replies_of}
use Rattle.ebpf_machine.specs.World.{Exited}
use Rattle.ebpf_machine.specs.View.{RunView}
use Rattle.ebpf_machine.specs.RunState.{RunState, status_of}
use Rattle.ebpf_machine.specs.Sound.{IsSound, IsAlone}
use Rattle.ebpf_machine.specs.Step.{seen_in}
use Rattle.ebpf_machine.specs.Store.{Store, held_of_kind}
use Rattle.ebpf_machine.specs.Turns.{IsEnded}
use Rattle.ebpf_machine.specs.Whole.{IsReportOf, told_alone}
use Rattle.ebpf_machine.proofs.World.Lone.{none_more, outcome_exited, told_exited}

-- the report of a run that exited with this number
pub report_of : {S H : Type 0} (o : Store S H) (s new : S) (t : RunState H) (n : ℕ) (r : Report) → t.exit ≡ Some n
    → IsSound (seen_in o s t) → IsAlone (seen_in o s t) → length t.replies ≤ t.executed → IsEnded o t r s new
    → IsReportOf t.subject t.context r
report_of o s new t n r exited sound alone few is = record {
  exit = n;
  exited = is.exit ∙ exited;
  same = same;
  told = subst (λ (rs : Replies). told_alone t.subject t.context rs ≡ rs) (sym replies) (told_exited v n sound alone ended);
  only = λ more.
      ap (λ (rs : Replies). outcome_alone t.subject t.context (more_than rs more)) replies
      ∙ outcome_exited v n sound alone ended more
      ∙ sym (outcome_exited v n sound alone ended (replies_from [] []))
      ∙ ap (outcome_alone t.subject t.context) (none_more (replies_of v) ∙ sym replies)
      ∙ same;
  few = omega (arith, few, is.executed, ap (λ (rs : List Reply). length rs) is.answers);
  bounded = is.bounded;
  declared = is.declared;
}
  where
    v : RunView
    v = seen_in o s t

    replies : replies_in r ≡ replies_of v
    replies = λ i. replies_from (is.answers i) (is.taken i)

    ended : v.status ≡ Exited n
    ended = ap status_of exited

    same : outcome_alone t.subject t.context (replies_in r) ≡ outcome_in_report n r
    same = subst (λ (e : Option ℕ). IfSome e (λ m. outcome_alone t.subject t.context (replies_in r) ≡ outcome_in_report m r)) exited is.alone

-- it is the report of the program and the context that it was started with
pub report_with : (s t : Subject) (context bytes : List ℕ) (r : Report) → t ≡ s → context ≡ bytes → IsReportOf t context r → IsReportOf s bytes r
report_with s t context bytes r same_subject same_context is = rw (← same_subject, ← same_context) is

-- ---- the store, once all that the run held is back

-- it went by the answers of the report
pub goes_last : {S H : Type 0} (o : Store S H) (first before now : S) (t : RunState H) (answers : List Reply)
    → o.goes first t.replies before → o.goes before [] now → answers ≡ t.replies → o.goes first answers now
goes_last o first before now t answers told back is =
    let all : t.replies ++ [] ≡ answers = append-nil t.replies ∙ sym is in
    subst (λ (rs : List Reply). o.goes first rs now) all (o.goes_on first before now t.replies [] told back)

pub outs_last : {S H : Type 0} (o : Store S H) (first before now : S) (t : RunState H) (k : ℕ) → o.outs before k ≡ o.outs first k + held_of_kind t.held k
    → o.outs now k + held_of_kind t.held k ≡ o.outs before k → o.outs now k ≡ o.outs first k
outs_last o first before now t k was back = omega (arith, was, back)
