-- The report of a run within a limit.
use Rattle.std.proofs.Common.{◌≡◌, ◌≤◌, ℕ, ◌+◌, Option, Some, None, length, refl, sym, ap, ◌∙◌, subst, arith}
use Rattle.std.specs.Prelude.{List, IfSome, IfNone}
use Rattle.ebpf_insn.specs.Program.{instructions}
use Rattle.ebpf_verify.specs.Subject.{Subject}
use Rattle.ebpf_machine.specs.declared.report.Report.{Report}
use Rattle.ebpf_machine.specs.Alone.{Replies, alone_after}
use Rattle.ebpf_machine.specs.Replies.{replies_in}
use Rattle.ebpf_machine.specs.RunState.{RunState, first_state_of, status_of}
use Rattle.ebpf_machine.specs.Step.{IsGivenUp, seen_in}
use Rattle.ebpf_machine.specs.Store.{Store}
use Rattle.ebpf_machine.specs.Turns.{AreTurnsWithin, IsEnded}
use Rattle.ebpf_machine.specs.View.{view_in}
use Rattle.ebpf_machine.specs.Whole.{IsReportOf}
use Rattle.ebpf_machine.proofs.WholeRuns.Ends.{report_of, report_with}
use Rattle.ebpf_machine.proofs.WholeRuns.Told.{IsUnderWay}
use Rattle.ebpf_host.specs.Reports.{IsCutOff, IsReportWithin}

module _ {S H : Type 0} (o : Store S H) (first now after : S) (subject : Subject) (context : List ℕ) (limit : ℕ) (r t : RunState H) (report : Report) where
  cut_off : t.exit ≡ None → IsUnderWay o first now subject context t → report.executed ≡ t.executed → report.output ≡ t.output
      → IsGivenUp (seen_in o now t) report → IsCutOff subject context report
  cut_off going was executed output up = record {
    run = seen_in o now t;
    alone =
        (λ i. view_in (alone_after (executed i) (sym was.subject_is i) (sym was.context_is i) (sym up.replies_are i)).world 0)
        ∙ up.alone;
    going = ap status_of going;
    output = sym output;
    told = (ap (λ (p : Replies). p.answers) up.replies_are, ap (λ (p : Replies). p.taken) up.replies_are);
    peak = (λ i. (alone_after (executed i) (sym was.subject_is i) (sym was.context_is i) (replies_in report)).peak) ∙ up.peak_is;
  }

  pub within : r ≡ first_state_of subject context → IsUnderWay o first now subject context t → AreTurnsWithin o limit r t first now
      → IsEnded o t report now after → IsReportWithin subject context limit report
  within start was turns ended = record {
    exited = exited t.exit refl;
    cut_off = cut t.exit refl turns.all ended.given_up;
    within = omega (arith, executed, counted, few);
    bounded = let here = ended.bounded in let same = ap (λ (s : Subject). length (instructions s.program)) was.subject_is in omega (arith, here, same);
    declared = let here = ended.declared in let same = ap (λ (s : Subject). s.decl.held) was.subject_is in omega (arith, here, same);
  }
    where
      executed : report.executed ≡ t.executed
      executed = ended.executed

      counted : t.executed ≡ 0 + turns.number
      counted = turns.counted ∙ ap (λ (s : RunState H). s.executed + turns.number) start

      few : turns.number ≤ limit
      few = turns.within

      exited : (x : Option ℕ) → t.exit ≡ x → IfSome report.exit (λ exit. IsReportOf subject context report)
      exited None e = subst (λ (y : Option ℕ). IfSome y (λ exit. IsReportOf subject context report)) (sym (ended.exit ∙ e)) tt
      exited (Some n) e = subst (λ (y : Option ℕ). IfSome y (λ exit. IsReportOf subject context report)) (sym (ended.exit ∙ e))
          (report_with _ _ _ _ report was.subject_is was.context_is (report_of o now after t n report e was.sound was.alone was.few ended))

      cut : (x : Option ℕ) → t.exit ≡ x → IfNone t.exit (turns.number ≡ limit) → IfNone t.exit (IsGivenUp (seen_in o now t) report)
          → IfNone report.exit ((report.executed ≡ limit) × IsCutOff subject context report)
      cut (Some n) e all up = subst (λ (y : Option ℕ). IfNone y ((report.executed ≡ limit) × IsCutOff subject context report)) (sym (ended.exit ∙ e)) tt
      cut None e all up = subst (λ (y : Option ℕ). IfNone y ((report.executed ≡ limit) × IsCutOff subject context report)) (sym (ended.exit ∙ e)) (
        (let here : turns.number ≡ limit = subst (λ (y : Option ℕ). IfNone y (turns.number ≡ limit)) e all in omega (arith, executed, counted, here)),
        cut_off e was executed ended.output (subst (λ (y : Option ℕ). IfNone y (IsGivenUp (seen_in o now t) report)) e up),
      )
