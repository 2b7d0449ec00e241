-- What a worker answered, job by job and bundle by bundle.
use Rattle.std.proofs.Common.{◌≡◌, ◌+◌, ℕ, All, List, [], ◌∷◌, ◌++◌, length, refl, sym, ap, subst, ◌∙◌, arith, length-append}
use Rattle.std.proofs.lemmas.List.Elements.{All-nil, All-push}
use Rattle.ebpf_verify.specs.Subject.{Subject}
use Rattle.ebpf_machine.specs.declared.report.Reply.{Reply}
use Rattle.ebpf_machine.specs.declared.report.Report.{Report}
use Rattle.worker_pool.specs.declared.hands.Tools.{Tools}
use Rattle.job_list.specs.declared.jobs.Job.{Job}
use Rattle.worker_pool.specs.Numbering.{Numbered, numbered}
use Rattle.worker_pool.specs.EachKind.{IsEven}
use Rattle.worker_pool.specs.Fours.{AreFourAnswered}
use Rattle.worker_pool.specs.Going.{AreAnswered, GoesBy, HasAnsweredOn, IsAnswered, IsUnanswered, none_answered}
use Rattle.worker_pool.specs.Working.{Answers}
use Rattle.worker_pool.proofs.NumberingLemmas.{numbered_more}
use Rattle.worker_pool.proofs.Sums.{answered_more, answered_same}

-- ---- a job that is begun leaves the tools as they were

module _ {L : Type 0} {before begun : Tools L} (same : begun ≡ before) where
  pub still_even : IsEven before.hands → IsEven begun.hands
  still_even even = subst (λ (t : Tools L). IsEven t.hands) (sym same) even

  pub still_none : GoesBy before [] begun
  still_none = subst (λ (t : Tools L). GoesBy before [] t) (sym same) (none_answered before)

  pub goes_from : (told : List Reply) {after : Tools L} → GoesBy begun told after → GoesBy before told after
  goes_from told {after} goes = subst (λ (t : Tools L). GoesBy t told after) same goes

-- ---- more jobs in a row

module _ {L : Type 0} (programs : List Subject) (jobs : List Job) (job : ℕ) (first : Tools L) where
  pub answered_none : (reports : List Report) → reports ≡ [] → AreAnswered programs jobs job first first reports
  answered_none reports none = subst (AreAnswered programs jobs job first first) (sym none) (record { good = All-nil (Answers programs jobs); goes = none_answered first })

  module _ (old new : Tools L) (before after : List Report) (was : AreAnswered programs jobs job first old before) where
    pub answered_next : (number : ℕ) → IsAnswered programs jobs number old new before after → number ≡ job + length before
        → AreAnswered programs jobs job first new after
    answered_next number now is =
        let one : Numbered = record { job = number; report = now.made } in
        let same : record { job = job + length before; report = now.made } ≡ one = ap (λ (k : ℕ). record { job = k; report = now.made }) (sym is) in
        let all : numbered job after ≡ numbered job before ++ one ∷ [] =
        ap (numbered job) now.kept ∙ numbered_more job before (now.made ∷ []) ∙ ap (λ (n : Numbered). numbered job before ++ n ∷ []) same
        in record {
          good = subst (All (Answers programs jobs)) (sym all) (All-push (Answers programs jobs) (numbered job before) one was.good now.good);
          goes = answered_more _ _ _ (numbered job before) _ one all was.goes now.goes;
        }

    pub answered_failed : IsUnanswered old new before after → AreAnswered programs jobs job first new after
    answered_failed now = subst (AreAnswered programs jobs job first new) (sym now.0) (record {
      good = was.good;
      goes = answered_same _ _ _ (numbered job before) _ refl was.goes now.1;
    })

module _ {L : Type 0} {programs : List Subject} {jobs : List Job} {number : ℕ} {before after : Tools L} {old new : List Report} where
  -- a report more
  pub more : IsAnswered programs jobs number before after old new → length new ≡ length old + 1
  more now = ap (λ (l : List Report). length l) now.kept ∙ length-append old (now.made ∷ [])

module _ {L : Type 0} {programs : List Subject} {jobs : List Job} {number : ℕ} {before after : Tools L} {old new : List Report} where
  pub on_with_one : IsAnswered programs jobs number before after old new → HasAnsweredOn programs jobs number before after old new
  on_with_one now = λ first start is was. answered_next programs jobs first start before after old new was number now is

  pub on_with_none : IsUnanswered before after old new → HasAnsweredOn programs jobs number before after old new
  on_with_none now = λ first start is was. answered_failed programs jobs first start before after old new was now

  pub on_with_four : AreFourAnswered programs jobs number before after old new → HasAnsweredOn programs jobs number before after old new
  on_with_four now = λ first start is was.
      let one = answered_next programs jobs first start _ _ _ _ was number now.one is in
      let two = answered_next programs jobs first start _ _ _ _ one (number + 1) now.two (omega (arith, is, more now.one)) in
      let three = answered_next programs jobs first start _ _ _ _ two (number + 2) now.three (omega (arith, is, more now.one, more now.two)) in
      answered_next programs jobs first start _ _ _ _ three (number + 3) now.four (omega (arith, is, more now.one, more now.two, more now.three))

  pub many_with_four : AreFourAnswered programs jobs number before after old new → length new ≡ length old + 4
  many_with_four now = omega (arith, more now.one, more now.two, more now.three, more now.four)
