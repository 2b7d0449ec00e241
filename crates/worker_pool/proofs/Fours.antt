-- What one of four jobs that went together was answered.
use Rattle.std.proofs.Common.{◌≡◌, ◌++◌, ◌∷◌, ℕ, List, [], ap, subst, ◌∙◌}
use Rattle.std.proofs.lemmas.List.{append-nil}
use Rattle.ebpf_fours.specs.Beginning.{IsAtStart}
use Rattle.ebpf_fours.proofs.Beginning.{report_on}
use Rattle.ebpf_machine.specs.declared.report.Report.{Report}
use Rattle.ebpf_machine.specs.FourRuns.{HasGoneOn}
use Rattle.ebpf_machine.specs.RunState.{RunState}
use Rattle.ebpf_machine.specs.Store.{Store}
use Rattle.ebpf_machine.specs.Whole.{IsReportOf}
use Rattle.ebpf_verify.specs.Subject.{Subject}
use Rattle.job_list.specs.declared.jobs.Job.{Job}
use Rattle.worker_pool.specs.declared.hands.Tools.{Tools}
use Rattle.worker_pool.specs.Fours.{IsOn}
use Rattle.worker_pool.specs.Going.{GoesBy, IsAnswered}
use Rattle.worker_pool.proofs.Answering.{goes_from}

-- a run that went on with others is of its program
pub program_on : {S H : Type 0} {o : Store S H} {subject : Subject} {context : List ℕ} {r t : RunState H} → IsAtStart subject context r
    → HasGoneOn o r t → t.subject ≡ subject
program_on {H = H} at gone = gone.same.0 ∙ ap (λ (x : RunState H). x.subject) at.first

pub one_answered : {L S H : Type 0} {o : Store S H} {programs : List Subject} {jobs : List Job} {number : ℕ} {subject : Subject} {context : List ℕ}
    {r t : RunState H} {report : Report} {before begun after : Tools L} {old new : List Report}
    → IsOn programs jobs number subject context → IsAtStart subject (context ++ []) r → HasGoneOn o r t → begun ≡ before
    → IsReportOf t.subject t.context report → new ≡ old ++ report ∷ [] → GoesBy begun report.answers after
    → IsAnswered programs jobs number before after old new
one_answered {subject} {context} {report} on at gone same made kept goes = record {
  made = report;
  good = record {
    job = on.job;
    job_is = on.job_is;
    subject = subject;
    subject_is = on.subject_is;
    report = subst (λ (xs : List ℕ). IsReportOf subject xs report) (append-nil context ∙ on.context_is) (report_on at gone made);
  };
  kept = kept;
  goes = goes_from same report.answers goes;
}
