use Rattle.std.proofs.Common.{◌≡◌, ◌<◌, length, [], ◌∷◌, ◌++◌, refl, sym, ap, subst, ◌∙◌}
use Rattle.std.proofs.lemmas.Option.{get_or_from_slice_get, slice_get_read}
use Rattle.ebpf_verify.specs.Subject.{Subject}
use Rattle.job_list.specs.declared.jobs.Job.{Job}
use Rattle.job_list.specs.JobLists.{job_of}
use Rattle.worker_pool.specs.Numbering.{Numbered}
use Rattle.ebpf_machine.specs.declared.report.Report.{Report}
use Rattle.ebpf_machine.specs.Whole.{IsReportOf}
use Rattle.worker_pool.specs.Working.{Answers}
use Rattle.worker_pool.proofs.Answering.{still_even, goes_from}
use Rattle.worker_pool.proofs.EachKind.{evens}
use Rattle.worker_pool.proofs.bundle.answer.Goals as goal

pub returns-clause-even : goal.returns-clause-even
returns-clause-even g c =
    evens c.begin.new.store.stocks c.run_in_place.new.objects.stocks c.run_in_place.ensures.outs (still_even c.begin.ensures c.requires.even)

pub returns-clause-answered : goal.returns-clause-answered
returns-clause-answered g c =
    record { made = made; good = answered; kept = items; goes = goes_from c.begin.ensures made.answers c.in-Ok-run_in_place.ensures.goes }
  where
    made : Report
    made = c.in-Ok-run_in_place.ended

    n : Numbered
    n = record { job = c.args.number; report = made }

    items : c.push_reserved.new.self.items ≡ c.args.reports.now.items ++ made ∷ []
    items = c.push_reserved.ensures.items ∙ ap (λ (r : Report). c.args.reports.now.items ++ r ∷ []) c.of-report.ensures

    -- the job that is read is the one of the number
    job : Job
    job = job_of c.job-job.result

    inside : job.program < length c.args.shared.now.programs.now
    inside = subst (λ (j : Job). j.program < length c.args.shared.now.programs.now) (get_or_from_slice_get c.args.shared.now.jobs.now c.args.number job job c.job-job.ensures) (c.requires.ready.can c.args.number job c.requires.number).inside

    answered : Answers c.args.shared.now.programs.now c.args.shared.now.jobs.now n
    answered = record {
      job = job;
      job_is = c.job-job.ensures;
      subject = c.index-shared-job.result;
      subject_is = slice_get_read c.args.shared.now.programs.now _ job.program c.index-shared-job.result refl inside c.index-shared-job.is;
      report = subst (λ (v : Subject). IsReportOf v job.context c.in-Ok-run_in_place.ended) (sym c.index-shared-job.is) c.in-Ok-run_in_place.ensures.report;
    }
