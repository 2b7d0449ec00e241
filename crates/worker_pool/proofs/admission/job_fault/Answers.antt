use Rattle.std.proofs.Common.{◌≡◌, None, refl, sym, ◌∙◌}
use Rattle.worker_pool.specs.Admission.{without_context}
use Rattle.worker_pool.proofs.Admitting.{none_without}
use Rattle.worker_pool.proofs.admission.job_fault.Goals as goal

pub returns-in_default : goal.returns-in_default
returns-in_default g c =
    let none : without_context c.args.programs.now (g.S.JobSource.listed c.args.jobs.now) ≡ None = sym c.without_context.ensures ∙ c.in_default.is in
    rw (none_without c.args.programs.now (g.S.JobSource.listed c.args.jobs.now) none, none) refl
