use Rattle.std.proofs.Common.{not, sym, ap}
use Rattle.job_list.specs.JobLists.{job_of}
use Rattle.worker_pool.proofs.Searching.{first_passes, passed_over}
use Rattle.worker_pool.proofs.admission.without_context.Goals as goal

pub returns-then-not-has_context : goal.returns-then-not-has_context
returns-then-not-has_context g c = sym (first_passes _ (g.S.JobSource.listed c.args.jobs.now) c.fitting.number c.fitting.invariant.before (job_of c.at.result) c.at.ensures (ap not (sym c.if-not-has_context.ensures)))

pub fitting-preserved : goal.fitting-preserved
fitting-preserved g c = record { before = passed_over _ (g.S.JobSource.listed c.args.jobs.now) c.fitting.number c.fitting.invariant.before (job_of c.at.result) c.at.ensures (ap not (sym c.if-not-has_context.ensures)) }
