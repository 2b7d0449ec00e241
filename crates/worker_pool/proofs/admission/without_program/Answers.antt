use Rattle.std.proofs.Common.{not, sym, ap}
use Rattle.job_list.specs.JobLists.{job_of}
use Rattle.worker_pool.proofs.Searching.{first_passes, passed_over}
use Rattle.worker_pool.proofs.admission.without_program.Goals as goal

pub returns-then-not-has_program : goal.returns-then-not-has_program
returns-then-not-has_program g c = sym (first_passes _ (g.S.JobSource.listed c.args.jobs.now) c.known.number c.known.invariant.before (job_of c.at.result) c.at.ensures (ap not (sym c.if-not-has_program.ensures)))

pub known-preserved : goal.known-preserved
known-preserved g c = record { before = passed_over _ (g.S.JobSource.listed c.args.jobs.now) c.known.number c.known.invariant.before (job_of c.at.result) c.at.ensures (ap not (sym c.if-not-has_program.ensures)) }
