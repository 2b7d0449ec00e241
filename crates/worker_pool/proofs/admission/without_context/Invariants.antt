use Rattle.std.proofs.Common.{◌≤◌, not}
use Rattle.std.specs.List.{position_or_len}
use Rattle.worker_pool.specs.Admission.{has_context}
use Rattle.worker_pool.proofs.admission.without_context.Given as goal

abbrev pub invariant-fitting : goal.invariant-fitting
invariant-fitting g l = record {
  before : l.number ≤ position_or_len (λ job. not (has_context l.fn.programs job)) (g.S.JobSource.listed l.fn.jobs);
}
