use Rattle.std.proofs.Common.{◌≤◌, not}
use Rattle.std.specs.List.{position_or_len}
use Rattle.worker_pool.specs.Admission.{has_program}
use Rattle.worker_pool.proofs.admission.without_program.Given as goal

abbrev pub invariant-known : goal.invariant-known
invariant-known g l = record {
  before : l.number ≤ position_or_len (λ job. not (has_program l.fn.programs job)) (g.S.JobSource.listed l.fn.jobs);
}
