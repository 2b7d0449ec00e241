use Rattle.std.proofs.Common.{◌≡◌, ◌≤◌, ◌+◌, ◌-◌, ◌*◌, ◌^◌, length}
use Rattle.ebpf_report.specs.Stats.{steps_in}
use Rattle.ebpf_report.proofs.outcome_stats.steps_in.Given as goal

abbrev pub invariant-loop-report : goal.invariant-loop-report
invariant-loop-report l = record {
  len : length l.left ≡ length l.reports - l._report;
  summed : l.steps + steps_in l.left ≡ steps_in l.reports;
  few : l.steps ≤ l._report * 2 ^ 64;
}
