use Rattle.std.proofs.Common.{◌≡◌, ◌≤◌, ◌-◌, ℕ, length, slice_get}
use Rattle.ebpf_host_c.specs.InTurn.{AreRun}
use Rattle.ebpf_host_c.proofs.by_fours.run_by_fours.Given as goal

abbrev pub invariant-fours : goal.invariant-fours
invariant-fours g l = record {
  ran : AreRun g.O.Objects.store l.fn.program l.fn.contexts l.fn.limit l.done l.reports (l.fn.objects, l.fn.output) (l.objects, l.output);
  outs : (k : ℕ) → g.O.Objects.store.outs l.objects k ≡ g.O.Objects.store.outs l.fn.objects k;
  unmade : (k : ℕ) → l.done ≤ k → slice_get l.reports k ≡ slice_get l.fn.reports k;
  all : length l.reports ≡ length l.fn.reports;
  most : l.done ≤ length l.reports;
}

abbrev pub decreases-fours : goal.decreases-fours
decreases-fours g l = length l.fn.reports - l.done
