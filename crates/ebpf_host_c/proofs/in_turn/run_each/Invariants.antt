use Rattle.std.proofs.Common.{◌≡◌, ◌≤◌, ℕ, length, slice_get}
use Rattle.ebpf_host_c.specs.InTurn.{AreRunFrom}
use Rattle.ebpf_host_c.proofs.in_turn.run_each.Given as goal

abbrev pub invariant-runs : goal.invariant-runs
invariant-runs g l = record {
  ran : AreRunFrom g.O.Objects.store l.program l.contexts l.limit l.from l.number l.initial.reports l.reports (l.initial.objects, l.initial.output)
      (l.objects, l.output);
  outs : (k : ℕ) → g.O.Objects.store.outs l.objects k ≡ g.O.Objects.store.outs l.initial.objects k;
  unmade : (k : ℕ) → l.number ≤ k → slice_get l.reports k ≡ slice_get l.initial.reports k;
  all : length l.reports ≡ length l.initial.reports;
}
