use Rattle.std.proofs.Common.{◌≡◌, length}
use Rattle.ebpf_cover.proofs.Summing.{AreSumsTo}
use Rattle.ebpf_cover.proofs.cover.sum_up.Given as goal

abbrev pub invariant-summed : goal.invariant-summed
invariant-summed l = record {
  long : length l.all.items ≡ l.program;
  each : AreSumsTo l.fn.accepted l.fn.tallies l.all.items;
}
