use Rattle.std.proofs.Common.{◌≤◌}
use Rattle.ebpf_unroll.proofs.walk.visits_to.Given as goal

abbrev pub invariant-loop-visit : goal.invariant-loop-visit
invariant-loop-visit l = l.count ≤ l.visit
