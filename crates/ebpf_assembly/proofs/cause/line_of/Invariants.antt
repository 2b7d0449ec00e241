use Rattle.std.proofs.Common.{◌≡◌, ◌≤◌, length}
use Rattle.ebpf_assembly.proofs.cause.line_of.Given as goal

abbrev pub invariant-loop-line : goal.invariant-loop-line
invariant-loop-line l = (l.passed ≡ length l.yielded) × (l.passed ≤ l.before)
