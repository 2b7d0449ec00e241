use Rattle.std.proofs.Common.{ℕ, ◌<◌}
use Rattle.ebpf_link.specs.Right.{IsShownAt}
use Rattle.ebpf_link.proofs.right.is_shown.Given as goal

abbrev pub invariant-loop-slot : goal.invariant-loop-slot
invariant-loop-slot l = record {
  shown : (k : ℕ) → k < l.slot → IsShownAt l.fn.trace.flowed.now l.fn.word k;
}
