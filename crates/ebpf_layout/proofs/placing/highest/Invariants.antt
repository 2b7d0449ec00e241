use Rattle.std.proofs.Common.{◌≡◌, ◌≤◌, ◌<◌, ℕ, length, false}
use Rattle.ebpf_layout.specs.Placing.{is_ready}
use Rattle.ebpf_layout.proofs.placing.highest.Given as goal

abbrev pub invariant-loop-slot : goal.invariant-loop-slot
invariant-loop-slot l = record {
  inside : l.slot ≤ length l.program;
  none : (k : ℕ) → l.slot ≤ k → k < length l.program → is_ready l.program l.found.marks.items l.order.marks.items k ≡ false;
}

abbrev pub decreases-loop-slot : goal.decreases-loop-slot
decreases-loop-slot l = l.slot
