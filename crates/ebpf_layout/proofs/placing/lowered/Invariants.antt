use Rattle.std.proofs.Common.{◌≡◌, ◌≤◌, ℕ, false}
use Rattle.ebpf_layout.specs.Placing.{is_left}
use Rattle.ebpf_layout.proofs.placing.lowered.Given as goal

abbrev pub invariant-loop-end : goal.invariant-loop-end
invariant-loop-end l = record {
  inside : l.end ≤ l.top;
  above : (k : ℕ) → l.end ≤ k → is_left l.found.marks.items l.order.marks.items k ≡ false;
}

abbrev pub decreases-loop-end : goal.decreases-loop-end
decreases-loop-end l = l.end
