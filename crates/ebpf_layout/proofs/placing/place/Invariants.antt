use Rattle.std.proofs.Common.{◌≡◌, ◌≤◌, ℕ, length, false}
use Rattle.ebpf_layout.specs.Search.{is_done, mark_at, left}
use Rattle.ebpf_layout.specs.Placing.{is_left, GoesNext, IsPlacing}
use Rattle.ebpf_layout.proofs.placing.place.Given as goal

abbrev pub invariant-loop-slot : goal.invariant-loop-slot
invariant-loop-slot l = record {
  placing : IsPlacing l.program l.order.marks.items l.order.slots.items;
  left : is_done (mark_at l.order.marks.items 0) ≡ false;
  inside : l.top ≤ length l.program;
  above : (k : ℕ) → l.top ≤ k → is_left l.found.marks.items l.order.marks.items k ≡ false;
  next : GoesNext l.program l.found.marks.items l.order.marks.items l.order.slots.items l.slot;
}

abbrev pub decreases-loop-slot : goal.decreases-loop-slot
decreases-loop-slot l = left l.order.marks.items
