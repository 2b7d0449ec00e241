use Rattle.std.proofs.Common.{◌≡◌, length}
use Rattle.ebpf_layout.specs.Writing.{IsWriting}
use Rattle.ebpf_layout.proofs.writer.write.Given as goal

abbrev pub invariant-loop-slot : goal.invariant-loop-slot
invariant-loop-slot l = record {
  written : IsWriting l.program l.order.slots.items l.writer.places.items l.writer.code.items l.writer.count;
  all : length l.writer.places.items ≡ l.slot-index;
}
