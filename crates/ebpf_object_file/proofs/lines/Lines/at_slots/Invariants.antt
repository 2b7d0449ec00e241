use Rattle.ebpf_object_file.proofs.Slots.{AreCarried}
use Rattle.ebpf_object_file.proofs.lines.Lines.at_slots.Given as goal

abbrev pub invariant-loop-slot : goal.invariant-loop-slot
invariant-loop-slot l = AreCarried l.self.size l.self.records.now l.from l.slot l.lines
