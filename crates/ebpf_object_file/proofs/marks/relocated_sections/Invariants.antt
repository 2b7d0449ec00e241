use Rattle.ebpf_object_file.specs.Reading.{AreMarkedBelow}
use Rattle.ebpf_object_file.proofs.marks.relocated_sections.Given as goal

abbrev pub invariant-loop-index : goal.invariant-loop-index
invariant-loop-index l = AreMarkedBelow l.file l.index l.marks.items
