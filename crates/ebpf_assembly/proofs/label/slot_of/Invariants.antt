use Rattle.std.proofs.Common.{◌≡◌, drop}
use Rattle.ebpf_assembly.specs.Labels.{names_of}
use Rattle.ebpf_assembly.specs.Names.{slot_of}
use Rattle.ebpf_assembly.proofs.label.slot_of.Given as goal

abbrev pub invariant-loop-label : goal.invariant-loop-label
invariant-loop-label l = slot_of l.name (names_of (drop l.label-index l.labels)) ≡ slot_of l.name (names_of l.labels)
