use Rattle.ebpf_object_file.specs.Laying.{IsLaidBelow}
use Rattle.ebpf_object_file.proofs.data_function.DataFunction.data.Given as goal

abbrev pub invariant-loop-slot : goal.invariant-loop-slot
invariant-loop-slot l = IsLaidBelow l.file l.self.uses.items l.slot l.laying l.offsets.items
