use Rattle.ebpf_object_file.specs.First.{NoneBelow}
use Rattle.ebpf_object_file.specs.Call.{is_call}
use Rattle.ebpf_object_file.proofs.call.find_call.Given as goal

abbrev pub invariant-loop-slot : goal.invariant-loop-slot
invariant-loop-slot l = NoneBelow (is_call l.code) l.slot
