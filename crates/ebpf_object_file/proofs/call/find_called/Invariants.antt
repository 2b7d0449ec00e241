use Rattle.ebpf_object_file.specs.First.{NoneBelow}
use Rattle.ebpf_object_file.specs.Symbol.{symbol_of}
use Rattle.ebpf_object_file.specs.Call.{is_called}
use Rattle.ebpf_object_file.proofs.call.find_called.Given as goal

abbrev pub invariant-loop-index : goal.invariant-loop-index
invariant-loop-index l = NoneBelow (λ k. is_called l.sections l.section l.at (symbol_of l.table k)) l.index
