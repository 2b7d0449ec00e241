use Rattle.ebpf_object_file.specs.First.{NoneBelow}
use Rattle.ebpf_object_file.specs.Symbol.{function_from}
use Rattle.ebpf_object_file.proofs.symbol.next_function.Given as goal

abbrev pub invariant-loop-index : goal.invariant-loop-index
invariant-loop-index l = NoneBelow (function_from l.sections l.table l.from) l.index
