use Rattle.ebpf_object_file.specs.First.{NoneBelow}
use Rattle.ebpf_object_file.specs.Symbol.{symbol_of}
use Rattle.ebpf_object_file.specs.Naming.{is_data_at}
use Rattle.ebpf_object_file.proofs.symbol_name.find_data.Given as goal

abbrev pub invariant-loop-index : goal.invariant-loop-index
invariant-loop-index l = NoneBelow (λ k. is_data_at l.section l.at (symbol_of l.table k)) l.index
