use Rattle.ebpf_object_file.specs.DataNames.{AreWholeBelow}
use Rattle.ebpf_object_file.proofs.data_names.whole_symbols.Given as goal

abbrev pub invariant-loop-number : goal.invariant-loop-number
invariant-loop-number l = AreWholeBelow l.file l.symbols l.number l.whole.items
