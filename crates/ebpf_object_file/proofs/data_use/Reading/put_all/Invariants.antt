use Rattle.ebpf_object_file.specs.Reading.{ArePut}
use Rattle.ebpf_object_file.proofs.data_use.Reading.put_all.Given as goal

abbrev pub invariant-loop-number : goal.invariant-loop-number
invariant-loop-number l = ArePut l.self.functions.file.now l.self.functions.symbols.now l.self.function l.table l.number l.uses.items
