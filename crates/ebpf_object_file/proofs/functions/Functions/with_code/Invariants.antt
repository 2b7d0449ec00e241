use Rattle.ebpf_object_file.specs.First.{NoneBelow}
use Rattle.ebpf_object_file.specs.Coded.{has_code}
use Rattle.ebpf_object_file.proofs.functions.Functions.with_code.Given as goal

abbrev pub invariant-loop-number : goal.invariant-loop-number
invariant-loop-number l = NoneBelow (has_code l.self l.code) l.number
