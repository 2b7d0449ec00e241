use Rattle.ebpf_unroll.specs.Written.{IsWritten}
use Rattle.ebpf_unroll.proofs.copies.copies_of.Given as goal

abbrev pub invariant-loop-k : goal.invariant-loop-k
invariant-loop-k l = IsWritten l.old l.writer.code.items l.writer.of.items l.writer.count
