use Rattle.ebpf_link.specs.Written.{IsSoFar}
use Rattle.ebpf_link.proofs.link.link.Given as goal

abbrev pub invariant-loop-slot : goal.invariant-loop-slot
invariant-loop-slot l = record {
  so_far : IsSoFar l.fn.program l.fn.offsets l.fn.declared l.fn.word l.slot l.writer.code.items l.writer.count;
}
