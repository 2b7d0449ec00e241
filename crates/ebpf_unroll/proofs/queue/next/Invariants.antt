use Rattle.std.proofs.Common.{◌<◌, IfSome, length}
use Rattle.ebpf_unroll.proofs.queue.next.Given as goal

abbrev pub invariant-loop-slot : goal.invariant-loop-slot
invariant-loop-slot l = IfSome l.found (λ found. found.1 < length l.pending)
