use Rattle.ebpf_layout.proofs.Reaching.{AreFine}
use Rattle.ebpf_layout.proofs.refusal.check_edges.Given as goal

abbrev pub invariant-loop-slot : goal.invariant-loop-slot
invariant-loop-slot l = AreFine l.program l.order.marks.items l.slot
