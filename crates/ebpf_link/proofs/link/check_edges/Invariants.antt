use Rattle.std.proofs.Common.{◌≡◌, None}
use Rattle.ebpf_insn.specs.Faults.{lowest}
use Rattle.ebpf_layout.specs.EdgeFaults.{edge_fault_at}
use Rattle.ebpf_link.proofs.link.check_edges.Given as goal

abbrev pub invariant-loop-slot : goal.invariant-loop-slot
invariant-loop-slot l = record {
  none : lowest (edge_fault_at l.fn.program) l.slot ≡ None;
}
