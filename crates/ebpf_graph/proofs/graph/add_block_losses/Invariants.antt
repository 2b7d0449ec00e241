use Rattle.std.proofs.Common.{◌≡◌, ◌++◌}
use Rattle.ebpf_graph.specs.Graph.{losses_below}
use Rattle.ebpf_graph.proofs.graph.add_block_losses.Given as goal

abbrev pub invariant-loop-slot : goal.invariant-loop-slot
invariant-loop-slot l = l.losses.items ≡ l.fn.losses.items ++ losses_below l.trace.flowed.now l.trace.entries.items l.slot
