use Rattle.std.proofs.Common.{◌≡◌, ◌++◌, string_bytes}
use Rattle.ebpf_explain.specs.StackWords.{texts_below}
use Rattle.ebpf_graph.specs.Blocks.{last_begun}
use Rattle.ebpf_graph.specs.Graph.{slot_graph}
use Rattle.ebpf_graph.proofs.graph.write_blocks.Given as goal

abbrev pub invariant-loop-slot : goal.invariant-loop-slot
invariant-loop-slot l = record {
  first : l.first ≡ last_begun l.trace.flowed.now l.slot;
  written : string_bytes l.text ≡ string_bytes l.fn.text ++ texts_below l.slot (slot_graph l.drawn.states l.trace.flowed.now l.trace.entries.items l.trace.kinds.now l.drawn.refused);
}
