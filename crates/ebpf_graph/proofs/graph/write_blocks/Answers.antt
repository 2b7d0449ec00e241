use Rattle.std.proofs.Common.{length, ap, ◌∙◌, refl}
use Rattle.ebpf_explain.proofs.TextLemmas.{no_text, one_text}
use Rattle.ebpf_graph.proofs.BlockLemmas.{first_here, last_begun-none, last_begun-next}
use Rattle.ebpf_graph.proofs.graph.write_blocks.Goals as goal

pub loop-slot-init : goal.loop-slot-init
loop-slot-init c = record {
  first = last_begun-none c.args.trace.now.flowed.now;
  written = no_text _ _;
}

pub write_slot-requires-clause-first : goal.write_slot-requires-clause-first
write_slot-requires-clause-first c =
    first_here c.args.trace.now.flowed.now _ _ _ _ c.args.drawn.now.begins.items c.index.result.now (c.slots-slot-end.ensures.value ∙ ap length c.program.ensures.value) c.loop-slot-test.true
    c.requires.begins c.index.ensures c.loop-slot.invariant.first c.first_slot-first.ensures

pub loop-slot-preserved : goal.loop-slot-preserved
loop-slot-preserved c = record {
  first = last_begun-next c.args.trace.now.flowed.now c.loop-slot.slot _
      (first_here c.args.trace.now.flowed.now _ _ _ _ c.args.drawn.now.begins.items c.index.result.now (c.slots-slot-end.ensures.value ∙ ap length c.program.ensures.value) c.loop-slot-test.true
      c.requires.begins c.index.ensures c.loop-slot.invariant.first c.first_slot-first.ensures);
  written = one_text _ _ _ _ _ _ refl c.loop-slot.invariant.written c.in_ok-write_slot.ensures;
}
