use Rattle.std.proofs.Common.{◌≡◌, false, length, slice_index_or, sym, ap, ◌∙◌, subst}
use Rattle.ebpf_flow.specs.declared.edges.Edges.{Edges}
use Rattle.std.specs.Prelude.{◌||◌}
use Rattle.ebpf_graph.specs.Blocks.{begins_at}
use Rattle.ebpf_graph.proofs.BlockLemmas.{begun_by-none, begun_by-more}
use Rattle.ebpf_graph.proofs.blocks.block_starts.Goals as goal

pub loop-slot-init : goal.loop-slot-init
loop-slot-init c = record {
  all = c.slots-slots.ensures.value ∙ ap length c.program.ensures.value;
  len = c.in_ok-begins.ensures.len;
  each = λ k lt. c.in_ok-begins.ensures.first k lt ∙ sym (begun_by-none c.args.flowed.now k);
}

pub loop-slot-preserved : goal.loop-slot-preserved
loop-slot-preserved c = record {
  all = c.loop-slot.invariant.all;
  len = c.mark_edges.ensures.len ∙ c.loop-slot.invariant.len;
  each = λ k lt. subst (λ (e : Edges). slice_index_or c.mark_edges.new.begins.items k false ≡ (begins_at e k || slice_index_or c.loop-slot.begins.items k false)) c.successors.ensures.value (c.mark_edges.ensures.marked k)
      ∙ begun_by-more c.args.flowed.now c.loop-slot.slot k _ (c.loop-slot.invariant.each k lt);
}
