use Rattle.std.proofs.Common.{◌<◌, length, arith, sym, ap, ◌∙◌, subst, below_more}
use Rattle.std.proofs.lemmas.Result.{err_from_is_err_and}
use Rattle.std.proofs.lemmas.List.{length_push}
use Rattle.ebpf_insn.proofs.FaultLemmas.{lowest-zero, lowest-more_none}
use Rattle.ebpf_insn.proofs.ListLemmas.{each_push}
use Rattle.ebpf_flow.specs.Edges.{edges_at}
use Rattle.ebpf_flow.specs.Flow.{flow_fault_at, LeadsForward}
use Rattle.ebpf_flow.proofs.Reach.{reached_by-none, reached_by-more, fault_here}
use Rattle.ebpf_flow.proofs.check.edges_in.Goals as goal

pub loop-slot-init : goal.loop-slot-init
loop-slot-init c = record {
  few = omega arith;
  all = c.slots-slots.ensures.value;
  flags = c.in_ok-reached.ensures.len;
  reached = λ k lt. c.in_ok-reached.ensures.first k lt ∙ sym (reached_by-none c.args.program.now k);
  len = ap length c.in_ok-edges.ensures.items;
  room = c.in_ok-edges.ensures.exact;
  fine = lowest-zero (flow_fault_at c.args.program.now);
  forward = λ k lt. absurd (omega arith);
  each = λ k lt. absurd (omega arith);
}

pub returns-in_err-leaving-clause-refused : goal.returns-in_err-leaving-clause-refused
returns-in_err-leaving-clause-refused c =
    let inside : c.loop-slot.slot < length c.args.program.now = omega arith in
    let p = err_from_is_err_and c.from_residual-in_err-leaving.result c.from_residual-in_err-leaving.ensures.1 in
    rw (p.1, p.2) (fault_here c.args.program.now c.loop-slot.slot c.in_err-leaving.field-0.0 inside c.loop-slot.invariant.fine c.in_err-leaving.ensures.refused)

pub loop-slot-preserved : goal.loop-slot-preserved
loop-slot-preserved c =
    let inside : c.loop-slot.slot < c.slots-slots.result = omega arith in
    record {
      few = c.loop-slot.invariant.few;
      all = c.loop-slot.invariant.all;
      flags = c.in_ok-leaving.ensures.len ∙ c.loop-slot.invariant.flags;
      reached = λ k lt. c.in_ok-leaving.ensures.marked k (omega (arith, c.loop-slot.invariant.all)) ∙ reached_by-more c.args.program.now c.loop-slot.slot k _ (c.loop-slot.invariant.reached k lt);
      len = rw c.push_reserved.ensures.items (omega (arith, length_push c.loop-slot.edges.items c.in_ok-leaving.leaving, c.loop-slot.invariant.len));
      room = c.push_reserved.ensures.capacity ∙ c.loop-slot.invariant.room;
      fine = lowest-more_none (flow_fault_at c.args.program.now) c.loop-slot.slot c.loop-slot.invariant.fine c.in_ok-leaving.ensures.fine;
      forward = below_more _ _ c.loop-slot.invariant.forward (subst (λ e. LeadsForward c.args.program.now c.loop-slot.slot e.fall × LeadsForward c.args.program.now c.loop-slot.slot e.jump) c.in_ok-leaving.ensures.edges c.in_ok-leaving.ensures.forward);
      each = rw c.push_reserved.ensures.items (each_push (edges_at c.args.program.now) c.loop-slot.edges.items c.in_ok-leaving.leaving c.loop-slot.slot c.loop-slot.invariant.len c.in_ok-leaving.ensures.edges c.loop-slot.invariant.each);
    }
