use Rattle.std.proofs.Common.{◌<◌, length, slice_index_or, None, arith, sym, ap, ◌∙◌}
use Rattle.std.proofs.lemmas.Result.{err_from_is_err_and}
use Rattle.ebpf_insn.proofs.FaultLemmas.{lowest-zero, lowest-more_none}
use Rattle.ebpf_verify.specs.declared.entry.EntryState.TheVariants.{Unreached}
use Rattle.ebpf_verify.specs.Subject.{Subject}
use Rattle.ebpf_verify.specs.Verdict.{refusal_at}
use Rattle.ebpf_verify.proofs.Entries.{arrived-zero, arrived-more, refusal_here, refused_here}
use Rattle.ebpf_verify.proofs.verify.walk.Goals as goal

pub loop-slot-init : goal.loop-slot-init
loop-slot-init c = record {
  all = c.slots-slots.ensures.value ∙ ap length c.program.ensures.value;
  len = c.in_ok-entries.ensures.len;
  came = λ t lo lt. c.in_ok-entries.ensures.first t lt ∙ sym (arrived-zero c.args.flowed.now t);
  fine = lowest-zero (refusal_at (record { program = c.args.flowed.now; decl = c.args.decl; rows = c.args.kinds.now }));
}

pub returns-in_err-visit-clause-refused : goal.returns-in_err-visit-clause-refused
returns-in_err-visit-clause-refused c =
    let inside : c.loop-slot.slot < length c.args.flowed.now = omega (arith, c.loop-slot.invariant.all) in
    let here = c.loop-slot.invariant.came c.loop-slot.slot (omega arith) (omega arith) in
    let p = err_from_is_err_and c.from_residual-in_err-visit.result c.from_residual-in_err-visit.ensures.1 in
    rw (p.1, p.2) (refused_here (record { program = c.args.flowed.now; decl = c.args.decl; rows = c.args.kinds.now }) c.loop-slot.slot (slice_index_or c.loop-slot.entries.items c.loop-slot.slot Unreached) c.in_err-visit.field-0.0 inside c.loop-slot.invariant.fine here c.in_err-visit.ensures.refused)

pub loop-slot-preserved : goal.loop-slot-preserved
loop-slot-preserved c =
    let here = c.loop-slot.invariant.came c.loop-slot.slot (omega arith) (omega arith) in
    let subject : Subject = record { program = c.args.flowed.now; decl = c.args.decl; rows = c.args.kinds.now } in
    record {
      all = c.slots-slots.ensures.value ∙ ap length c.program.ensures.value;
      len = c.in_ok-visit.ensures.len ∙ c.loop-slot.invariant.len;
      came = λ t lo lt. c.in_ok-visit.ensures.sent t (omega arith) (omega (arith, c.loop-slot.invariant.all)) ∙ arrived-more c.args.flowed.now c.loop-slot.slot t _ _ here (c.loop-slot.invariant.came t (omega arith) lt);
      fine = lowest-more_none (refusal_at subject) c.loop-slot.slot c.loop-slot.invariant.fine (refusal_here subject c.loop-slot.slot _ None here c.in_ok-visit.ensures.fine);
    }
