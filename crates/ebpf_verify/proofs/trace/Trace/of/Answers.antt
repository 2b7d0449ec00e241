use Rattle.std.proofs.Common.{◌≡◌, ◌<◌, length, slice_index_or, None, Some, arith, sym, ap, ◌∙◌}
use Rattle.std.proofs.lemmas.List.{get_or_default}
use Rattle.ebpf_insn.proofs.FaultLemmas.{lowest-zero, lowest-more_none}
use Rattle.ebpf_verify.specs.declared.entry.EntryState.TheVariants.{Unreached}
use Rattle.ebpf_verify.specs.Subject.{Subject}
use Rattle.ebpf_verify.specs.Traces.{IsTrace}
use Rattle.ebpf_verify.specs.Verdict.{refusal_at}
use Rattle.ebpf_verify.proofs.Coming.{looked_at_by_trace}
use Rattle.ebpf_verify.proofs.Entries.{arrived-zero, arrived-more, refusal_here, refused_here}
use Rattle.ebpf_verify.proofs.Tracing.{entries_below-zero, entries_below-more, refused_trace, whole_trace}
use Rattle.ebpf_verify.proofs.trace.Trace.of.Goals as goal

pub loop-slot-init : goal.loop-slot-init
loop-slot-init c = record {
  all = c.slots-slots.ensures.value ∙ ap length c.program.ensures.value;
  len = c.in_ok-arriving.ensures.len;
  came = λ t lo lt. c.in_ok-arriving.ensures.first t lt ∙ sym (arrived-zero c.args.flowed.now t);
  seen = c.in_ok-entries.ensures.items ∙ sym (entries_below-zero c.args.flowed.now);
  fine = lowest-zero (refusal_at (record { program = c.args.flowed.now; decl = c.args.decl; rows = c.args.kinds.now }));
}

-- the slot that is refused is the last one that was looked at
refused : (c : goal.In-Err-Refused) → IsTrace (record { program = c.args.flowed.now; decl = c.args.decl; rows = c.args.kinds.now }) c.push.new.self.items
    (Some (c.in-Err-Refused.slot, c.in-Err-Refused.code))
refused c =
    let subject : Subject = record { program = c.args.flowed.now; decl = c.args.decl; rows = c.args.kinds.now } in
    let inside : c.loop-slot.slot < length c.args.flowed.now = omega (arith, c.loop-slot.invariant.all) in
    let here = c.loop-slot.invariant.came c.loop-slot.slot (omega arith) (omega arith) in
    let arriving = slice_index_or c.loop-slot.arriving.items c.loop-slot.slot Unreached in
    let is = refused_here subject c.loop-slot.slot arriving c.in-Err-Refused.field-0 inside c.loop-slot.invariant.fine here c.in-Err-Refused.ensures.refused in
    let copied = get_or_default c.loop-slot.arriving.items c.loop-slot.slot c.index.result.now Unreached (omega (arith, c.loop-slot.invariant.len, c.loop-slot.invariant.all)) in
    refused_trace subject _ c.loop-slot.slot c.in-Err-Refused.slot c.in-Err-Refused.code _ c.in-Err-Refused.field-0 c.in-Err-Refused.field-0-is c.in-Err-Refused.ensures.refused is
    (c.in_ok-push.ensures.items
    ∙ entries_below-more c.args.flowed.now c.loop-slot.slot _ _ (c.in_ok-copy.ensures ∙ (c.index.ensures ∙ (copied ∙ here))) c.loop-slot.invariant.seen)

pub invariant_of-result : goal.invariant_of-result
invariant_of-result c = record { rows = c.requires; looked = looked_at_by_trace _ _ _ (refused c) }

pub returns-in-Err-Refused-clause-trace : goal.returns-in-Err-Refused-clause-trace
returns-in-Err-Refused-clause-trace c = refused c.before.before

pub invariant_of-result-2 : goal.invariant_of-result-2
invariant_of-result-2 c =
    let subject : Subject = record { program = c.args.flowed.now; decl = c.args.decl; rows = c.args.kinds.now } in
    let all : c.loop-slot.slot ≡ length subject.program = omega (arith, c.loop-slot.invariant.all) in
    record {
      rows = c.requires;
      looked = looked_at_by_trace subject _ None (whole_trace subject _ c.loop-slot.slot c.loop-slot.invariant.fine all c.loop-slot.invariant.seen);
    }

pub loop-slot-preserved : goal.loop-slot-preserved
loop-slot-preserved c =
    let here = c.loop-slot.invariant.came c.loop-slot.slot (omega arith) (omega arith) in
    let subject : Subject = record { program = c.args.flowed.now; decl = c.args.decl; rows = c.args.kinds.now } in
    record {
      all = c.slots-slots.ensures.value ∙ ap length c.program.ensures.value;
      len = c.in-Ok.ensures.len ∙ c.loop-slot.invariant.len;
      came = λ t lo lt. c.in-Ok.ensures.sent t (omega arith) (omega (arith, c.loop-slot.invariant.all)) ∙ arrived-more c.args.flowed.now c.loop-slot.slot t _ _ here (c.loop-slot.invariant.came t (omega arith) lt);
      seen = c.in_ok-push.ensures.items ∙ entries_below-more c.args.flowed.now c.loop-slot.slot _ _
          (c.in_ok-copy.ensures ∙ (c.index.ensures ∙ (get_or_default c.loop-slot.arriving.items c.loop-slot.slot
          c.index.result.now Unreached (omega (arith, c.loop-slot.invariant.len, c.loop-slot.invariant.all)) ∙ here)))
          c.loop-slot.invariant.seen;
      fine = lowest-more_none (refusal_at subject) c.loop-slot.slot c.loop-slot.invariant.fine (refusal_here subject c.loop-slot.slot _ None here c.in-Ok.ensures.fine);
    }
