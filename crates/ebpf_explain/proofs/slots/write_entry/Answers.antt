use Rattle.std.proofs.Common.{List, ap, ◌∙◌, string_bytes}
use Rattle.ebpf_verify.specs.declared.comers.Comer.{Comer}
use Rattle.ebpf_verify.specs.declared.entry.EntryState.TheVariants.{Unreached, Conflict}
use Rattle.ebpf_verify.specs.Comers.{comers}
use Rattle.ebpf_explain.specs.Lost.{lost_line}
use Rattle.ebpf_explain.specs.Slots.{entry_line}
use Rattle.ebpf_explain.proofs.MeetingLemmas.{behind_two}
use Rattle.ebpf_explain.proofs.TextLemmas.{pushed}
use Rattle.ebpf_explain.proofs.slots.write_entry.Goals as goal

pub returns-in_ok-comers-in-Known : goal.returns-in_ok-comers-in-Known
returns-in_ok-comers-in-Known c =
    rw c.in-Known.is (behind_two _ _ _ _ _ _ _ _ _ c.in_ok-write_known-in-Known.ensures c.in_ok-push_str-in-Known.ensures.bytes
    (ap (λ (cs : List Comer). lost_line cs c.in-Known.state) (c.deref.ensures.value ∙ c.in_ok-comers-in-Known.ensures)) c.write_lost.ensures)

pub returns-in-Unreached : goal.returns-in-Unreached
returns-in-Unreached c =
    let trace = c.args.trace.now in
    rw c.in-Unreached.is (pushed _ (string_bytes c.args.text.now) _ (entry_line trace.kinds.now (comers trace.flowed.now c.args.slot) Unreached)
    c.push_str-in-Unreached.ensures.bytes)

pub returns-in-Conflict : goal.returns-in-Conflict
returns-in-Conflict c =
    let trace = c.args.trace.now in
    rw c.in-Conflict.is (pushed _ (string_bytes c.args.text.now) _ (entry_line trace.kinds.now (comers trace.flowed.now c.args.slot) Conflict)
    c.push_str-in-Conflict.ensures.bytes)
