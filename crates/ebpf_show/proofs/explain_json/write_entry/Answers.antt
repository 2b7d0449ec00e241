use Rattle.std.proofs.Common.{string_bytes}
use Rattle.ebpf_verify.specs.declared.entry.EntryState.TheVariants.{Unreached, Conflict}
use Rattle.ebpf_verify.specs.Comers.{comers}
use Rattle.ebpf_explain.proofs.TextLemmas.{pushed}
use Rattle.ebpf_show.specs.KnownObjects.{entry_objects}
use Rattle.ebpf_show.proofs.explain_json.write_entry.Goals as goal

pub returns-in-Unreached : goal.returns-in-Unreached
returns-in-Unreached c =
    let trace = c.args.trace.now in
    rw c.in-Unreached.is (pushed _ (string_bytes c.args.text.now) _ (entry_objects trace.kinds.now (comers trace.flowed.now c.args.slot) Unreached)
    c.push_str.ensures.bytes)

pub returns-in-Conflict : goal.returns-in-Conflict
returns-in-Conflict c =
    let trace = c.args.trace.now in
    rw c.in-Conflict.is (pushed _ (string_bytes c.args.text.now) _ (entry_objects trace.kinds.now (comers trace.flowed.now c.args.slot) Conflict)
    c.push_str-in-Conflict.ensures.bytes)
