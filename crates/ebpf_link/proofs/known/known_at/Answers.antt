use Rattle.std.proofs.Common.{◌∙◌}
use Rattle.ebpf_verify.specs.Traced.{subject_of}
use Rattle.ebpf_verify.proofs.Coming.{entry_looked_at}
use Rattle.ebpf_link.proofs.known.known_at.Goals as goal

pub returns : goal.returns
returns c =
    let trace = c.args.trace.now in
    c.index.ensures ∙ entry_looked_at (subject_of trace) trace.entries.items c.args.slot c.index.result.now trace.looked c.requires.inside
