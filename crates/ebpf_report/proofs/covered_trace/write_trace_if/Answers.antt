use Rattle.std.proofs.Common.{ap, string_bytes}
use Rattle.std.specs.Option.{option_copied}
use Rattle.ebpf_report.proofs.SourcesLemmas.{trace_told}
use Rattle.ebpf_report.proofs.covered_trace.write_trace_if.Goals as goal

pub returns-in-Some : goal.returns-in-Some
returns-in-Some c =
    trace_told c.write_trace.result (string_bytes c.args.text.now) (string_bytes c.write_trace.new.text) c.in-Some.source.now
    (option_copied c.args.source) c.deref.result.now c.args.counts.now.executed.items c.deref-in-Some.result.now c.args.counts.now.taken.items c.args.program.now
    (ap option_copied c.in-Some.is) c.deref.ensures.value c.deref-in-Some.ensures.value c.write_trace.ensures
