use Rattle.std.proofs.Common.{ap, string_bytes}
use Rattle.std.specs.Option.{option_copied}
use Rattle.ebpf_cover.specs.Covered.{taken_at}
use Rattle.ebpf_report.proofs.SourcesLemmas.{lines_told}
use Rattle.ebpf_report.proofs.covered_text.write_program.Goals as goal

pub returns-in-Some : goal.returns-in-Some
returns-in-Some c =
    lines_told c.write_source.result c.args.format c.args.name.now (string_bytes c.args.text.now) (string_bytes c.write_source.new.text) c.in-Some.source.now
    (option_copied c.args.source) c.deref.result.now c.args.counts.now.executed.items (taken_at c.args.counts.now) c.args.program.now (ap option_copied c.in-Some.is) c.deref.ensures.value
    c.write_source.ensures
