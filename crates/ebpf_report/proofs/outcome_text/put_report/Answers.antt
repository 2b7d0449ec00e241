use Rattle.std.proofs.Common.{◌≡◌, rules}
use Rattle.ebpf_command.proofs.Sending.{puts_then}
use Rattle.ebpf_report.specs.OutcomeLines.{job_line}
use Rattle.ebpf_report.proofs.outcome_text.put_report.Goals as goal

pub returns : goal.returns
returns g c =
    let r = c.args.report.now in
    let here : c.as_bytes.result.now ≡ job_line c.args.job r.exit r.executed r.peak = search rules in
    let output = rw c.output.ensures at c.in_ok-put_output.ensures in
    puts_then _ _ _ _ _ _ _ _ _ output (rw here at c.put.ensures)
