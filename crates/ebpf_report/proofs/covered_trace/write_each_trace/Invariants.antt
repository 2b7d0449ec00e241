use Rattle.std.proofs.Common.{◌≡◌, ◌++◌, string_bytes}
use Rattle.ebpf_explain.specs.StackWords.{texts_below}
use Rattle.ebpf_report.specs.CoveredLines.{trace_at}
use Rattle.ebpf_report.proofs.covered_trace.write_each_trace.Given as goal

abbrev pub invariant-loop-program : goal.invariant-loop-program
invariant-loop-program l =
    string_bytes l.text ≡ string_bytes l.fn.text ++ texts_below l.program (trace_at l.sources l.done.accepted.now l.done.jobs.now l.done.reports.now)
