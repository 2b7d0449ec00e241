use Rattle.std.proofs.Common.{◌≡◌, ◌++◌, take, string_bytes}
use Rattle.std.specs.List.{flat_map}
use Rattle.ebpf_report.specs.OutcomeLines.{job_emit_line}
use Rattle.ebpf_report.proofs.outcome_text.write_output.Given as goal

abbrev pub invariant-loop-value : goal.invariant-loop-value
invariant-loop-value l = string_bytes l.text ≡ string_bytes l.fn.text ++ flat_map (job_emit_line l.fn.job) (take l.value-index l.output)
