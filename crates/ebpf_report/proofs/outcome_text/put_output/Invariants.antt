use Rattle.std.proofs.Common.{drop}
use Rattle.std.specs.List.{flat_map}
use Rattle.ebpf_report.specs.OutcomeLines.{job_emit_line}
use Rattle.ebpf_report.proofs.PutLemmas.{SendsFirst}
use Rattle.ebpf_report.proofs.outcome_text.put_output.Given as goal

abbrev pub invariant-loop-value : goal.invariant-loop-value
invariant-loop-value g l = SendsFirst (g.W.Write.contents l.fn.writer) (g.W.Write.contents l.writer) l.fn.piece l.piece (flat_map (job_emit_line l.fn.job) (drop l.value-index l.output)) (flat_map (job_emit_line l.fn.job) l.output)
