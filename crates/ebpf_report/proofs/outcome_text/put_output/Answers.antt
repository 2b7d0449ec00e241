use Rattle.std.proofs.Common.{◌≡◌, get_or, rules}
use Rattle.std.proofs.lemmas.List.{at_drop_more}
use Rattle.std.specs.List.{flat_map}
use Rattle.ebpf_report.specs.OutcomeLines.{job_emit_line}
use Rattle.ebpf_report.proofs.PutLemmas.{first_stops, first_more}
use Rattle.ebpf_report.proofs.outcome_text.put_output.Goals as goal

pub returns-in_err-put : goal.returns-in_err-put
returns-in_err-put g c =
    let here : c.as_bytes.result.now ≡ job_emit_line c.args.job (get_or c.args.output.now c.loop-value.value-index 0) = search rules in
    let next = at_drop_more (flat_map (job_emit_line c.args.job)) c.args.output.now c.loop-value.value-index 0 c.loop-value-test.true in
    first_stops _ _ _ _ _ _ _ _ c.loop-value.invariant _ _ next _ _ (rw here at c.in_err-put.ensures) c.from_residual.ensures.1

pub loop-value-preserved : goal.loop-value-preserved
loop-value-preserved g c =
    let here : c.as_bytes.result.now ≡ job_emit_line c.args.job (get_or c.args.output.now c.loop-value.value-index 0) = search rules in
    let next = at_drop_more (flat_map (job_emit_line c.args.job)) c.args.output.now c.loop-value.value-index 0 c.loop-value-test.true in
    first_more _ _ _ _ _ _ _ _ c.loop-value.invariant _ _ next (rw here at c.in_ok-put.ensures)
