use Rattle.std.proofs.Common.{◌≡◌, refl, rules}
use Rattle.ebpf_report.specs.OutcomeObjects.{job_members, job_object}
use Rattle.ebpf_report.proofs.PutLemmas.{first_none, first_stops, first_more, first_last}
use Rattle.ebpf_report.proofs.outcome_json.put_job.Goals as goal

pub returns-in_err-put : goal.returns-in_err-put
returns-in_err-put g c =
    let r = c.args.report.now in
    let members : c.as_bytes.result.now ≡ job_members c.args.job r.exit r.executed r.peak = search rules in
    first_stops _ _ _ _ _ _ _ _ (first_none _ _ (job_object c.args.job r)) _ _ refl _ _ (rw members at c.in_err-put.ensures) c.from_residual.ensures.1

pub returns-in_err-put_numbers : goal.returns-in_err-put_numbers
returns-in_err-put_numbers g c =
    let r = c.args.report.now in
    let members : c.as_bytes.result.now ≡ job_members c.args.job r.exit r.executed r.peak = search rules in
    let begun = first_more _ _ _ _ _ _ _ _ (first_none _ _ (job_object c.args.job r)) _ _ refl (rw members at c.in_ok-put.ensures) in
    first_stops _ _ _ _ _ _ _ _ begun _ _ refl _ _ (rw c.output.ensures at c.in_err-put_numbers.ensures) c.from_residual-in_err-put_numbers.ensures.1

pub returns : goal.returns
returns g c =
    let r = c.args.report.now in
    let members : c.as_bytes.result.now ≡ job_members c.args.job r.exit r.executed r.peak = search rules in
    let begun = first_more _ _ _ _ _ _ _ _ (first_none _ _ (job_object c.args.job r)) _ _ refl (rw members at c.in_ok-put.ensures) in
    let numbers = first_more _ _ _ _ _ _ _ _ begun _ _ refl (rw c.output.ensures at c.in_ok-put_numbers.ensures) in
    first_last _ _ _ _ _ _ _ _ numbers _ c.put-2.ensures
