use Rattle.std.proofs.Common.{◌≡◌, get_or, rules}
use Rattle.std.proofs.lemmas.List.{at_drop_more}
use Rattle.std.specs.List.{flat_map}
use Rattle.ebpf_command.specs.Json.{later_number}
use Rattle.ebpf_report.proofs.PutLemmas.{first_stops, first_more}
use Rattle.ebpf_report.proofs.outcome_json.put_later_numbers.Goals as goal

pub returns-in_err-put : goal.returns-in_err-put
returns-in_err-put g c =
    let here : c.as_bytes.result.now ≡ later_number (get_or c.args.numbers.now c.loop-number.number-index 0) = search rules in
    let next = at_drop_more (flat_map later_number) c.args.numbers.now c.loop-number.number-index 0 c.loop-number-test.true in
    first_stops _ _ _ _ _ _ _ _ c.loop-number.invariant _ _ next _ _ (rw here at c.in_err-put.ensures) c.from_residual.ensures.1

pub loop-number-preserved : goal.loop-number-preserved
loop-number-preserved g c =
    let here : c.as_bytes.result.now ≡ later_number (get_or c.args.numbers.now c.loop-number.number-index 0) = search rules in
    let next = at_drop_more (flat_map later_number) c.args.numbers.now c.loop-number.number-index 0 c.loop-number-test.true in
    first_more _ _ _ _ _ _ _ _ c.loop-number.invariant _ _ next (rw here at c.in_ok-put.ensures)
