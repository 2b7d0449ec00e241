use Rattle.std.proofs.Common.{drop}
use Rattle.std.specs.List.{flat_map}
use Rattle.ebpf_command.specs.Json.{later_number}
use Rattle.ebpf_report.proofs.PutLemmas.{SendsFirst}
use Rattle.ebpf_report.proofs.outcome_json.put_later_numbers.Given as goal

abbrev pub invariant-loop-number : goal.invariant-loop-number
invariant-loop-number g l = SendsFirst (g.W.Write.contents l.fn.writer) (g.W.Write.contents l.writer) l.fn.piece l.piece (flat_map later_number (drop l.number-index l.numbers)) (flat_map later_number l.numbers)
