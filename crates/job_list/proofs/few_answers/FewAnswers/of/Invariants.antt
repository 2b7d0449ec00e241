use Rattle.std.proofs.Common.{◌≡◌, ◌<◌, ◌-◌, ◌^◌, length, drop}
use Rattle.job_list.specs.FewAnswers.{replies_from}
use Rattle.job_list.proofs.few_answers.FewAnswers.of.Given as goal

abbrev pub invariant-packing : goal.invariant-packing
invariant-packing l = record {
  fits : l.codes < 4 ^ l.done;
  packed : replies_from l.done l.codes ≡ drop (length l.answers - l.done) l.answers;
}
