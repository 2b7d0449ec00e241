use Rattle.std.proofs.Common.{◌≡◌, ◌-◌, ◌++◌, length, take}
use Rattle.job_list.specs.FewAnswers.{replies_from}
use Rattle.job_list.specs.declared.few_answers.TheConstants.{FEW_ANSWERS}
use Rattle.job_list.proofs.few_answers.FewAnswers.replies.Given as goal

abbrev pub invariant-unpacking : goal.invariant-unpacking
invariant-unpacking l = record {
  sized : length l.room ≡ FEW_ANSWERS;
  unpacked : take l.done l.room ++ replies_from (l.count - l.done) l.codes ≡ l.self;
}
