use Rattle.std.proofs.Common.{get_or, ◌/◌}
use Rattle.std.specs.Prelude.{◌==◌}
use Rattle.ebpf_machine.proofs.Instructions.StackWords.{held_too}
use Rattle.ebpf_machine.proofs.stack.forget_word.Goals as goal

pub returns-then-pointing-word-clause-marks : goal.returns-then-pointing-word-clause-marks
returns-then-pointing-word-clause-marks c =
    λ i lt. held_too (i / 8 == c.args.word) _ _ (get_or c.args.marks.now i 0) c.if-pointing-word.true (c.unset_word.ensures.marks i lt)
