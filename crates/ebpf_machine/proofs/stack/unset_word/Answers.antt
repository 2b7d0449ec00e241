use Rattle.std.proofs.Common.{arith}
use Rattle.ebpf_machine.proofs.Instructions.StackWords.{forgotten_mark}
use Rattle.ebpf_machine.proofs.stack.unset_word.Goals as goal

pub returns-clause-marks : goal.returns-clause-marks
returns-clause-marks c =
    λ i lt. forgotten_mark c.args.word c.args.marks.now c.copy_from_slice.new.self i
    (let long = c.told-marks in let room = c.requires in omega arith) c.copy_from_slice.ensures.after
