use Rattle.std.proofs.Common.{arith, refl}
use Rattle.ebpf_machine.proofs.Instructions.StackWords.{no_marks}
use Rattle.ebpf_machine.proofs.stack.Stack.new.Goals as goal

pub invariant_of-result : goal.invariant_of-result
invariant_of-result c = ((omega arith, refl), λ i lt. let none = no_marks i lt in omega (arith, none))
