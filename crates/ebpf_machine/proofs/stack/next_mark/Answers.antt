use Rattle.std.proofs.Common.{arith, rules}
use Rattle.ebpf_machine.proofs.Instructions.StackWords.{mark_few, mark_more, no_marks}
use Rattle.ebpf_machine.proofs.stack.next_mark.Goals as goal

pub returns-then-mark-eq18446744073709551615-clause-new : goal.returns-then-mark-eq18446744073709551615-clause-new
returns-then-mark-eq18446744073709551615-clause-new c = λ i lt. let none = no_marks i lt in rw c.forget_marks.ensures (omega (arith, none))

pub overflow_add-result : goal.overflow_add-result
overflow_add-result c = let few = mark_few c.args.mark c.requires.0 (search rules) (search rules) in omega (arith, few)

pub returns-clause-whole : goal.returns-clause-whole
returns-clause-whole c = (mark_more c.args.mark c.requires.0 (search rules) (search rules)).0

pub returns-clause-new : goal.returns-clause-new
returns-clause-new c = λ i lt.
    let low = c.requires.1 i lt in
    let next = (mark_more c.args.mark c.requires.0 (search rules) (search rules)).1 in
    omega (arith, low, next)
