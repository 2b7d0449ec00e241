use Rattle.std.proofs.Common.{arith}
use Rattle.ebpf_machine.specs.StackWords.{mark_in}
use Rattle.ebpf_machine.proofs.Instructions.StackWords.{cleared}
use Rattle.ebpf_machine.proofs.stack.Stack.clear.Goals as goal

pub invariant_of-self : goal.invariant_of-self
invariant_of-self c = (c.next_mark-self-inside.ensures.whole, λ i lt. let low = c.next_mark-self-inside.ensures.new i lt in omega (arith, low))

pub returns : goal.returns
returns c =
    cleared c.self.inside.bytes (mark_in c.next_mark-self-inside.result) c.next_mark-self-inside.new.marks c.self.inside.bases c.self.inside.offsets
    c.self.told.0 c.next_mark-self-inside.ensures.long c.next_mark-self-inside.ensures.new
