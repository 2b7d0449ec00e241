use Rattle.std.proofs.Common.{◌/◌, ◌%◌, arith}
use Rattle.vmem_arena.proofs.Places.{filled_still}
use Rattle.vmem_arena.proofs.classes.Classes.clear.Goals as goal

pub invariant_of-self-else-word-eq0 : goal.invariant_of-self-else-word-eq0
invariant_of-self-else-word-eq0 c = filled_still c.self.inside.words c.self.inside.filled (c.args.place / 64) (c.args.place % 64) c.without_bit-word.result (omega arith) c.self.invariant c.without_bit-word.ensures.clear c.without_bit-word.ensures.others (omega arith)
