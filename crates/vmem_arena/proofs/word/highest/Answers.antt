use Rattle.vmem_arena.proofs.Bits.{none_above}
use Rattle.vmem_arena.proofs.word.highest.Goals as goal

pub returns-else-word-eq0-clause-highest : goal.returns-else-word-eq0-clause-highest
returns-else-word-eq0-clause-highest c = λ i above. none_above c.args.word c.ilog2.result i c.ilog2.ensures.next_power_gt above
