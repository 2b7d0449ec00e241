use Rattle.std.proofs.Common.{arith}
use Rattle.vmem_arena.proofs.Bits.{none_from, lowest_masked}
use Rattle.vmem_arena.proofs.word.lowest_from.Goals as goal

pub returns-then-rest-eq0-clause-none : goal.returns-then-rest-eq0-clause-none
returns-then-rest-eq0-clause-none c = none_from c.args.word c.args.from c.requires (omega arith) c.if-rest-eq0.true

pub returns-else-rest-eq0-clause-found : goal.returns-else-rest-eq0-clause-found
returns-else-rest-eq0-clause-found c =
    let is = lowest_masked c.args.word c.args.from c.requires (omega arith) (omega arith) in
    (is.from, is.within, is.one)

pub returns-else-rest-eq0-clause-lowest : goal.returns-else-rest-eq0-clause-lowest
returns-else-rest-eq0-clause-lowest c = (lowest_masked c.args.word c.args.from c.requires (omega arith) (omega arith)).lowest
