use Rattle.std.proofs.Common.{arith}
use Rattle.vmem_arena.proofs.Listing.{class_low}
use Rattle.vmem_arena.proofs.classes.place.Goals as goal

pub returns-clause-below : goal.returns-clause-below
returns-clause-below c =
    let class = class_low c.ilog2.result c.args.len c.ilog2.ensures.power_le c.requires.within in
    omega (arith, c.requires.page)
