use Rattle.vmem_arena.proofs.Listing.{listed_more}
use Rattle.vmem_arena.proofs.classes.Classes.insert.Goals as goal

pub returns-then-len-gt0 : goal.returns-then-len-gt0
returns-then-len-gt0 c = λ old new listed none is same. listed_more c.args.self.now c.set.new.self old new c.args.page c.args.len c.place.result c.place.ensures.place c.set.ensures.here c.set.ensures.others listed none is same
