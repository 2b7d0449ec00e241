use Rattle.vmem_arena.proofs.Listing.{listed_less}
use Rattle.vmem_arena.proofs.classes.Classes.remove.Goals as goal

pub returns-then-len-gt0 : goal.returns-then-len-gt0
returns-then-len-gt0 c = λ old new listed is none same. listed_less c.args.self.now c.clear.new.self old new c.args.page c.args.len c.place.result c.place.ensures.place c.clear.ensures.here c.clear.ensures.others listed is none same
