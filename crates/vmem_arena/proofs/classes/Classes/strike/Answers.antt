use Rattle.std.proofs.Common.{◌%◌, refl}
use Rattle.vmem_arena.specs.Segments.{free_len}
use Rattle.vmem_arena.proofs.Listing.{listed_less, place_is}
use Rattle.vmem_arena.proofs.classes.Classes.strike.Goals as goal

pub returns : goal.returns
returns c = λ len old new listed is none same.
    let place = c.args.place in
    listed_less c.args.self.now c.clear.new.self old new (place % 256) (free_len old (place % 256)) place (place_is c.args.self.now old place listed c.requires.listed) c.clear.ensures.here c.clear.ensures.others listed refl none same
