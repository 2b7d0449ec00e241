use Rattle.std.proofs.Common.{◌/◌}
use Rattle.slab_layer.proofs.Taking.{takes_grown}
use Rattle.object_cache.proofs.inner.Inner.supply.Goals as goal

pub returns-clause-out : goal.returns-clause-out
returns-clause-out g c =
    let grown = c.in_ok-grow.ensures.grown in
    let taken = c.in-Some-take_home in
    takes_grown c.args.self.now.slabs c.take_home.new.self.slabs c.grow.new.self.slabs c.take_home-2.new.self.slabs grown.page (4096 / g.K.Kind.SIZE) taken.object.slot c.in_default.ensures.unchanged grown.not_had grown.added taken.ensures.was_home taken.ensures.moved
