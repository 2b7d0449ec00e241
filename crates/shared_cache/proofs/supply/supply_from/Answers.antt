use Rattle.std.proofs.Common.{◌/◌, ap}
use Rattle.slab_layer.proofs.Taking.{takes_grown}
use Rattle.shared_cache.proofs.supply.supply_from.Goals as goal

pub returns-clause-out : goal.returns-clause-out
returns-clause-out g c =
    let (page, not_had, added) = c.in_ok-grow_soon.ensures.grown in
    let taken = c.in-Some-take_home in
    takes_grown c.args.place.now.slabs c.take_home.new.self.slabs c.grow_soon.new.place.slabs c.take_home-2.new.self.slabs page (4096 / g.K.Kind.SIZE) taken.object.slot (ap (λ p. p.slabs) c.in_default.ensures.unchanged) not_had added taken.ensures.was_home taken.ensures.moved
