use Rattle.std.proofs.Common.{◌≡◌, ◌+◌, ◌/◌, ap, refl, subst, arith, option_map}
use Rattle.slab_layer.specs.Slots.{IsOut, TakesOut, out_count}
use Rattle.slab_layer.proofs.Taking.{takes_grown}
use Rattle.ebpf_host.specs.Stock.{StockView, Takes, shelved_at}
use Rattle.ebpf_host.proofs.Stocking.{takes_as, stands_taken, told}
use Rattle.ebpf_host.proofs.stock.Stock.take_home.Goals.{After-take-2}
use Rattle.ebpf_host.proofs.stock.Stock.take_home.Goals as goal

pub invariant_of-self-2 : goal.invariant_of-self-2
invariant_of-self-2 g c =
    let grown = c.in-Ok.ensures.grown in
    let taken = c.in-Some-take in
    stands_taken (λ o. o.slot) c.self.inside.shelf c.self.inside.slabs c.take-2.new.self taken.object.slot
    (takes_grown c.self.inside.slabs c.take.new.self c.grow_from.new.self c.take-2.new.self grown.page (4096 / g.K.Kind.SIZE) taken.object.slot
    c.in_default.ensures.unchanged grown.not_had grown.added taken.ensures.was_home taken.ensures.moved)
    c.self.invariant

pub returns-clause-taken : goal.returns-clause-taken
returns-clause-taken g c =
    let grown = c.in-Ok.ensures.grown in
    let taken = c.in-Some-take in
    let out : TakesOut c.self.inside.slabs c.take-2.new.self taken.object.slot =
    takes_grown c.self.inside.slabs c.take.new.self c.grow_from.new.self c.take-2.new.self grown.page (4096 / g.K.Kind.SIZE) taken.object.slot
    c.in_default.ensures.unchanged grown.not_had grown.added taken.ensures.was_home taken.ensures.moved in
    let more = c.in-Ok.ensures.counted in
    let same = ap out_count c.in_default.ensures.unchanged in
    let one = taken.ensures.counted in
    let counts : out_count c.take-2.new.self ≡ out_count c.self.inside.slabs + 1 = omega (arith, one, more, same) in
    let shelf = option_map (λ o. shelved_at o.slot o.bytes.value.items) c.self.inside.shelf in
    let now : StockView = record { pages = c.take-2.new.self; shelf = shelf } in
    subst (λ (v : StockView). Takes v now taken.object.slot) c.self.view_is
    (takes_as (record { pages = c.self.inside.slabs; shelf = shelf }) now taken.object.slot
    (told c.self.inside.shelf (λ o. shelved_at o.slot o.bytes.value.items) (IsOut c.self.inside.slabs) c.self.invariant) refl out counts)
