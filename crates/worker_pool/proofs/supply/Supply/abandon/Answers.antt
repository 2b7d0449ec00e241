use Rattle.std.proofs.Common.{ap, arith}
use Rattle.object_cache.specs.ShelfView.{one_if}
use Rattle.worker_pool.proofs.Returning.{untouched_puts}
use Rattle.worker_pool.proofs.supply.Supply.abandon.Goals as goal

pub unreachable-requires : goal.unreachable-requires
unreachable-requires g c =
    let e = c.close-object.ensures in
    let some = ap one_if c.in-Some.is in
    omega (arith, untouched_puts c.args.free.shelf_hands.items c.requires.unused, e.puts, e.balance, some)
