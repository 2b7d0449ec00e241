use Rattle.std.proofs.Common.{rules, ◌<◌, length, ◌∙◌, arith}
use Rattle.worker_pool.proofs.Returning.{same_allocs, more_frees, same_nulls, one_at_most}
use Rattle.worker_pool.proofs.supply.Supply.close.Goals as goal

pub returns-clause-closed : goal.returns-clause-closed
returns-clause-closed g c =
    let hands = c.args.free.hands.items in
    let some : 0 < length hands = search rules in
    let h = c.index_mut in
    let back = c.put_back-left.ensures in
    let shelf = c.close-object.ensures in
    let t = c.close-totals.ensures in
    let left = back.left in record {
      puts = shelf.puts;
      gets = shelf.gets;
      shelf_balance = omega (arith, shelf.balance, left);
      one = omega (arith, left, one_at_most c.close-object.result.object);
      allocs = t.allocs ∙ same_allocs _ hands h.result.now _ some h.ensures.value back.hand;
      frees = t.frees ∙ more_frees _ hands h.result.now _ some h.ensures.value back.hand;
      nulls = t.nulls ∙ same_nulls _ hands h.result.now _ some h.ensures.value back.hand;
      balance = t.balance;
    }
